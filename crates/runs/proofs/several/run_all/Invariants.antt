use Rattle.std.proofs.Common.{◌≡◌, ◌≤◌, length, map, take, vec_items}
use Rattle.std.specs.Vec.{vec_capacity}
use Rattle.revision.specs.Owned.{sizes_of}
use Rattle.runs.specs.Several.{addressed_of}
use Rattle.runs.proofs.Apart.{EachWent}
use Rattle.runs.proofs.several.run_all.Given as goal

abbrev pub invariant-loop-addressed : goal.invariant-loop-addressed
invariant-loop-addressed g l =
    (length l.histories ≡ length l.fn.histories)
    × EachWent g.H.Reader (sizes_of l.fn.space) l.fn.histories (vec_items l.events) l.histories
    × (map addressed_of (vec_items l.events) ≡ take l.addressed-index l.calls)
    × (sizes_of l.space ≡ sizes_of l.fn.space)
    × (length l.calls ≤ vec_capacity l.events)
