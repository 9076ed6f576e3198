use Rattle.std.proofs.Common.{◌≡◌, ◌≤◌, length, map, take, vec_items}
use Rattle.std.specs.Vec.{vec_capacity}
use Rattle.revision.specs.Owned.{sizes_of}
use Rattle.runs.specs.Calls.{call_of}
use Rattle.runs.proofs.Progress.{Went}
use Rattle.runs.proofs.running.run.Given as goal

abbrev pub invariant-loop-call : goal.invariant-loop-call
invariant-loop-call g l =
    Went g.H.Reader l.fn.history (sizes_of l.fn.space) (vec_items l.events) l.history
    × (map call_of (vec_items l.events) ≡ take l.call-index l.calls)
    × (sizes_of l.space ≡ sizes_of l.fn.space)
    × (length l.calls ≤ vec_capacity l.events)
