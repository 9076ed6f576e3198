use Rattle.std.proofs.Common.{◌≡◌, false, take}
use Rattle.ancestry.specs.Sets.{any}
use Rattle.ancestry.specs.Intake.{exceeds}
use Rattle.history.specs.Meaning.{Same}
use Rattle.history.proofs.verdict.rises.Given as goal

abbrev pub invariant-loop-place : goal.invariant-loop-place
invariant-loop-place g l =
    let m = g.H.Reader in
    Same m.whole m.commits m.room l.initial.history l.history
    × (any (exceeds (m.commits l.initial.history) l.generation) (take l.place-index l.parents) ≡ false)
