use Rattle.std.proofs.Common.{◌≡◌, ℕ, ◌≤◌, true, take}
use Rattle.ancestry.specs.Sets.{member}
use Rattle.history.specs.Meaning.{Same}
use Rattle.painting.specs.Walks.{level}
use Rattle.painting.proofs.redundant.lowest.Given as goal

abbrev pub invariant-loop-place : goal.invariant-loop-place
invariant-loop-place g l =
    let m = g.H.Reader in
    Same m.whole m.commits m.room l.initial.history l.history
    × ((p : ℕ) → member p (take l.place-index l.places) ≡ true → l.low ≤ level (m.commits l.initial.history) p)
