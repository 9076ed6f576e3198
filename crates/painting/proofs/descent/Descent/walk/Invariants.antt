use Rattle.std.proofs.Common.{◌≡◌, ℕ, ◌<◌, true, List, length}
use Rattle.ancestry.specs.Sets.{member}
use Rattle.painting.specs.Descents.{Goes, ahead, walk_of}
use Rattle.painting.specs.Listings.{listed}
use Rattle.painting.specs.Walks.{Tracked}
use Rattle.painting.proofs.descent.Descent.walk.Given as goal

abbrev pub invariant-loop-place : goal.invariant-loop-place
invariant-loop-place g l =
    let m = g.H.Reader in
    Goes m l.fn.history l.history l.fn.self l.self
    × ((x : ℕ) → member x (listed l.self.stack.now) ≡ true → x < length (m.commits l.fn.history))
    × ((rs bs : List ℕ) → Tracked (m.commits l.fn.history) l.fn.self.low rs bs (walk_of l.fn.self) → Tracked (m.commits l.fn.history) l.fn.self.low rs bs (walk_of l.self))

abbrev pub decreases-loop-place : goal.decreases-loop-place
decreases-loop-place g l = ahead l.self
