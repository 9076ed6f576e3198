use Rattle.std.proofs.Common.{◌≡◌, take}
use Rattle.ancestry.specs.Commits.{parents_of}
use Rattle.painting.specs.Descents.{Goes, walk_of}
use Rattle.painting.specs.Walks.{meet_all}
use Rattle.painting.proofs.descent.Descent.meet_parents.Given as goal

abbrev pub invariant-loop-n : goal.invariant-loop-n
invariant-loop-n g l =
    let m = g.H.Reader in
    Goes m l.fn.history l.history l.fn.self l.self
    × (walk_of l.self ≡ meet_all (m.commits l.fn.history) l.fn.self.low (take l.n (parents_of (m.commits l.fn.history) l.place)) (walk_of l.fn.self))
