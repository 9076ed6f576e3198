use Rattle.std.proofs.Common.{take}
use Rattle.painting.specs.Descents.{Goes, walk_of}
use Rattle.painting.specs.Walks.{Tracked}
use Rattle.painting.proofs.descent.Descent.start.Given as goal

abbrev pub invariant-loop-place : goal.invariant-loop-place
invariant-loop-place g l =
    let m = g.H.Reader in
    Goes m l.fn.history l.history l.fn.self l.self
    × Tracked (m.commits l.fn.history) l.fn.self.low l.places (take l.place-index l.places) (walk_of l.self)
