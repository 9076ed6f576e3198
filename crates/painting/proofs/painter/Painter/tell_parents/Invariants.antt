use Rattle.std.proofs.Common.{◌≡◌, take}
use Rattle.ancestry.specs.Commits.{parents_of}
use Rattle.painting.specs.Marks.{hand_all}
use Rattle.painting.specs.Bits.{flags}
use Rattle.painting.specs.Painters.{Goes}
use Rattle.painting.proofs.painter.Painter.tell_parents.Given as goal

abbrev pub invariant-loop-n : goal.invariant-loop-n
invariant-loop-n g l =
    let m = g.H.Reader in
    Goes m l.fn.history l.history l.fn.self l.self
    × (flags l.self.marks.now ≡ hand_all l.told (take l.n (parents_of (m.commits l.fn.history) l.place)) (flags l.fn.self.marks.now))
