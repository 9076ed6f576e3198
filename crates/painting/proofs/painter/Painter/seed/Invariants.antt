use Rattle.std.proofs.Common.{◌≡◌, take}
use Rattle.painting.specs.Marks.{hand_all}
use Rattle.painting.specs.Bits.{flags}
use Rattle.painting.specs.Painters.{Goes}
use Rattle.painting.specs.Seeded.{places_by}
use Rattle.painting.proofs.painter.Painter.seed.Given as goal

abbrev pub invariant-loop-seed : goal.invariant-loop-seed
invariant-loop-seed g l =
    let m = g.H.Reader in
    Goes m l.fn.history l.history l.fn.self l.self
    × (flags l.self.marks.now ≡ hand_all l.told (places_by (g.S.Seed.place_in (m.commits l.fn.history)) (take l.seed-index l.seeds)) (flags l.fn.self.marks.now))
