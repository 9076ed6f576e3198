use Rattle.std.proofs.Common.{◌≡◌, ℕ, Bool}
use Rattle.painting.specs.Bits.{flags}
use Rattle.painting.specs.Listings.{listed, room}
use Rattle.painting.specs.Marks.{total, cost}
use Rattle.painting.specs.Painted.{Noted, Good, Down, Unmet}
use Rattle.painting.specs.Painters.{Goes}
use Rattle.painting.proofs.painter.Painter.paint.Given as goal

abbrev pub invariant-loop-self : goal.invariant-loop-self
invariant-loop-self g l =
    let m = g.H.Reader in
    Goes m l.fn.history l.history l.fn.self l.self
    × ((A B : ℕ → Bool) → Down (m.commits l.fn.history) A → Down (m.commits l.fn.history) B → Good (m.commits l.fn.history) A B (flags l.fn.self.marks.now) → Good (m.commits l.fn.history) A B (flags l.self.marks.now))
    × Noted (flags l.self.marks.now) (listed l.results)
    × Unmet (flags l.self.marks.now)
    × (room l.results ≡ room l.fn.results)
    × (l.results.slots.ghost_name ≡ l.fn.results.slots.ghost_name)

abbrev pub decreases-loop-self : goal.decreases-loop-self
decreases-loop-self g l = total cost (flags l.self.marks.now)
