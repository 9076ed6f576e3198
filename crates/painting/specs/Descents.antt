-- A descent over a history, and what a call of it leaves.
use Rattle.std.specs.Prelude.{◌≡◌, ◌+◌, ◌≤◌, ℕ, length}
use Rattle.history.specs.Unchanged.{Unchanged}
use Rattle.history.specs.declared.reader.Reader.{Ghosts}
use Rattle.painting.specs.Bits.{flags}
use Rattle.painting.specs.Listings.{listed, room as space}
use Rattle.painting.specs.Marks.{total, unmet}
use Rattle.painting.specs.Walks.{Walk}
use Rattle.painting.specs.declared.descent.Descent.{Descent}

abbrev pub walk_of : Descent → Walk
walk_of d = record { marks = flags d.marks.now; stack = listed d.stack.now }

-- how many places are to have their parents met, or can still be met
abbrev pub ahead : Descent → ℕ
ahead d = length (listed d.stack.now) + total unmet (flags d.marks.now)

-- the history is whole, each of its places has a mark, and the stack has room for all that lies ahead; a clause and no invariant of the
-- descent, since it relates it to a history
pub record Ready {S : Type 0} (g : Ghosts S) (h : S) (d : Descent) : Type 0 where
  pub still : g.whole h
  pub size : length d.marks.now ≡ length (g.commits h)
  pub fits : ahead d ≤ space d.stack.now

-- the history means what it meant, and the descent has the same marks and bound in hand, no more ahead, and is ready again
pub record Goes {S : Type 0} (g : Ghosts S) (h h' : S) (d d' : Descent) : Type 0 where
  pub same : Unchanged g h h'
  pub held : d'.marks.ghost_name ≡ d.marks.ghost_name
  pub low : d'.low ≡ d.low
  pub fewer : ahead d' ≤ ahead d
  pub ready : Ready g h' d'
