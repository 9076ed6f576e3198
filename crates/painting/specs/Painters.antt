-- A painter over a history, and what a call of it leaves.
use Rattle.std.specs.Prelude.{◌≡◌, length}
use Rattle.history.specs.Unchanged.{Unchanged}
use Rattle.history.specs.declared.reader.Reader.{Ghosts}
use Rattle.painting.specs.Bits.{flags}
use Rattle.painting.specs.Painted.{Kept}
use Rattle.painting.specs.declared.painter.Painter.{Painter}

-- the history is whole, each of its places has a mark, and the queue and the count are kept; a clause and no invariant of the painter,
-- since it relates it to a history
pub record Ready {S : Type 0} (g : Ghosts S) (h : S) (p : Painter) : Type 0 where
  pub still : g.whole h
  pub size : length p.marks.now ≡ length (g.commits h)
  pub kept : Kept (flags p.marks.now) p.queue.now p.live

-- the history means what it meant, and the painter has the same marks in hand and is ready again
pub record Goes {S : Type 0} (g : Ghosts S) (h h' : S) (p p' : Painter) : Type 0 where
  pub same : Unchanged g h h'
  pub held : p'.marks.ghost_name ≡ p.marks.ghost_name
  pub ready : Ready g h' p'
