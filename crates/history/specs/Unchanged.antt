-- What the calls of any history leave, in one word.
use Rattle.history.specs.Meaning.{Same}
use Rattle.history.specs.declared.reader.Reader.{Ghosts}

-- a call that grows nothing, of any history
abbrev pub Unchanged : {S : Type 0} → Ghosts S → S → S → Type 0
Unchanged h before after = Same h.whole h.commits h.room before after
