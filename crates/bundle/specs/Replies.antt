-- How each line is replied to over a history, and what it leaves.
use Rattle.std.specs.Prelude.{◌≡◌, ℕ, List, Ok, Err, Result}
use Rattle.std.specs.declared.alloc.AllocError.{AllocError}
use Rattle.ancestry.specs.Commits.{Commit}
use Rattle.answering.specs.declared.answer.Answer.{Answer}
use Rattle.orders.specs.Lines.{Said}
use Rattle.answering.specs.Answers.{Right, after}
use Rattle.orders.specs.declared.expected.Malformed.{Malformed}
use Rattle.history.specs.declared.reader.Reader.{Ghosts}

-- the reply to a line, by what it says or its first fault, and the commits held after it: a malformed line changes nothing
abbrev pub Fits : ℕ → List Commit → Result Said Malformed → Result Answer Malformed → List Commit → Type 0
Fits room H (Ok s) (Ok a) H' = Right room H s a × (H' ≡ after room H s)
Fits room H (Ok s) (Err m) H' = ⊥
Fits room H (Err m) (Ok a) H' = ⊥
Fits room H (Err m) (Err n) H' = (n ≡ m) × (H' ≡ H)

-- where memory is short, nothing is taken in
abbrev pub Replies : ℕ → List Commit → Result Said Malformed → Result (Result Answer Malformed) AllocError → List Commit → Type 0
Replies room H q (Ok r) H' = Fits room H q r H'
Replies room H q (Err e) H' = H' ≡ H

-- a line was replied to: the history is whole after it, with the same capacity
pub record Replied {S : Type 0} (h : Ghosts S) (before : S) (q : Result Said Malformed) (r : Result (Result Answer Malformed) AllocError) (after : S) : Type 0 where
  pub still : h.whole after
  pub capacity : h.room after ≡ h.room before
  pub done : Replies (h.room before) (h.commits before) q r (h.commits after)
