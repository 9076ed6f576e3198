-- How each order is answered over a history, and what it leaves.
use Rattle.std.specs.Prelude.{◌≡◌, ℕ, List, map, length, ℤ, Ok, Err, Option, Result}
use Rattle.std.specs.List.{slice_get}
use Rattle.std.specs.Option.{unwrap_or}
use Rattle.std.specs.declared.alloc.AllocError.{AllocError}
use Rattle.ancestry.specs.Commits.{Commit, place_of, parents_of}
use Rattle.ancestry.specs.Intake.{refusal, unless, grown}
use Rattle.history.specs.Meaning.{Reads}
use Rattle.history.specs.declared.reader.Entry.{Entry}
use Rattle.orders.specs.Fields.{Via, place, named}
use Rattle.orders.specs.Lines.{Said, commit, name, count, capacity, find, read, parent, later}
use Rattle.answering.specs.declared.answer.Answer.{Answer}
use Rattle.answering.specs.declared.answer.Answer.TheVariants as answer
use Rattle.history.specs.declared.reader.Reader.{Ghosts}

-- the place of a parent that a line names; an id that is not held has a place that no history has
abbrev pub place_in : List Commit → Via → ℕ
place_in H (place n) = n
place_in H (named i) = unwrap_or (place_of H i) 18446744073709551615

-- the commit that a line offers to a history that holds H
abbrev pub offer_in : List Commit → ℕ → Option ℕ → ℤ → List Via → Commit
offer_in H i g d ps = record { id = i; generation = g; date = d; parents = map (place_in H) ps }

-- the right answer to what a line says, asked of a history of this capacity that holds H
abbrev pub Right : ℕ → List Commit → Said → Answer → Type 0
Right room H (commit i g d ps) a = a ≡ answer.Intake (unless (refusal room H (offer_in H i g d ps)) (length H))
Right room H (name i) a = a ≡ answer.Kept
Right room H count a = a ≡ answer.Number (length H)
Right room H capacity a = a ≡ answer.Number room
Right room H (find i) a = a ≡ answer.Place (place_of H i)
Right room H (read p) a = (e : Option Entry) × Reads H p e × (a ≡ answer.Commit e)
Right room H (parent p n) a = a ≡ answer.Place (slice_get (parents_of H p) n)
Right room H later a = a ≡ answer.NotYet

-- the commits held after it
abbrev pub after : ℕ → List Commit → Said → List Commit
after room H (commit i g d ps) = grown (refusal room H (offer_in H i g d ps)) H (offer_in H i g d ps)
after room H (name i) = H
after room H count = H
after room H capacity = H
after room H (find i) = H
after room H (read p) = H
after room H (parent p n) = H
after room H later = H

-- where memory is short, nothing is answered and nothing is taken in
abbrev pub Done : ℕ → List Commit → Said → Result Answer AllocError → List Commit → Type 0
Done room H s (Ok a) H' = Right room H s a × (H' ≡ after room H s)
Done room H s (Err e) H' = H' ≡ H

-- an order was answered: the history is whole after it, with the same capacity
pub record Answered {S : Type 0} (h : Ghosts S) (before : S) (s : Said) (r : Result Answer AllocError) (after : S) : Type 0 where
  pub still : h.whole after
  pub capacity : h.room after ≡ h.room before
  pub done : Done (h.room before) (h.commits before) s r (h.commits after)
