-- A run: calls made on one history, one after another, each with its answer.
use Rattle.std.specs.Prelude.{◌≡◌, ℕ, ℤ, List, [], ◌∷◌, ◌++◌, length, cond, nat_lt, Some, None, Ok, Err, Option, Result}
use Rattle.std.specs.List.{slice_get}
use Rattle.ancestry.specs.Commits.{Commit, at, place_of, parents_of}
use Rattle.ancestry.specs.Bases.{bases, octopus}
use Rattle.ancestry.specs.Intake.{refusal, unless}
use Rattle.ancestry.specs.Asking.{Space, denied}
use Rattle.ancestry.specs.declared.refusal.Refusal.{Refusal}

-- what reading tells of a commit: its parents by their number
pub record Told : Type 0 where
  pub id : ℕ
  pub generation : Option ℕ
  pub date : ℤ
  pub parents : ℕ

abbrev pub told : Commit → Told
told c = record { id = c.id; generation = c.generation; date = c.date; parents = length c.parents }

-- a call with its answer; a question is asked with so much memory lent to it
pub data Event : Type 0 where
  intake : Commit → Result ℕ Refusal → Event
  count : ℕ → Event
  capacity : ℕ → Event
  find : ℕ → Option ℕ → Event
  read : ℕ → Option Told → Event
  parent : ℕ → ℕ → Option ℕ → Event
  merge_base : ℕ → List ℕ → Space → Result (List ℕ) Refusal → Event
  octopus_base : ℕ → List ℕ → Space → Result (Option ℕ) Refusal → Event

-- the answer is the one that is defined over this capacity and this list
abbrev pub Right : ℕ → List Commit → Event → Type 0
Right room H (intake c r) = r ≡ unless (refusal room H c) (length H)
Right room H (count n) = n ≡ length H
Right room H (capacity n) = n ≡ room
Right room H (find i r) = r ≡ place_of H i
Right room H (read p r) = r ≡ cond (nat_lt p (length H)) (Some (told (at H p))) None
Right room H (parent p n r) = r ≡ slice_get (parents_of H p) n
Right room H (merge_base f is s r) = r ≡ unless (denied s (length H) (length is)) (bases H f is)
Right room H (octopus_base f is s r) = r ≡ unless (denied s (length H) (length is)) (octopus H f is)

-- the commit that a call takes in: that of an intake which is not refused, and of no other call
abbrev pub gained : Event → List Commit
gained (intake c (Ok p)) = c ∷ []
gained (intake c (Err f)) = []
gained (count n) = []
gained (capacity n) = []
gained (find i r) = []
gained (read p r) = []
gained (parent p n r) = []
gained (merge_base f is s r) = []
gained (octopus_base f is s r) = []

-- the commits taken in, in turn
unfoldable pub taken : List Event → List Commit
taken [] = []
taken (e ∷ es) = gained e ++ taken es

-- calls on a history of this capacity, from the list before the first to the list after the last
pub record Run : Type 0 where
  pub room : ℕ
  pub start : List Commit
  pub events : List Event
  pub end : List Commit

-- the list at the end is the one at the start with the commits taken in appended in turn, and each answer is the one defined
-- over the list as it then stood
pub record Ran (r : Run) : Type 0 where
  pub list : r.end ≡ r.start ++ taken r.events
  pub right : (before later : List Event) (e : Event) → r.events ≡ before ++ e ∷ later → Right r.room (r.start ++ taken before) e
