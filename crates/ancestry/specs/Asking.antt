-- What is lent to a question, why it is refused, and what it leaves in the answer slots.
use Rattle.std.specs.Prelude.{◌≡◌, ℕ, ◌+◌, ◌*◌, Bool, cond, ◌||◌, List, take, drop, Some, None, Ok, Err, Option, Result, nat_lt, slice_set}
use Rattle.ancestry.specs.Ids.{nums, num_if}
use Rattle.ancestry.specs.declared.id.Id.{Id}
use Rattle.ancestry.specs.declared.refusal.Refusal.{Refusal}
use Rattle.ancestry.specs.declared.refusal.Refusal.TheVariants.{TooManyOthers, WorkspaceShort}

-- how much is lent: marks, queue entries, stack places, answer slots
pub record Space : Type 0 where
  pub marks : ℕ
  pub queue : ℕ
  pub stack : ℕ
  pub answers : ℕ

abbrev pub space_of : ℕ → ℕ → ℕ → ℕ → Space
space_of marks queue stack answers = record { marks = marks; queue = queue; stack = stack; answers = answers }

-- too little for a question about merge bases in a history of n commits
unfoldable pub short : Space → ℕ → Bool
short s n =
    nat_lt s.marks n || (nat_lt s.queue (3 * n + 1001) || (nat_lt s.stack (2 * n) || nat_lt s.answers (n + 1)))

-- why a question about merge bases with this many others is refused: the lowest that applies
unfoldable pub denied : Space → ℕ → ℕ → Option Refusal
denied s n others = cond (nat_lt 1000 others) (Some TooManyOthers) (cond (short s n) (Some WorkspaceShort) None)

-- an answer that is an id or none, by the id's number
abbrev pub numbered : Result (Option Id) Refusal → Result (Option ℕ) Refusal
numbered (Ok o) = Ok (num_if o)
numbered (Err f) = Err f

-- the answer slots after merge_base: the list stands in the first of them, and the others stay; on refusal all stay
abbrev pub Listed : List ℕ → List Id → Result ℕ Refusal → List Id → Type 0
Listed list before (Ok n) after = (nums (take n after) ≡ list) × (drop n after ≡ drop n before)
Listed list before (Err f) after = after ≡ before

-- the answer slots after octopus: the commit answered stands in the first of them, and the others stay; without one all stay
abbrev pub first_slot : List Id → Result (Option Id) Refusal → List Id
first_slot before (Ok (Some i)) = slice_set before 0 i
first_slot before (Ok None) = before
first_slot before (Err f) = before

-- what a refusal leaves of a lent slice: everything
abbrev pub Stays : {A B : Type 0} → Result A Refusal → List B → List B → Type 0
Stays (Ok a) before after = Unit {0}
Stays (Err f) before after = after ≡ before
