-- The laws of a history: of its list of commits alone, and with its capacity.
use Rattle.std.specs.Prelude.{◌≡◌, ℕ, ◌<◌, ◌≤◌, true, List, length, Some}
use Rattle.ancestry.specs.Sets.{member}
use Rattle.ancestry.specs.Commits.{Commit, at, parents_of, place_of}
use Rattle.ancestry.specs.Reaching.{Reaches}
use Rattle.ancestry.specs.Keys.{rank}

pub record Lawful (H : List Commit) : Type 0 where
  -- no two commits have the same id
  pub apart : (p q : ℕ) → p < length H → q < length H → (at H p).id ≡ (at H q).id → p ≡ q
  -- every parent is a place in the list
  pub inside : (p r : ℕ) → p < length H → member r (parents_of H p) ≡ true → r < length H
  -- no parent of a commit reaches that commit
  pub acyclic : (p r : ℕ) → p < length H → member r (parents_of H p) ≡ true → Reaches H r p → ⊥
  -- no parent's generation exceeds its child's, absent counting as 4,294,967,295
  pub falling : (p r : ℕ) → p < length H → member r (parents_of H p) ≡ true → rank (at H r).generation ≤ rank (at H p).generation

-- what every whole history keeps
pub record Laws (room : ℕ) (H : List Commit) : Type 0 where
  -- the count is at most the capacity
  pub fits : length H ≤ room
  -- the capacity is at most a million
  pub limit : room ≤ 1000000
  pub lawful : Lawful H

-- the id is held
abbrev pub Held : List Commit → ℕ → Type 0
Held H i = (p : ℕ) × (place_of H i ≡ Some p)

-- each id of the list is held
abbrev pub AllHeld : List Commit → List ℕ → Type 0
AllHeld H is = (i : ℕ) → member i is ≡ true → Held H i
