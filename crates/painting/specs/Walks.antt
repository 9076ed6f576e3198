-- The walk down from the parents of results, and what it leaves of them.
use Rattle.std.specs.Prelude.{◌≡◌, ℕ, ◌<◌, ◌≤◌, Bool, true, false, cond, ◌||◌, ◌⊎◌, List, [], ◌∷◌, ◌++◌, length, nat_lt, slice_set}
use Rattle.ancestry.specs.Sets.{member}
use Rattle.ancestry.specs.Commits.{Commit, at, parents_of}
use Rattle.ancestry.specs.Keys.{rank}
use Rattle.ancestry.specs.Reaching.{Reaches}
use Rattle.ancestry.specs.Theorems.{Unreached}
use Rattle.painting.specs.Marks.{mark, seen}
use Rattle.painting.specs.Entries.{times}
use Rattle.painting.specs.declared.marks.Mark.{Mark}
use Rattle.painting.specs.Below.{AllBelow}

-- the marks, and the places met whose parents are still to be met
pub record Walk : Type 0 where
  pub marks : List Mark
  pub stack : List ℕ

abbrev pub level : List Commit → ℕ → ℕ
level H p = rank (at H p).generation

-- r is met, if it was not and its generation is not below `low`
unfoldable pub meet : List Commit → ℕ → ℕ → Walk → Walk
meet H low r w =
    cond ((mark w.marks r).met || nat_lt (level H r) low) w
    (record { marks = slice_set w.marks r (seen (mark w.marks r)); stack = w.stack ++ r ∷ [] })

unfoldable pub meet_all : List Commit → ℕ → List ℕ → Walk → Walk
meet_all H low [] w = w
meet_all H low (r ∷ rs) w = meet_all H low rs (meet H low r w)

-- each parent of p is met, or lies below
abbrev pub Done : List Commit → ℕ → List Mark → ℕ → Type 0
Done H low ms p = (r : ℕ) → member r (parents_of H p) ≡ true → ((mark ms r).met ≡ true) ⊎ (level H r < low)

-- a parent of one of the results reaches x
pub record Beneath (H : List Commit) (rs : List ℕ) (x : ℕ) : Type 0 where
  pub top : ℕ
  pub child : ℕ
  pub chosen : member top rs ≡ true
  pub parent : member child (parents_of H top) ≡ true
  pub reached : Reaches H child x

-- none of the results is known to be stale
abbrev pub Fresh : List ℕ → List Mark → Type 0
Fresh rs ms = (x : ℕ) → member x rs ≡ true → (mark ms x).stale ≡ false

-- the walk so far, from the results rs, of which those in `begun` have had their parents met
pub record Tracked (H : List Commit) (low : ℕ) (rs begun : List ℕ) (w : Walk) : Type 0 where
  pub inside : AllBelow (length H) w.stack
  pub on : (x : ℕ) → member x w.stack ≡ true → (mark w.marks x).met ≡ true
  pub closed : (x : ℕ) → (mark w.marks x).met ≡ true → (member x w.stack ≡ true) ⊎ Done H low w.marks x
  pub fresh : Fresh rs w.marks
  pub sound : (x : ℕ) → (mark w.marks x).met ≡ true → Beneath H rs x
  pub started : (q : ℕ) → member q begun ≡ true → Done H low w.marks q

-- the places are those of the set that no other of it reaches, each once
pub record Bests (H : List Commit) (S : ℕ → Bool) (ps : List ℕ) : Type 0 where
  pub all : (p : ℕ) → p < length H → S p ≡ true → Unreached H S p → member p ps ≡ true
  pub only : (p : ℕ) → member p ps ≡ true → (p < length H) × (S p ≡ true) × Unreached H S p
  pub once : (p : ℕ) → times p ps ≤ 1
