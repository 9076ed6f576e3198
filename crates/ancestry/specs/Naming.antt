-- A question for the nearest name, and what it is answered by.
use Rattle.std.specs.Prelude.{ℕ, Bool, true, false, cond, List, [], ◌∷◌, Option}
use Rattle.ancestry.specs.Sets.{index_of}
use Rattle.ancestry.specs.Commits.{Commit, parents_of}

-- the ids that have names, a name's number being its place among them, and the settings: how many candidates, whether
-- the bare id serves where there is no name, whether only first parents are followed
pub record Asked : Type 0 where
  pub names : List ℕ
  pub most : ℕ
  pub fallback : Bool
  pub only_first : Bool

-- a name by its number with the depth and the number seen; the bare id with the number seen; none
pub data Answer : Type 0 where
  named : ℕ → ℕ → ℕ → Answer
  bare : ℕ → Answer
  nothing : Answer

-- the number of the name that an id has
abbrev pub name_of : Asked → ℕ → Option ℕ
name_of a i = index_of a.names i

-- without a name
unfoldable pub no_name : Asked → ℕ → Answer
no_name a seen = cond a.fallback (bare seen) nothing

unfoldable pub front : Bool → List ℕ → List ℕ
front true [] = []
front true (r ∷ rs) = r ∷ []
front false rs = rs

-- the parents followed
unfoldable pub followed : List Commit → Asked → ℕ → List ℕ
followed H a p = front a.only_first (parents_of H p)
