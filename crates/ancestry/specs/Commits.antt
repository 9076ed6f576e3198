-- A commit, and the list of commits that a history means: a commit's number in it, from 0, is its place.
use Rattle.std.specs.Prelude.{ℕ, cond, List, [], ◌∷◌, ℤ, pos, Some, None, Option, ◌==◌, slice_index_or}
use Rattle.ancestry.specs.Sets.{next}

-- the id is its 20 bytes read as one number, most significant byte first; the parents are places, in order
pub record Commit : Type 0 where
  pub id : ℕ
  pub generation : Option ℕ
  pub date : ℤ
  pub parents : List ℕ

-- what stands beyond the list: no answer depends on it
abbrev pub nobody : Commit
nobody = record { id = 0; generation = None; date = pos 0; parents = [] }

-- the commit at a place
unfoldable pub at : List Commit → ℕ → Commit
at H p = slice_index_or H p nobody

-- the places of a commit's parents
abbrev pub parents_of : List Commit → ℕ → List ℕ
parents_of H p = (at H p).parents

-- the place of an id, or none
unfoldable pub place_of : List Commit → ℕ → Option ℕ
place_of [] i = None
place_of (c ∷ H) i = cond (c.id == i) (Some 0) (next (place_of H i))
