-- What a commit reaches: itself, and all that its parents reach.
use Rattle.std.specs.Prelude.{◌≡◌, ℕ, zero, suc, Bool, true, false, ◌||◌, List, length, Some, None, Option, ◌==◌}
use Rattle.ancestry.specs.Sets.{any, member}
use Rattle.ancestry.specs.Commits.{Commit, parents_of, place_of}

-- as a relation: the place p reaches the place q
pub data Reaches (H : List Commit) : ℕ → ℕ → Type 0 where
  itself : {p q : ℕ} → p ≡ q → Reaches H p q
  through : {p r q : ℕ} → member r (parents_of H p) ≡ true → Reaches H r q → Reaches H p q

-- as a test: along at most k parents, one after another
unfoldable pub within : List Commit → ℕ → ℕ → ℕ → Bool
within H zero p q = p == q
within H (suc k) p q = p == q || any (λ r. within H k r q) (parents_of H p)

-- as many parents as there are commits suffice
unfoldable pub reaches : List Commit → ℕ → ℕ → Bool
reaches H p q = within H (length H) p q

unfoldable pub reached_from : List Commit → Option ℕ → ℕ → Bool
reached_from H None q = false
reached_from H (Some p) q = reaches H p q

-- the id reaches the place; an id that is not held reaches nothing
unfoldable pub id_reaches : List Commit → ℕ → ℕ → Bool
id_reaches H i q = reached_from H (place_of H i) q
