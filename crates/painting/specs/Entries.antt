-- The queue's entry for a place.
use Rattle.std.specs.Prelude.{◌≡◌, ℕ, cond, List, sum_by, ◌==◌}
use Rattle.ancestry.specs.Commits.{Commit, at}
use Rattle.ancestry.specs.Ids.{num}
use Rattle.ancestry.specs.Keys.{rank}
use Rattle.queue.specs.declared.kinds.Keyed.{Keyed}

-- the entry has the place, the key and the id of the commit at p
pub record Keys (H : List Commit) (p : ℕ) (k : Keyed) : Type 0 where
  pub place : k.place ≡ p
  pub generation : k.generation ≡ rank (at H p).generation
  pub date : k.date ≡ (at H p).date
  pub id : num k.id ≡ (at H p).id

-- how often a place stands in a list
unfoldable pub times : ℕ → List ℕ → ℕ
times p ps = sum_by (λ q. cond (q == p) 1 0) ps

-- how often a place has an entry
unfoldable pub occurs : ℕ → List Keyed → ℕ
occurs p es = sum_by (λ e. cond (e.place == p) 1 0) es
