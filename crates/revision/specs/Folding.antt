-- One more commit at a time: what is kept after some of the others.
use Rattle.std.specs.Prelude.{◌≡◌, ℕ, ◌<◌, List, length}
use Rattle.ancestry.specs.Bases.{shared_by_all}
use Rattle.ancestry.specs.Commits.{Commit}
use Rattle.painting.specs.Seeded.{reached_by}
use Rattle.painting.specs.Walks.{Bests}
use Rattle.painting.specs.Below.{AllBelow}

-- the places reach exactly what `first` and all of the ids reach
pub record Spans (H : List Commit) (first : ℕ) (is ps : List ℕ) : Type 0 where
  pub inside : AllBelow (length H) ps
  pub spans : (p : ℕ) → p < length H → reached_by H ps p ≡ shared_by_all H first is p

-- and once there is one id, they are the best of that
pub record Folded (H : List Commit) (first : ℕ) (is ps : List ℕ) : Type 0 where
  pub spans : Spans H first is ps
  pub bests : 0 < length is → Bests H (shared_by_all H first is) ps
