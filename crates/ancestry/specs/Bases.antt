-- The best of a set of commits, merge bases, and the octopus base.
use Rattle.std.specs.Prelude.{ℕ, Bool, true, false, cond, not, ◌&&◌, ◌||◌, List, [], ◌∷◌, map, length, Some, None, Option, ◌==◌, nat_eq}
use Rattle.ancestry.specs.Sets.{any, every, member, keep, ordered}
use Rattle.ancestry.specs.Commits.{Commit, at}
use Rattle.ancestry.specs.Reaching.{reaches, id_reaches}
use Rattle.ancestry.specs.Keys.{better}

-- all places, best key first
unfoldable pub ranked : List Commit → List ℕ
ranked H = ordered (λ p q. better (at H p) (at H q)) (length H)

-- no other place of the set reaches p
unfoldable pub unreached : List Commit → (ℕ → Bool) → ℕ → Bool
unreached H S p = every (λ q. (q == p) || not (S q && reaches H q p)) (ranked H)

-- the best of a set: those that no other of the set reaches, best key first
unfoldable pub best : List Commit → (ℕ → Bool) → List ℕ
best H S = keep (λ p. S p && unreached H S p) (ranked H)

unfoldable pub ids : List Commit → List ℕ → List ℕ
ids H ps = map (λ p. (at H p).id) ps

-- reached from `first` and from at least one other
unfoldable pub shared : List Commit → ℕ → List ℕ → ℕ → Bool
shared H first others p = id_reaches H first p && any (λ i. id_reaches H i p) others

unfoldable pub empty : List ℕ → Bool
empty [] = true
empty (x ∷ xs) = false

-- the merge bases: `first` alone if there are no others or it is among them, else the best of what is shared
unfoldable pub bases : List Commit → ℕ → List ℕ → List ℕ
bases H first others =
    cond (empty others || member first others) (first ∷ []) (ids H (best H (shared H first others)))

-- reached from `first` and from every other
unfoldable pub shared_by_all : List Commit → ℕ → List ℕ → ℕ → Bool
shared_by_all H first others p = id_reaches H first p && every (λ i. id_reaches H i p) others

unfoldable pub head : List ℕ → Option ℕ
head [] = None
head (x ∷ xs) = Some x

-- the octopus base: `first` if no other differs from it, else the first of the best that all share, or none
unfoldable pub octopus : List Commit → ℕ → List ℕ → Option ℕ
octopus H first others =
    cond (every (nat_eq first) others) (Some first) (head (ids H (best H (shared_by_all H first others))))
