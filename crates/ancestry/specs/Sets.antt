-- Sets of numbers, given by their tests, and lists of numbers in an order.
use Rattle.std.specs.Prelude.{ℕ, zero, suc, ◌+◌, Bool, true, false, cond, ◌&&◌, ◌||◌, List, [], ◌∷◌, Some, None, Option, ◌==◌, nat_eq}

-- one of the list passes
unfoldable pub any : (ℕ → Bool) → List ℕ → Bool
any t [] = false
any t (x ∷ xs) = t x || any t xs

-- each of the list passes
unfoldable pub every : (ℕ → Bool) → List ℕ → Bool
every t [] = true
every t (x ∷ xs) = t x && every t xs

unfoldable pub member : ℕ → List ℕ → Bool
member x ys = any (nat_eq x) ys

-- those of the list that pass, in the list's order
unfoldable pub keep : (ℕ → Bool) → List ℕ → List ℕ
keep t [] = []
keep t (x ∷ xs) = cond (t x) (x ∷ keep t xs) (keep t xs)

-- x put in front of the first that it is before
unfoldable pub insert : (ℕ → ℕ → Bool) → ℕ → List ℕ → List ℕ
insert before x [] = x ∷ []
insert before x (y ∷ ys) = cond (before x y) (x ∷ y ∷ ys) (y ∷ insert before x ys)

-- the numbers below n in an order
unfoldable pub ordered : (ℕ → ℕ → Bool) → ℕ → List ℕ
ordered before zero = []
ordered before (suc n) = insert before n (ordered before n)

-- how many numbers below n pass
unfoldable pub size : (ℕ → Bool) → ℕ → ℕ
size t zero = 0
size t (suc n) = cond (t n) 1 0 + size t n

unfoldable pub next : Option ℕ → Option ℕ
next None = None
next (Some p) = Some (suc p)

-- where a number stands in a list, from 0, or none
unfoldable pub index_of : List ℕ → ℕ → Option ℕ
index_of [] i = None
index_of (x ∷ xs) i = cond (x == i) (Some 0) (next (index_of xs i))

unfoldable pub absent : Option ℕ → Bool
absent None = true
absent (Some x) = false
