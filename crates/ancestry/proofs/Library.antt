-- The words of specs/ that are words of the library under another name.
use Rattle.std.proofs.Common.{◌≡◌, ℕ, suc, ◌+◌, ◌<◌, ◌≤◌, Bool, true, false, cond, not, List, [], ◌∷◌, length, Some, None, Option, refl, sym, ap, ◌∙◌, eqb, ltb, arith}
use Rattle.std.specs.List.{position, position_or_len, list_any, list_all}
use Rattle.std.proofs.lemmas.List.Folds.{list_all-map}
use Rattle.std.proofs.lemmas.Bool.Decides.{nat_tests}
use Rattle.std.proofs.lemmas.Bool.{ltb-true, ltb-false, lt-ltb, le-ltb}
use Rattle.ancestry.specs.Sets.{any, every, member, next, index_of}
use Rattle.ancestry.specs.Ids.{num, nums, same_id}
use Rattle.ancestry.specs.declared.id.Id.{Id}

pub list_any-any : (t : ℕ → Bool) (xs : List ℕ) → list_any t xs ≡ any t xs
unfolding any
list_any-any t [] = refl
list_any-any t (x ∷ xs) = rw (list_any-any t xs)

pub list_all-every : (t : ℕ → Bool) (xs : List ℕ) → list_all t xs ≡ every t xs
unfolding every
list_all-every t [] = refl
list_all-every t (x ∷ xs) = rw (list_all-every t xs)

eqb_swap : (x y : ℕ) → eqb y x ≡ eqb x y
eqb_swap x y = grind (arith, nat_tests)

pub list_any-member : (x : ℕ) (ys : List ℕ) → list_any (λ y. eqb y x) ys ≡ member x ys
unfolding member any
list_any-member x [] = refl
list_any-member x (y ∷ ys) = rw (eqb_swap x y, list_any-member x ys)

-- ids in a list are their numbers in the list of numbers
any_number : (t : ℕ → Bool) (js : List Id) → list_any (λ j. t (num j)) js ≡ list_any t (nums js)
any_number t [] = refl
any_number t (j ∷ js) = rw (any_number t js)

pub any-same : (i : Id) (js : List Id) → list_any (λ j. same_id j i) js ≡ member (num i) (nums js)
any-same i js = any_number (λ n. eqb n (num i)) js ∙ list_any-member (num i) (nums js)

pub all-same : (i : Id) (js : List Id) → list_all (same_id i) js ≡ every (eqb (num i)) (nums js)
all-same i js = sym (list_all-map (eqb (num i)) num js) ∙ list_all-every (eqb (num i)) (nums js)

-- the steps of a search from the front
moved : (k n : ℕ) (t : Bool) → ltb k n ≡ t → cond (ltb (1 + k) (suc n)) (Some (1 + k)) None ≡ next (cond t (Some k) None)
unfolding next
moved k n true e = rw (lt-ltb (1 + k) (suc n) (let l : k < n = ltb-true k n e in omega arith)) (ap Some (omega arith))
moved k n false e = rw (le-ltb (1 + k) (suc n) (let l : n ≤ k = ltb-false k n e in omega arith))

pub first : (k n : ℕ) (b : Bool) → cond (ltb (cond (not b) (1 + k) 0) (suc n)) (Some (cond (not b) (1 + k) 0)) None ≡ cond b (Some 0) (next (cond (ltb k n) (Some k) None))
first k n true = rw (lt-ltb 0 (suc n) (omega arith))
first k n false = moved k n (ltb k n) refl

pub position-index_of : (c : ℕ) (xs : List ℕ) → position (λ x. eqb x c) xs ≡ index_of xs c
unfolding index_of next
position-index_of c [] = refl
position-index_of c (x ∷ xs) = first (position_or_len (λ y. eqb y c) xs) (length xs) (eqb x c) ∙ ap (λ (o : Option ℕ). cond (eqb x c) (Some 0) (next o)) (position-index_of c xs)
