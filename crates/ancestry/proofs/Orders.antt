-- Lists in the order of dates, and the first of a set by date.
use Rattle.std.proofs.Common.{◌≡◌, ℕ, zero, suc, ◌<◌, Bool, true, false, cond, ◌&&◌, eqb, ltb, ◌⊎◌, List, [], ◌∷◌, length, ℤ, Some, None, sym, refl, ◌∙◌, inl, inr, ⊎_elim, arith}
use lib.Signed.{lt_z}
use Rattle.std.proofs.lemmas.Bool.{false≢true, both_ways, eqb-true, lt-ltb, or_cases, or_left, and_from}
use Rattle.std.proofs.lemmas.Bool.Decides.{nat_tests}
use borrow.Author.Differences.{ints}
use Rattle.ancestry.specs.Sets.{any, member, keep, insert, ordered}
use Rattle.ancestry.specs.Commits.{Commit, at}
use Rattle.ancestry.specs.Keys.{newer, eqZ}
use Rattle.ancestry.specs.Bases.{head}
use Rattle.ancestry.specs.Walk.{by_date, first_of}
use Rattle.ancestry.proofs.Sets.{not_so, member-keep, member-ordered, member-insert}

-- the dates' order
pub ltZ_trans : (x y z : ℤ) → lt_z x y ≡ true → lt_z y z ≡ true → lt_z x z ≡ true
ltZ_trans x y z h k = grind (arith, ints)

pub newer_asym : (a b : Commit) → newer a b ≡ true → newer b a ≡ false
unfolding newer eqZ
newer_asym a b h = grind (arith, ints, nat_tests)

pub newer_trans : (a b c : Commit) → newer a b ≡ true → newer b c ≡ true → newer a c ≡ true
unfolding newer eqZ
newer_trans a b c h k = grind (arith, ints, nat_tests)

pub newer-later : (a b : Commit) → lt_z b.date a.date ≡ true → newer a b ≡ true
unfolding newer
newer-later a b h = or_left (lt_z b.date a.date) (eqZ a.date b.date && ltb a.id b.id) h

-- a list in order: none stands before an earlier one
abbrev pub Sorted : (ℕ → ℕ → Bool) → List ℕ → Type 0
Sorted b [] = Unit {0}
Sorted b (x ∷ xs) = ((y : ℕ) → member y xs ≡ true → b y x ≡ false) × Sorted b xs

module _ (b : ℕ → ℕ → Bool) (asym : (x y : ℕ) → b x y ≡ true → b y x ≡ false) (tr : (x y z : ℕ) → b x y ≡ true → b y z ≡ true → b x z ≡ true) where
  pub insert_sorted : (x : ℕ) (ys : List ℕ) → Sorted b ys → Sorted b (insert b x ys)
  unfolding insert member any
  insert_sorted x [] s = (λ y m. absurd (false≢true m), tt)
  insert_sorted x (y ∷ ys) s = go (b x y) refl (insert_sorted x ys s.1)
    where
      go : (d : Bool) → b x y ≡ d → Sorted b (insert b x ys) → Sorted b (cond d (x ∷ y ∷ ys) (y ∷ insert b x ys))
      go true e r = (λ z m. ⊎_elim (λ (k : eqb z y ≡ true). rw (eqb-true z y k) (asym x y e)) (λ (k : member z ys ≡ true). not_so (b z x) (λ h. both_ways (b z y) (s.0 z k) (tr z x y h e))) (or_cases (eqb z y) (member z ys) m), s)
      go false e r = (λ z m. ⊎_elim (λ (k : eqb z x ≡ true). rw (eqb-true z x k) e) (λ (k : member z ys ≡ true). s.0 z k) (or_cases (eqb z x) (member z ys) (sym (member-insert b z x ys) ∙ m)), r)

  pub ordered_sorted : (n : ℕ) → Sorted b (ordered b n)
  unfolding ordered
  ordered_sorted zero = tt
  ordered_sorted (suc n) = insert_sorted n (ordered b n) (ordered_sorted n)

  pub first_best : (S : ℕ → Bool) (xs : List ℕ) (p q : ℕ) → Sorted b xs → head (keep S xs) ≡ Some p → member q xs ≡ true → S q ≡ true → (q ≡ p) ⊎ (b q p ≡ false)
  unfolding keep head member any
  first_best S [] p q s e m h = absurd (false≢true m)
  first_best S (x ∷ xs) p q s e m h = go (S x) refl e (λ t k. first_best S xs p q s.1 t k h)
    where
      go : (d : Bool) → S x ≡ d → head (cond d (x ∷ keep S xs) (keep S xs)) ≡ Some p → (head (keep S xs) ≡ Some p → member q xs ≡ true → (q ≡ p) ⊎ (b q p ≡ false)) → (q ≡ p) ⊎ (b q p ≡ false)
      go true k e r = let y : x ≡ p = cc in ⊎_elim (λ (z : eqb q x ≡ true). inl (eqb-true q x z ∙ y)) (λ (z : member q xs ≡ true). inr (rw (← y) (s.0 q z))) (or_cases (eqb q x) (member q xs) m)
      go false k e r = ⊎_elim (λ (z : eqb q x ≡ true). absurd (both_ways (S x) k (rw (eqb-true q x z) at h))) (λ (z : member q xs ≡ true). r e z) (or_cases (eqb q x) (member q xs) m)

pub first_none : (H : List Commit) (S : ℕ → Bool) → first_of H S ≡ None → (q : ℕ) → q < length H → S q ≡ false
unfolding first_of by_date
first_none H S e q l = not_so (S q) (λ h. none (keep S (by_date H)) e q (member-keep S q (by_date H) ∙ and_from (member q (by_date H)) (S q) (member-ordered (λ p q. newer (at H p) (at H q)) q (length H) ∙ lt-ltb q (length H) l) h))
  where
    none : (xs : List ℕ) → head xs ≡ None → (q : ℕ) → member q xs ≡ true → ⊥
    none [] e q m = unfold member any in false≢true m
    none (x ∷ xs) e q m = let z : ◌≡◌ {A = ℕ} 0 1 = unfold head in cc in omega arith

pub first_greatest : (H : List Commit) (S : ℕ → Bool) (p q : ℕ) → first_of H S ≡ Some p → q < length H → S q ≡ true → (q ≡ p) ⊎ (newer (at H q) (at H p) ≡ false)
unfolding first_of by_date
first_greatest H S p q e l h = first_best b asym tr S (ordered b (length H)) p q (ordered_sorted b asym tr (length H)) e (member-ordered b q (length H) ∙ lt-ltb q (length H) l) h
  where
    b : ℕ → ℕ → Bool
    b p q = newer (at H p) (at H q)

    asym : (x y : ℕ) → b x y ≡ true → b y x ≡ false
    asym x y = newer_asym (at H x) (at H y)

    tr : (x y z : ℕ) → b x y ≡ true → b y z ≡ true → b x z ≡ true
    tr x y z = newer_trans (at H x) (at H y) (at H z)
