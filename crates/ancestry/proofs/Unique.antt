-- `best` is the one list that it should be.
use Rattle.std.proofs.Common.{◌≡◌, ℕ, zero, suc, ◌<◌, Bool, true, false, cond, ◌&&◌, eqb, List, [], ◌∷◌, length, sym, refl, ◌∙◌, subst, ⊎_elim, arith}
use Rattle.std.proofs.lemmas.Bool.{false≢true, both_ways, eqb-true, eq-eqb, ltb-true, or_cases, or_left, or_right, and_parts}
use Rattle.std.proofs.lemmas.Bool.Decides.{nat_tests}
use borrow.Author.Differences.{ints}
use Rattle.ancestry.specs.Sets.{any, member, keep, insert, ordered}
use Rattle.ancestry.specs.Commits.{Commit, at}
use Rattle.ancestry.specs.Keys.{eqZ, newer, better}
use Rattle.ancestry.specs.Bases.{ranked, unreached, best}
use Rattle.ancestry.specs.Theorems.{Strict, IsBest, BestLaw}
use Rattle.ancestry.proofs.Sets.{member-keep, member-insert, member-ordered}
use Rattle.ancestry.proofs.Reach.{reaches_sound, reaches_complete}
use Rattle.ancestry.proofs.Best.{best_intro, best_elim}
use Rattle.ancestry.proofs.Tallies.{member-cons}

pub better_irrefl : (a : Commit) → better a a ≡ false
unfolding better newer eqZ
better_irrefl a = grind (arith, ints, nat_tests)

pub better_asym : (a b : Commit) → better a b ≡ true → better b a ≡ false
unfolding better newer eqZ
better_asym a b h = grind (arith, ints, nat_tests)

pub better_trans : (a b c : Commit) → better a b ≡ true → better b c ≡ true → better a c ≡ true
unfolding better newer eqZ
better_trans a b c h k = grind (arith, ints, nat_tests)

pub better-total : (a b : Commit) → (a.id ≡ b.id → ⊥) → better a b ≡ false → better b a ≡ true
unfolding better newer eqZ
better-total a b n h = grind (arith, ints, nat_tests)

pub member_here : (x : ℕ) (xs : List ℕ) → member x (x ∷ xs) ≡ true
unfolding member any
member_here x xs = or_left (eqb x x) (member x xs) (eq-eqb x x refl)

pub member_there : (x y : ℕ) (ys : List ℕ) → member x ys ≡ true → member x (y ∷ ys) ≡ true
unfolding member any
member_there x y ys m = or_right (eqb x y) (member x ys) m

pub member-nil : (x : ℕ) → member x [] ≡ true → ⊥
unfolding member any
member-nil x m = false≢true m

-- two lists in strict order with the same members are one
module _ (b : ℕ → ℕ → Bool) (irr : (x : ℕ) → b x x ≡ false) (asym : (x y : ℕ) → b x y ≡ true → b y x ≡ false) where
  pub unique : (xs ys : List ℕ) → Strict b xs → Strict b ys → ((z : ℕ) → member z xs ≡ true → member z ys ≡ true) → ((z : ℕ) → member z ys ≡ true → member z xs ≡ true) → xs ≡ ys
  unique [] [] s t f g = refl
  unique [] (y ∷ ys) s t f g = absurd (member-nil y (g y (member_here y ys)))
  unique (x ∷ xs) [] s t f g = absurd (member-nil x (f x (member_here x xs)))
  unique (x ∷ xs) (y ∷ ys) s t f g =
      let e : x ≡ y = ⊎_elim (λ (k : eqb x y ≡ true). eqb-true x y k)
      (λ (k : member x ys ≡ true). ⊎_elim (λ (l : eqb y x ≡ true). sym (eqb-true y x l)) (λ (l : member y xs ≡ true). absurd (both_ways (b y x) (asym x y (s.0 y l)) (t.0 x k))) (member-cons y x xs (g y (member_here y ys))))
      (member-cons x y ys (f x (member_here x xs))) in
      let r : xs ≡ ys = unique xs ys s.1 t.1
      (λ z m. ⊎_elim (λ (k : eqb z y ≡ true). absurd (both_ways (b x z) (subst (λ (u : ℕ). b x u ≡ false) (e ∙ sym (eqb-true z y k)) (irr x)) (s.0 z m))) (λ (k : member z ys ≡ true). k) (member-cons z y ys (f z (member_there z x xs m))))
      (λ z m. ⊎_elim (λ (k : eqb z x ≡ true). absurd (both_ways (b y z) (subst (λ (u : ℕ). b y u ≡ false) (sym e ∙ sym (eqb-true z x k)) (irr y)) (t.0 z m))) (λ (k : member z xs ≡ true). k) (member-cons z x xs (g z (member_there z y ys m)))) in
      rw (e, r)

pub keep_strict : (b : ℕ → ℕ → Bool) (t : ℕ → Bool) (xs : List ℕ) → Strict b xs → Strict b (keep t xs)
unfolding keep
keep_strict b t [] s = tt
keep_strict b t (x ∷ xs) s = go (t x) (keep_strict b t xs s.1)
  where
    go : (d : Bool) → Strict b (keep t xs) → Strict b (cond d (x ∷ keep t xs) (keep t xs))
    go true r = (λ y m. s.0 y (and_parts (member y xs) (t y) (sym (member-keep t y xs) ∙ m)).0, r)
    go false r = r

module _ (b : ℕ → ℕ → Bool) (tr : (x y z : ℕ) → b x y ≡ true → b y z ≡ true → b x z ≡ true) where
  pub insert_strict : (x : ℕ) (ys : List ℕ) → ((y : ℕ) → member y ys ≡ true → b x y ≡ false → b y x ≡ true) → Strict b ys → Strict b (insert b x ys)
  unfolding insert
  insert_strict x [] o s = (λ y m. absurd (member-nil y m), tt)
  insert_strict x (y ∷ ys) o s = go (b x y) refl (insert_strict x ys (λ z m. o z (member_there z y ys m)) s.1)
    where
      go : (d : Bool) → b x y ≡ d → Strict b (insert b x ys) → Strict b (cond d (x ∷ y ∷ ys) (y ∷ insert b x ys))
      go true e r = (λ z m. ⊎_elim (λ (k : eqb z y ≡ true). rw (eqb-true z y k) e) (λ (k : member z ys ≡ true). tr x y z e (s.0 z k)) (member-cons z y ys m), s)
      go false e r = (λ z m. ⊎_elim (λ (k : eqb z x ≡ true). rw (eqb-true z x k) (o y (member_here y ys) e)) (λ (k : member z ys ≡ true). s.0 z k) (or_cases (eqb z x) (member z ys) (sym (member-insert b z x ys) ∙ m)), r)

  pub ordered_strict : (n : ℕ) → ((x y : ℕ) → x < n → y < n → (x ≡ y → ⊥) → b x y ≡ false → b y x ≡ true) → Strict b (ordered b n)
  unfolding ordered
  ordered_strict zero o = tt
  ordered_strict (suc n) o = insert_strict n (ordered b n) (λ y m k. let l : y < n = ltb-true y n (sym (member-ordered b y n) ∙ m) in o n y (omega arith) (omega arith) (λ e. omega arith) k) (ordered_strict n (λ x y k l. o x y (omega arith) (omega arith)))

pub best_law : BestLaw
best_law H L S = (
  is,
  λ r R. unique b (λ x. better_irrefl (at H x)) (λ x y. better_asym (at H x) (at H y)) r (best H S) R.sorted is.sorted
      (λ z m. let x = R.only z m in is.all z x.0 x.1 x.2) (λ z m. let x = is.only z m in R.all z x.0 x.1 x.2),
)
  where
    b : ℕ → ℕ → Bool
    b p q = better (at H p) (at H q)

    strict : Strict b (best H S)
    strict = unfold best ranked in keep_strict b (λ p. S p && unreached H S p) (ordered b (length H)) (ordered_strict b (λ x y z. better_trans (at H x) (at H y) (at H z)) (length H) (λ x y k l n. better-total (at H x) (at H y) (λ e. n (L.apart x y k l e))))

    is : IsBest H S (best H S)
    is = record {
      all = λ p l s u. best_intro H S p l s (λ q k t r. u q k t (reaches_sound H q p r));
      only = λ p m. let c = best_elim H S p m in (c.below, c.of, λ q k t r. c.alone q k t (reaches_complete H p c.below r));
      sorted = strict;
    }
