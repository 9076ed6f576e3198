-- Parents by number, and all of them told one by one.
use Rattle.std.proofs.Common.{◌≡◌, ℕ, zero, suc, ◌+◌, true, List, [], ◌∷◌, take, Some, Option, sym, refl, ap, ◌∙◌, subst, add-one, arith}
use Rattle.std.specs.List.{slice_get}
use Rattle.ancestry.proofs.Unique.{member_here, member_there}
use Rattle.ancestry.specs.Commits.{Commit, at}
use Rattle.ancestry.specs.Sets.{member}
use Rattle.painting.specs.Marks.{hand, hand_all}
use Rattle.painting.specs.declared.marks.Mark.{Mark}
use Rattle.painting.specs.declared.marks.Told.{Told}

some_is : (a b : ℕ) → ◌≡◌ {A = Option ℕ} (Some a) (Some b) → a ≡ b
some_is a b e = cc

pub nth_member : (xs : List ℕ) (n r : ℕ) → slice_get xs n ≡ Some r → member r xs ≡ true
nth_member [] n r e = let z : ◌≡◌ {A = ℕ} 0 1 = cc in absurd (omega arith)
nth_member (x ∷ xs) zero r e = subst (λ (y : ℕ). member y (x ∷ xs) ≡ true) (some_is x r e) (member_here x xs)
nth_member (x ∷ xs) (suc n) r e = member_there r x xs (nth_member xs n r e)

step : (t : Told) (rs : List ℕ) (n r : ℕ) (ms : List Mark) → slice_get rs n ≡ Some r → hand t r (hand_all t (take n rs) ms) ≡ hand_all t (take (suc n) rs) ms
unfolding hand_all
step t [] n r ms e = let z : ◌≡◌ {A = ℕ} 0 1 = cc in absurd (omega arith)
step t (x ∷ rs) zero r ms e = ap (λ (y : ℕ). hand t y ms) (sym (some_is x r e))
step t (x ∷ rs) (suc n) r ms e = step t rs n r (hand t x ms) e

pub hand_all_none : (t : Told) (ms : List Mark) → ms ≡ hand_all t [] ms
unfolding hand_all
hand_all_none t ms = refl

pub hand_all_more : (t : Told) (rs : List ℕ) (n r : ℕ) (ms l : List Mark) → slice_get rs n ≡ Some r → l ≡ hand_all t (take n rs) ms → hand t r l ≡ hand_all t (take (n + 1) rs) ms
hand_all_more t rs n r ms l e h = ap (hand t r) h ∙ step t rs n r ms e ∙ ap (λ (k : ℕ). hand_all t (take k rs) ms) (sym (add-one n))

-- the same list of commits under another name
pub parent_is : (H G : List Commit) (p n r : ℕ) (o : Option ℕ) → G ≡ H → o ≡ slice_get (at G p).parents n → o ≡ Some r → slice_get (at H p).parents n ≡ Some r
parent_is H G p n r o s e f = ap (λ (x : List Commit). slice_get (at x p).parents n) (sym s) ∙ sym e ∙ f
