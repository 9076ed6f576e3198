-- Keeping some of a list, one after another.
use Rattle.std.proofs.Common.{◌≡◌, ℕ, ◌+◌, ◌<◌, ◌≤◌, Bool, true, false, cond, List, [], ◌∷◌, ◌++◌, length, get_or, take, set, Some, sym, refl, ap, ◌∙◌, arith}
use Rattle.std.proofs.lemmas.List.{take_more, take_more_set, length-take-le, get_or-take}
use Rattle.std.proofs.lemmas.Option.{slice_get-get_or}
use Rattle.ancestry.specs.Sets.{member, keep}
use Rattle.painting.proofs.Parents.{nth_member}

keep_end : (t : ℕ → Bool) (ps : List ℕ) (p : ℕ) → keep t (ps ++ p ∷ []) ≡ keep t ps ++ keep t (p ∷ [])
unfolding keep
keep_end t [] p = refl
keep_end t (q ∷ ps) p = go (t q) (keep_end t ps p)
  where
    go : (b : Bool) → keep t (ps ++ p ∷ []) ≡ keep t ps ++ keep t (p ∷ []) → cond b (q ∷ keep t (ps ++ p ∷ [])) (keep t (ps ++ p ∷ [])) ≡ cond b (q ∷ keep t ps) (keep t ps) ++ keep t (p ∷ [])
    go true h = ap (λ (l : List ℕ). q ∷ l) h
    go false h = h

keep_more : (t : ℕ → Bool) (ps : List ℕ) (p : ℕ) → t p ≡ true → keep t (ps ++ p ∷ []) ≡ keep t ps ++ p ∷ []
keep_more t ps p e = keep_end t ps p ∙ ap (λ (l : List ℕ). keep t ps ++ l) (one e)
  where
    one : t p ≡ true → keep t (p ∷ []) ≡ p ∷ []
    one e = unfold keep in rw e

keep_skip : (t : ℕ → Bool) (ps : List ℕ) (p : ℕ) → t p ≡ false → keep t (ps ++ p ∷ []) ≡ keep t ps
keep_skip t ps p e = keep_end t ps p ∙ ap (λ (l : List ℕ). keep t ps ++ l) (none e) ∙ end (keep t ps)
  where
    none : t p ≡ false → keep t (p ∷ []) ≡ []
    none e = unfold keep in rw e

    end : (l : List ℕ) → l ++ [] ≡ l
    end [] = refl
    end (x ∷ l) = ap (λ (k : List ℕ). x ∷ k) (end l)

pub keep_none : (t : ℕ → Bool) → ◌≡◌ {A = List ℕ} [] (keep t [])
unfolding keep
keep_none t = refl

-- the next of the list passes, and is put after those that are kept
pub keep_taken : (t : ℕ → Bool) (ks ps : List ℕ) (i n x : ℕ) → i < length ps → n < length ks → x ≡ get_or ps i 0 → t x ≡ true → take n ks ≡ keep t (take i ps) → take (n + 1) (set ks n x) ≡ keep t (take (i + 1) ps)
keep_taken t ks ps i n x l m e h k =
    take_more_set ks n x m
    ∙ ap (λ (y : List ℕ). y ++ x ∷ []) k
    ∙ sym (keep_more t (take i ps) x h)
    ∙ ap (λ (y : ℕ). keep t (take i ps ++ y ∷ [])) e
    ∙ ap (keep t) (sym (take_more ps i 0 l))

-- the next of the list does not pass
pub keep_passed : (t : ℕ → Bool) (ks ps : List ℕ) (i x : ℕ) → i < length ps → x ≡ get_or ps i 0 → t x ≡ false → ks ≡ keep t (take i ps) → ks ≡ keep t (take (i + 1) ps)
keep_passed t ks ps i x l e h k = k ∙ sym (keep_skip t (take i ps) x h) ∙ ap (λ (y : ℕ). keep t (take i ps ++ y ∷ [])) e ∙ ap (keep t) (sym (take_more ps i 0 l))

pub taken-member : (ps : List ℕ) (i n : ℕ) → i < n → n ≤ length ps → member (get_or ps i 0) (take n ps) ≡ true
taken-member ps i n l h = nth_member (take n ps) i (get_or ps i 0) (slice_get-get_or (take n ps) i 0 (omega (arith, length-take-le n ps h)) ∙ ap Some (get_or-take n ps i 0 l))
