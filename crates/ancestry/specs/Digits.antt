-- Digits that spell a number are its digits: an id is held as those of its number.
use Rattle.std.proofs.Common.{◌≡◌, ℕ, suc, ◌+◌, ◌*◌, ◌%◌, ◌<◌, List, [], ◌∷◌, ◌++◌, length, get_or, sym, ap, ◌∙◌, add-zero, zero-add, arith}
use lib.Arith.{digits_div, digits_mod}
use Rattle.std.proofs.lemmas.List.{append_assoc, append-nil}
use Rattle.ancestry.specs.Numbers.{spelled_on, spelled, digits}

-- the digits of what digits spell after n are those of n and then these
pub digits-spelled_on : (b k n : ℕ) (ds : List ℕ) → ((j : ℕ) → j < length ds → get_or ds j 0 < b) → digits b (k + length ds) (spelled_on b n ds) ≡ digits b k n ++ ds
unfolding digits spelled_on
digits-spelled_on b k n [] h = ap (λ (j : ℕ). digits b j n) (add-zero k) ∙ sym (append-nil (digits b k n))
digits-spelled_on b k n (d ∷ ds) h =
    let l : d < b = h 0 (omega arith) in
    let e : k + suc (length ds) ≡ suc k + length ds = omega arith in
    ap (λ (j : ℕ). digits b j (spelled_on b (n * b + d) ds)) e
    ∙ digits-spelled_on b (suc k) (n * b + d) ds (λ j i. h (suc j) (omega arith))
    ∙ ap (λ (r : List ℕ). r ++ ds) (ap (λ (m : ℕ). digits b k m ++ ((n * b + d) % b) ∷ []) (digits_div n l) ∙ ap (λ (m : ℕ). digits b k n ++ m ∷ []) (digits_mod n l))
    ∙ append_assoc (digits b k n) (d ∷ []) ds

pub digits-spelled : (b : ℕ) (ds : List ℕ) (n : ℕ) → length ds ≡ n → ((j : ℕ) → j < length ds → get_or ds j 0 < b) → digits b n (spelled b ds) ≡ ds
unfolding digits
digits-spelled b ds n e h = ap (λ (j : ℕ). digits b j (spelled b ds)) (sym e ∙ sym (zero-add (length ds))) ∙ digits-spelled_on b 0 0 ds h
