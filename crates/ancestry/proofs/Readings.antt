-- What two, eight and forty letters spell, by each way through the reading.
use Rattle.std.proofs.Common.{◌≡◌, ℕ, ◌+◌, ◌*◌, ◌^◌, ◌≤◌, Bool, cond, List, [], ◌∷◌, length, get_or, Some, None, Option, sym, refl, ap, ◌∙◌, arith}
use Rattle.std.proofs.lemmas.Bool.{eq-eqb, ne_eqb}
use Rattle.ancestry.specs.Sets.{index_of}
use Rattle.ancestry.specs.Numbers.{part, letters, reading, from_hex}
use Rattle.ancestry.proofs.Spelling.{part_all, part_length, part_split, part_two}
use Rattle.ancestry.proofs.Letters.{joined, joined_half, joined_none, joined_some, reading_join, reading_one}

-- what two, eight and forty letters spell
pub reading_two : (xs : List ℕ) (i : ℕ) → i + 2 ≤ length xs → reading (part xs i 2) ≡ joined 16 (index_of letters (get_or xs i 0)) (index_of letters (get_or xs (i + 1) 0))
reading_two xs i l = ap reading (part_two xs i l) ∙ reading_join (get_or xs i 0 ∷ []) (get_or xs (i + 1) 0 ∷ []) 16 refl
    ∙ ap (λ (o : Option ℕ). joined 16 o (reading (get_or xs (i + 1) 0 ∷ []))) (reading_one (get_or xs i 0))
    ∙ ap (joined 16 (index_of letters (get_or xs i 0))) (reading_one (get_or xs (i + 1) 0))

-- m letters and then n
reading_split : (xs : List ℕ) (i m n j k : ℕ) → i + m ≡ j → j + n ≤ length xs → 16 ^ n ≡ k → reading (part xs i (m + n)) ≡ joined k (reading (part xs i m)) (reading (part xs j n))
reading_split xs i m n j k e l p = ap reading (part_split xs i m n j e) ∙ reading_join (part xs i m) (part xs j n) k (ap (λ (q : ℕ). 16 ^ q) (part_length xs j n l) ∙ p)

pub reading_eight : (xs : List ℕ) (i : ℕ) → i + 8 ≤ length xs
    → reading (part xs i 8) ≡ joined 16777216 (reading (part xs i 2)) (joined 65536 (reading (part xs (i + 2) 2)) (joined 256 (reading (part xs (i + 4) 2)) (reading (part xs (i + 6) 2))))
reading_eight xs i l = reading_split xs i 2 6 (i + 2) 16777216 refl (omega arith) refl
    ∙ ap (joined 16777216 (reading (part xs i 2))) (reading_split xs (i + 2) 2 4 (i + 4) 65536 (omega arith) (omega arith) refl
    ∙ ap (joined 65536 (reading (part xs (i + 2) 2))) (reading_split xs (i + 4) 2 2 (i + 6) 256 (omega arith) (omega arith) refl))

-- each way through the reading of eight letters, two at a time
module _ (xs : List ℕ) (i : ℕ) (l : i + 8 ≤ length xs) where
  pub eight_none_0 : None ≡ reading (part xs i 2) → None ≡ reading (part xs i 8)
  eight_none_0 h0 = joined_none 16777216 (reading (part xs i 2)) (joined 65536 (reading (part xs (i + 2) 2)) (joined 256 (reading (part xs (i + 4) 2)) (reading (part xs (i + 6) 2)))) h0 ∙ sym (reading_eight xs i l)

  pub eight_none_1 : (x : ℕ) → Some x ≡ reading (part xs i 2) → None ≡ reading (part xs (i + 2) 2) → None ≡ reading (part xs i 8)
  eight_none_1 x h0 h1 = joined_half 16777216 x (reading (part xs i 2)) (joined 65536 (reading (part xs (i + 2) 2)) (joined 256 (reading (part xs (i + 4) 2)) (reading (part xs (i + 6) 2)))) h0 (joined_none 65536 (reading (part xs (i + 2) 2)) (joined 256 (reading (part xs (i + 4) 2)) (reading (part xs (i + 6) 2))) h1) ∙ sym (reading_eight xs i l)

  pub eight_none_2 : (x : ℕ) → Some x ≡ reading (part xs i 2) → (y : ℕ) → Some y ≡ reading (part xs (i + 2) 2) → None ≡ reading (part xs (i + 4) 2) → None ≡ reading (part xs i 8)
  eight_none_2 x h0 y h1 h2 = joined_half 16777216 x (reading (part xs i 2)) (joined 65536 (reading (part xs (i + 2) 2)) (joined 256 (reading (part xs (i + 4) 2)) (reading (part xs (i + 6) 2)))) h0 (joined_half 65536 y (reading (part xs (i + 2) 2)) (joined 256 (reading (part xs (i + 4) 2)) (reading (part xs (i + 6) 2))) h1 (joined_none 256 (reading (part xs (i + 4) 2)) (reading (part xs (i + 6) 2)) h2)) ∙ sym (reading_eight xs i l)

  pub eight_none_3 : (x : ℕ) → Some x ≡ reading (part xs i 2) → (y : ℕ) → Some y ≡ reading (part xs (i + 2) 2) → (z : ℕ) → Some z ≡ reading (part xs (i + 4) 2) → None ≡ reading (part xs (i + 6) 2) → None ≡ reading (part xs i 8)
  eight_none_3 x h0 y h1 z h2 h3 = joined_half 16777216 x (reading (part xs i 2)) (joined 65536 (reading (part xs (i + 2) 2)) (joined 256 (reading (part xs (i + 4) 2)) (reading (part xs (i + 6) 2)))) h0 (joined_half 65536 y (reading (part xs (i + 2) 2)) (joined 256 (reading (part xs (i + 4) 2)) (reading (part xs (i + 6) 2))) h1 (joined_half 256 z (reading (part xs (i + 4) 2)) (reading (part xs (i + 6) 2)) h2 (h3))) ∙ sym (reading_eight xs i l)

  pub eight_some : (x : ℕ) → Some x ≡ reading (part xs i 2) → (y : ℕ) → Some y ≡ reading (part xs (i + 2) 2) → (z : ℕ) → Some z ≡ reading (part xs (i + 4) 2) → (w : ℕ) → Some w ≡ reading (part xs (i + 6) 2) → Some (((x * 256 + y) * 256 + z) * 256 + w) ≡ reading (part xs i 8)
  eight_some x h0 y h1 z h2 w h3 = ap Some (omega arith) ∙ joined_some 16777216 x (y * 65536 + (z * 256 + w)) (reading (part xs i 2)) (joined 65536 (reading (part xs (i + 2) 2)) (joined 256 (reading (part xs (i + 4) 2)) (reading (part xs (i + 6) 2)))) h0 (joined_some 65536 y (z * 256 + w) (reading (part xs (i + 2) 2)) (joined 256 (reading (part xs (i + 4) 2)) (reading (part xs (i + 6) 2))) h1 (joined_some 256 z (w) (reading (part xs (i + 4) 2)) (reading (part xs (i + 6) 2)) h2 (h3))) ∙ sym (reading_eight xs i l)

pub reading_forty : (xs : List ℕ) → length xs ≡ 40 → from_hex xs ≡ joined 340282366920938463463374607431768211456 (reading (part xs 0 8)) (joined 79228162514264337593543950336 (reading (part xs 8 8)) (joined 18446744073709551616 (reading (part xs 16 8)) (joined 4294967296 (reading (part xs 24 8)) (reading (part xs 32 8)))))
unfolding from_hex
reading_forty xs e = ap (λ (b : Bool). cond b (reading xs) None) (eq-eqb (length xs) 40 e)
    ∙ ap reading (sym (part_all xs 40 e))
    ∙ reading_split xs 0 8 32 8 340282366920938463463374607431768211456 refl (omega arith) refl
    ∙ ap (joined 340282366920938463463374607431768211456 (reading (part xs 0 8))) (reading_split xs 8 8 24 16 79228162514264337593543950336 refl (omega arith) refl
    ∙ ap (joined 79228162514264337593543950336 (reading (part xs 8 8))) (reading_split xs 16 8 16 24 18446744073709551616 refl (omega arith) refl
    ∙ ap (joined 18446744073709551616 (reading (part xs 16 8))) (reading_split xs 24 8 8 32 4294967296 refl (omega arith) refl)))

-- each way through the reading of forty letters, eight at a time
module _ (xs : List ℕ) (l : length xs ≡ 40) where
  pub forty_none_0 : None ≡ reading (part xs 0 8) → None ≡ from_hex xs
  forty_none_0 h0 = joined_none 340282366920938463463374607431768211456 (reading (part xs 0 8)) (joined 79228162514264337593543950336 (reading (part xs 8 8)) (joined 18446744073709551616 (reading (part xs 16 8)) (joined 4294967296 (reading (part xs 24 8)) (reading (part xs 32 8))))) h0 ∙ sym (reading_forty xs l)

  pub forty_none_1 : (a : ℕ) → Some a ≡ reading (part xs 0 8) → None ≡ reading (part xs 8 8) → None ≡ from_hex xs
  forty_none_1 a h0 h1 = joined_half 340282366920938463463374607431768211456 a (reading (part xs 0 8)) (joined 79228162514264337593543950336 (reading (part xs 8 8)) (joined 18446744073709551616 (reading (part xs 16 8)) (joined 4294967296 (reading (part xs 24 8)) (reading (part xs 32 8))))) h0 (joined_none 79228162514264337593543950336 (reading (part xs 8 8)) (joined 18446744073709551616 (reading (part xs 16 8)) (joined 4294967296 (reading (part xs 24 8)) (reading (part xs 32 8)))) h1) ∙ sym (reading_forty xs l)

  pub forty_none_2 : (a : ℕ) → Some a ≡ reading (part xs 0 8) → (b : ℕ) → Some b ≡ reading (part xs 8 8) → None ≡ reading (part xs 16 8) → None ≡ from_hex xs
  forty_none_2 a h0 b h1 h2 = joined_half 340282366920938463463374607431768211456 a (reading (part xs 0 8)) (joined 79228162514264337593543950336 (reading (part xs 8 8)) (joined 18446744073709551616 (reading (part xs 16 8)) (joined 4294967296 (reading (part xs 24 8)) (reading (part xs 32 8))))) h0 (joined_half 79228162514264337593543950336 b (reading (part xs 8 8)) (joined 18446744073709551616 (reading (part xs 16 8)) (joined 4294967296 (reading (part xs 24 8)) (reading (part xs 32 8)))) h1 (joined_none 18446744073709551616 (reading (part xs 16 8)) (joined 4294967296 (reading (part xs 24 8)) (reading (part xs 32 8))) h2)) ∙ sym (reading_forty xs l)

  pub forty_none_3 : (a : ℕ) → Some a ≡ reading (part xs 0 8) → (b : ℕ) → Some b ≡ reading (part xs 8 8) → (c : ℕ) → Some c ≡ reading (part xs 16 8) → None ≡ reading (part xs 24 8) → None ≡ from_hex xs
  forty_none_3 a h0 b h1 c h2 h3 = joined_half 340282366920938463463374607431768211456 a (reading (part xs 0 8)) (joined 79228162514264337593543950336 (reading (part xs 8 8)) (joined 18446744073709551616 (reading (part xs 16 8)) (joined 4294967296 (reading (part xs 24 8)) (reading (part xs 32 8))))) h0 (joined_half 79228162514264337593543950336 b (reading (part xs 8 8)) (joined 18446744073709551616 (reading (part xs 16 8)) (joined 4294967296 (reading (part xs 24 8)) (reading (part xs 32 8)))) h1 (joined_half 18446744073709551616 c (reading (part xs 16 8)) (joined 4294967296 (reading (part xs 24 8)) (reading (part xs 32 8))) h2 (joined_none 4294967296 (reading (part xs 24 8)) (reading (part xs 32 8)) h3))) ∙ sym (reading_forty xs l)

  pub forty_none_4 : (a : ℕ) → Some a ≡ reading (part xs 0 8) → (b : ℕ) → Some b ≡ reading (part xs 8 8) → (c : ℕ) → Some c ≡ reading (part xs 16 8) → (d : ℕ) → Some d ≡ reading (part xs 24 8) → None ≡ reading (part xs 32 8) → None ≡ from_hex xs
  forty_none_4 a h0 b h1 c h2 d h3 h4 = joined_half 340282366920938463463374607431768211456 a (reading (part xs 0 8)) (joined 79228162514264337593543950336 (reading (part xs 8 8)) (joined 18446744073709551616 (reading (part xs 16 8)) (joined 4294967296 (reading (part xs 24 8)) (reading (part xs 32 8))))) h0 (joined_half 79228162514264337593543950336 b (reading (part xs 8 8)) (joined 18446744073709551616 (reading (part xs 16 8)) (joined 4294967296 (reading (part xs 24 8)) (reading (part xs 32 8)))) h1 (joined_half 18446744073709551616 c (reading (part xs 16 8)) (joined 4294967296 (reading (part xs 24 8)) (reading (part xs 32 8))) h2 (joined_half 4294967296 d (reading (part xs 24 8)) (reading (part xs 32 8)) h3 (h4)))) ∙ sym (reading_forty xs l)

  pub forty_some : (a : ℕ) → Some a ≡ reading (part xs 0 8) → (b : ℕ) → Some b ≡ reading (part xs 8 8) → (c : ℕ) → Some c ≡ reading (part xs 16 8) → (d : ℕ) → Some d ≡ reading (part xs 24 8) → (e : ℕ) → Some e ≡ reading (part xs 32 8) → Some ((((a * 4294967296 + b) * 4294967296 + c) * 4294967296 + d) * 4294967296 + e) ≡ from_hex xs
  forty_some a h0 b h1 c h2 d h3 e h4 = ap Some (omega arith) ∙ joined_some 340282366920938463463374607431768211456 a (b * 79228162514264337593543950336 + (c * 18446744073709551616 + (d * 4294967296 + e))) (reading (part xs 0 8)) (joined 79228162514264337593543950336 (reading (part xs 8 8)) (joined 18446744073709551616 (reading (part xs 16 8)) (joined 4294967296 (reading (part xs 24 8)) (reading (part xs 32 8))))) h0 (joined_some 79228162514264337593543950336 b (c * 18446744073709551616 + (d * 4294967296 + e)) (reading (part xs 8 8)) (joined 18446744073709551616 (reading (part xs 16 8)) (joined 4294967296 (reading (part xs 24 8)) (reading (part xs 32 8)))) h1 (joined_some 18446744073709551616 c (d * 4294967296 + e) (reading (part xs 16 8)) (joined 4294967296 (reading (part xs 24 8)) (reading (part xs 32 8))) h2 (joined_some 4294967296 d (e) (reading (part xs 24 8)) (reading (part xs 32 8)) h3 (h4)))) ∙ sym (reading_forty xs l)

pub not_forty : (xs : List ℕ) → (length xs ≡ 40 → ⊥) → None ≡ from_hex xs
unfolding from_hex
not_forty xs n = sym (ap (λ (b : Bool). cond b (reading xs) None) (ne_eqb (length xs) 40 n))
