-- Parts of a list, and the numbers that digits spell.
use Rattle.std.proofs.Common.{◌≡◌, ℕ, zero, suc, ◌+◌, ◌*◌, ◌/◌, ◌%◌, ◌^◌, ◌<◌, ◌≤◌, List, [], ◌∷◌, ◌++◌, length, get_or, take, drop, sym, refl, ap, ◌∙◌, subst, mul_assoc, mul_comm, div-lt_iff_lt-mul, add-mul, pow-suc, div-add-mod', zero-mul, mul-one, add-one, arith, take_all, drop-cons, drop-drop, take-add}
use native.Mathlib.Nat.{pow-zero}
use Rattle.std.proofs.lemmas.List.{length-append}
use Rattle.ancestry.specs.Numbers.{spelled_on, spelled, digits, part}

-- PARTS OF A LIST
pub part-cons : (xs : List ℕ) (i j n : ℕ) → i < length xs → i + 1 ≡ j → part xs i (suc n) ≡ get_or xs i 0 ∷ part xs j n
part-cons xs i j n l e = ap (take (suc n)) (drop-cons xs i 0 l) ∙ ap (λ (k : ℕ). get_or xs i 0 ∷ take n (drop k xs)) (sym (add-one i) ∙ e)

pub part_two : (xs : List ℕ) (i : ℕ) → i + 2 ≤ length xs → part xs i 2 ≡ get_or xs i 0 ∷ get_or xs (i + 1) 0 ∷ []
part_two xs i l = part-cons xs i (i + 1) 1 (omega arith) refl ∙ ap (λ (r : List ℕ). get_or xs i 0 ∷ r) (part-cons xs (i + 1) (i + 2) 0 (omega arith) (omega arith))

pub part_four : (xs : List ℕ) (i : ℕ) → i + 4 ≤ length xs → part xs i 4 ≡ get_or xs i 0 ∷ get_or xs (i + 1) 0 ∷ get_or xs (i + 2) 0 ∷ get_or xs (i + 3) 0 ∷ []
part_four xs i l = part-cons xs i (i + 1) 3 (omega arith) refl ∙ ap (λ (r : List ℕ). get_or xs i 0 ∷ r)
    (part-cons xs (i + 1) (i + 2) 2 (omega arith) (omega arith) ∙ ap (λ (r : List ℕ). get_or xs (i + 1) 0 ∷ r)
    (part-cons xs (i + 2) (i + 3) 1 (omega arith) (omega arith) ∙ ap (λ (r : List ℕ). get_or xs (i + 2) 0 ∷ r)
    (part-cons xs (i + 3) (i + 4) 0 (omega arith) (omega arith))))

pub part_split : (xs : List ℕ) (i m n j : ℕ) → i + m ≡ j → part xs i (m + n) ≡ part xs i m ++ part xs j n
part_split xs i m n j e = take-add m n (drop i xs) ∙ ap (λ (r : List ℕ). take m (drop i xs) ++ take n r) (drop-drop m i xs ∙ ap (λ (k : ℕ). drop k xs) e)

pub part_all : (xs : List ℕ) (n : ℕ) → length xs ≡ n → part xs 0 n ≡ xs
part_all xs n e = take_all n xs (omega arith)

pub part_length : (xs : List ℕ) (i n : ℕ) → i + n ≤ length xs → length (part xs i n) ≡ n
part_length xs i zero l = refl
part_length xs i (suc n) l = ap length (part-cons xs i (i + 1) n (omega arith) refl) ∙ ap suc (part_length xs (i + 1) n (omega arith))

-- WHAT DIGITS SPELL
pub spelled_split : (b n : ℕ) (xs ys : List ℕ) → spelled_on b n (xs ++ ys) ≡ spelled_on b (spelled_on b n xs) ys
unfolding spelled_on
spelled_split b n [] ys = refl
spelled_split b n (x ∷ xs) ys = spelled_split b (n * b + x) xs ys

pub spelled_shift : (b n : ℕ) (ds : List ℕ) → spelled_on b n ds ≡ n * b ^ length ds + spelled b ds
unfolding spelled_on
spelled_shift b n [] = let e : b ^ 0 ≡ 1 = pow-zero b in let m : n * 1 ≡ n = mul-one n in rw e (omega arith)
spelled_shift b n (d ∷ ds) =
    let p : ℕ = b ^ length ds in
    let x : spelled_on b (n * b + d) ds ≡ (n * b + d) * p + spelled b ds = spelled_shift b (n * b + d) ds in
    let y : spelled_on b (0 * b + d) ds ≡ (0 * b + d) * p + spelled b ds = spelled_shift b (0 * b + d) ds in
    let u : (n * b + d) * p ≡ n * b * p + d * p = add-mul (n * b) d p in
    let v : (0 * b + d) * p ≡ 0 * b * p + d * p = add-mul (0 * b) d p in
    let z : 0 * b ≡ 0 = zero-mul b in
    let z' : 0 * b * p ≡ 0 = ap (λ (k : ℕ). k * p) z ∙ zero-mul p in
    let w : n * b ^ suc (length ds) ≡ n * b * p = ap (λ (k : ℕ). n * k) (pow-suc b (length ds) ∙ mul_comm p b) ∙ sym (mul_assoc n b p) in
    omega arith

pub spelled-digits : (b k n : ℕ) → 0 < b → n < b ^ k → spelled b (digits b k n) ≡ n
unfolding digits spelled_on
spelled-digits b zero n p l = let e : b ^ 0 ≡ 1 = pow-zero b in omega arith
spelled-digits b (suc k) n p l =
    spelled_split b 0 (digits b k (n / b)) ((n % b) ∷ [])
    ∙ ap (λ (m : ℕ). m * b + n % b) (spelled-digits b k (n / b) p ((div-lt_iff_lt-mul p).1 (subst (λ (m : ℕ). n < m) (pow-suc b k) l)))
    ∙ div-add-mod' n b

pub digits-length : (b k n : ℕ) → length (digits b k n) ≡ k
unfolding digits
digits-length b zero n = refl
digits-length b (suc k) n = length-append (digits b k (n / b)) ((n % b) ∷ []) ∙ (let h : length (digits b k (n / b)) ≡ k = digits-length b k (n / b) in omega arith)
