-- Digits compare as the numbers that they spell.
use Rattle.std.proofs.Common.{◌≡◌, ℕ, Bool, true, false, ◌&&◌, suc, ◌+◌, ◌*◌, ◌<◌, ◌≤◌, List, [], ◌∷◌, length, refl, sym, ap, ◌∙◌, arith, nat_cmp, is_eq, nat_eq}
use Rattle.std.proofs.Math.Nat.{mul-le-mul_left, mul_comm}
use Rattle.std.specs.declared.cmp.Ordering.{Ordering}
use Rattle.std.specs.declared.cmp.Ordering.TheVariants.{Less, Equal, Greater}
use Rattle.std.specs.Ordering.{MatchOrdering, ordering_then}
use Rattle.std.specs.Cmp.{nat_cmp_is, ranks, unsigned_ties}
use Rattle.std.specs.Cmp.Lexicographic.{slice_cmp, pointwise}
use Rattle.std.specs.List.{AllByRecursion}
use Rattle.std.proofs.lemmas.Map.Text.{is_eq-slice_cmp}
use Rattle.ancestry.specs.Numbers.{spelled_on, spelled}
use Rattle.ancestry.specs.Ids.{num, words, Words, word_bits, spelled-words, same_words, same_id, words_cmp, id_cmp}
use Rattle.ancestry.specs.declared.id.Id.{Id}
use Rattle.ancestry.specs.Theorems.{OrderLaw}

-- a number below another lies below it with any digit after each
below_then : (b n m x y : ℕ) → x < b → n < m → n * b + x < m * b + y
below_then b n m x y l h =
    let k : b * suc n ≤ b * m = mul-le-mul_left b (omega arith) in
    let e : b * suc n ≡ n * b + b = omega arith in
    let f : b * m ≡ m * b = mul_comm b m in
    omega arith

-- of two numbers the digit after them decides where they are equal
digit_then : (b n m x y : ℕ) → x < b → y < b → (o r : Ordering) → MatchOrdering o (n < m) (n ≡ m) (m < n) → MatchOrdering r (x < y) (x ≡ y) (y < x) →
    ordering_then o r ≡ nat_cmp (n * b + x) (m * b + y)
digit_then b n m x y k l Less r h g = nat_cmp_is (n * b + x) (m * b + y) Less (below_then b n m x y k h)
digit_then b n m x y k l Greater r h g = nat_cmp_is (n * b + x) (m * b + y) Greater (below_then b m n y x l h)
digit_then b n m x y k l Equal Less h g = nat_cmp_is (n * b + x) (m * b + y) Less (rw h (omega arith))
digit_then b n m x y k l Equal Equal h g = nat_cmp_is (n * b + x) (m * b + y) Equal (rw (h, g) refl)
digit_then b n m x y k l Equal Greater h g = nat_cmp_is (n * b + x) (m * b + y) Greater (rw h (omega arith))

then_then : (a b c : Ordering) → ordering_then (ordering_then a b) c ≡ ordering_then a (ordering_then b c)
then_then Less b c = refl
then_then Equal b c = refl
then_then Greater b c = refl

then_equal : (a : Ordering) → a ≡ ordering_then a Equal
then_equal Less = refl
then_equal Equal = refl
then_equal Greater = refl

-- as many digits after two numbers decide where they are equal
cmp-spelled_on : (b n m : ℕ) (xs ys : List ℕ) → length xs ≡ length ys → AllByRecursion (λ d. d < b) xs → AllByRecursion (λ d. d < b) ys →
    nat_cmp (spelled_on b n xs) (spelled_on b m ys) ≡ ordering_then (nat_cmp n m) (slice_cmp nat_cmp xs ys)
unfolding spelled_on
cmp-spelled_on b n m [] [] e p q = then_equal (nat_cmp n m)
cmp-spelled_on b n m [] (y ∷ ys) e p q = absurd (omega arith)
cmp-spelled_on b n m (x ∷ xs) [] e p q = absurd (omega arith)
cmp-spelled_on b n m (x ∷ xs) (y ∷ ys) e p q =
    cmp-spelled_on b (n * b + x) (m * b + y) xs ys (omega arith) p.1 q.1
    ∙ ap (λ (o : Ordering). ordering_then o (slice_cmp nat_cmp xs ys)) (sym (digit_then b n m x y p.0 q.0 (nat_cmp n m) (nat_cmp x y) (ranks n m) (ranks x y)))
    ∙ then_then (nat_cmp n m) (nat_cmp x y) (slice_cmp nat_cmp xs ys)

pub cmp-spelled : (b : ℕ) (xs ys : List ℕ) → length xs ≡ length ys → AllByRecursion (λ d. d < b) xs → AllByRecursion (λ d. d < b) ys →
    slice_cmp nat_cmp xs ys ≡ nat_cmp (spelled b xs) (spelled b ys)
cmp-spelled b xs ys e p q = sym (cmp-spelled_on b 0 0 xs ys e p q)

pub eq-spelled : (b : ℕ) (xs ys : List ℕ) → length xs ≡ length ys → AllByRecursion (λ d. d < b) xs → AllByRecursion (λ d. d < b) ys →
    pointwise nat_eq xs ys ≡ nat_eq (spelled b xs) (spelled b ys)
eq-spelled b xs ys e p q =
    sym (is_eq-slice_cmp xs ys) ∙ ap is_eq (cmp-spelled b xs ys e p q) ∙ sym (unsigned_ties (spelled b xs) (spelled b ys))

in_chain : (p q r s t : Bool) → (p && (q && (r && (s && (t && true))))) ≡ (p && (q && (r && (s && t))))
in_chain p q r s true = refl
in_chain p q r s false = refl

-- ids are equal where the lists of their words are
pub same_lists : (a b : Id) → pointwise nat_eq (words a) (words b) ≡ same_words a b
same_lists a b = in_chain (nat_eq a.first b.first) (nat_eq a.second b.second) (nat_eq a.third b.third) (nat_eq a.fourth b.fourth) (nat_eq a.fifth b.fifth)

-- ids are equal and compare by their words as by their numbers
pub same_by_number : (a b : Id) → Words a → Words b → same_words a b ≡ same_id a b
same_by_number a b v w =
    sym (same_lists a b) ∙ eq-spelled 4294967296 (words a) (words b) refl (word_bits a v) (word_bits b w)
    ∙ ap (λ (n : ℕ). nat_eq n (spelled 4294967296 (words b))) (spelled-words a) ∙ ap (nat_eq (num a)) (spelled-words b)

pub by_number : (a b : Id) → Words a → Words b → words_cmp a b ≡ id_cmp a b
by_number a b v w =
    cmp-spelled 4294967296 (words a) (words b) refl (word_bits a v) (word_bits b w)
    ∙ ap (λ (n : ℕ). nat_cmp n (spelled 4294967296 (words b))) (spelled-words a) ∙ ap (nat_cmp (num a)) (spelled-words b)

pub order_law : OrderLaw
order_law a b v w = (same_by_number a b v w, by_number a b v w)
