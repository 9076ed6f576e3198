-- Letters, and the digits that they stand for.
use Rattle.std.proofs.Common.{◌≡◌, ℕ, zero, suc, ◌+◌, ◌*◌, ◌/◌, ◌%◌, ◌^◌, ◌<◌, ◌≤◌, Bool, true, false, cond, not, ◌&&◌, eqb, ◌≢◌, List, [], ◌∷◌, ◌++◌, map, length, get_or, set, Some, None, Option, unwrap_or, sym, refl, ap, ◌∙◌, ⊎_elim, arith, length-set, get_or-set_other, get_or-set_same, below_more}
use Rattle.std.specs.List.{AllByRecursion}
use Rattle.std.proofs.lemmas.List.{append_assoc, map-append, length-map}
use Rattle.std.proofs.ByRecursion.{All-append, All-get_or, All-map}
use Rattle.std.proofs.lemmas.Bool.{eqb-true, eq-eqb, cases_lt, and_parts, and_from}
use Rattle.ancestry.specs.Sets.{every, next, index_of, absent}
use Rattle.ancestry.specs.Numbers.{spelled_on, spelled, digits, letters, letter, is_letter, value, reading, from_hex, hex}
use Rattle.ancestry.specs.Ids.{num}
use Rattle.std.specs.Str.{IsUtf8}
use Rattle.std.proofs.lemmas.Str.{IsUtf8-from_ascii}
use Rattle.std.proofs.lemmas.Str.Ascii.{IsAscii-from_reads}
use Rattle.ancestry.proofs.Bytes.{num-bits}
use Rattle.ancestry.specs.Theorems.{HexLaw}
use Rattle.ancestry.proofs.Spelling.{digits-length, spelled-digits, spelled_shift, spelled_split}

-- WHERE A NUMBER STANDS IN A LIST
pub index_found : (xs : List ℕ) (i p : ℕ) → p < length xs → get_or xs p 0 ≡ i → ((j : ℕ) → j < p → get_or xs j 0 ≡ i → ⊥) → index_of xs i ≡ Some p
unfolding index_of next
index_found [] i p l e h = absurd (omega arith)
index_found (x ∷ xs) i zero l e h = rw (eq-eqb x i e)
index_found (x ∷ xs) i (suc p) l e h = go (eqb x i) refl (index_found xs i p (omega arith) e (λ j k. h (suc j) (omega arith)))
  where
    go : (b : Bool) → eqb x i ≡ b → index_of xs i ≡ Some p → cond b (Some 0) (next (index_of xs i)) ≡ Some (suc p)
    go true k r = absurd (h 0 (omega arith) (eqb-true x i k))
    go false k r = ap next r

pub index_none : (xs : List ℕ) (i : ℕ) → ((j : ℕ) → j < length xs → get_or xs j 0 ≡ i → ⊥) → index_of xs i ≡ None
unfolding index_of next
index_none [] i h = refl
index_none (x ∷ xs) i h = go (eqb x i) refl (index_none xs i (λ j k. h (suc j) (omega arith)))
  where
    go : (b : Bool) → eqb x i ≡ b → index_of xs i ≡ None → cond b (Some 0) (next (index_of xs i)) ≡ None
    go true k r = absurd (h 0 (omega arith) (eqb-true x i k))
    go false k r = ap next r

-- LETTERS
abbrev pub joined : ℕ → Option ℕ → Option ℕ → Option ℕ
joined k None o = None
joined k (Some x) None = None
joined k (Some x) (Some y) = Some (x * k + y)

pub joined_none : (k : ℕ) (a b : Option ℕ) → None ≡ a → None ≡ joined k a b
joined_none k a b e = ap (λ (o : Option ℕ). joined k o b) e

pub joined_half : (k x : ℕ) (a b : Option ℕ) → Some x ≡ a → None ≡ b → None ≡ joined k a b
joined_half k x a b e f = ap (joined k (Some x)) f ∙ ap (λ (o : Option ℕ). joined k o b) e

pub joined_some : (k x y : ℕ) (a b : Option ℕ) → Some x ≡ a → Some y ≡ b → Some (x * k + y) ≡ joined k a b
joined_some k x y a b e f = ap (joined k (Some x)) f ∙ ap (λ (o : Option ℕ). joined k o b) e

every_append : (t : ℕ → Bool) (xs ys : List ℕ) → every t (xs ++ ys) ≡ (every t xs && every t ys)
unfolding every
every_append t [] ys = refl
every_append t (x ∷ xs) ys = let h : every t (xs ++ ys) ≡ (every t xs && every t ys) = every_append t xs ys in grind arith

pub reading_join : (xs ys : List ℕ) (k : ℕ) → 16 ^ length ys ≡ k → reading (xs ++ ys) ≡ joined k (reading xs) (reading ys)
unfolding reading
reading_join xs ys k e =
    ap (λ (b : Bool). cond b (Some (spelled 16 (map value (xs ++ ys)))) None) (every_append is_letter xs ys)
    ∙ ap (λ (n : ℕ). cond (every is_letter xs && every is_letter ys) (Some n) None) number
    ∙ go (every is_letter xs) (every is_letter ys)
  where
    a : ℕ
    a = spelled 16 (map value xs)

    b : ℕ
    b = spelled 16 (map value ys)

    number : spelled 16 (map value (xs ++ ys)) ≡ a * k + b
    number = ap (spelled 16) (map-append value xs ys) ∙ spelled_split 16 0 (map value xs) (map value ys) ∙ spelled_shift 16 a (map value ys)
        ∙ ap (λ (n : ℕ). a * 16 ^ n + b) (length-map ys value) ∙ ap (λ (n : ℕ). a * n + b) e

    go : (s t : Bool) → cond (s && t) (Some (a * k + b)) None ≡ joined k (cond s (Some a) None) (cond t (Some b) None)
    go true true = refl
    go true false = refl
    go false t = refl

pub reading_one : (c : ℕ) → reading (c ∷ []) ≡ index_of letters c
unfolding reading every absent spelled_on
reading_one c = go (index_of letters c)
  where
    go : (o : Option ℕ) → cond (not (absent o) && true) (Some (0 * 16 + unwrap_or o 0)) None ≡ o
    go None = refl
    go (Some v) = ap Some (omega arith)

-- the two digits of each byte
unfoldable pub halves : List ℕ → List ℕ
halves [] = []
halves (b ∷ bs) = (b / 16) ∷ (b % 16) ∷ halves bs

halves-push : (bs : List ℕ) (b : ℕ) → halves (bs ++ b ∷ []) ≡ halves bs ++ (b / 16) ∷ (b % 16) ∷ []
unfolding halves
halves-push [] b = refl
halves-push (x ∷ xs) b = ap (λ (r : List ℕ). (x / 16) ∷ (x % 16) ∷ r) (halves-push xs b)

halves-digits : (k n : ℕ) → digits 16 (k + k) n ≡ halves (digits 256 k n)
unfolding digits halves
halves-digits zero n = refl
halves-digits (suc k) n =
    let e : suc k + suc k ≡ suc (suc (k + k)) = omega arith in
    let q : n / 16 / 16 ≡ n / 256 = omega arith in
    let a : n / 16 % 16 ≡ n % 256 / 16 = omega arith in
    let b : n % 16 ≡ n % 256 % 16 = omega arith in
    ap (λ (j : ℕ). digits 16 j n) e
    ∙ append_assoc (digits 16 (k + k) (n / 16 / 16)) ((n / 16 % 16) ∷ []) ((n % 16) ∷ [])
    ∙ ap (λ (m : ℕ). digits 16 (k + k) m ++ (n / 16 % 16) ∷ (n % 16) ∷ []) q
    ∙ ap (λ (r : List ℕ). r ++ (n / 16 % 16) ∷ (n % 16) ∷ []) (halves-digits k (n / 256))
    ∙ ap (λ (m : ℕ). halves (digits 256 k (n / 256)) ++ m ∷ (n % 16) ∷ []) a
    ∙ ap (λ (m : ℕ). halves (digits 256 k (n / 256)) ++ (n % 256 / 16) ∷ m ∷ []) b
    ∙ sym (halves-push (digits 256 k (n / 256)) (n % 256))

-- two letters for each byte
abbrev pub Lettered : List ℕ → List ℕ → ℕ → Type 0
Lettered bs ts k = (get_or ts (2 * k) 0 ≡ letter (get_or bs k 0 / 16)) × (get_or ts (2 * k + 1) 0 ≡ letter (get_or bs k 0 % 16))

lettered : (bs ts : List ℕ) → length ts ≡ 2 * length bs → ((k : ℕ) → k < length bs → Lettered bs ts k) → ts ≡ map letter (halves bs)
unfolding halves
lettered [] [] e h = refl
lettered [] (t ∷ ts) e h = absurd (omega arith)
lettered (b ∷ bs) [] e h = absurd (omega arith)
lettered (b ∷ bs) (t ∷ []) e h = absurd (omega arith)
lettered (b ∷ bs) (t ∷ u ∷ ts) e h =
    let x = h 0 (omega arith) in
    let r : ts ≡ map letter (halves bs) = lettered bs ts (omega arith) (λ k l. let y = h (suc k) (omega arith) in
    let i : 2 * suc k ≡ suc (suc (2 * k)) = omega arith in
    let j : 2 * suc k + 1 ≡ suc (suc (2 * k + 1)) = omega arith in
    (sym (ap (λ (m : ℕ). get_or (t ∷ u ∷ ts) m 0) i) ∙ y.0, sym (ap (λ (m : ℕ). get_or (t ∷ u ∷ ts) m 0) j) ∙ y.1)) in
    let p : t ≡ letter (b / 16) = x.0 in
    let q : u ≡ letter (b % 16) = x.1 in
    cc

pub hex-letters : (n : ℕ) (bs ts : List ℕ) → bs ≡ digits 256 20 n → length ts ≡ 40 → ((k : ℕ) → k < 20 → Lettered bs ts k) → ts ≡ hex n
unfolding hex
hex-letters n bs ts e l h =
    let m : length bs ≡ 20 = ap length e ∙ digits-length 256 20 n in
    lettered bs ts (omega arith) (λ k i. h k (omega arith)) ∙ ap (λ (r : List ℕ). map letter (halves r)) e ∙ sym (ap (map letter) (halves-digits 20 n))

-- two letters more
pub lettered_more : (bs ts : List ℕ) (i : ℕ) → length ts ≡ 40 → i < 20 → ((k : ℕ) → k < i → Lettered bs ts k)
    → (length (set (set ts (2 * i) (letter (get_or bs i 0 / 16))) (2 * i + 1) (letter (get_or bs i 0 % 16))) ≡ 40)
    × ((k : ℕ) → k < i + 1 → Lettered bs (set (set ts (2 * i) (letter (get_or bs i 0 / 16))) (2 * i + 1) (letter (get_or bs i 0 % 16))) k)
lettered_more bs ts i l h inv = (length-set (set ts (2 * i) a) (2 * i + 1) b ∙ length-set ts (2 * i) a ∙ l, below_more (Lettered bs us) i old new)
  where
    a : ℕ
    a = letter (get_or bs i 0 / 16)

    b : ℕ
    b = letter (get_or bs i 0 % 16)

    us : List ℕ
    us = set (set ts (2 * i) a) (2 * i + 1) b

    first : (j : ℕ) → j ≢ 2 * i → j ≢ 2 * i + 1 → get_or us j 0 ≡ get_or ts j 0
    first j m n = get_or-set_other (set ts (2 * i) a) (2 * i + 1) j b 0 n ∙ get_or-set_other ts (2 * i) j a 0 m

    old : (k : ℕ) → k < i → Lettered bs us k
    old k m = (first (2 * k) (omega arith) (omega arith) ∙ (inv k m).0, first (2 * k + 1) (omega arith) (omega arith) ∙ (inv k m).1)

    new : Lettered bs us i
    new = (
      get_or-set_other (set ts (2 * i) a) (2 * i + 1) (2 * i) b 0 (omega arith) ∙ get_or-set_same ts (2 * i) a 0 (omega arith),
      get_or-set_same (set ts (2 * i) a) (2 * i + 1) b 0 (let e : length (set ts (2 * i) a) ≡ 40 = length-set ts (2 * i) a ∙ l in omega arith),
    )

-- a test that each number below n passes
below : (ℕ → Bool) → ℕ → Bool
below t zero = true
below t (suc n) = t n && below t n

below_elim : (t : ℕ → Bool) (n d : ℕ) → below t n ≡ true → d < n → t d ≡ true
unfolding below
below_elim t zero d h l = absurd (omega arith)
below_elim t (suc n) d h l = let p = and_parts (t n) (below t n) h in
    ⊎_elim (λ (k : d < n). below_elim t n d p.1 k) (λ (k : n ≤ d). let e : d ≡ n = omega arith in rw e p.0) (cases_lt d n)

letters-back : below (λ d. is_letter (letter d) && eqb (value (letter d)) d) 16 ≡ true
unfolding below letters index_of next absent
letters-back = refl

letter-back : (d : ℕ) → d < 16 → (is_letter (letter d) ≡ true) × (value (letter d) ≡ d)
letter-back d l =
    let p = and_parts (is_letter (letter d)) (eqb (value (letter d)) d) (below_elim (λ d. is_letter (letter d) && eqb (value (letter d)) d) 16 d letters-back l) in
    (p.0, eqb-true (value (letter d)) d p.1)

all_letters : (ds : List ℕ) → AllByRecursion (λ d. d < 16) ds → every is_letter (map letter ds) ≡ true
unfolding every
all_letters [] a = refl
all_letters (d ∷ ds) a = and_from (is_letter (letter d)) (every is_letter (map letter ds)) (letter-back d a.0).0 (all_letters ds a.1)

values_back : (ds : List ℕ) → AllByRecursion (λ d. d < 16) ds → map value (map letter ds) ≡ ds
values_back [] a = refl
values_back (d ∷ ds) a = let p : value (letter d) ≡ d = (letter-back d a.0).1 in let q : map value (map letter ds) ≡ ds = values_back ds a.1 in cc

reading-letters : (ds : List ℕ) → AllByRecursion (λ d. d < 16) ds → reading (map letter ds) ≡ Some (spelled 16 ds)
unfolding reading
reading-letters ds a = ap (λ (b : Bool). cond b (Some (spelled 16 (map value (map letter ds)))) None) (all_letters ds a) ∙ ap (λ (r : List ℕ). Some (spelled 16 r)) (values_back ds a)

small_digits : (k n : ℕ) → AllByRecursion (λ d. d < 16) (digits 16 k n)
unfolding digits
small_digits zero n = tt
small_digits (suc k) n = All-append (λ d. d < 16) (digits 16 k (n / 16)) ((n % 16) ∷ []) (small_digits k (n / 16)) (omega arith, tt)

-- each letter is one byte in UTF-8
pub length-hex : (n : ℕ) → length (hex n) ≡ 40
unfolding hex
length-hex n = length-map (digits 16 40 n) letter ∙ digits-length 16 40 n

letter_ascii : (d : ℕ) → d < 16 → letter d < 128
unfolding letters
letter_ascii d l = All-get_or (λ c. c < 128) letters d 0 l (omega arith, (omega arith, (omega arith, (omega arith, (omega arith, (omega arith, (omega arith, (omega arith, (omega arith, (omega arith, (omega arith, (omega arith, (omega arith, (omega arith, (omega arith, (omega arith, tt))))))))))))))))

letters_ascii : (ds : List ℕ) → AllByRecursion (λ d. d < 16) ds → AllByRecursion (λ d. letter d < 128) ds
letters_ascii [] a = tt
letters_ascii (d ∷ ds) a = (letter_ascii d a.0, letters_ascii ds a.1)

pub hex_ascii : (n i : ℕ) → i < 40 → get_or (hex n) i 0 < 128
unfolding hex
hex_ascii n i l = All-get_or (λ c. c < 128) (hex n) i 0 (let e : length (hex n) ≡ 40 = length-hex n in omega arith) (All-map (λ c. c < 128) letter (digits 16 40 n) (letters_ascii (digits 16 40 n) (small_digits 40 n)))

-- so they are a text
pub hex-is_text : (n : ℕ) → IsUtf8 (hex n)
hex-is_text n = IsUtf8-from_ascii (hex n) (IsAscii-from_reads (hex n) 40 (let e : length (hex n) ≡ 40 = length-hex n in omega arith) (hex_ascii n))

-- the letters of a number of 160 bits read back as it
pub hex-back : (n : ℕ) → n < 1461501637330902918203684832716283019655932542976 → from_hex (hex n) ≡ Some n
unfolding from_hex hex
hex-back n b =
    let e : length (map letter (digits 16 40 n)) ≡ 40 = length-map (digits 16 40 n) letter ∙ digits-length 16 40 n in
    rw (eq-eqb (length (map letter (digits 16 40 n))) 40 e) (reading-letters (digits 16 40 n) (small_digits 40 n) ∙ ap Some (spelled-digits 16 40 n (omega arith) b))

pub hex_law : HexLaw
hex_law i w = hex-back (num i) (num-bits i w)
