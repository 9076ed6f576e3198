-- Ids as their five words and twenty bytes.
use Rattle.std.proofs.Common.{◌≡◌, ℕ, ◌+◌, ◌*◌, ◌/◌, ◌%◌, ◌^◌, ◌<◌, ◌≤◌, List, [], ◌∷◌, ◌++◌, length, get_or, sym, refl, ap, ◌∙◌, arith}
use Rattle.std.specs.List.{AllByRecursion}
use Rattle.std.proofs.ByRecursion.{All-get_or, All-append}
use Rattle.ancestry.specs.Numbers.{spelled_on, spelled, digits, part}
use Rattle.ancestry.specs.Digits.{digits-spelled}
use Rattle.ancestry.specs.Ids.{num, Words, spelled-words}
use Rattle.ancestry.specs.declared.id.Id.{Id}
use Rattle.ancestry.specs.Theorems.{IdLaw}
use Rattle.ancestry.proofs.Spelling.{part-cons, part_all, part_length, part_split, spelled_shift, spelled_split}

pub id_law : IdLaw
id_law a b v w e =
    let e1 : a.first ≡ b.first = omega arith in
    let e2 : a.second ≡ b.second = omega arith in
    let e3 : a.third ≡ b.third = omega arith in
    let e4 : a.fourth ≡ b.fourth = omega arith in
    let e5 : a.fifth ≡ b.fifth = omega arith in
    λ i. record { first = e1 i; second = e2 i; third = e3 i; fourth = e4 i; fifth = e5 i }

-- WORDS AND BYTES
four_more : (xs : List ℕ) (i n : ℕ) → i + 4 ≤ length xs → spelled_on 256 n (part xs i 4) ≡ n * 4294967296 + spelled 256 (part xs i 4)
four_more xs i n l = spelled_shift 256 n (part xs i 4) ∙ ap (λ (k : ℕ). n * 256 ^ k + spelled 256 (part xs i 4)) (part_length xs i 4 l)

pub twenty : (xs : List ℕ) → length xs ≡ 20 →
    spelled 256 xs ≡ (((spelled 256 (part xs 0 4) * 4294967296 + spelled 256 (part xs 4 4)) * 4294967296 + spelled 256 (part xs 8 4)) * 4294967296 + spelled 256 (part xs 12 4)) * 4294967296 + spelled 256 (part xs 16 4)
twenty xs e =
    ap (spelled 256) (sym (part_all xs 20 e) ∙ part_split xs 0 4 16 4 refl ∙ ap (λ (r : List ℕ). part xs 0 4 ++ r)
    (part_split xs 4 4 12 8 refl ∙ ap (λ (r : List ℕ). part xs 4 4 ++ r) (part_split xs 8 4 8 12 refl ∙ ap (λ (r : List ℕ). part xs 8 4 ++ r) (part_split xs 12 4 4 16 refl))))
    ∙ spelled_split 256 0 (part xs 0 4) _ ∙ spelled_split 256 _ (part xs 4 4) _ ∙ spelled_split 256 _ (part xs 8 4) _ ∙ spelled_split 256 _ (part xs 12 4) (part xs 16 4)
    ∙ four_more xs 16 _ (omega arith)
    ∙ ap (λ (n : ℕ). n * 4294967296 + spelled 256 (part xs 16 4)) (four_more xs 12 _ (omega arith)
    ∙ ap (λ (n : ℕ). n * 4294967296 + spelled 256 (part xs 12 4)) (four_more xs 8 _ (omega arith)
    ∙ ap (λ (n : ℕ). n * 4294967296 + spelled 256 (part xs 8 4)) (four_more xs 4 _ (omega arith))))

abbrev pub bytes_of : ℕ → List ℕ
bytes_of w = (w / 16777216 % 256) ∷ (w / 65536 % 256) ∷ (w / 256 % 256) ∷ (w % 256) ∷ []

spelled_bytes : (n w : ℕ) → w < 4294967296 → spelled_on 256 n (bytes_of w) ≡ n * 4294967296 + w
unfolding spelled_on
spelled_bytes n w l =
    let a : w / 16777216 % 256 ≡ w / 16777216 = omega arith in
    let b : w / 65536 ≡ w / 16777216 * 256 + w / 65536 % 256 = omega arith in
    let c : w / 256 ≡ w / 65536 * 256 + w / 256 % 256 = omega arith in
    let d : w ≡ w / 256 * 256 + w % 256 = omega arith in
    omega arith

small_bytes : (w : ℕ) → AllByRecursion (λ b. b < 256) (bytes_of w)
small_bytes w = (omega arith, (omega arith, (omega arith, (omega arith, tt))))

-- the bytes of words, one after another
abbrev pub all_bytes : List ℕ → List ℕ
all_bytes [] = []
all_bytes (w ∷ ws) = bytes_of w ++ all_bytes ws

-- bytes spell what the words spell that they are of
pub spelled_words : (n : ℕ) (ws : List ℕ) → AllByRecursion (λ w. w < 4294967296) ws → spelled_on 256 n (all_bytes ws) ≡ spelled_on 4294967296 n ws
unfolding spelled_on
spelled_words n [] a = refl
spelled_words n (w ∷ ws) a =
    spelled_split 256 n (bytes_of w) (all_bytes ws)
    ∙ ap (λ (k : ℕ). spelled_on 256 k (all_bytes ws)) (spelled_bytes n w a.0)
    ∙ spelled_words (n * 4294967296 + w) ws a.1

all_small : (ws : List ℕ) → AllByRecursion (λ b. b < 256) (all_bytes ws)
all_small [] = tt
all_small (w ∷ ws) = All-append (λ b. b < 256) (bytes_of w) (all_bytes ws) (small_bytes w) (all_small ws)

-- a list of five
pub five : (ws : List ℕ) → length ws ≡ 5 → ws ≡ get_or ws 0 0 ∷ get_or ws 1 0 ∷ get_or ws 2 0 ∷ get_or ws 3 0 ∷ get_or ws 4 0 ∷ []
five ws e =
    sym (part_all ws 5 e) ∙ part-cons ws 0 1 4 (omega arith) refl
    ∙ ap (λ (r : List ℕ). get_or ws 0 0 ∷ r) (part-cons ws 1 2 3 (omega arith) refl
    ∙ ap (λ (r : List ℕ). get_or ws 1 0 ∷ r) (part-cons ws 2 3 2 (omega arith) refl
    ∙ ap (λ (r : List ℕ). get_or ws 2 0 ∷ r) (part-cons ws 3 4 1 (omega arith) refl
    ∙ ap (λ (r : List ℕ). get_or ws 3 0 ∷ r) (part-cons ws 4 5 0 (omega arith) refl))))

-- the twenty bytes of five words
pub id_bytes : (v w x y z : ℕ) → v < 4294967296 → w < 4294967296 → x < 4294967296 → y < 4294967296 → z < 4294967296 →
    digits 256 20 (spelled 4294967296 (v ∷ w ∷ x ∷ y ∷ z ∷ [])) ≡ all_bytes (v ∷ w ∷ x ∷ y ∷ z ∷ [])
id_bytes v w x y z a b c d e =
    ap (digits 256 20) (sym (spelled_words 0 (v ∷ w ∷ x ∷ y ∷ z ∷ []) (a, (b, (c, (d, (e, tt)))))))
    ∙ digits-spelled 256 (all_bytes (v ∷ w ∷ x ∷ y ∷ z ∷ [])) 20 refl (λ j l. All-get_or (λ b. b < 256) (all_bytes (v ∷ w ∷ x ∷ y ∷ z ∷ [])) j 0 l (all_small (v ∷ w ∷ x ∷ y ∷ z ∷ [])))

pub spelled_five : (v w x y z : ℕ) →
    spelled 4294967296 (v ∷ w ∷ x ∷ y ∷ z ∷ []) ≡ (((v * 4294967296 + w) * 4294967296 + x) * 4294967296 + y) * 4294967296 + z
unfolding spelled_on
spelled_five v w x y z = omega arith

-- the number of an id has 160 bits
pub num-bits : (i : Id) → Words i → num i < 1461501637330902918203684832716283019655932542976
num-bits i w = omega (arith, w.first, w.second, w.third, w.fourth, w.fifth)

-- the twenty bytes of an id, as the four bytes of each word are read out
pub id_bytes_out : (i : Id) → Words i → (a b c d e : List ℕ) →
    a ≡ bytes_of i.first → b ≡ bytes_of i.second → c ≡ bytes_of i.third → d ≡ bytes_of i.fourth → e ≡ bytes_of i.fifth
    → (get_or a 0 0 ∷ get_or a 1 0 ∷ get_or a 2 0 ∷ get_or a 3 0 ∷ get_or b 0 0 ∷ get_or b 1 0 ∷ get_or b 2 0 ∷ get_or b 3 0 ∷ get_or c 0 0 ∷ get_or c 1 0 ∷ get_or c 2 0 ∷ get_or c 3 0 ∷ get_or d 0 0 ∷ get_or d 1 0 ∷ get_or d 2 0 ∷ get_or d 3 0 ∷ get_or e 0 0 ∷ get_or e 1 0 ∷ get_or e 2 0 ∷ get_or e 3 0 ∷ [])
    ≡ digits 256 20 (num i)
id_bytes_out i w a b c d e p q r s t =
    rw (p, q, r, s, t) (sym (id_bytes i.first i.second i.third i.fourth i.fifth w.first w.second w.third w.fourth w.fifth) ∙ ap (digits 256 20) (spelled-words i))
