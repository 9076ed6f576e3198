-- An id as it is held, and its number.
use Rattle.std.specs.Prelude.{◌≡◌, ℕ, ◌+◌, ◌*◌, ◌<◌, Bool, ◌&&◌, ◌==◌, List, [], ◌∷◌, map, Option, option_map, nat_eq, slice_index_or}
use Rattle.std.specs.Ordering.{nat_cmp}
use Rattle.std.specs.Cmp.Lexicographic.{slice_cmp}
use Rattle.std.specs.declared.cmp.Ordering.{Ordering}
use Rattle.std.proofs.Common.{refl, sym, ap, ◌∙◌, arith}
use Rattle.std.specs.List.{AllByRecursion}
use Rattle.std.proofs.ByRecursion.{All-get_or}
use Rattle.ancestry.specs.Numbers.{spelled_on, spelled, digits}
use Rattle.ancestry.specs.declared.id.Id.{Id}
use Rattle.ancestry.specs.Digits.{digits-spelled}

-- the words of an id, the most significant first
abbrev pub words : Id → List ℕ
words i = i.first ∷ i.second ∷ i.third ∷ i.fourth ∷ i.fifth ∷ []

-- the number of an id: its words of 32 bits read as one, the most significant first
abbrev pub num : Id → ℕ
num i =
    (((i.first * 4294967296 + i.second) * 4294967296 + i.third) * 4294967296 + i.fourth) * 4294967296 + i.fifth

-- the numbers of ids, and of one that may be absent
abbrev pub nums : List Id → List ℕ
nums is = map num is

abbrev pub num_if : Option Id → Option ℕ
num_if i = option_map num i

-- ids are equal and compare by their words
abbrev pub same_words : Id → Id → Bool
same_words a b =
    a.first == b.first && (a.second == b.second && (a.third == b.third && (a.fourth == b.fourth && a.fifth == b.fifth)))

abbrev pub words_cmp : Id → Id → Ordering
words_cmp a b = slice_cmp nat_cmp (words a) (words b)

-- which is as their numbers
abbrev pub same_id : Id → Id → Bool
same_id a b = nat_eq (num a) (num b)

abbrev pub id_cmp : Id → Id → Ordering
id_cmp a b = nat_cmp (num a) (num b)

-- each word has 32 bits, as every id that the program holds has
pub record Words (i : Id) : Type 0 where
  pub first : i.first < 4294967296
  pub second : i.second < 4294967296
  pub third : i.third < 4294967296
  pub fourth : i.fourth < 4294967296
  pub fifth : i.fifth < 4294967296

abbrev pub word_bits : (i : Id) → Words i → AllByRecursion (λ w. w < 4294967296) (words i)
word_bits i w = (w.first, (w.second, (w.third, (w.fourth, (w.fifth, tt)))))

-- the words spell the number
pub spelled-words : (i : Id) → spelled 4294967296 (words i) ≡ num i
unfolding spelled_on
spelled-words i = omega arith

-- so they are its digits
pub digits-words : (i : Id) → Words i → digits 4294967296 5 (num i) ≡ words i
digits-words i w =
    ap (digits 4294967296 5) (sym (spelled-words i))
    ∙ digits-spelled 4294967296 (words i) 5 refl (λ k l. All-get_or (λ d. d < 4294967296) (words i) k 0 l (word_bits i w))

-- the id that has these words
abbrev pub of_words : List ℕ → Id
of_words ws = record {
  first = slice_index_or ws 0 0;
  second = slice_index_or ws 1 0;
  third = slice_index_or ws 2 0;
  fourth = slice_index_or ws 3 0;
  fifth = slice_index_or ws 4 0;
}

-- the id of a number
abbrev pub words_of : ℕ → Id
words_of n = of_words (digits 4294967296 5 n)

-- an id has the words of its number
pub words_back : (i : Id) → Words i → words_of (num i) ≡ i
words_back i w = ap of_words (digits-words i w)
