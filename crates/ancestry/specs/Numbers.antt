-- Numbers as bytes and letters.
use Rattle.std.specs.Prelude.{ℕ, zero, suc, ◌+◌, ◌*◌, ◌/◌, ◌%◌, Bool, cond, not, List, [], ◌∷◌, ◌++◌, map, length, take, drop, Some, None, codes, Option, ◌==◌, slice_index}
use Rattle.std.specs.Option.{unwrap_or}
use Rattle.ancestry.specs.Sets.{every, index_of, absent}

-- the number that n and then the digits spell in a base, the most significant first
unfoldable pub spelled_on : ℕ → ℕ → List ℕ → ℕ
spelled_on b n [] = n
spelled_on b n (d ∷ ds) = spelled_on b (n * b + d) ds

abbrev pub spelled : ℕ → List ℕ → ℕ
spelled b ds = spelled_on b 0 ds

-- n of a list from `at` on
abbrev pub part : List ℕ → ℕ → ℕ → List ℕ
part xs at n = take n (drop at xs)

-- the last k digits of a number in a base, the most significant first
unfoldable pub digits : ℕ → ℕ → ℕ → List ℕ
digits b zero n = []
digits b (suc k) n = digits b k (n / b) ++ (n % b) ∷ []

-- the sixteen letters
unfoldable pub letters : List ℕ
letters = codes "0123456789abcdef"

abbrev pub letter : ℕ → ℕ
letter n = slice_index letters n

abbrev pub is_letter : ℕ → Bool
is_letter c = not (absent (index_of letters c))

abbrev pub value : ℕ → ℕ
value c = unwrap_or (index_of letters c) 0

-- what letters spell, or none where one of them is no letter
unfoldable pub reading : List ℕ → Option ℕ
reading t = cond (every is_letter t) (Some (spelled 16 (map value t))) None

-- the number that 40 letters spell, or none
unfoldable pub from_hex : List ℕ → Option ℕ
from_hex t = cond (length t == 40) (reading t) None

-- the 40 letters of an id's number
unfoldable pub hex : ℕ → List ℕ
hex n = map letter (digits 16 40 n)
