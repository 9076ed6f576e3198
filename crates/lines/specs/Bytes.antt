-- Lines of a text and fields of a line, as lists of bytes.
use Rattle.std.specs.Prelude.{ℕ, zero, suc, ◌+◌, ◌-◌, Bool, false, cond, not, ◌||◌, List, [], ◌∷◌, map, length, take, drop, None, Option, ◌==◌}
use Rattle.std.specs.Borrow.{Bor}
use Rattle.std.specs.List.{slice_get, prefix_len, suffix_len, onto_first}

-- a space, a tab or a CR
abbrev pub blank : ℕ → Bool
blank b = b == 32 || b == 9 || b == 13

abbrev pub in_field : ℕ → Bool
in_field b = not (blank b)

-- a line ends at LF
abbrev pub in_line : ℕ → Bool
in_line b = not (b == 10)

-- the text begins with the byte
abbrev pub starts : ℕ → List ℕ → Bool
starts b [] = false
starts b (c ∷ cs) = c == b

-- the first line of a text
abbrev pub line_of : List ℕ → List ℕ
line_of t = take (prefix_len in_line t) t

-- what follows the LF that ends the first line
abbrev pub after_line : List ℕ → List ℕ
after_line t = drop (prefix_len in_line t + 1) t

-- the lines of a text, each ended by LF; the last needs none
unfoldable pub lines_of : List ℕ → List (List ℕ)
lines_of [] = []
lines_of (b ∷ bs) = cond (in_line b) (onto_first b (lines_of bs)) ([] ∷ lines_of bs)

-- without the blanks at the end
abbrev pub trimmed_end : List ℕ → List ℕ
trimmed_end t = take (length t - suffix_len blank t) t

-- without the blanks at both ends
abbrev pub trimmed : List ℕ → List ℕ
trimmed t = drop (prefix_len blank (trimmed_end t)) (trimmed_end t)

-- a line that says nothing, once its blanks are off: it is empty, or a comment
abbrev pub passed : List ℕ → Bool
passed l = length l == 0 || starts 35 l

-- the line begins with a byte of a field
abbrev pub begins : List ℕ → Bool
begins [] = false
begins (b ∷ bs) = in_field b

-- the fields of a line, parted by blanks: a byte that is no blank stands in one field with the next if that is no blank either
unfoldable pub fields_of : List ℕ → List (List ℕ)
fields_of [] = []
fields_of (b ∷ bs) = cond (blank b) (fields_of bs) (cond (begins bs) (onto_first b (fields_of bs)) ((b ∷ []) ∷ fields_of bs))

-- what lent fields hold
abbrev pub texts : List (Bor (List ℕ)) → List (List ℕ)
texts fs = map (λ f. f.now) fs

-- a field by its number, from 1
abbrev pub field_of : List (List ℕ) → ℕ → Option (List ℕ)
field_of fs zero = None
field_of fs (suc n) = slice_get fs n
