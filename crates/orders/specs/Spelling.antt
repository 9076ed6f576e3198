-- The numbers that fields spell.
use Rattle.std.specs.Prelude.{ℕ, ◌+◌, ◌-◌, ◌*◌, min, cond, ◌&&◌, List, [], ◌∷◌, length, drop, ℤ, pos, neg_ℤ, Some, None, Option, ◌==◌}
use Rattle.std.specs.Char.{is_ascii_digit}
use Rattle.std.specs.List.{fold, list_all}
use Rattle.std.specs.Option.{option_map}
use Rattle.lines.specs.Bytes.{starts}

-- the number that decimal digits spell
abbrev pub spelled : List ℕ → ℕ
spelled t = fold (λ n c. n * 10 + (c - 48)) 0 t

-- the number that one or more digits spell; one past the largest u64 counts as that
unfoldable pub decimal_of : List ℕ → Option ℕ
decimal_of [] = None
decimal_of (c ∷ cs) = cond (list_all is_ascii_digit (c ∷ cs)) (Some (min (spelled (c ∷ cs)) 18446744073709551615)) None

-- at least zero; one past the largest i64 counts as that
abbrev pub above_zero : ℕ → ℤ
above_zero n = pos (min n 9223372036854775807)

-- at most zero; one past the smallest i64 counts as that
abbrev pub below_zero : ℕ → ℤ
below_zero n = neg_ℤ (pos (min n 9223372036854775808))

-- digits, with a `-` before them where the date is negative
abbrev pub date_of : List ℕ → Option ℤ
date_of t = cond (starts 45 t) (option_map below_zero (decimal_of (drop 1 t))) (option_map above_zero (decimal_of t))

-- one past the largest u32 counts as that
abbrev pub narrowed : ℕ → Option ℕ
narrowed n = Some (min n 4294967295)

-- a number, or `-` where there is none
abbrev pub generation_of : List ℕ → Option (Option ℕ)
generation_of t = cond (length t == 1 && starts 45 t) (Some None) (option_map narrowed (decimal_of t))
