-- Reading digits one by one, with a value that stops at the largest u64.
use Rattle.std.proofs.Common.{◌≡◌, ℕ, ◌+◌, ◌-◌, ◌*◌, min, true, false, List, [], ◌∷◌, length, Some, None, refl, ap, ◌∙◌, arith}
use Rattle.std.specs.Char.{is_ascii_digit}
use Rattle.std.specs.List.{fold, list_all}
use Rattle.orders.specs.Spelling.{decimal_of}

abbrev pub largest : ℕ
largest = 18446744073709551615

-- one digit more, with saturating operations
abbrev pub saturated : ℕ → ℕ → ℕ
saturated n c = min (min (n * 10) largest + (c - 48)) largest

-- a value that stopped at the largest goes on as the whole value
whole : (n : ℕ) (t : List ℕ) → fold saturated (min n largest) t ≡ min (fold (λ m c. m * 10 + (c - 48)) n t) largest
whole n [] = refl
whole n (c ∷ cs) =
    let e : saturated (min n largest) c ≡ min (n * 10 + (c - 48)) largest = omega arith in
    ap (λ m. fold saturated m cs) e ∙ whole (n * 10 + (c - 48)) cs

pub decimal_some : (t : List ℕ) (v : ℕ) → (length t ≡ 0 → ⊥) → list_all is_ascii_digit t ≡ true → v ≡ fold saturated 0 t → Some v ≡ decimal_of t
unfolding decimal_of
decimal_some [] v some digits e = absurd (some refl)
decimal_some (c ∷ cs) v some digits e = rw digits (ap Some (e ∙ whole 0 (c ∷ cs)))

pub decimal_empty : (t : List ℕ) → length t ≡ 0 → None ≡ decimal_of t
unfolding decimal_of
decimal_empty [] e = refl
decimal_empty (c ∷ cs) e = absurd (omega arith)

pub decimal_other : (t : List ℕ) → list_all is_ascii_digit t ≡ false → None ≡ decimal_of t
unfolding decimal_of
decimal_other [] e = refl
decimal_other (c ∷ cs) e = rw e refl
