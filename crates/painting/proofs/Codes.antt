-- Marks as bits: what is written is read again.
use Rattle.std.proofs.Common.{◌≡◌, ℕ, zero, suc, Bool, true, false, List, [], ◌∷◌, map, length, get_or, set, refl, ap, ◌∙◌}
use Rattle.std.proofs.lemmas.List.{length-map}
use Rattle.painting.specs.Marks.{mark}
use Rattle.painting.specs.Bits.{bits, of_bits, flags}
use Rattle.painting.specs.declared.marks.Mark.{Mark}

-- the flags of a mark, one by one
abbrev marked : Bool → Bool → Bool → Bool → Bool → Bool → Mark
marked a b c d e f = record { first = a; others = b; stale = c; result = d; waiting = e; met = f }

each : (a b c d e f : Bool) → of_bits (bits (marked a b c d e f)) ≡ marked a b c d e f
each true true true true true true = refl
each true true true true true false = refl
each true true true true false true = refl
each true true true true false false = refl
each true true true false true true = refl
each true true true false true false = refl
each true true true false false true = refl
each true true true false false false = refl
each true true false true true true = refl
each true true false true true false = refl
each true true false true false true = refl
each true true false true false false = refl
each true true false false true true = refl
each true true false false true false = refl
each true true false false false true = refl
each true true false false false false = refl
each true false true true true true = refl
each true false true true true false = refl
each true false true true false true = refl
each true false true true false false = refl
each true false true false true true = refl
each true false true false true false = refl
each true false true false false true = refl
each true false true false false false = refl
each true false false true true true = refl
each true false false true true false = refl
each true false false true false true = refl
each true false false true false false = refl
each true false false false true true = refl
each true false false false true false = refl
each true false false false false true = refl
each true false false false false false = refl
each false true true true true true = refl
each false true true true true false = refl
each false true true true false true = refl
each false true true true false false = refl
each false true true false true true = refl
each false true true false true false = refl
each false true true false false true = refl
each false true true false false false = refl
each false true false true true true = refl
each false true false true true false = refl
each false true false true false true = refl
each false true false true false false = refl
each false true false false true true = refl
each false true false false true false = refl
each false true false false false true = refl
each false true false false false false = refl
each false false true true true true = refl
each false false true true true false = refl
each false false true true false true = refl
each false false true true false false = refl
each false false true false true true = refl
each false false true false true false = refl
each false false true false false true = refl
each false false true false false false = refl
each false false false true true true = refl
each false false false true true false = refl
each false false false true false true = refl
each false false false true false false = refl
each false false false false true true = refl
each false false false false true false = refl
each false false false false false true = refl
each false false false false false false = refl

pub coded : (m : Mark) → of_bits (bits m) ≡ m
coded m = each m.first m.others m.stale m.result m.waiting m.met

pub flag_at : (ms : List ℕ) (p : ℕ) → of_bits (get_or ms p 0) ≡ mark (flags ms) p
unfolding flags
flag_at [] p = refl
flag_at (m ∷ ms) zero = refl
flag_at (m ∷ ms) (suc p) = flag_at ms p

pub flag_set : (ms : List ℕ) (p n : ℕ) (m : Mark) → n ≡ bits m → flags (set ms p n) ≡ set (flags ms) p m
unfolding flags
flag_set [] p n m e = refl
flag_set (x ∷ ms) zero n m e = ap (λ (y : Mark). y ∷ map of_bits ms) (ap of_bits e ∙ coded m)
flag_set (x ∷ ms) (suc p) n m e = ap (λ (l : List Mark). of_bits x ∷ l) (flag_set ms p n m e)

pub length-flags : (ms : List ℕ) → length (flags ms) ≡ length ms
unfolding flags
length-flags ms = length-map ms of_bits
