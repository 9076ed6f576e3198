-- What the code of the walk does, step by step.
use Rattle.std.proofs.Common.{◌≡◌, ℕ, zero, suc, ◌+◌, ◌<◌, ◌≤◌, true, false, ltb, List, [], ◌∷◌, ◌++◌, length, take, set, Some, Option, sym, refl, ap, ◌∙◌, add-one, arith}
use Rattle.std.specs.List.{slice_get}
use Rattle.std.proofs.lemmas.Bool.{or_left, or_right, or_from, lt-ltb, le-ltb}
use Rattle.ancestry.specs.Commits.{Commit}
use Rattle.painting.proofs.Counts.{total-set}
use Rattle.painting.specs.Marks.{mark, seen, unmet, total}
use Rattle.painting.specs.Walks.{Walk, level, meet, meet_all}
use Rattle.painting.specs.declared.marks.Mark.{Mark}

pub meet_met : (H : List Commit) (low r : ℕ) (w : Walk) → (mark w.marks r).met ≡ true → w ≡ meet H low r w
unfolding meet
meet_met H low r w e = rw (or_left (mark w.marks r).met (ltb (level H r) low) e) refl

pub meet_below : (H : List Commit) (low r : ℕ) (w : Walk) → level H r < low → w ≡ meet H low r w
unfolding meet
meet_below H low r w l = rw (or_right (mark w.marks r).met (ltb (level H r) low) (lt-ltb (level H r) low l)) refl

pub meet-push : (H : List Commit) (low r : ℕ) (ms : List Mark) (st : List ℕ) (n : Mark) → (mark ms r).met ≡ false → low ≤ level H r → n ≡ seen (mark ms r)
    → ◌≡◌ {A = Walk} (record { marks = set ms r n; stack = st ++ r ∷ [] }) (meet H low r (record { marks = ms; stack = st }))
unfolding meet
meet-push H low r ms st n f b e = rw (or_from (mark ms r).met (ltb (level H r) low) f (le-ltb (level H r) low b), e) refl

pub unmet-push : (r : ℕ) (ms : List Mark) (n : Mark) → r < length ms → (mark ms r).met ≡ false → n ≡ seen (mark ms r) → total unmet (set ms r n) + 1 ≡ total unmet ms
unmet-push r ms n l f e =
    let a : unmet (mark ms r) ≡ 1 = rw f refl in
    let b : unmet n ≡ 0 = ap unmet e in
    omega (arith, total-set unmet ms r n l)

some_is : (a b : ℕ) → ◌≡◌ {A = Option ℕ} (Some a) (Some b) → a ≡ b
some_is a b e = cc

step : (H : List Commit) (low : ℕ) (rs : List ℕ) (n r : ℕ) (w : Walk) → slice_get rs n ≡ Some r → meet H low r (meet_all H low (take n rs) w) ≡ meet_all H low (take (suc n) rs) w
unfolding meet_all
step H low [] n r w e = let z : ◌≡◌ {A = ℕ} 0 1 = cc in absurd (omega arith)
step H low (x ∷ rs) zero r w e = ap (λ (y : ℕ). meet H low y w) (sym (some_is x r e))
step H low (x ∷ rs) (suc n) r w e = step H low rs n r (meet H low x w) e

pub meet_all_none : (H : List Commit) (low : ℕ) (w : Walk) → w ≡ meet_all H low [] w
unfolding meet_all
meet_all_none H low w = refl

pub meet_all_more : (H : List Commit) (low : ℕ) (rs : List ℕ) (n r : ℕ) (w v : Walk) → slice_get rs n ≡ Some r → v ≡ meet_all H low (take n rs) w → meet H low r v ≡ meet_all H low (take (n + 1) rs) w
meet_all_more H low rs n r w v e h = ap (meet H low r) h ∙ step H low rs n r w e ∙ ap (λ (k : ℕ). meet_all H low (take k rs) w) (sym (add-one n))
