-- The tests of what refuses a commit.
use Rattle.std.proofs.Common.{◌≡◌, ℕ, zero, suc, ◌+◌, ◌<◌, ◌≤◌, Bool, true, false, not, ◌&&◌, ◌||◌, eqb, ltb, leb, List, [], ◌∷◌, ◌++◌, length, get_or, take, ℤ, is_some, Some, None, Ok, Option, Result, sym, refl, ap, ◌∙◌, ⊎_elim, arith}
use Rattle.std.proofs.Math.Nat.{eq-or-lt_of_le}
use Rattle.std.proofs.lemmas.List.{take_more}
use Rattle.std.proofs.lemmas.Bool.{lt-ltb, le-ltb}
use Rattle.ancestry.specs.Sets.{any, absent}
use Rattle.ancestry.specs.Commits.{Commit, at, place_of}
use Rattle.ancestry.specs.Keys.{rank}
use Rattle.ancestry.specs.Intake.{in_range, too_high, exceeds, applies, refusal, unless}
use Rattle.ancestry.specs.declared.refusal.Refusal.{Refusal}
use Rattle.ancestry.proofs.Intakes.{pick, refusal-pick}
use Rattle.history.specs.Meaning.{Reads}
use Rattle.history.specs.declared.reader.Entry.{Entry}

-- none of the first k passes; then one passes, or none of k + 1 does
pub any_push : (t : ℕ → Bool) (xs : List ℕ) (x : ℕ) → any t (xs ++ x ∷ []) ≡ (any t xs || t x)
unfolding any
any_push t [] x = go (t x)
  where
    go : (b : Bool) → (b || false) ≡ (false || b)
    go true = refl
    go false = refl
any_push t (y ∷ ys) x = ap (λ (b : Bool). t y || b) (any_push t ys x) ∙ go (t y)
  where
    go : (b : Bool) → (b || (any t ys || t x)) ≡ ((b || any t ys) || t x)
    go true = refl
    go false = refl

pub any_more : (t : ℕ → Bool) (xs : List ℕ) (k : ℕ) → k < length xs → any t (take k xs) ≡ false → t (get_or xs k 0) ≡ false → any t (take (k + 1) xs) ≡ false
any_more t xs k l e f = ap (any t) (take_more xs k 0 l) ∙ any_push t (take k xs) (get_or xs k 0) ∙ rw (e, f) refl

pub any_here : (t : ℕ → Bool) (xs : List ℕ) (k : ℕ) → k < length xs → t (get_or xs k 0) ≡ true → any t xs ≡ true
unfolding any
any_here t [] k l e = absurd (omega arith)
any_here t (x ∷ xs) zero l e = rw e refl
any_here t (x ∷ xs) (suc k) l e = go (t x) (any_here t xs k (omega arith) e)
  where
    go : (b : Bool) → any t xs ≡ true → (b || any t xs) ≡ true
    go true r = refl
    go false r = r

pub some_present : (o : Option ℕ) → is_some o ≡ not (absent o)
unfolding absent
some_present None = refl
some_present (Some p) = refl

pub exceeds_none : (H : List Commit) (g p : ℕ) → length H ≤ p → false ≡ exceeds H g p
unfolding exceeds
exceeds_none H g p l = sym (ap (λ (b : Bool). b && ltb g (rank (at H p).generation)) (le-ltb p (length H) l))

pub exceeds_some : (H : List Commit) (g p : ℕ) (e : Entry) → Reads H p (Some e) → ltb g (rank e.generation) ≡ exceeds H g p
unfolding exceeds
exceeds_some H g p e r = sym (ap (λ (b : Bool). b && ltb g (rank (at H p).generation)) (lt-ltb p (length H) r.held)
    ∙ ap (λ (o : Option ℕ). ltb g (rank o)) (sym r.generation))

pub any-nil : (t : ℕ → Bool) → any t [] ≡ false
unfolding any
any-nil t = refl

-- the refusal by its seven tests
pub by_tests : (room : ℕ) (H : List Commit) (i : ℕ) (g : Option ℕ) (z : ℤ) (ps : List ℕ) (date high many held parent rises full : Bool)
    → in_range z ≡ not date → too_high g ≡ high → ltb 16 (length ps) ≡ many → not (absent (place_of H i)) ≡ held
    → any (λ p. leb (length H) p) ps ≡ parent → any (exceeds H (rank g)) ps ≡ rises → eqb (length H) room ≡ full
    → pick date high many held parent rises full ≡ refusal room H (record { id = i; generation = g; date = z; parents = ps })
unfolding applies
by_tests room H i g z ps date high many held parent rises full p q r s t u v =
    sym (refusal-pick room H (record { id = i; generation = g; date = z; parents = ps }) date high many held parent rises full (ap not p ∙ twice date) q r s t u v)
  where
    twice : (b : Bool) → not (not b) ≡ b
    twice true = refl
    twice false = refl

-- a commit that is admitted is not refused
pub admitted : (o : Option Refusal) → ◌≡◌ {A = Result (Unit {0}) Refusal} (Ok tt) (unless o tt) → o ≡ None
admitted None e = refl
admitted (Some f) e = cc

-- what is not full has room, and so has what is as long
pub room_left : (n m k : ℕ) → m ≡ n → n ≤ k → (n ≡ k → ⊥) → m < k
room_left n m k e l h = ⊎_elim (λ (f : n ≡ k). absurd (h f)) (λ (f : n < k). omega arith) (eq-or-lt_of_le l)
