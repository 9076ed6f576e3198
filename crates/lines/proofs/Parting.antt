-- The parts of a text: its first line, and the fields of a line.
use Rattle.std.proofs.Common.{◌≡◌, ℕ, zero, suc, ◌+◌, ◌<◌, ◌≤◌, Bool, true, false, not, cond, List, [], ◌∷◌, filter, length, take, drop, Some, None, Option, get_or, ◌≢◌, subst, sym, refl, ap, ◌∙◌, ⊎_elim, one-add, arith, ◌==◌}
use Rattle.std.specs.Borrow.{Bor}
use Rattle.std.specs.Option.{MatchOption, option_copied}
use Rattle.std.proofs.lemmas.Option.{slice_get-get_or, slice_get_past}
use Rattle.std.specs.List.{prefix_len, slice_get, slice_split, onto_first}
use Rattle.std.proofs.lemmas.List.{take_all, drop_all}
use Rattle.std.proofs.lemmas.List.Sums.{prefix_len_is}
use Rattle.std.proofs.lemmas.Bool.{cases_Bool}
use Rattle.std.proofs.lemmas.Bool.Decides.{nat_tests}
use Rattle.lines.specs.Bytes.{blank, in_line, line_of, after_line, lines_of, fields_of, field_of}

-- a part that is a field
abbrev pub full : List ℕ → Bool
full part = not (length part == 0)

full-cons : (b : ℕ) (bs : List ℕ) → full (b ∷ bs) ≡ true
full-cons b bs = grind (arith, nat_tests)

-- two bytes that stand in one part stand in one field
joined : (b c : ℕ) (parts : List (List ℕ)) →
    filter full (onto_first b (onto_first c parts)) ≡ onto_first b (filter full (onto_first c parts))
joined b c [] = refl
joined b c (p ∷ ps) = rw (full-cons b (c ∷ p), full-cons c p) refl

-- the fields are the parts between blanks that are not empty
pub fields_are_parts : (t : List ℕ) → filter full (slice_split blank t) ≡ fields_of t
unfolding fields_of
fields_are_parts [] = refl
fields_are_parts (b ∷ []) =
    ⊎_elim (λ (e : blank b ≡ true). rw e refl) (λ (e : blank b ≡ false). rw e refl) (cases_Bool (blank b))
fields_are_parts (b ∷ c ∷ cs) =
    let more = fields_are_parts (c ∷ cs) in
    ⊎_elim
    (λ (e : blank b ≡ true). rw e more)
    (λ (e : blank b ≡ false).
    ⊎_elim
    (λ (f : blank c ≡ true). rw (e, f) (ap (λ fs. (b ∷ []) ∷ fs) (rw f at more)))
    (λ (f : blank c ≡ false).
    rw (e, f) (joined b c (slice_split blank cs) ∙ ap (onto_first b) (rw f at more)))
    (cases_Bool (blank c)))
    (cases_Bool (blank b))

-- what `get` gives
pub got : {X : Type 0} (xs : List X) (i : ℕ) (r : Option (Bor X)) →
    MatchOption r (length xs ≤ i) (λ x. (i < length xs) × ((d : X) → x.now ≡ get_or xs i d)) → option_copied r ≡ slice_get xs i
got xs i None past = sym (slice_get_past xs i past)
got xs i (Some x) here = ap Some (here.1 x.now) ∙ sym (slice_get-get_or xs i x.now here.0)

-- a field by its number is an element by its index
pub numbered : (fs : List (List ℕ)) (n i : ℕ) → n ≡ i + 1 → slice_get fs i ≡ field_of fs n
numbered fs zero i e = absurd (omega arith)
numbered fs (suc n) i e = ap (slice_get fs) (omega arith)

-- the first line goes on to the first LF
line_on : (b : ℕ) (bs : List ℕ) → in_line b ≡ true → onto_first b (lines_of bs) ≡ (b ∷ line_of bs) ∷ lines_of (after_line bs) →
    lines_of (b ∷ bs) ≡ line_of (b ∷ bs) ∷ lines_of (after_line (b ∷ bs))
unfolding lines_of
line_on b bs e joined =
    let n = prefix_len in_line bs in
    let longer : prefix_len in_line (b ∷ bs) ≡ suc n = rw (e, one-add) refl in
    let past : suc n + 1 ≡ suc (n + 1) = omega arith in
    ap (λ v. cond v (onto_first b (lines_of bs)) ([] ∷ lines_of bs)) e
    ∙ joined
    ∙ sym (ap (λ m. (b ∷ take n bs) ∷ lines_of (drop m (b ∷ bs))) past)
    ∙ sym (ap (λ m. take m (b ∷ bs) ∷ lines_of (drop (m + 1) (b ∷ bs))) longer)

-- or ends at once
line_ends : (b : ℕ) (bs : List ℕ) → in_line b ≡ false → lines_of (b ∷ bs) ≡ line_of (b ∷ bs) ∷ lines_of (after_line (b ∷ bs))
unfolding lines_of
line_ends b bs e =
    let none : prefix_len in_line (b ∷ bs) ≡ 0 = rw e refl in
    ap (λ v. cond v (onto_first b (lines_of bs)) ([] ∷ lines_of bs)) e
    ∙ sym (ap (λ m. take m (b ∷ bs) ∷ lines_of (drop (m + 1) (b ∷ bs))) none)

-- a text that is not empty is its first line and the lines of what follows
pub lines_first : (t : List ℕ) → 0 < length t → lines_of t ≡ line_of t ∷ lines_of (after_line t)
unfolding lines_of
lines_first [] h = absurd (omega arith)
lines_first (b ∷ []) h =
    ⊎_elim (λ (e : in_line b ≡ true). line_on b [] e refl) (λ (e : in_line b ≡ false). line_ends b [] e) (cases_Bool (in_line b))
lines_first (b ∷ d ∷ ds) h =
    ⊎_elim
    (λ (e : in_line b ≡ true). line_on b (d ∷ ds) e (ap (onto_first b) (lines_first (d ∷ ds) (omega arith))))
    (λ (e : in_line b ≡ false). line_ends b (d ∷ ds) e)
    (cases_Bool (in_line b))

-- the first line of a text, what follows it, and the lines of both
pub record Parted (t first others : List ℕ) : Type 0 where
  pub line : first ≡ line_of t
  pub rest : others ≡ after_line t
  pub lines : 0 < length t → lines_of t ≡ first ∷ lines_of others

parted_at : (t : List ℕ) (n : ℕ) → prefix_len in_line t ≡ n → Parted t (take n t) (drop (n + 1) t)
parted_at t n e = record {
  line = ap (λ k. take k t) (sym e);
  rest = ap (λ k. drop (k + 1) t) (sym e);
  lines = λ h. rw (← e) (lines_first t h);
}

-- where LF stands first at n
pub parted_at_feed : (t : List ℕ) (n : ℕ) → n < length t → get_or t n 0 ≡ 10 → ((k : ℕ) → k < n → get_or t k 0 ≢ 10) →
    Parted t (take n t) (drop (n + 1) t)
parted_at_feed t n l feed before =
    parted_at t n (prefix_len_is in_line t n 0 (omega arith) (λ k h. let ne = before k h in grind (arith, nat_tests)) (λ _. grind (arith, nat_tests)))

-- where there is no LF
pub parted_whole : (t : List ℕ) → ((k : ℕ) → k < length t → get_or t k 0 ≢ 10) → Parted t t []
parted_whole t none =
    let n = length t in
    let e : prefix_len in_line t ≡ n = prefix_len_is in_line t n 0 (omega arith) (λ k h. let ne = none k h in grind (arith, nat_tests)) (λ h. absurd (omega arith)) in
    let parted = parted_at t n e in
    let line : take n t ≡ t = take_all n t (omega arith) in
    let rest : drop (n + 1) t ≡ [] = drop_all (n + 1) t (omega arith) in
    subst (λ (a : List ℕ). Parted t a []) line (subst (λ (b : List ℕ). Parted t (take n t) b) rest parted)
