-- What is left of the results: those that no other of the set reaches.
use Rattle.std.proofs.Common.{◌≡◌, ℕ, ◌+◌, ◌<◌, ◌≤◌, Bool, true, false, cond, not, eqb, ◌⊎◌, List, [], ◌∷◌, length, get_or, take, sym, ap, ◌∙◌, subst, ⊎_elim, arith}
use Rattle.std.proofs.lemmas.List.{take_more}
use Rattle.std.proofs.lemmas.Option.{slice_get-get_or}
use Rattle.std.proofs.lemmas.Bool.{both_ways, cases_eq, cases_Bool, and_parts, and_from, eqb-true, not-true}
use Rattle.ancestry.specs.Sets.{member, keep}
use Rattle.ancestry.specs.Commits.{Commit}
use Rattle.ancestry.specs.Lawful.{Lawful}
use Rattle.ancestry.specs.Reaching.{Reaches, itself, through}
use Rattle.ancestry.specs.Theorems.{Unreached}
use Rattle.ancestry.proofs.Best.{antisym, above}
use Rattle.ancestry.proofs.Reach.{Reaches-trans, reaches_sound}
use Rattle.ancestry.proofs.Sets.{member-keep}
use Rattle.ancestry.proofs.Tallies.{member-cons}
use Rattle.ancestry.proofs.Unique.{member-nil, best_law}
use Rattle.painting.specs.Bits.{flags}
use Rattle.painting.specs.Entries.{times}
use Rattle.painting.specs.Marks.{mark, left}
use Rattle.painting.specs.Painted.{Painted}
use Rattle.painting.specs.Walks.{Walk, level, Done, Fresh, Tracked, Bests}
use Rattle.painting.specs.declared.marks.Mark.{Mark}
use Rattle.painting.proofs.Notes.{times-cons}
use Rattle.painting.proofs.Parents.{nth_member}
use Rattle.painting.proofs.Steps.{member_end}

-- KEEPING SOME OF A LIST
keep-times : (t : ℕ → Bool) (p : ℕ) (ps : List ℕ) → times p (keep t ps) ≤ times p ps
unfolding keep
keep-times t p [] = omega arith
keep-times t p (q ∷ ps) = go (t q) (keep-times t p ps)
  where
    go : (b : Bool) → times p (keep t ps) ≤ times p ps → times p (cond b (q ∷ keep t ps) (keep t ps)) ≤ times p (q ∷ ps)
    go true h = omega (arith, times-cons p q (keep t ps), times-cons p q ps)
    go false h = omega (arith, times-cons p q ps)

keep-length : (t : ℕ → Bool) (ps : List ℕ) → length (keep t ps) ≤ length ps
unfolding keep
keep-length t [] = omega arith
keep-length t (q ∷ ps) = go (t q) (keep-length t ps)
  where
    go : (b : Bool) → length (keep t ps) ≤ length ps → length (cond b (q ∷ keep t ps) (keep t ps)) ≤ length (q ∷ ps)
    go true h = omega arith
    go false h = omega arith

keep_in : (t : ℕ → Bool) (p : ℕ) (ps : List ℕ) → member p ps ≡ true → t p ≡ true → member p (keep t ps) ≡ true
keep_in t p ps m e = member-keep t p ps ∙ and_from (member p ps) (t p) m e

keep_out : (t : ℕ → Bool) (p : ℕ) (ps : List ℕ) → member p (keep t ps) ≡ true → (member p ps ≡ true) × (t p ≡ true)
keep_out t p ps m = and_parts (member p ps) (t p) (sym (member-keep t p ps) ∙ m)

-- a mark of a place above which no result is known
left_from : (m : Mark) → m.stale ≡ false → m.met ≡ false → left m ≡ true
left_from m s e = rw (s, e)

left_parts : (m : Mark) → left m ≡ true → (m.stale ≡ false) × (m.met ≡ false)
left_parts m h = let a = and_parts (not m.stale) (not m.met) h in (not-true m.stale a.0, not-true m.met a.1)

module _ (H : List Commit) (L : Lawful H) (S : ℕ → Bool) (ms : List Mark) (rs : List ℕ) (P : Painted H S ms rs) where
  -- what is kept before any walk
  abbrev first_kept : List ℕ
  first_kept = keep (λ p. left (mark ms p)) rs

  pub kept_all : (p : ℕ) → p < length H → S p ≡ true → Unreached H S p → member p (keep (λ p. left (mark ms p)) rs) ≡ true
  kept_all p l s u = let a = P.all p l s u in keep_in (λ p. left (mark ms p)) p rs a.0 (left_from (mark ms p) a.1 (P.unmet p))

  pub kept_only : (p : ℕ) → member p (keep (λ p. left (mark ms p)) rs) ≡ true → (p < length H) × (S p ≡ true)
  kept_only p m = P.only p (keep_out (λ p. left (mark ms p)) p rs m).0

  pub kept_fresh : Fresh (keep (λ p. left (mark ms p)) rs) ms
  kept_fresh p m = (left_parts (mark ms p) (keep_out (λ p. left (mark ms p)) p rs m).1).0

  -- where at most one is left, it is the best
  pub one_left : length first_kept ≤ 1 → Bests H S first_kept
  one_left few = record {
    all = kept_all;
    only = λ p m.
        let k = kept_only p m in
        let b = above H L S p k.0 k.1 in
        let o = (best_law H L S).0.only b.0 b.2 in
        let e : b.0 ≡ p = single first_kept few b.0 p (kept_all b.0 b.1 o.1 o.2) m in
        (k.0, k.1, subst (Unreached H S) e o.2);
    once = λ p. omega (arith, keep-times (λ p. left (mark ms p)) p rs, P.once p);
  }
    where
      single : (l : List ℕ) → length l ≤ 1 → (x y : ℕ) → member x l ≡ true → member y l ≡ true → x ≡ y
      single [] few x y a b = absurd (member-nil x a)
      single (z ∷ []) few x y a b = only z x a ∙ sym (only z y b)
        where
          only : (z x : ℕ) → member x (z ∷ []) ≡ true → x ≡ z
          only z x a = ⊎_elim (λ (e : eqb x z ≡ true). eqb-true x z e) (λ (e : member x [] ≡ true). absurd (member-nil x e)) (member-cons x z [] a)
      single (z ∷ w ∷ l) few x y a b = absurd (omega arith)

  module _ (low : ℕ) (ns : List Mark) (least : (p : ℕ) → member p first_kept ≡ true → low ≤ level H p) (t : Tracked H low first_kept first_kept (record { marks = ns; stack = [] })) where
    falls : (p q : ℕ) → q < length H → Reaches H q p → level H p ≤ level H q
    falls p q l (itself e) = rw e (omega arith)
    falls p q l (through {r = r} m d) = omega (arith, L.falling q r l m, falls p r (L.inside q r l m) d)

    done_of : (x : ℕ) → (mark ns x).met ≡ true → Done H low ns x
    done_of x e = ⊎_elim (λ (m : member x [] ≡ true). absurd (member-nil x m)) (λ (d : Done H low ns x). d) (t.closed x e)

    -- met all the way down to a result
    down : (p q : ℕ) → q < length H → low ≤ level H p → (mark ns q).met ≡ true → Reaches H q p → (mark ns p).met ≡ true
    down p q l h f (itself e) = subst (λ (y : ℕ). (mark ns y).met ≡ true) e f
    down p q l h f (through {r = r} m d) = ⊎_elim (λ (g : (mark ns r).met ≡ true). down p r (L.inside q r l m) h g d) (λ (k : level H r < low). absurd (omega (arith, falls p r (L.inside q r l m) d))) (done_of q f r m)

    met_below : (p q : ℕ) → q < length H → member p first_kept ≡ true → member q first_kept ≡ true → (q ≡ p → ⊥) → Reaches H q p → (mark ns p).met ≡ true
    met_below p q lq cp cq ne (itself e) = absurd (ne e)
    met_below p q lq cp cq ne (through {r = r} m d) =
        let lr : r < length H = L.inside q r lq m in
        ⊎_elim (λ (g : (mark ns r).met ≡ true). down p r lr (least p cp) g d) (λ (k : level H r < low). absurd (omega (arith, falls p r lr d, least p cp))) (t.started q cq r m)

    pub bests_left : Bests H S (keep (λ p. left (mark ns p)) (keep (λ p. left (mark ms p)) rs))
    bests_left = record {
      all = λ p l s u.
          let k = kept_all p l s u in
          let unmet : (mark ns p).met ≡ false = ⊎_elim
          (λ (e : (mark ns p).met ≡ true).
          let b = t.sound p e in
          let o = kept_only b.top b.chosen in
          let z : b.top ≡ p = u b.top o.0 o.1 (through b.parent b.reached) in
          absurd (L.acyclic b.top b.child o.0 b.parent (subst (λ (y : ℕ). Reaches H b.child y) (sym z) b.reached)))
          (λ (e : (mark ns p).met ≡ false). e) (cases_Bool (mark ns p).met) in
          keep_in (λ p. left (mark ns p)) p first_kept k (left_from (mark ns p) (t.fresh p k) unmet);
      only = λ p m.
          let a = keep_out (λ p. left (mark ns p)) p first_kept m in
          let k = kept_only p a.0 in (
            k.0,
            k.1,
            λ q lq sq r.
                let b = above H L S q lq sq in
                let o = (best_law H L S).0.only b.0 b.2 in
                let kb = kept_all b.0 b.1 o.1 o.2 in
                let rb : Reaches H b.0 q = reaches_sound H b.0 q b.3 in
                ⊎_elim
                (λ (z : b.0 ≡ p). antisym H L q p lq r (subst (λ (y : ℕ). Reaches H y q) z rb))
                (λ (z : b.0 ≡ p → ⊥). absurd (both_ways (mark ns p).met (left_parts (mark ns p) a.1).1 (met_below p b.0 b.1 a.0 kb z (Reaches-trans H p q r rb))))
                (cases_eq b.0 p),
          );
      once = λ p. omega (arith, keep-times (λ p. left (mark ns p)) p first_kept, keep-times (λ p. left (mark ms p)) p rs, P.once p);
    }

-- a member of one more is one of the earlier, or the new one
pub member_more : (p : ℕ) (ps : List ℕ) (i : ℕ) → i < length ps → member p (take (i + 1) ps) ≡ true → (member p (take i ps) ≡ true) ⊎ (p ≡ get_or ps i 0)
member_more p ps i l m = member_end p (get_or ps i 0) (take i ps) (subst (λ (x : List ℕ). member p x ≡ true) (take_more ps i 0 l) m)

pub getD-member : (ps : List ℕ) (i : ℕ) → i < length ps → member (get_or ps i 0) ps ≡ true
getD-member ps i l = nth_member ps i (get_or ps i 0) (slice_get-get_or ps i 0 l)

-- WHAT THE CODE'S STEPS LEAVE
pub keep_inside : (n : ℕ) (ms : List Mark) (ps qs : List ℕ) → qs ≡ keep (λ p. left (mark ms p)) ps → ((p : ℕ) → member p ps ≡ true → p < n) → (p : ℕ) → member p qs ≡ true → p < n
keep_inside n ms ps qs e h p m = h p (keep_out (λ p. left (mark ms p)) p ps (subst (λ (l : List ℕ). member p l ≡ true) e m)).0

pub keep_fresh : (ms : List Mark) (ps qs : List ℕ) → qs ≡ keep (λ p. left (mark ms p)) ps → Fresh qs ms
keep_fresh ms ps qs e p m = (left_parts (mark ms p) (keep_out (λ p. left (mark ms p)) p ps (subst (λ (l : List ℕ). member p l ≡ true) e m)).1).0

pub keep_fewer : (ms : List Mark) (ps qs : List ℕ) → qs ≡ keep (λ p. left (mark ms p)) ps → length qs ≤ length ps
keep_fewer ms ps qs e = omega (arith, ap length e, keep-length (λ p. left (mark ms p)) ps)

-- the marks as they are lent, under another name
pub keep_at : (ps qs l ms : List ℕ) → l ≡ ms → qs ≡ keep (λ p. left (mark (flags l) p)) ps → qs ≡ keep (λ p. left (mark (flags ms) p)) ps
keep_at ps qs l ms e k = k ∙ ap (λ (x : List ℕ). keep (λ p. left (mark (flags x) p)) ps) e

pub bests_one : (H : List Commit) → Lawful H → (S : ℕ → Bool) (ms : List Mark) (ps qs : List ℕ) → qs ≡ keep (λ p. left (mark ms p)) ps → length qs ≤ 1 → Painted H S ms ps → Bests H S qs
bests_one H L S ms ps qs e few P = subst (Bests H S) (sym e) (one_left H L S ms ps P (subst (λ (l : List ℕ). length l ≤ 1) e few))

pub bests_from : (H H₁ H₂ : List Commit) → Lawful H → H₁ ≡ H → H₂ ≡ H → (S : ℕ → Bool) (ms : List Mark) (w₁ w₂ : Walk) (ps qs rs : List ℕ) (low : ℕ)
    → qs ≡ keep (λ p. left (mark ms p)) ps → rs ≡ keep (λ p. left (mark w₂.marks p)) qs → ((p : ℕ) → member p qs ≡ true → low ≤ level H p)
    → Tracked H₁ low qs qs w₁ → ((rs bs : List ℕ) → Tracked H₂ low rs bs w₁ → Tracked H₂ low rs bs w₂) → w₂.stack ≡ []
    → Painted H S ms ps → Bests H S rs
bests_from H H₁ H₂ L e₁ e₂ S ms w₁ w₂ ps qs rs low q r least start walk over P =
    let fk : List ℕ = keep (λ p. left (mark ms p)) ps in
    let t₁ : Tracked H low fk fk w₁ = subst (λ (l : List ℕ). Tracked H low l l w₁) q (subst (λ (G : List Commit). Tracked G low qs qs w₁) e₁ start) in
    let go : (rs bs : List ℕ) → Tracked H low rs bs w₁ → Tracked H low rs bs w₂ = subst (λ (G : List Commit). (rs bs : List ℕ) → Tracked G low rs bs w₁ → Tracked G low rs bs w₂) e₂ walk in
    let t₂ : Tracked H low fk fk (record { marks = w₂.marks; stack = [] }) = subst (λ (l : List ℕ). Tracked H low fk fk (record { marks = w₂.marks; stack = l })) over (go fk fk t₁) in
    let least' : (p : ℕ) → member p fk ≡ true → low ≤ level H p = subst (λ (l : List ℕ). (p : ℕ) → member p l ≡ true → low ≤ level H p) q least in
    let e : rs ≡ keep (λ p. left (mark w₂.marks p)) fk = r ∙ ap (keep (λ p. left (mark w₂.marks p))) q in
    subst (Bests H S) (sym e) (bests_left H L S ms ps P low w₂.marks least' t₂)
