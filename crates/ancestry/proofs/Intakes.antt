-- What refuses a commit is the lowest refusal that applies; a commit that none meets, appended, keeps every law, and every
-- earlier answer.
use Rattle.std.proofs.Common.{◌≡◌, ℕ, ◌<◌, ◌≤◌, Bool, true, false, cond, ltb, leb, ◌⊎◌, List, [], ◌∷◌, ◌++◌, length, Some, None, Option, sym, refl, ap, ◌∙◌, subst, inl, inr, ⊎_elim, arith}
use Rattle.std.proofs.lemmas.List.{append_assoc, append-nil}
use Rattle.std.proofs.lemmas.Bool.{false≢true, both_ways, eqb-false, ltb-false, lt-ltb, le-leb, cases_lt, and_from}
use Rattle.ancestry.specs.Sets.{any, member, absent}
use Rattle.ancestry.specs.Commits.{Commit, at, parents_of}
use Rattle.ancestry.specs.Reaching.{Reaches}
use Rattle.ancestry.specs.Keys.{rank}
use Rattle.ancestry.specs.Lawful.{Lawful, Held}
use Rattle.ancestry.specs.Intake.{number, exceeds, applies, first_that, refusal, Lowest}
use Rattle.ancestry.specs.Theorems.{GrowthLaw, RefusalLaw, IntakeLaw, UnchangedLaw}
use Rattle.ancestry.specs.declared.refusal.Refusal.{Refusal}
use Rattle.ancestry.specs.declared.refusal.Refusal.TheVariants.{DateOutOfRange, GenerationTooHigh, TooManyParents, IdHeld, NoSuchParent, GenerationRises, Full, TooManyOthers, WorkspaceShort}
use Rattle.ancestry.proofs.Sets.{any_intro}
use Rattle.ancestry.proofs.Best.{reached_inside}
use Rattle.ancestry.proofs.Join.{place_some}
use Rattle.ancestry.proofs.Grow.{grown, at_old, at_new, parents_old, parents_new, Reaches-down, place_old, keeps, from_parents}
use Rattle.ancestry.proofs.Later.{describe_keeps}

-- each refusal; what is so of those that apply to no commit, the refusals of questions, comes first
each : (P : Refusal → Type 0) → P TooManyOthers → P WorkspaceShort → P DateOutOfRange → P GenerationTooHigh → P TooManyParents → P IdHeld → P NoSuchParent → P GenerationRises → P Full → (f : Refusal) → P f
each P x y a b c d e f g DateOutOfRange = a
each P x y a b c d e f g GenerationTooHigh = b
each P x y a b c d e f g TooManyParents = c
each P x y a b c d e f g IdHeld = d
each P x y a b c d e f g NoSuchParent = e
each P x y a b c d e f g GenerationRises = f
each P x y a b c d e f g Full = g
each P x y a b c d e f g TooManyOthers = x
each P x y a b c d e f g WorkspaceShort = y

pub refusal_law : RefusalLaw
unfolding refusal first_that
refusal_law room H c = date (t DateOutOfRange) refl
  where
    t : Refusal → Bool
    t = applies room H c

    others : t TooManyOthers ≡ false
    others = unfold applies in refl

    short : t WorkspaceShort ≡ false
    short = unfold applies in refl

    Low : ℕ → Refusal → Type 0
    Low n g = number g < n → t g ≡ false

    full : (b : Bool) → t Full ≡ b → t DateOutOfRange ≡ false → t GenerationTooHigh ≡ false → t TooManyParents ≡ false → t IdHeld ≡ false → t NoSuchParent ≡ false → t GenerationRises ≡ false
        → Lowest room H c (cond b (Some Full) None)
    full true e a b c d f g = (e, each (Low 17) (λ _. others) (λ _. short) (λ _. a) (λ _. b) (λ _. c) (λ _. d) (λ _. f) (λ _. g) (λ h. absurd (omega arith)))
    full false e a b c d f g = each (λ r. t r ≡ false) others short a b c d f g e

    rises : (b : Bool) → t GenerationRises ≡ b → t DateOutOfRange ≡ false → t GenerationTooHigh ≡ false → t TooManyParents ≡ false → t IdHeld ≡ false → t NoSuchParent ≡ false
        → Lowest room H c (cond b (Some GenerationRises) (cond (t Full) (Some Full) None))
    rises true e a b c d f = (e, each (Low 16) (λ _. others) (λ _. short) (λ _. a) (λ _. b) (λ _. c) (λ _. d) (λ _. f) (λ h. absurd (omega arith)) (λ h. absurd (omega arith)))
    rises false e a b c d f = full (t Full) refl a b c d f e

    parent : (b : Bool) → t NoSuchParent ≡ b → t DateOutOfRange ≡ false → t GenerationTooHigh ≡ false → t TooManyParents ≡ false → t IdHeld ≡ false
        → Lowest room H c (cond b (Some NoSuchParent) (cond (t GenerationRises) (Some GenerationRises) (cond (t Full) (Some Full) None)))
    parent true e a b c d = (e, each (Low 15) (λ _. others) (λ _. short) (λ _. a) (λ _. b) (λ _. c) (λ _. d) (λ h. absurd (omega arith)) (λ h. absurd (omega arith)) (λ h. absurd (omega arith)))
    parent false e a b c d = rises (t GenerationRises) refl a b c d e

    held : (b : Bool) → t IdHeld ≡ b → t DateOutOfRange ≡ false → t GenerationTooHigh ≡ false → t TooManyParents ≡ false
        → Lowest room H c (cond b (Some IdHeld) (cond (t NoSuchParent) (Some NoSuchParent) (cond (t GenerationRises) (Some GenerationRises) (cond (t Full) (Some Full) None))))
    held true e a b c = (e, each (Low 14) (λ _. others) (λ _. short) (λ _. a) (λ _. b) (λ _. c) (λ h. absurd (omega arith)) (λ h. absurd (omega arith)) (λ h. absurd (omega arith)) (λ h. absurd (omega arith)))
    held false e a b c = parent (t NoSuchParent) refl a b c e

    many : (b : Bool) → t TooManyParents ≡ b → t DateOutOfRange ≡ false → t GenerationTooHigh ≡ false
        → Lowest room H c (cond b (Some TooManyParents) (cond (t IdHeld) (Some IdHeld) (cond (t NoSuchParent) (Some NoSuchParent) (cond (t GenerationRises) (Some GenerationRises) (cond (t Full) (Some Full) None)))))
    many true e a b = (e, each (Low 13) (λ _. others) (λ _. short) (λ _. a) (λ _. b) (λ h. absurd (omega arith)) (λ h. absurd (omega arith)) (λ h. absurd (omega arith)) (λ h. absurd (omega arith)) (λ h. absurd (omega arith)))
    many false e a b = held (t IdHeld) refl a b e

    high : (b : Bool) → t GenerationTooHigh ≡ b → t DateOutOfRange ≡ false
        → Lowest room H c (cond b (Some GenerationTooHigh) (cond (t TooManyParents) (Some TooManyParents) (cond (t IdHeld) (Some IdHeld) (cond (t NoSuchParent) (Some NoSuchParent) (cond (t GenerationRises) (Some GenerationRises) (cond (t Full) (Some Full) None))))))
    high true e a = (e, each (Low 12) (λ _. others) (λ _. short) (λ _. a) (λ h. absurd (omega arith)) (λ h. absurd (omega arith)) (λ h. absurd (omega arith)) (λ h. absurd (omega arith)) (λ h. absurd (omega arith)) (λ h. absurd (omega arith)))
    high false e a = many (t TooManyParents) refl a e

    date : (b : Bool) → t DateOutOfRange ≡ b
        → Lowest room H c (cond b (Some DateOutOfRange) (cond (t GenerationTooHigh) (Some GenerationTooHigh) (cond (t TooManyParents) (Some TooManyParents) (cond (t IdHeld) (Some IdHeld) (cond (t NoSuchParent) (Some NoSuchParent) (cond (t GenerationRises) (Some GenerationRises) (cond (t Full) (Some Full) None)))))))
    date true e = (e, each (Low 11) (λ _. others) (λ _. short) (λ h. absurd (omega arith)) (λ h. absurd (omega arith)) (λ h. absurd (omega arith)) (λ h. absurd (omega arith)) (λ h. absurd (omega arith)) (λ h. absurd (omega arith)) (λ h. absurd (omega arith)))
    date false e = high (t GenerationTooHigh) refl e

-- where nothing refuses, nothing applies
pub none_applies : (room : ℕ) (H : List Commit) (c : Commit) → refusal room H c ≡ None → (f : Refusal) → applies room H c f ≡ false
none_applies room H c e = subst (Lowest room H c) e (refusal_law room H c)

module _ (room : ℕ) (H : List Commit) (c : Commit) (welcome : refusal room H c ≡ None) where
  pub new_id : (p : ℕ) → p < length H → (at H p).id ≡ c.id → ⊥
  unfolding applies absent
  new_id p l e = let r = place_some H c.id p l e in false≢true (sym (rw r.1 at (none_applies room H c welcome IdHeld)))

  pub parent_inside : (r : ℕ) → member r c.parents ≡ true → r < length H
  unfolding applies
  parent_inside r m = ⊎_elim (λ (l : r < length H). l)
      (λ (l : length H ≤ r). absurd (both_ways (any (λ p. leb (length H) p) c.parents) (none_applies room H c welcome NoSuchParent) (any_intro (λ p. leb (length H) p) r c.parents m (le-leb (length H) r l))))
      (cases_lt r (length H))

  pub parent_below : (r : ℕ) → member r c.parents ≡ true → rank (at H r).generation ≤ rank c.generation
  unfolding applies exceeds
  parent_below r m = ⊎_elim
      (λ (l : rank c.generation < rank (at H r).generation). absurd (both_ways (any (exceeds H (rank c.generation)) c.parents) (none_applies room H c welcome GenerationRises)
      (any_intro (exceeds H (rank c.generation)) r c.parents m (and_from (ltb r (length H)) (ltb (rank c.generation) (rank (at H r).generation)) (lt-ltb r (length H) (parent_inside r m)) (lt-ltb (rank c.generation) (rank (at H r).generation) l)))))
      (λ (l : rank (at H r).generation ≤ rank c.generation). l)
      (cases_lt (rank c.generation) (rank (at H r).generation))

  pub few_parents : length c.parents ≤ 16
  unfolding applies
  few_parents = ltb-false 16 (length c.parents) (none_applies room H c welcome TooManyParents)

  pub not_full : length H ≡ room → ⊥
  unfolding applies
  not_full e = eqb-false (length H) room (none_applies room H c welcome Full) e

  -- old or new
  split : (p : ℕ) → p < length (H ++ c ∷ []) → (p < length H) ⊎ (p ≡ length H)
  split p l = ⊎_elim (λ (k : p < length H). inl k) (λ (k : length H ≤ p). inr (omega (arith, rw (grown H c) at l))) (cases_lt p (length H))

  module _ (L : Lawful H) where
    pub lawful_grown : Lawful (H ++ c ∷ [])
    lawful_grown = record { apart = apart'; inside = inside'; acyclic = acyclic'; falling = falling' }
      where
        new_parents : (p r : ℕ) → p ≡ length H → member r (parents_of (H ++ c ∷ []) p) ≡ true → member r c.parents ≡ true
        new_parents p r e m = subst (λ (ps : List ℕ). member r ps ≡ true) (ap (parents_of (H ++ c ∷ [])) e ∙ parents_new H c) m

        old_parents : (p r : ℕ) → p < length H → member r (parents_of (H ++ c ∷ []) p) ≡ true → member r (parents_of H p) ≡ true
        old_parents p r l m = subst (λ (ps : List ℕ). member r ps ≡ true) (parents_old H c p l) m

        id_old : (p : ℕ) → p < length H → (at (H ++ c ∷ []) p).id ≡ (at H p).id
        id_old p l = ap (λ (d : Commit). d.id) (at_old H c p l)

        id_new : (p : ℕ) → p ≡ length H → (at (H ++ c ∷ []) p).id ≡ c.id
        id_new p e = ap (λ (q : ℕ). (at (H ++ c ∷ []) q).id) e ∙ ap (λ (d : Commit). d.id) (at_new H c)

        apart' : (p q : ℕ) → p < length (H ++ c ∷ []) → q < length (H ++ c ∷ []) → (at (H ++ c ∷ []) p).id ≡ (at (H ++ c ∷ []) q).id → p ≡ q
        apart' p q l k e = ⊎_elim
            (λ (x : p < length H). ⊎_elim
            (λ (y : q < length H). L.apart p q x y (sym (id_old p x) ∙ e ∙ id_old q y))
            (λ (y : q ≡ length H). absurd (new_id p x (sym (id_old p x) ∙ e ∙ id_new q y))) (split q k))
            (λ (x : p ≡ length H). ⊎_elim
            (λ (y : q < length H). absurd (new_id q y (sym (id_old q y) ∙ sym e ∙ id_new p x)))
            (λ (y : q ≡ length H). x ∙ sym y) (split q k))
            (split p l)

        parent_old : (p r : ℕ) → p < length (H ++ c ∷ []) → member r (parents_of (H ++ c ∷ []) p) ≡ true → r < length H
        parent_old p r l m = ⊎_elim (λ (x : p < length H). L.inside p r x (old_parents p r x m)) (λ (x : p ≡ length H). parent_inside r (new_parents p r x m)) (split p l)

        inside' : (p r : ℕ) → p < length (H ++ c ∷ []) → member r (parents_of (H ++ c ∷ []) p) ≡ true → r < length (H ++ c ∷ [])
        inside' p r l m = let k : r < length H = parent_old p r l m in rw (grown H c) (omega arith)

        acyclic' : (p r : ℕ) → p < length (H ++ c ∷ []) → member r (parents_of (H ++ c ∷ []) p) ≡ true → Reaches (H ++ c ∷ []) r p → ⊥
        acyclic' p r l m t =
            let k : r < length H = parent_old p r l m in
            let s : Reaches H r p = Reaches-down H c L p k t in
            let i : p < length H = reached_inside H L p k s in
            L.acyclic p r i (old_parents p r i m) s

        generation_old : (p : ℕ) → p < length H → (at (H ++ c ∷ []) p).generation ≡ (at H p).generation
        generation_old p l = ap (λ (d : Commit). d.generation) (at_old H c p l)

        generation_new : (p : ℕ) → p ≡ length H → (at (H ++ c ∷ []) p).generation ≡ c.generation
        generation_new p e = ap (λ (q : ℕ). (at (H ++ c ∷ []) q).generation) e ∙ ap (λ (d : Commit). d.generation) (at_new H c)

        falling' : (p r : ℕ) → p < length (H ++ c ∷ []) → member r (parents_of (H ++ c ∷ []) p) ≡ true → rank (at (H ++ c ∷ []) r).generation ≤ rank (at (H ++ c ∷ []) p).generation
        falling' p r l m = ⊎_elim
            (λ (x : p < length H). rw (generation_old r (parent_old p r l m), generation_old p x) (L.falling p r x (old_parents p r x m)))
            (λ (x : p ≡ length H). rw (generation_old r (parent_old p r l m), generation_new p x) (parent_below r (new_parents p r x m)))
            (split p l)

pub growth_law : GrowthLaw
growth_law room H c L w = record {
  fits = let n : length H ≡ room → ⊥ = not_full room H c w in let f : length H ≤ room = L.fits in rw (grown H c) (omega arith);
  limit = L.limit;
  lawful = lawful_grown room H c w L.lawful;
}

pub intake_law : IntakeLaw
intake_law room H c L w x h = from_parents H c L.lawful (lawful_grown room H c w L.lawful) x h

pub held_later : (H : List Commit) (c : Commit) (i : ℕ) → Held H i → Held (H ++ c ∷ []) i
held_later H c i h = (h.0, place_old H c i h.0 h.1)

pub unchanged_law : UnchangedLaw
unchanged_law room H [] L t f zs hf hz = rw (append-nil H) (refl, refl, λ a. refl)
unchanged_law room H (c ∷ cs) L t f zs hf hz =
    let G : List Commit = H ++ c ∷ [] in
    let j : H ++ c ∷ cs ≡ G ++ cs = sym (append_assoc H (c ∷ []) cs) in
    let r = unchanged_law room G cs (growth_law room H c L t.0) t.1 f zs (held_later H c f hf) (λ i m. held_later H c i (hz i m)) in
    let k = keeps H c L.lawful f zs hf hz in
    rw j (r.0 ∙ k.0, r.1 ∙ k.1, λ a. r.2 a ∙ describe_keeps H c L.lawful a f hf)

-- the first of seven tests that passes
abbrev pub pick : Bool → Bool → Bool → Bool → Bool → Bool → Bool → Option Refusal
pick date high many held parent rises full =
    cond date (Some DateOutOfRange) (cond high (Some GenerationTooHigh) (cond many (Some TooManyParents) (cond held (Some IdHeld) (cond parent (Some NoSuchParent) (cond rises (Some GenerationRises) (cond full (Some Full) None))))))

pub refusal-pick : (room : ℕ) (H : List Commit) (c : Commit) (date high many held parent rises full : Bool)
    → applies room H c DateOutOfRange ≡ date → applies room H c GenerationTooHigh ≡ high → applies room H c TooManyParents ≡ many → applies room H c IdHeld ≡ held
    → applies room H c NoSuchParent ≡ parent → applies room H c GenerationRises ≡ rises → applies room H c Full ≡ full
    → refusal room H c ≡ pick date high many held parent rises full
unfolding refusal first_that
refusal-pick room H c date high many held parent rises full p q r s t u v = rw (p, q, r, s, t, u, v) refl
