-- The best of a set.
use Rattle.std.proofs.Common.{◌≡◌, ℕ, zero, suc, ◌<◌, ◌≤◌, Bool, true, false, not, ◌&&◌, ◌||◌, eqb, ltb, List, length, sym, refl, ap, ◌∙◌, ⊎_elim, arith}
use Rattle.std.proofs.lemmas.Bool.{false≢true, eqb-true, eqb-false, eq-eqb, ltb-true, lt-ltb, or_cases, or_left, or_right, and_parts, and_from}
use Rattle.ancestry.specs.Sets.{member, size}
use Rattle.ancestry.specs.Commits.{Commit, at}
use Rattle.ancestry.specs.Reaching.{Reaches, itself, through, reaches}
use Rattle.ancestry.specs.Keys.{better}
use Rattle.ancestry.specs.Lawful.{Lawful}
use Rattle.ancestry.specs.Bases.{ranked, unreached, best}
use Rattle.ancestry.proofs.Sets.{same, not_so, every_intro, every_elim, every_cong, keep_cong, member-keep, member-ordered, size_most, size_less}
use Rattle.ancestry.proofs.Reach.{differ, reaches_itself, reaches_sound, reaches_trans, Reaches-trans}

pub member-ranked : (H : List Commit) (p : ℕ) → member p (ranked H) ≡ ltb p (length H)
unfolding ranked
member-ranked H p = member-ordered (λ p q. better (at H p) (at H q)) p (length H)

pub in_ranked : (H : List Commit) (p : ℕ) → p < length H → member p (ranked H) ≡ true
in_ranked H p l = member-ranked H p ∙ lt-ltb p (length H) l

pub ranked_in : (H : List Commit) (p : ℕ) → member p (ranked H) ≡ true → p < length H
ranked_in H p m = ltb-true p (length H) (sym (member-ranked H p) ∙ m)

-- no other place of the set reaches p
abbrev pub Unreached : List Commit → (ℕ → Bool) → ℕ → Type 0
Unreached H S p = (q : ℕ) → q < length H → S q ≡ true → reaches H q p ≡ true → q ≡ p

pub unreached_says : (H : List Commit) (S : ℕ → Bool) (p : ℕ) → unreached H S p ≡ true → Unreached H S p
unfolding unreached
unreached_says H S p u q l s r = ⊎_elim
    (λ (e : eqb q p ≡ true). eqb-true q p e)
    (λ (n : not (S q && reaches H q p) ≡ true). absurd (false≢true (rw (s, r) at n)))
    (or_cases (eqb q p) (not (S q && reaches H q p)) (every_elim (λ q. eqb q p || not (S q && reaches H q p)) (ranked H) u q (in_ranked H q l)))

pub says_unreached : (H : List Commit) (S : ℕ → Bool) (p : ℕ) → Unreached H S p → unreached H S p ≡ true
unfolding unreached
says_unreached H S p u = every_intro (λ q. eqb q p || not (S q && reaches H q p)) (ranked H) (λ q m. go q (u q (ranked_in H q m)) (S q) refl (reaches H q p) refl)
  where
    go : (q : ℕ) → (S q ≡ true → reaches H q p ≡ true → q ≡ p) → (a : Bool) → S q ≡ a → (b : Bool) → reaches H q p ≡ b → (eqb q p || not (a && b)) ≡ true
    go q f true e true k = or_left (eqb q p) false (eq-eqb q p (f e k))
    go q f true e false k = or_right (eqb q p) true refl
    go q f false e b k = or_right (eqb q p) true refl

pub best_intro : (H : List Commit) (S : ℕ → Bool) (p : ℕ) → p < length H → S p ≡ true → Unreached H S p → member p (best H S) ≡ true
unfolding best
best_intro H S p l s u = member-keep (λ p. S p && unreached H S p) p (ranked H) ∙ and_from (member p (ranked H)) (S p && unreached H S p) (in_ranked H p l) (and_from (S p) (unreached H S p) s (says_unreached H S p u))

pub record Chosen (H : List Commit) (S : ℕ → Bool) (p : ℕ) : Type 0 where
  pub below : p < length H
  pub of : S p ≡ true
  pub alone : Unreached H S p

pub best_elim : (H : List Commit) (S : ℕ → Bool) (p : ℕ) → member p (best H S) ≡ true → Chosen H S p
unfolding best
best_elim H S p m =
    let a = and_parts (member p (ranked H)) (S p && unreached H S p) (sym (member-keep (λ p. S p && unreached H S p) p (ranked H)) ∙ m) in
    let b = and_parts (S p) (unreached H S p) a.1 in
    record { below = ranked_in H p a.0; of = b.0; alone = unreached_says H S p b.1 }

-- two that reach one another are one
pub antisym : (H : List Commit) → Lawful H → (p q : ℕ) → p < length H → Reaches H p q → Reaches H q p → p ≡ q
antisym H L p q l (itself e) s = e
antisym H L p q l (through {r = r} m t) s = absurd (L.acyclic p r l m (Reaches-trans H p q s t))

pub reached_inside : (H : List Commit) → Lawful H → (q : ℕ) {p : ℕ} → p < length H → Reaches H p q → q < length H
reached_inside H L q l (itself e) = rw (← e) l
reached_inside H L q {p} l (through {r = r} m t) = reached_inside H L q (L.inside p r l m) t

module _ (H : List Commit) (L : Lawful H) where
  -- of a set and a part of it from which all of the set is reached, the best are the same
  pub best_part : (S B : ℕ → Bool) → ((p : ℕ) → p < length H → B p ≡ true → S p ≡ true)
      → ((p : ℕ) → p < length H → S p ≡ true → (b : ℕ) × (b < length H) × (B b ≡ true) × (reaches H b p ≡ true)) → best H B ≡ best H S
  unfolding best
  best_part S B sub dom = keep_cong (λ p. B p && unreached H B p) (λ p. S p && unreached H S p) (ranked H)
      (λ p m. same (B p && unreached H B p) (S p && unreached H S p) (to p (ranked_in H p m)) (fro p (ranked_in H p m)))
    where
      to : (p : ℕ) → p < length H → (B p && unreached H B p) ≡ true → (S p && unreached H S p) ≡ true
      to p l h = let a = and_parts (B p) (unreached H B p) h in
          and_from (S p) (unreached H S p) (sub p l a.0) (says_unreached H S p (λ q k s r.
          let d = dom q k s in
          let e : d.0 ≡ p = unreached_says H B p a.1 d.0 d.1 d.2 (reaches_trans H d.0 q p l d.3 r) in
          antisym H L q p k (reaches_sound H q p r) (reaches_sound H p q (rw e at d.3))))

      fro : (p : ℕ) → p < length H → (S p && unreached H S p) ≡ true → (B p && unreached H B p) ≡ true
      fro p l h = let a = and_parts (S p) (unreached H S p) h in
          let d = dom p l a.0 in
          let e : d.0 ≡ p = unreached_says H S p a.1 d.0 d.1 (sub d.0 d.1 d.2) d.3 in
          and_from (B p) (unreached H B p) (rw e at d.2) (says_unreached H B p (λ q k s r. unreached_says H S p a.1 q k (sub q k s) r))

  -- each of a set is reached from one of its best
  pub dominated : (S : ℕ → Bool) (k p : ℕ) → size (λ r. reaches H r p) (length H) ≤ k → p < length H → S p ≡ true
      → (b : ℕ) × (b < length H) × (member b (best H S) ≡ true) × (reaches H b p ≡ true)
  dominated S zero p fuel l s = absurd (let m : size (λ _. false) (length H) < size (λ r. reaches H r p) (length H) = size_less (λ _. false) (λ r. reaches H r p) (length H) p (λ r _ h. absurd (false≢true h)) l refl (reaches_itself H p) in omega arith)
  dominated S (suc k) p fuel l s = ⊎_elim
      (λ (d : (q : ℕ) × (q < length H) × (eqb q p ≡ false) × ((S q && reaches H q p) ≡ true)).
      let q = d.0 in
      let a = and_parts (S q) (reaches H q p) d.3 in
      let no' : reaches H p q ≡ false = not_so (reaches H p q) (λ h. eqb-false q p d.2 (antisym H L q p d.1 (reaches_sound H q p a.1) (reaches_sound H p q h))) in
      let m : size (λ r. reaches H r q) (length H) < size (λ r. reaches H r p) (length H) = size_less (λ r. reaches H r q) (λ r. reaches H r p) (length H) p (λ r _ h. reaches_trans H r q p l h a.1) l no' (reaches_itself H p) in
      let b = dominated S k q (omega arith) d.1 a.0 in
      (b.0, b.1, b.2, reaches_trans H b.0 q p l b.3 a.1))
      (λ (u : (q : ℕ) → q < length H → (S q && reaches H q p) ≡ true → eqb q p ≡ true).
      (p, l, best_intro H S p l s (λ q k h r. eqb-true q p (u q k (and_from (S q) (reaches H q p) h r))), reaches_itself H p))
      (differ (λ q. eqb q p) (λ q. S q && reaches H q p) (length H))

  pub above : (S : ℕ → Bool) (p : ℕ) → p < length H → S p ≡ true
      → (b : ℕ) × (b < length H) × (member b (best H S) ≡ true) × (reaches H b p ≡ true)
  above S p l s = dominated S (length H) p (size_most (λ r. reaches H r p) (length H)) l s

pub best_cong : (H : List Commit) (S T : ℕ → Bool) → ((p : ℕ) → p < length H → S p ≡ T p) → best H S ≡ best H T
unfolding best unreached
best_cong H S T e = keep_cong (λ p. S p && unreached H S p) (λ p. T p && unreached H T p) (ranked H)
    (λ p m. rw (e p (ranked_in H p m)) (ap (λ (b : Bool). T p && b) (every_cong (λ q. eqb q p || not (S q && reaches H q p)) (λ q. eqb q p || not (T q && reaches H q p)) (ranked H) (λ q k. rw (e q (ranked_in H q k))))))
