-- The test `reaches` says what the relation `Reaches` says, of any history.
use Rattle.std.proofs.Common.{◌≡◌, ℕ, zero, suc, ◌<◌, ◌≤◌, Bool, true, false, ◌||◌, eqb, ◌⊎◌, List, length, sym, refl, ap, ◌∙◌, inl, inr, ⊎_elim, arith}
use lib.ListN.{get_or-eq_default}
use Rattle.std.proofs.lemmas.Bool.{false≢true, both_ways, eqb-true, eq-eqb, or_cases, or_left, or_right, cases_lt}
use Rattle.ancestry.specs.Sets.{any, member, size}
use Rattle.ancestry.specs.Commits.{Commit, nobody, at}
use Rattle.ancestry.specs.Reaching.{Reaches, itself, through, within, reaches}
use Rattle.ancestry.specs.Theorems.{ReachingLaw}
use Rattle.ancestry.proofs.Sets.{same, any_intro, any_elim, any_cong, size_most, size_less}

-- beyond the list there are no parents
pub past : (H : List Commit) (p : ℕ) → length H ≤ p → at H p ≡ nobody
unfolding at
past H p h = get_or-eq_default H nobody h

pub within_sound : (H : List Commit) (k p q : ℕ) → within H k p q ≡ true → Reaches H p q
unfolding within
within_sound H zero p q h = itself (eqb-true p q h)
within_sound H (suc k) p q h = ⊎_elim
    (λ (e : eqb p q ≡ true). itself (eqb-true p q e))
    (λ (m : any (λ r. within H k r q) (at H p).parents ≡ true). let r = any_elim (λ r. within H k r q) (at H p).parents m in through r.1 (within_sound H k r.0 q r.2))
    (or_cases (eqb p q) (any (λ r. within H k r q) (at H p).parents) h)

pub within_itself : (H : List Commit) (k p : ℕ) → within H k p p ≡ true
unfolding within
within_itself H zero p = eq-eqb p p refl
within_itself H (suc k) p = or_left (eqb p p) (any (λ r. within H k r p) (at H p).parents) (eq-eqb p p refl)

pub within_more : (H : List Commit) (k p q : ℕ) → within H k p q ≡ true → within H (suc k) p q ≡ true
unfolding within
within_more H zero p q h = or_left (eqb p q) (any (λ r. within H zero r q) (at H p).parents) h
within_more H (suc k) p q h = ⊎_elim
    (λ (e : eqb p q ≡ true). or_left (eqb p q) (any (λ r. within H (suc k) r q) (at H p).parents) e)
    (λ (m : any (λ r. within H k r q) (at H p).parents ≡ true). let r = any_elim (λ r. within H k r q) (at H p).parents m in
    or_right (eqb p q) (any (λ r. within H (suc k) r q) (at H p).parents) (any_intro (λ r. within H (suc k) r q) r.0 (at H p).parents r.1 (within_more H k r.0 q r.2)))
    (or_cases (eqb p q) (any (λ r. within H k r q) (at H p).parents) h)

-- one more parent changes nothing
abbrev pub Stable : List Commit → ℕ → ℕ → Type 0
Stable H k q = (p : ℕ) → within H (suc k) p q ≡ within H k p q

pub stable_more : (H : List Commit) (k q : ℕ) → Stable H k q → Stable H (suc k) q
unfolding within
stable_more H k q s p = ap (λ (b : Bool). eqb p q || b) (any_cong (λ r. within H (suc k) r q) (λ r. within H k r q) (at H p).parents (λ r _. s r))

-- below n, one differs or none does
pub differ : (s t : ℕ → Bool) (n : ℕ) → ((p : ℕ) × (p < n) × (s p ≡ false) × (t p ≡ true)) ⊎ ((p : ℕ) → p < n → t p ≡ true → s p ≡ true)
differ s t zero = inr (λ p l. absurd (omega arith))
differ s t (suc n) = ⊎_elim
    (λ (d : (p : ℕ) × (p < n) × (s p ≡ false) × (t p ≡ true)). inl (d.0, omega arith, d.2, d.3))
    (λ (e : (p : ℕ) → p < n → t p ≡ true → s p ≡ true). go e (s n) (t n) refl refl)
    (differ s t n)
  where
    here : ((p : ℕ) → p < n → t p ≡ true → s p ≡ true) → (t n ≡ true → s n ≡ true) → (p : ℕ) → p < suc n → t p ≡ true → s p ≡ true
    here e k p l h = ⊎_elim (λ (x : p < n). e p x h) (λ (x : n ≤ p). let y : p ≡ n = omega arith in rw y (k (rw y at h))) (cases_lt p n)

    go : ((p : ℕ) → p < n → t p ≡ true → s p ≡ true) → (a b : Bool) → s n ≡ a → t n ≡ b → ((p : ℕ) × (p < suc n) × (s p ≡ false) × (t p ≡ true)) ⊎ ((p : ℕ) → p < suc n → t p ≡ true → s p ≡ true)
    go e true b x y = inr (here e (λ _. x))
    go e false true x y = inl (n, omega arith, x, y)
    go e false false x y = inr (here e (λ z. absurd (both_ways (t n) y z)))

pub within_past : (H : List Commit) (k p q : ℕ) → length H ≤ p → within H k p q ≡ true → eqb p q ≡ true
unfolding within any
within_past H zero p q l h = h
within_past H (suc k) p q l h = ⊎_elim (λ (e : eqb p q ≡ true). e) (λ (m : any (λ r. within H k r q) (at H p).parents ≡ true). absurd (false≢true (rw (past H p l) at m))) (or_cases (eqb p q) (any (λ r. within H k r q) (at H p).parents) h)

-- k steps have come to rest, or reached more than k
pub growth : (H : List Commit) (q k : ℕ) → q < length H → Stable H k q ⊎ (k < size (λ p. within H k p q) (length H))
growth H q zero l = inr (let m : size (λ _. false) (length H) < size (λ p. within H 0 p q) (length H) = size_less (λ _. false) (λ p. within H 0 p q) (length H) q (λ p _ h. absurd (false≢true h)) l refl (within_itself H 0 q) in omega arith)
growth H q (suc k) l = ⊎_elim
    (λ (s : Stable H k q). inl (stable_more H k q s))
    (λ (g : k < size (λ p. within H k p q) (length H)). ⊎_elim
    (λ (d : (p : ℕ) × (p < length H) × (within H k p q ≡ false) × (within H (suc k) p q ≡ true)).
    inr (let m : size (λ p. within H k p q) (length H) < size (λ p. within H (suc k) p q) (length H) = size_less (λ p. within H k p q) (λ p. within H (suc k) p q) (length H) d.0 (λ p _. within_more H k p q) d.1 d.2 d.3 in omega arith))
    (λ (e : (p : ℕ) → p < length H → within H (suc k) p q ≡ true → within H k p q ≡ true). inl (stable_more H k q (λ p. same (within H (suc k) p q) (within H k p q) (upto e p) (within_more H k p q))))
    (differ (λ p. within H k p q) (λ p. within H (suc k) p q) (length H)))
    (growth H q k l)
  where
    again : (p : ℕ) → eqb p q ≡ true → within H k p q ≡ true
    again p e = rw (eqb-true p q e) (within_itself H k q)

    upto : ((p : ℕ) → p < length H → within H (suc k) p q ≡ true → within H k p q ≡ true) → (p : ℕ) → within H (suc k) p q ≡ true → within H k p q ≡ true
    upto e p = ⊎_elim (λ (x : p < length H). e p x) (λ (x : length H ≤ p) h. again p (within_past H (suc k) p q x h)) (cases_lt p (length H))

pub at_rest : (H : List Commit) (q : ℕ) → q < length H → Stable H (length H) q
at_rest H q l = ⊎_elim (λ (s : Stable H (length H) q). s)
    (λ (g : length H < size (λ p. within H (length H) p q) (length H)). absurd (let m : size (λ p. within H (length H) p q) (length H) ≤ length H = size_most (λ p. within H (length H) p q) (length H) in omega arith))
    (growth H q (length H) l)

pub reaches_itself : (H : List Commit) (p : ℕ) → reaches H p p ≡ true
unfolding reaches
reaches_itself H p = within_itself H (length H) p

pub reaches_through : (H : List Commit) (p r q : ℕ) → q < length H → member r (at H p).parents ≡ true → reaches H r q ≡ true → reaches H p q ≡ true
unfolding reaches within
reaches_through H p r q l m h = sym (at_rest H q l p) ∙ or_right (eqb p q) (any (λ r. within H (length H) r q) (at H p).parents) (any_intro (λ r. within H (length H) r q) r (at H p).parents m h)

pub reaches_sound : (H : List Commit) (p q : ℕ) → reaches H p q ≡ true → Reaches H p q
unfolding reaches
reaches_sound H p q h = within_sound H (length H) p q h

pub reaches_complete : (H : List Commit) (q : ℕ) → q < length H → {p : ℕ} → Reaches H p q → reaches H p q ≡ true
reaches_complete H q l (itself {p = p} e) = rw e (reaches_itself H q)
reaches_complete H q l (through {p = p} {r = r} m s) = reaches_through H p r q l m (reaches_complete H q l s)

pub Reaches-trans : (H : List Commit) (q r : ℕ) → Reaches H r q → {p : ℕ} → Reaches H p r → Reaches H p q
Reaches-trans H q r s (itself e) = rw e s
Reaches-trans H q r s (through m t) = through m (Reaches-trans H q r s t)

pub reaches_trans : (H : List Commit) (p q r : ℕ) → r < length H → reaches H p q ≡ true → reaches H q r ≡ true → reaches H p r ≡ true
reaches_trans H p q r l a b = reaches_complete H r l (Reaches-trans H r q (reaches_sound H q r b) (reaches_sound H p q a))

pub reaching_law : ReachingLaw
reaching_law H p q l = (reaches_sound H p q, λ t. reaches_complete H q l t)
