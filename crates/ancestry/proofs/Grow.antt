-- What a commit taken in changes, and what it leaves.
use Rattle.std.proofs.Common.{◌≡◌, ℕ, suc, ◌<◌, ◌≤◌, Bool, true, false, cond, ◌&&◌, ◌||◌, eqb, ◌≢◌, ◌⊎◌, List, [], ◌∷◌, ◌++◌, length, Some, None, Option, sym, refl, ap, ◌∙◌, inl, inr, ⊎_elim, arith, length-append}
use lib.ListN.{get_or-append}
use lib.Seq.{get_or-append_seam}
use Rattle.std.proofs.lemmas.Bool.{false≢true, both_ways, eqb-true, eq-eqb, ltb-true, or_cases, or_left, or_right, cases_lt, and_parts, and_from, and_left}
use Rattle.ancestry.specs.Sets.{any, every, member, keep, ordered, next}
use Rattle.ancestry.specs.Commits.{Commit, nobody, at, place_of, parents_of}
use Rattle.ancestry.specs.Reaching.{Reaches, itself, through, reaches, id_reaches}
use Rattle.ancestry.specs.Keys.{better}
use Rattle.ancestry.specs.Lawful.{Lawful, Held, AllHeld}
use Rattle.ancestry.specs.Bases.{ranked, unreached, best, ids, shared, empty, bases, shared_by_all, head, octopus}
use Rattle.ancestry.specs.Theorems.{best_ids, gather}
use Rattle.ancestry.proofs.Sets.{same, not_so, any_cong, every_cong, member-ordered, keep-insert, keep_cong, ordered_cong}
use Rattle.ancestry.proofs.Reach.{reaches_through, reaches_sound, reaches_complete}
use Rattle.ancestry.proofs.Best.{best_elim, best_part, above, reached_inside, says_unreached, unreached_says}
use Rattle.ancestry.proofs.Join.{place_says, place_held, id_reaches-at, bases_general, ids_elim, in_bases, best_inside, member-append}

pub place_old : (H : List Commit) (c : Commit) (i p : ℕ) → place_of H i ≡ Some p → place_of (H ++ c ∷ []) i ≡ Some p
unfolding place_of next
place_old [] c i p e = absurd (let z : ◌≡◌ {A = ℕ} 0 1 = cc in omega arith)
place_old (d ∷ H) c i p e = first (λ r k. place_old H c i r k) (eqb d.id i) refl e
  where
    later : (o : Option ℕ) → place_of H i ≡ o → next o ≡ Some p → ((r : ℕ) → place_of H i ≡ Some r → place_of (H ++ c ∷ []) i ≡ Some r) → next (place_of (H ++ c ∷ []) i) ≡ Some p
    later None k e g = absurd (let z : ◌≡◌ {A = ℕ} 0 1 = cc in omega arith)
    later (Some r) k e g = rw (g r k) e

    first : ((r : ℕ) → place_of H i ≡ Some r → place_of (H ++ c ∷ []) i ≡ Some r) → (b : Bool) → eqb d.id i ≡ b → cond b (Some 0) (next (place_of H i)) ≡ Some p → cond b (Some 0) (next (place_of (H ++ c ∷ []) i)) ≡ Some p
    first g true k e = e
    first g false k e = later (place_of H i) refl e g

module _ (H : List Commit) (c : Commit) where
  pub grown : length (H ++ c ∷ []) ≡ suc (length H)
  grown = length-append H (c ∷ []) ∙ omega arith

  pub at_old : (p : ℕ) → p < length H → at (H ++ c ∷ []) p ≡ at H p
  unfolding at
  at_old p l = get_or-append H (c ∷ []) nobody p l

  pub parents_old : (p : ℕ) → p < length H → parents_of (H ++ c ∷ []) p ≡ parents_of H p
  parents_old p l = ap (λ (d : Commit). d.parents) (at_old p l)

  pub at_new : at (H ++ c ∷ []) (length H) ≡ c
  unfolding at
  at_new = get_or-append_seam H c [] nobody

  pub parents_new : parents_of (H ++ c ∷ []) (length H) ≡ c.parents
  parents_new = ap (λ (d : Commit). d.parents) at_new

  module _ (L : Lawful H) where
    pub Reaches-up : (q : ℕ) {p : ℕ} → p < length H → Reaches H p q → Reaches (H ++ c ∷ []) p q
    Reaches-up q l (itself e) = itself e
    Reaches-up q {p} l (through {r = r} m t) = through (rw (parents_old p l) m) (Reaches-up q (L.inside p r l m) t)

    pub Reaches-down : (q : ℕ) {p : ℕ} → p < length H → Reaches (H ++ c ∷ []) p q → Reaches H p q
    Reaches-down q l (itself e) = itself e
    Reaches-down q {p} l (through {r = r} m t) = let k : member r (parents_of H p) ≡ true = rw (parents_old p l) at m in through k (Reaches-down q (L.inside p r l k) t)

    pub reaches_old : (p q : ℕ) → p < length H → reaches (H ++ c ∷ []) p q ≡ reaches H p q
    reaches_old p q l = same (reaches (H ++ c ∷ []) p q) (reaches H p q)
        (λ h. let t = Reaches-down q l (reaches_sound (H ++ c ∷ []) p q h) in reaches_complete H q (reached_inside H L q l t) t)
        (λ h. let t = reaches_sound H p q h in let k : q < length H = reached_inside H L q l t in reaches_complete (H ++ c ∷ []) q (rw grown (omega arith)) (Reaches-up q l t))

    pub not_new : (p : ℕ) → p < length H → reaches (H ++ c ∷ []) p (length H) ≡ false
    not_new p l = not_so (reaches (H ++ c ∷ []) p (length H)) (λ h. let k : length H < length H = reached_inside H L (length H) l (reaches_sound H p (length H) (sym (reaches_old p (length H) l) ∙ h)) in omega arith)

    pub id_reaches_old : (i q : ℕ) → Held H i → id_reaches (H ++ c ∷ []) i q ≡ id_reaches H i q
    id_reaches_old i q h = id_reaches-at (H ++ c ∷ []) i h.0 q (place_old H c i h.0 h.1) ∙ reaches_old h.0 q (place_says H i h.0 h.1).0 ∙ sym (id_reaches-at H i h.0 q h.1)

    pub id_not_new : (i : ℕ) → Held H i → id_reaches (H ++ c ∷ []) i (length H) ≡ false
    id_not_new i h = id_reaches-at (H ++ c ∷ []) i h.0 (length H) (place_old H c i h.0 h.1) ∙ not_new h.0 (place_says H i h.0 h.1).0

    pub unreached_old : (S S' : ℕ → Bool) → ((p : ℕ) → p < length H → S' p ≡ S p) → S' (length H) ≡ false → (p : ℕ) → p < length H → unreached (H ++ c ∷ []) S' p ≡ unreached H S p
    unreached_old S S' e n p l = same (unreached (H ++ c ∷ []) S' p) (unreached H S p)
        (λ u. says_unreached H S p (λ q k s r. unreached_says (H ++ c ∷ []) S' p u q (rw grown (omega arith)) (e q k ∙ s) (reaches_old q p k ∙ r)))
        (λ u. says_unreached (H ++ c ∷ []) S' p (λ q k s r. ⊎_elim
        (λ (x : q < length H). unreached_says H S p u q x (sym (e q x) ∙ s) (sym (reaches_old q p x) ∙ r))
        (λ (x : length H ≤ q). let y : q ≡ length H = omega (arith, rw grown at k) in absurd (both_ways (S' (length H)) n (rw y at s)))
        (cases_lt q (length H))))

    pub best_old : (S S' : ℕ → Bool) → ((p : ℕ) → p < length H → S' p ≡ S p) → S' (length H) ≡ false → best (H ++ c ∷ []) S' ≡ best H S
    unfolding best ranked ordered
    best_old S S' e n = ap (λ (k : ℕ). keep t' (ordered b' k)) grown
        ∙ keep-insert t' b' (length H) (ordered b' (length H)) (and_left (S' (length H)) (unreached (H ++ c ∷ []) S' (length H)) n)
        ∙ ap (keep t') (ordered_cong b' b (length H) (λ p q k l. rw (at_old p k, at_old q l)))
        ∙ keep_cong t' t (ordered b (length H)) (λ p m. let l : p < length H = ltb-true p (length H) (sym (member-ordered b p (length H)) ∙ m) in rw (e p l, unreached_old S S' e n p l))
      where
        t' : ℕ → Bool
        t' p = S' p && unreached (H ++ c ∷ []) S' p

        t : ℕ → Bool
        t p = S p && unreached H S p

        b' : ℕ → ℕ → Bool
        b' p q = better (at (H ++ c ∷ []) p) (at (H ++ c ∷ []) q)

        b : ℕ → ℕ → Bool
        b p q = better (at H p) (at H q)

    pub ids_old : (ps : List ℕ) → ((p : ℕ) → member p ps ≡ true → p < length H) → ids (H ++ c ∷ []) ps ≡ ids H ps
    unfolding ids member any
    ids_old [] h = refl
    ids_old (p ∷ ps) h = rw (at_old p (h p (or_left (eqb p p) (member p ps) (eq-eqb p p refl)))) (ap (λ (is : List ℕ). (at H p).id ∷ is) (ids_old ps (λ q m. h q (or_right (eqb q p) (member q ps) m))))

    pub answer_old : (S S' : ℕ → Bool) → ((p : ℕ) → p < length H → S' p ≡ S p) → S' (length H) ≡ false → ids (H ++ c ∷ []) (best (H ++ c ∷ []) S') ≡ ids H (best H S)
    answer_old S S' e n = ap (ids (H ++ c ∷ [])) (best_old S S' e n) ∙ ids_old (best H S) (best_inside H S)

-- a commit taken in leaves each answer on commits held before as it was
pub keeps : (H : List Commit) (c : Commit) → Lawful H → (f : ℕ) (zs : List ℕ) → Held H f → AllHeld H zs
    → (bases (H ++ c ∷ []) f zs ≡ bases H f zs) × (octopus (H ++ c ∷ []) f zs ≡ octopus H f zs)
unfolding bases octopus
keeps H c L f zs hf hz = (
  ap (cond (empty zs || member f zs) (f ∷ [])) (answer_old H c L (shared H f zs) (shared (H ++ c ∷ []) f zs) any_same any_none),
  ap (λ (is : List ℕ). cond (every (eqb f) zs) (Some f) (head is)) (answer_old H c L (shared_by_all H f zs) (shared_by_all (H ++ c ∷ []) f zs) all_same all_none),
)
  where
    any_same : (p : ℕ) → p < length H → shared (H ++ c ∷ []) f zs p ≡ shared H f zs p
    any_same p l = unfold shared in rw (id_reaches_old H c L f p hf, any_cong (λ i. id_reaches (H ++ c ∷ []) i p) (λ i. id_reaches H i p) zs (λ i m. id_reaches_old H c L i p (hz i m)))

    any_none : shared (H ++ c ∷ []) f zs (length H) ≡ false
    any_none = unfold shared in rw (id_not_new H c L f hf)

    all_same : (p : ℕ) → p < length H → shared_by_all (H ++ c ∷ []) f zs p ≡ shared_by_all H f zs p
    all_same p l = unfold shared_by_all in rw (id_reaches_old H c L f p hf, every_cong (λ i. id_reaches (H ++ c ∷ []) i p) (λ i. id_reaches H i p) zs (λ i m. id_reaches_old H c L i p (hz i m)))

    all_none : shared_by_all (H ++ c ∷ []) f zs (length H) ≡ false
    all_none = unfold shared_by_all in rw (id_not_new H c L f hf)

pub gather_intro : (i : ℕ) (f : ℕ → List ℕ) (r : ℕ) (xs : List ℕ) → member r xs ≡ true → member i (f r) ≡ true → member i (gather f xs) ≡ true
unfolding gather member any
gather_intro i f r [] m k = absurd (false≢true m)
gather_intro i f r (x ∷ xs) m k = member-append i (f x) (gather f xs) ∙ ⊎_elim
    (λ (e : eqb r x ≡ true). or_left (member i (f x)) (member i (gather f xs)) (rw (eqb-true r x e) at k))
    (λ (n : member r xs ≡ true). or_right (member i (f x)) (member i (gather f xs)) (gather_intro i f r xs n k))
    (or_cases (eqb r x) (member r xs) m)

pub gather_elim : (i : ℕ) (f : ℕ → List ℕ) (xs : List ℕ) → member i (gather f xs) ≡ true → (r : ℕ) × (member r xs ≡ true) × (member i (f r) ≡ true)
unfolding gather member any
gather_elim i f [] m = absurd (false≢true m)
gather_elim i f (x ∷ xs) m = ⊎_elim
    (λ (e : member i (f x) ≡ true). (x, or_left (eqb x x) (member x xs) (eq-eqb x x refl), e))
    (λ (n : member i (gather f xs) ≡ true). let r = gather_elim i f xs n in (r.0, or_right (eqb r.0 x) (member r.0 xs) r.1, r.2))
    (or_cases (member i (f x)) (member i (gather f xs)) (sym (member-append i (f x) (gather f xs)) ∙ m))

pub one_other : (H : List Commit) (f x p : ℕ) → shared H f (x ∷ []) p ≡ (id_reaches H f p && id_reaches H x p)
unfolding shared any
one_other H f x p = grind arith

pub Reaches-cases : (H : List Commit) (q p : ℕ) → Reaches H p q → (p ≡ q) ⊎ ((r : ℕ) × (member r (at H p).parents ≡ true) × Reaches H r q)
Reaches-cases H q p (itself e) = inl e
Reaches-cases H q p (through {r = r} m t) = inr (r, m, t)

-- a commit taken in has, against one held before, the best of its parents' bases against that one
pub from_parents : (H : List Commit) (c : Commit) → Lawful H → Lawful (H ++ c ∷ []) → (x : ℕ) → Held H x
    → bases (H ++ c ∷ []) c.id (x ∷ []) ≡ best_ids (H ++ c ∷ []) (gather (λ r. bases H (at H r).id (x ∷ [])) c.parents)
unfolding best_ids
from_parents H c L L' x hx = bases_general H' L' c.id (n, hc) (x ∷ []) nonempty ∙ sym (ap (ids H') (best_part H' L' S B sub dom))
  where
    H' : List Commit
    H' = H ++ c ∷ []

    n : ℕ
    n = length H

    nonempty : (x ∷ []) ≢ []
    nonempty e = let z : ◌≡◌ {A = ℕ} 0 1 = cc in omega arith

    inn : (r : ℕ) → member r c.parents ≡ true → r < n
    inn r m = let k : member r (at H' n).parents ≡ true = rw (at_new H c) m in ⊎_elim (λ (y : r < n). y)
        (λ (y : n ≤ r). let z : r < suc n = rw (grown H c) at (L'.inside n r (rw (grown H c) (omega arith)) k) in let w : r ≡ n = omega arith in absurd (L'.acyclic n r (rw (grown H c) (omega arith)) k (itself w)))
        (cases_lt r n)

    below : n < length H'
    below = rw (grown H c) (omega arith)

    more : (p : ℕ) → p < n → p < length H'
    more p l = rw (grown H c) (omega arith)

    hc : place_of H' c.id ≡ Some n
    hc = rw (at_new H c) at (place_held H' L' n below)

    S : ℕ → Bool
    S = shared H' c.id (x ∷ [])

    B : ℕ → Bool
    B p = member (at H' p).id (gather (λ r. bases H (at H r).id (x ∷ [])) c.parents)

    S-intro : (r q : ℕ) → member r c.parents ≡ true → q < n → reaches H r q ≡ true → id_reaches H x q ≡ true → S q ≡ true
    S-intro r q m l a b = one_other H' c.id x q ∙ and_from (id_reaches H' c.id q) (id_reaches H' x q)
        (id_reaches-at H' c.id n q hc ∙ reaches_through H' n r q (more q l) (rw (at_new H c) m) (reaches_old H c L r q (inn r m) ∙ a))
        (id_reaches_old H c L x q hx ∙ b)

    held : (r : ℕ) → member r c.parents ≡ true → Held H (at H r).id
    held r m = (r, place_held H L r (inn r m))

    sub : (p : ℕ) → p < length H' → B p ≡ true → S p ≡ true
    sub p l b =
        let g = gather_elim (at H' p).id (λ r. bases H (at H r).id (x ∷ [])) c.parents b in
        let r = g.0 in
        let e = ids_elim H (at H' p).id (best H (shared H (at H r).id (x ∷ []))) (rw (bases_general H L (at H r).id (held r g.1) (x ∷ []) nonempty) at g.2) in
        let q = e.0 in
        let k = best_elim H (shared H (at H r).id (x ∷ [])) q e.1 in
        let s = and_parts (id_reaches H (at H r).id q) (id_reaches H x q) (sym (one_other H (at H r).id x q) ∙ k.of) in
        let same_place : p ≡ q = L'.apart p q l (more q k.below) (rw (at_old H c q k.below) e.2) in
        rw same_place (S-intro r q g.1 k.below (sym (id_reaches-at H (at H r).id r q (held r g.1).1) ∙ s.0) s.1)

    dom : (p : ℕ) → p < length H' → S p ≡ true → (b : ℕ) × (b < length H') × (B b ≡ true) × (reaches H' b p ≡ true)
    dom p l s =
        let a = and_parts (id_reaches H' c.id p) (id_reaches H' x p) (sym (one_other H' c.id x p) ∙ s) in
        ⊎_elim
        (λ (e : n ≡ p). absurd (both_ways (id_reaches H' x n) (id_not_new H c L x hx) (rw (← e) at a.1)))
        (λ (d : (r : ℕ) × (member r (at H' n).parents ≡ true) × Reaches H' r p).
        let r = d.0 in
        let m : member r c.parents ≡ true = rw (at_new H c) at d.1 in
        let t : Reaches H r p = Reaches-down H c L p (inn r m) d.2 in
        let k : p < n = reached_inside H L p (inn r m) t in
        let T : ℕ → Bool = shared H (at H r).id (x ∷ []) in
        let b = above H L T p k (one_other H (at H r).id x p ∙ and_from (id_reaches H (at H r).id p) (id_reaches H x p) (id_reaches-at H (at H r).id r p (held r m).1 ∙ reaches_complete H p k t) (sym (id_reaches_old H c L x p hx) ∙ a.1)) in (
          b.0,
          more b.0 b.1,
          gather_intro (at H' b.0).id (λ r. bases H (at H r).id (x ∷ [])) r c.parents m (rw (at_old H c b.0 b.1) (in_bases H L (at H r).id (held r m) (x ∷ []) nonempty b.0 b.1 ∙ b.2)),
          reaches_old H c L b.0 p b.1 ∙ b.3,
        ))
        (Reaches-cases H' p n (reaches_sound H' n p (sym (id_reaches-at H' c.id n p hc) ∙ a.0)))
