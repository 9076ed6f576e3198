-- The laws of merge bases.
use Rattle.std.proofs.Common.{◌≡◌, ℕ, zero, suc, ◌<◌, Bool, true, false, cond, ◌&&◌, ◌||◌, eqb, ◌≢◌, List, [], ◌∷◌, ◌++◌, length, Some, None, Option, sym, refl, ap, ◌∙◌, ⊎_elim, arith, MatchOption}
use Rattle.std.proofs.lemmas.Bool.{false≢true, eqb-true, eq-eqb, ne_eqb, ltb-true, or_cases, or_left, or_right, and_parts, and_from, cases_eq}
use Rattle.ancestry.specs.Sets.{any, member, keep, insert, ordered, next}
use Rattle.ancestry.specs.Commits.{Commit, at, place_of}
use Rattle.ancestry.specs.Reaching.{reaches, reached_from, id_reaches}
use Rattle.ancestry.specs.Keys.{better}
use Rattle.ancestry.specs.Lawful.{Lawful, Held}
use Rattle.ancestry.specs.Bases.{ranked, unreached, best, ids, shared, empty, bases}
use Rattle.ancestry.specs.Theorems.{best_ids, PlaceLaw, SwapLaw, JoinLaw}
use Rattle.ancestry.proofs.Sets.{same, not_so, any_intro, member-ordered, keep-insert}
use Rattle.ancestry.proofs.Reach.{reaches_itself}
use Rattle.ancestry.proofs.Best.{best_elim, best_part, best_cong, above, says_unreached}

-- place_of
pub place_says : (H : List Commit) (i p : ℕ) → place_of H i ≡ Some p → (p < length H) × ((at H p).id ≡ i)
unfolding place_of at next
place_says [] i p e = absurd (let z : ◌≡◌ {A = ℕ} 0 1 = cc in omega arith)
place_says (c ∷ H) i p e = first (λ r k. place_says H i r k) (eqb c.id i) refl e
  where
    later : (o : Option ℕ) → place_of H i ≡ o → next o ≡ Some p → ((r : ℕ) → place_of H i ≡ Some r → (r < length H) × ((at H r).id ≡ i)) → (p < suc (length H)) × ((at (c ∷ H) p).id ≡ i)
    later None k e g = absurd (let z : ◌≡◌ {A = ℕ} 0 1 = cc in omega arith)
    later (Some r) k e g = let d : suc r ≡ p = cc in let x = g r k in rw (← d) (omega (arith, x.0), x.1)

    first : ((r : ℕ) → place_of H i ≡ Some r → (r < length H) × ((at H r).id ≡ i)) → (b : Bool) → eqb c.id i ≡ b → cond b (Some 0) (next (place_of H i)) ≡ Some p → (p < suc (length H)) × ((at (c ∷ H) p).id ≡ i)
    first g true k e = let d : 0 ≡ p = cc in rw (← d) (omega arith, eqb-true c.id i k)
    first g false k e = later (place_of H i) refl e g

pub swap_law : SwapLaw
unfolding bases shared empty any member
swap_law H a b = ⊎_elim
    (λ (e : a ≡ b). rw e refl)
    (λ (n : a ≡ b → ⊥). rw (ne_eqb a b n, ne_eqb b a (λ e. n (sym e))) (ap (ids H) (best_cong H (λ p. id_reaches H a p && (id_reaches H b p || false)) (λ p. id_reaches H b p && (id_reaches H a p || false)) (λ p _. turn (id_reaches H a p) (id_reaches H b p)))))
    (cases_eq a b)
  where
    turn : (x y : Bool) → (x && (y || false)) ≡ (y && (x || false))
    turn true true = refl
    turn true false = refl
    turn false true = refl
    turn false false = refl

pub any_append : (t : ℕ → Bool) (xs ys : List ℕ) → any t (xs ++ ys) ≡ (any t xs || any t ys)
unfolding any
any_append t [] ys = refl
any_append t (x ∷ xs) ys = let h : any t (xs ++ ys) ≡ (any t xs || any t ys) = any_append t xs ys in grind arith

pub member-append : (x : ℕ) (xs ys : List ℕ) → member x (xs ++ ys) ≡ (member x xs || member x ys)
unfolding member
member-append x xs ys = any_append (eqb x) xs ys

pub ids_intro : (H : List Commit) (p : ℕ) (ps : List ℕ) → member p ps ≡ true → member (at H p).id (ids H ps) ≡ true
unfolding ids member any
ids_intro H p [] m = absurd (false≢true m)
ids_intro H p (q ∷ qs) m = ⊎_elim
    (λ (e : eqb p q ≡ true). or_left (eqb (at H p).id (at H q).id) (member (at H p).id (ids H qs)) (eq-eqb (at H p).id (at H q).id (ap (λ z. (at H z).id) (eqb-true p q e))))
    (λ (k : member p qs ≡ true). or_right (eqb (at H p).id (at H q).id) (member (at H p).id (ids H qs)) (ids_intro H p qs k))
    (or_cases (eqb p q) (member p qs) m)

pub ids_elim : (H : List Commit) (i : ℕ) (ps : List ℕ) → member i (ids H ps) ≡ true → (p : ℕ) × (member p ps ≡ true) × (i ≡ (at H p).id)
unfolding ids member any
ids_elim H i [] m = absurd (false≢true m)
ids_elim H i (q ∷ qs) m = ⊎_elim
    (λ (e : eqb i (at H q).id ≡ true). (q, or_left (eqb q q) (member q qs) (eq-eqb q q refl), eqb-true i (at H q).id e))
    (λ (k : member i (ids H qs) ≡ true). let r = ids_elim H i qs k in (r.0, or_right (eqb r.0 q) (member r.0 qs) r.1, r.2))
    (or_cases (eqb i (at H q).id) (member i (ids H qs)) m)

pub keep_none : (t : ℕ → Bool) (ys : List ℕ) → ((y : ℕ) → member y ys ≡ true → t y ≡ false) → keep t ys ≡ []
unfolding keep member any
keep_none t [] h = refl
keep_none t (y ∷ ys) h = rw (h y (or_left (eqb y y) (member y ys) (eq-eqb y y refl))) (keep_none t ys (λ x m. h x (or_right (eqb x y) (member x ys) m)))

pub keep_one_insert : (t : ℕ → Bool) (b : ℕ → ℕ → Bool) (s : ℕ) (ys : List ℕ) → t s ≡ true → ((y : ℕ) → member y ys ≡ true → t y ≡ false) → keep t (insert b s ys) ≡ s ∷ []
unfolding keep insert member any
keep_one_insert t b s [] e h = rw e
keep_one_insert t b s (y ∷ ys) e h =
    let a : t y ≡ false = h y (or_left (eqb y y) (member y ys) (eq-eqb y y refl)) in
    let g : keep t (insert b s ys) ≡ s ∷ [] = keep_one_insert t b s ys e (λ x m. h x (or_right (eqb x y) (member x ys) m)) in
    let n : keep t ys ≡ [] = keep_none t ys (λ x m. h x (or_right (eqb x y) (member x ys) m)) in grind arith

pub keep_one : (t : ℕ → Bool) (b : ℕ → ℕ → Bool) (s n : ℕ) → s < n → t s ≡ true → ((y : ℕ) → y < n → t y ≡ true → y ≡ s) → keep t (ordered b n) ≡ s ∷ []
unfolding ordered
keep_one t b s zero l e u = absurd (omega arith)
keep_one t b s (suc n) l e u = ⊎_elim
    (λ (k : s ≡ n). rw (← k) (keep_one_insert t b s (ordered b s) e (λ y m. not_so (t y) (λ h. let w : y < s = ltb-true y s (sym (member-ordered b y s) ∙ m) in let v : y ≡ s = u y (omega arith) h in omega arith))))
    (λ (k : s ≡ n → ⊥). keep-insert t b n (ordered b n) (not_so (t n) (λ h. k (sym (u n (omega arith) h)))) ∙ keep_one t b s n (omega arith) e (λ y w. u y (omega arith)))
    (cases_eq s n)

pub place_some : (H : List Commit) (i p : ℕ) → p < length H → (at H p).id ≡ i → (q : ℕ) × (place_of H i ≡ Some q)
unfolding place_of at next
place_some [] i p l e = absurd (omega arith)
place_some (c ∷ H) i zero l e = (0, rw (eq-eqb c.id i e))
place_some (c ∷ H) i (suc p) l e = go (place_some H i p (omega arith) e) (eqb c.id i) refl
  where
    go : (q : ℕ) × (place_of H i ≡ Some q) → (b : Bool) → eqb c.id i ≡ b → (q : ℕ) × (place_of (c ∷ H) i ≡ Some q)
    go r true k = (0, rw k)
    go r false k = (suc r.0, rw (k, r.1))

pub id_reaches-at : (H : List Commit) (i p q : ℕ) → place_of H i ≡ Some p → id_reaches H i q ≡ reaches H p q
unfolding id_reaches reached_from
id_reaches-at H i p q e = rw e

pub shared_elim : (H : List Commit) (f : ℕ) (zs : List ℕ) (p : ℕ) → shared H f zs p ≡ true → (id_reaches H f p ≡ true) × (any (λ i. id_reaches H i p) zs ≡ true)
unfolding shared
shared_elim H f zs p h = and_parts (id_reaches H f p) (any (λ i. id_reaches H i p) zs) h

pub shared_intro : (H : List Commit) (f : ℕ) (zs : List ℕ) (p : ℕ) → id_reaches H f p ≡ true → any (λ i. id_reaches H i p) zs ≡ true → shared H f zs p ≡ true
unfolding shared
shared_intro H f zs p a b = and_from (id_reaches H f p) (any (λ i. id_reaches H i p) zs) a b

pub best_one : (H : List Commit) (s : ℕ) → s < length H → best H (λ p. eqb p s) ≡ s ∷ []
unfolding best ranked
best_one H s l = keep_one (λ p. eqb p s && unreached H (λ p. eqb p s) p) (λ p q. better (at H p) (at H q)) s (length H) l
    (and_from (eqb s s) (unreached H (λ p. eqb p s) s) (eq-eqb s s refl) (says_unreached H (λ p. eqb p s) s (λ q _ e _. eqb-true q s e)))
    (λ y _ e. eqb-true y s (and_parts (eqb y s) (unreached H (λ p. eqb p s) y) e).0)

pub best_inside : (H : List Commit) (S : ℕ → Bool) (q : ℕ) → member q (best H S) ≡ true → q < length H
best_inside H S q m = (best_elim H S q m).below

module _ (H : List Commit) (L : Lawful H) where
  pub place_held : (p : ℕ) → p < length H → place_of H (at H p).id ≡ Some p
  place_held p l =
      let r = place_some H (at H p).id p l refl in
      let x = place_says H (at H p).id r.0 r.1 in
      let e : r.0 ≡ p = L.apart r.0 p x.0 l x.1 in
      rw e at r.1

  -- the id of a place is in the ids of places exactly when the place is among them
  pub ids_back : (p : ℕ) (ps : List ℕ) → p < length H → ((q : ℕ) → member q ps ≡ true → q < length H) → member (at H p).id (ids H ps) ≡ true → member p ps ≡ true
  ids_back p ps l i m = let r = ids_elim H (at H p).id ps m in
      let e : p ≡ r.0 = L.apart p r.0 l (i r.0 r.1) r.2 in rw e r.1

  -- the rule for `first` among the others is the general rule
  pub bases_general : (f : ℕ) → Held H f → (zs : List ℕ) → zs ≢ [] → bases H f zs ≡ ids H (best H (shared H f zs))
  unfolding bases empty ids
  bases_general f h [] n = absurd (n refl)
  bases_general f h (z ∷ zs) n = go (member f (z ∷ zs)) refl
    where
      s : ℕ
      s = h.0

      x : (s < length H) × ((at H s).id ≡ f)
      x = place_says H f s h.1

      S : ℕ → Bool
      S = shared H f (z ∷ zs)

      here : (p : ℕ) → S p ≡ true → reaches H s p ≡ true
      here p k = sym (id_reaches-at H f s p h.1) ∙ (shared_elim H f (z ∷ zs) p k).0

      top : member f (z ∷ zs) ≡ true → S s ≡ true
      top m = let e : id_reaches H f s ≡ true = id_reaches-at H f s s h.1 ∙ reaches_itself H s in
          shared_intro H f (z ∷ zs) s e (any_intro (λ i. id_reaches H i s) f (z ∷ zs) m e)

      one : member f (z ∷ zs) ≡ true → best H S ≡ s ∷ []
      one m = sym (best_part H L S (λ p. eqb p s) (λ p l e. rw (eqb-true p s e) (top m)) (λ p l k. (s, x.0, eq-eqb s s refl, here p k))) ∙ best_one H s x.0

      go : (b : Bool) → member f (z ∷ zs) ≡ b → cond b (f ∷ []) (ids H (best H S)) ≡ ids H (best H S)
      go true m = ap (λ (i : ℕ). i ∷ []) (sym x.1) ∙ sym (ap (ids H) (one m))
      go false m = refl

  -- a place is among the answers exactly when it is among the best
  pub in_bases : (f : ℕ) → Held H f → (zs : List ℕ) → zs ≢ [] → (p : ℕ) → p < length H → member (at H p).id (bases H f zs) ≡ member p (best H (shared H f zs))
  in_bases f h zs n p l = rw (bases_general f h zs n) (same (member (at H p).id (ids H (best H (shared H f zs)))) (member p (best H (shared H f zs)))
      (ids_back p (best H (shared H f zs)) l (best_inside H (shared H f zs))) (ids_intro H p (best H (shared H f zs))))

pub nonempty : (xs ys : List ℕ) → xs ≢ [] → (xs ++ ys) ≢ []
nonempty [] ys n e = n refl
nonempty (x ∷ xs) ys n e = let z : ◌≡◌ {A = ℕ} 0 1 = cc in omega arith

pub join_law : JoinLaw
unfolding best_ids
join_law H L f h xs ys nx ny = bases_general H L f h (xs ++ ys) (nonempty xs ys nx) ∙ sym (ap (ids H) (best_part H L S B sub dom))
  where
    S : ℕ → Bool
    S = shared H f (xs ++ ys)

    B : ℕ → Bool
    B p = member (at H p).id (bases H f xs ++ bases H f ys)

    split : (p : ℕ) → any (λ i. id_reaches H i p) (xs ++ ys) ≡ (any (λ i. id_reaches H i p) xs || any (λ i. id_reaches H i p) ys)
    split p = any_append (λ i. id_reaches H i p) xs ys

    parts : (p : ℕ) → p < length H → B p ≡ (member p (best H (shared H f xs)) || member p (best H (shared H f ys)))
    parts p l = member-append (at H p).id (bases H f xs) (bases H f ys) ∙ rw (in_bases H L f h xs nx p l, in_bases H L f h ys ny p l)

    sub : (p : ℕ) → p < length H → B p ≡ true → S p ≡ true
    sub p l b = ⊎_elim
        (λ (m : member p (best H (shared H f xs)) ≡ true). let e = shared_elim H f xs p (best_elim H (shared H f xs) p m).of in
        shared_intro H f (xs ++ ys) p e.0 (split p ∙ or_left (any (λ i. id_reaches H i p) xs) (any (λ i. id_reaches H i p) ys) e.1))
        (λ (m : member p (best H (shared H f ys)) ≡ true). let e = shared_elim H f ys p (best_elim H (shared H f ys) p m).of in
        shared_intro H f (xs ++ ys) p e.0 (split p ∙ or_right (any (λ i. id_reaches H i p) xs) (any (λ i. id_reaches H i p) ys) e.1))
        (or_cases (member p (best H (shared H f xs))) (member p (best H (shared H f ys))) (sym (parts p l) ∙ b))

    dom : (p : ℕ) → p < length H → S p ≡ true → (b : ℕ) × (b < length H) × (B b ≡ true) × (reaches H b p ≡ true)
    dom p l s = let e = shared_elim H f (xs ++ ys) p s in ⊎_elim
        (λ (m : any (λ i. id_reaches H i p) xs ≡ true). let a = above H L (shared H f xs) p l (shared_intro H f xs p e.0 m) in
        (a.0, a.1, parts a.0 a.1 ∙ or_left (member a.0 (best H (shared H f xs))) (member a.0 (best H (shared H f ys))) a.2, a.3))
        (λ (m : any (λ i. id_reaches H i p) ys ≡ true). let a = above H L (shared H f ys) p l (shared_intro H f ys p e.0 m) in
        (a.0, a.1, parts a.0 a.1 ∙ or_right (member a.0 (best H (shared H f xs))) (member a.0 (best H (shared H f ys))) a.2, a.3))
        (or_cases (any (λ i. id_reaches H i p) xs) (any (λ i. id_reaches H i p) ys) (sym (split p) ∙ e.1))

pub place_law : PlaceLaw
place_law H i = go (place_of H i) refl
  where
    go : (o : Option ℕ) → place_of H i ≡ o → MatchOption o ((p : ℕ) → p < length H → (at H p).id ≡ i → ⊥) (λ p. (p < length H) × ((at H p).id ≡ i))
    go None e = λ p l k. let r = place_some H i p l k in let z : ◌≡◌ {A = ℕ} 0 1 = cc in omega arith
    go (Some p) e = place_says H i p e

-- the first place that holds the id, and none where no place does
pub place_first : (H : List Commit) (i p : ℕ) → p < length H → (at H p).id ≡ i → ((j : ℕ) → j < p → (at H j).id ≡ i → ⊥) → place_of H i ≡ Some p
unfolding place_of at next
place_first [] i p l e h = absurd (omega arith)
place_first (c ∷ H) i zero l e h = rw (eq-eqb c.id i e)
place_first (c ∷ H) i (suc p) l e h = go (eqb c.id i) refl (place_first H i p (omega arith) e (λ j k. h (suc j) (omega arith)))
  where
    go : (b : Bool) → eqb c.id i ≡ b → place_of H i ≡ Some p → cond b (Some 0) (next (place_of H i)) ≡ Some (suc p)
    go true k r = absurd (h 0 (omega arith) (eqb-true c.id i k))
    go false k r = ap next r

pub place_nowhere : (H : List Commit) (i : ℕ) → ((j : ℕ) → j < length H → (at H j).id ≡ i → ⊥) → place_of H i ≡ None
unfolding place_of at next
place_nowhere [] i h = refl
place_nowhere (c ∷ H) i h = go (eqb c.id i) refl (place_nowhere H i (λ j k. h (suc j) (omega arith)))
  where
    go : (b : Bool) → eqb c.id i ≡ b → place_of H i ≡ None → cond b (Some 0) (next (place_of H i)) ≡ None
    go true k r = absurd (h 0 (omega arith) (eqb-true c.id i k))
    go false k r = ap next r
