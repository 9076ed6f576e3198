-- What describe finds where dates fall.
use Rattle.std.proofs.Common.{◌≡◌, ℕ, zero, suc, ◌+◌, ◌-◌, ◌<◌, ◌≤◌, min, Bool, true, false, cond, not, ◌&&◌, ◌||◌, eqb, ◌⊎◌, List, [], ◌∷◌, ◌++◌, map, length, get_or, Some, None, Option, sym, refl, ap, ◌∙◌, subst, inl, inr, ⊎_elim, arith}
use lib.Signed.{lt_z}
use lib.ListN.{length-map}
use Rattle.std.proofs.lemmas.Bool.{true≢false, false≢true, both_ways, eqb-true, eq-eqb, ne_eqb, ltb-true, lt-ltb, or_cases, or_left, or_right, cases_lt, and_parts, and_from, cases_eq}
use Rattle.ancestry.specs.Sets.{any, member, size, index_of, absent}
use Rattle.ancestry.specs.Commits.{Commit, at}
use Rattle.ancestry.specs.Reaching.{Reaches, itself, through, reaches}
use Rattle.ancestry.specs.Keys.{newer}
use Rattle.ancestry.specs.Lawful.{Lawful}
use Rattle.ancestry.specs.Bases.{head, empty}
use Rattle.ancestry.specs.Naming.{Asked, bare, nothing, followed, no_name}
use Rattle.ancestry.specs.Walk.{Walk, by_date, first_of, gains, least, has_least, taken, adopted, set_aside, counted, ended, handed, onward, free, visit, take_turn, turn, walk, at_start}
use Rattle.ancestry.specs.Finish.{Finish, returned, back, finish_turn, finish_step, finish}
use Rattle.ancestry.specs.Describe.{earliest, settle, choose, from_start, unless_idle, unless_named, describe}
use Rattle.ancestry.specs.Nearest.{trimmed, name_at, between, DatesFall, NamesFit, Nearest}
use Rattle.ancestry.specs.Theorems.{NearestLaw}
use Rattle.ancestry.proofs.Sets.{same, not_so, member-ordered, size_less, size_mono, size_cong, size_one_more}
use Rattle.ancestry.proofs.Reach.{reaches_itself, reaches_through, reaches_sound, reaches_complete, reaches_trans, Reaches-trans}
use Rattle.ancestry.proofs.Best.{antisym, reached_inside}
use Rattle.ancestry.proofs.Join.{member-append, keep_none, place_says}
use Rattle.ancestry.proofs.Walks.{ended_over, taken_sound, counted_sound, adopted_sound, handed_sound, Sound, gone, first_says, followed_inside, walk_over}
use Rattle.ancestry.proofs.Later.{start_sound}
use Rattle.ancestry.proofs.Orders.{first_greatest, first_none, ltZ_trans, newer-later}
use Rattle.ancestry.proofs.Followed.{last_step, trimmed_date, trimmed_id, trimmed_lawful, trimmed-length, trimmed_parents}
use Rattle.ancestry.proofs.Tallies.{earliest_says, ended_quiet, gains_is, getD_mapped, getD_push_new, getD_push_old, least_low, least-marked, least_of, length_push, map_push, mapped_member, member-cons, no_least, none_absent, number_of, place_none, unreached_by}

module _ (H : List Commit) (L : Lawful H) (a : Asked) (s : ℕ) (sl : s < length H) (fall : DatesFall (trimmed a H) s) (fit : NamesFit (trimmed a H) a s) where
  T : List Commit
  T = trimmed a H

  n : ℕ
  n = length (trimmed a H)

  Lt : Lawful (trimmed a H)
  Lt = trimmed_lawful a H L

  -- g is the set of those taken, cs the candidates
  pub record Core (g : ℕ → Bool) (cs : List ℕ) (w : Walk) : Type 0 where
    pub gone_is : (q : ℕ) → gone w q ≡ g q
    pub sound : Sound (length H) w
    pub real : (q : ℕ) → w.met q ≡ true → reaches (trimmed a H) s q ≡ true
    pub begun : w.met s ≡ true
    pub upper : (q d : ℕ) → g q ≡ true → reaches (trimmed a H) s d ≡ true → reaches (trimmed a H) d q ≡ true → g d ≡ true
    pub mark_sound : (q m : ℕ) → w.marks q m ≡ true → (m < length cs) × (reaches (trimmed a H) (get_or cs m 0) q ≡ true)
    pub mark_full : (d m : ℕ) → g d ≡ true → m < length cs → reaches (trimmed a H) (get_or cs m 0) d ≡ true → w.marks d m ≡ true
    pub found_is : w.found ≡ map (λ c. number_of (name_at (trimmed a H) a c)) cs
    pub counts_is : w.counts ≡ map (unreached_by (trimmed a H) g) cs
    pub seen_is : w.seen ≡ size g (length (trimmed a H))
    pub all_in : (q k : ℕ) → g q ≡ true → name_at (trimmed a H) a q ≡ Some k → member q cs ≡ true
    pub each_in : (c : ℕ) → member c cs ≡ true → (g c ≡ true) × (name_at (trimmed a H) a c ≡ Some (number_of (name_at (trimmed a H) a c)))
    pub number : length cs ≡ size (λ q. g q && not (absent (name_at (trimmed a H) a q))) (length (trimmed a H))
    pub none_aside : w.aside ≡ None

  -- each taken, but those of E, has handed its marks on
  abbrev pub Closed : (ℕ → Bool) → Walk → (ℕ → Type 0) → Type 0
  Closed g w E = (d r : ℕ) → g d ≡ true → (E d → ⊥) → member r (followed H a d) ≡ true → (w.met r ≡ true) × ((m : ℕ) → w.marks d m ≡ true → w.marks r m ≡ true)

  pub falls : (p : ℕ) {w : ℕ} → w < length (trimmed a H) → reaches (trimmed a H) s w ≡ true → Reaches (trimmed a H) w p → (w ≡ p) ⊎ (lt_z (at (trimmed a H) p).date (at (trimmed a H) w).date ≡ true)
  falls p l h (itself e) = inl e
  falls p {w} l h (through {r = r} m t) =
      let k : r < length (trimmed a H) = Lt.inside w r l m in
      let d : lt_z (at (trimmed a H) r).date (at (trimmed a H) w).date ≡ true = fall w r h m in
      ⊎_elim (λ (e : r ≡ p). inr (subst (λ (z : ℕ). lt_z (at (trimmed a H) z).date (at (trimmed a H) w).date ≡ true) e d))
      (λ (f : lt_z (at (trimmed a H) p).date (at (trimmed a H) r).date ≡ true). inr (ltZ_trans (at (trimmed a H) p).date (at (trimmed a H) r).date (at (trimmed a H) w).date f d))
      (falls p k (reaches_trans (trimmed a H) s w r k h (reaches_through (trimmed a H) w r r k m (reaches_itself (trimmed a H) r))) t)

  -- what is reached is taken, or reached from one that waits or is of E
  pub frontier : (g : ℕ → Bool) (cs : List ℕ) (w : Walk) (E : ℕ → Type 0) → ((x : ℕ) → (E x) ⊎ (E x → ⊥)) → Core g cs w → Closed g w E
      → (d : ℕ) {x : ℕ} → w.met x ≡ true → Reaches (trimmed a H) x d → (g d ≡ true) ⊎ ((y : ℕ) × ((w.waiting y ≡ true) ⊎ E y) × Reaches (trimmed a H) y d)
  frontier g cs w E dec C K d {x} m (itself e) = go (w.waiting x) refl
    where
      go : (b : Bool) → w.waiting x ≡ b → (g d ≡ true) ⊎ ((y : ℕ) × ((w.waiting y ≡ true) ⊎ E y) × Reaches (trimmed a H) y d)
      go true k = inr (x, inl k, itself e)
      go false k = inl (subst (λ (z : ℕ). g z ≡ true) e (sym (C.gone_is x) ∙ (unfold gone in rw (m, k))))
  frontier g cs w E dec C K d {x} m (through {r = r} mm t) = go (w.waiting x) refl (dec x) (λ h. frontier g cs w E dec C K d h t)
    where
      go : (b : Bool) → w.waiting x ≡ b → (E x) ⊎ (E x → ⊥) → (w.met r ≡ true → (g d ≡ true) ⊎ ((y : ℕ) × ((w.waiting y ≡ true) ⊎ E y) × Reaches (trimmed a H) y d)) → (g d ≡ true) ⊎ ((y : ℕ) × ((w.waiting y ≡ true) ⊎ E y) × Reaches (trimmed a H) y d)
      go true k o f = inr (x, inl k, through mm t)
      go false k (inl e) f = inr (x, inr e, through mm t)
      go false k (inr e) f = f (K x r (sym (C.gone_is x) ∙ (unfold gone in rw (m, k))) e (rw (trimmed_parents a H x) at mm)).0

  never : ℕ → Type 0
  never x = ⊥

  pub inside_T : (q : ℕ) → q < length H → q < length (trimmed a H)
  inside_T q l = rw (trimmed-length a H) l

  pub from_T : (q : ℕ) → q < length (trimmed a H) → q < length H
  from_T q l = rw (trimmed-length a H) at l

  pub reached_in : (q : ℕ) → reaches (trimmed a H) s q ≡ true → q < length (trimmed a H)
  reached_in q h = reached_inside (trimmed a H) Lt q (inside_T s sl) (reaches_sound (trimmed a H) s q h)

  pub top : (g : ℕ → Bool) (cs : List ℕ) (w : Walk) (p : ℕ) → Core g cs w → Closed g w (λ _. ⊥) → first_of H w.waiting ≡ Some p
      → (d : ℕ) → reaches (trimmed a H) s d ≡ true → reaches (trimmed a H) d p ≡ true → (d ≡ p) ⊎ (g d ≡ true)
  top g cs w p C K e d h r = ⊎_elim
      (λ (x : g d ≡ true). inr x)
      (λ (y : (y : ℕ) × ((w.waiting y ≡ true) ⊎ ⊥) × Reaches (trimmed a H) y d). ⊎_elim
      (λ (z : w.waiting y.0 ≡ true). inl (meets y.0 z y.2))
      (λ (z : ⊥). absurd z)
      y.1)
      (frontier g cs w (λ _. ⊥) (λ _. inr (λ z. z)) C K d C.begun (reaches_sound (trimmed a H) s d h))
    where
      x : (p < length H) × (w.waiting p ≡ true)
      x = first_says H w.waiting p e

      same_place : (y : ℕ) → y ≡ p → Reaches (trimmed a H) y d → d ≡ p
      same_place y k t = antisym (trimmed a H) Lt d p (reached_in d h) (reaches_sound (trimmed a H) d p r) (rw k at t)

      meets : (y : ℕ) → w.waiting y ≡ true → Reaches (trimmed a H) y d → d ≡ p
      meets y z t = ⊎_elim (λ (k : y ≡ p). same_place y k t)
          (λ (k : newer (at H y) (at H p) ≡ false). ⊎_elim (λ (f : y ≡ p). same_place y f t)
          (λ (f : lt_z (at (trimmed a H) p).date (at (trimmed a H) y).date ≡ true). absurd (both_ways (newer (at H y) (at H p)) k (newer-later (at H y) (at H p) (rw (trimmed_date a H p, trimmed_date a H y) at f))))
          (falls p (inside_T y (C.sound.below y z)) (C.real y (C.sound.known y z)) (Reaches-trans (trimmed a H) p d (reaches_sound (trimmed a H) d p r) t)))
          (first_greatest H w.waiting p y e (C.sound.below y z) z)

  pub member_getD : (cs : List ℕ) (m : ℕ) → m < length cs → member (get_or cs m 0) cs ≡ true
  unfolding member any
  member_getD [] m l = absurd (omega arith)
  member_getD (c ∷ cs) zero l = or_left (eqb c c) (any (eqb c) cs) (eq-eqb c c refl)
  member_getD (c ∷ cs) (suc m) l = or_right (eqb (get_or cs m 0) c) (any (eqb (get_or cs m 0)) cs) (member_getD cs m (omega arith))

  -- one taken is reached
  pub g_real : (g : ℕ → Bool) (cs : List ℕ) (w : Walk) → Core g cs w → (q : ℕ) → g q ≡ true → reaches (trimmed a H) s q ≡ true
  g_real g cs w C q h = C.real q (and_parts (w.met q) (not (w.waiting q)) (unfold gone in (C.gone_is q ∙ h))).0

  pub fresh : (g : ℕ → Bool) (cs : List ℕ) (w : Walk) (p : ℕ) → Core g cs w → w.waiting p ≡ true → g p ≡ false
  fresh g cs w p C h = sym (C.gone_is p) ∙ (unfold gone in rw h (off (w.met p)))
    where
      off : (m : Bool) → (m && false) ≡ false
      off true = refl
      off false = refl

  pub mark_p : (g : ℕ → Bool) (cs : List ℕ) (w : Walk) (p : ℕ) → Core g cs w → Closed g w (λ _. ⊥) → first_of H w.waiting ≡ Some p
      → (m : ℕ) → m < length cs → reaches (trimmed a H) (get_or cs m 0) p ≡ true → w.marks p m ≡ true
  mark_p g cs w p C K e m l r = ⊎_elim
      (λ (k : c ≡ p). absurd (both_ways (g p) (fresh g cs w p C x.1) (subst (λ (z : ℕ). g z ≡ true) k in'.0)))
      (λ (d : (d : ℕ) × Reaches (trimmed a H) c d × (member p (at (trimmed a H) d).parents ≡ true)). from d.0 d.1 d.2)
      (last_step (trimmed a H) p (reaches_sound (trimmed a H) c p r))
    where
      c : ℕ
      c = get_or cs m 0

      x : (p < length H) × (w.waiting p ≡ true)
      x = first_says H w.waiting p e

      in' : (g c ≡ true) × (name_at (trimmed a H) a c ≡ Some (number_of (name_at (trimmed a H) a c)))
      in' = C.each_in c (member_getD cs m l)

      rc : reaches (trimmed a H) s c ≡ true
      rc = g_real g cs w C c in'.0

      from : (d : ℕ) → Reaches (trimmed a H) c d → member p (at (trimmed a H) d).parents ≡ true → w.marks p m ≡ true
      from d t k =
          let dl : d < length (trimmed a H) = reached_inside (trimmed a H) Lt d (reached_in c rc) t in
          let cd : reaches (trimmed a H) c d ≡ true = reaches_complete (trimmed a H) d dl t in
          let pl : p < length (trimmed a H) = inside_T p x.0 in
          ⊎_elim
          (λ (z : d ≡ p). absurd (Lt.acyclic d p dl k (itself (sym z))))
          (λ (z : g d ≡ true). (K d p z (λ y. y) (rw (trimmed_parents a H d) at k)).1 m (C.mark_full d m z l cd))
          (top g cs w p C K e d (reaches_trans (trimmed a H) s c d dl rc cd) (reaches_through (trimmed a H) d p p pl k (reaches_itself (trimmed a H) p)))

  -- p among those taken
  abbrev pub with' : (ℕ → Bool) → ℕ → ℕ → Bool
  with' g p q = g q || eqb q p

  pub taken_is : (g : ℕ → Bool) (cs : List ℕ) (w : Walk) (p : ℕ) → Core g cs w → w.waiting p ≡ true → (q : ℕ) → gone (taken p w) q ≡ with' g p q
  unfolding gone taken
  taken_is g cs w p C h q = ⊎_elim
      (λ (e : q ≡ p). rw (e, eq-eqb p p refl, C.sound.known p h, fresh g cs w p C h) (off (w.waiting p)))
      (λ (e : q ≡ p → ⊥). rw (ne_eqb q p e, ← C.gone_is q) (on (w.met q) (w.waiting q)))
      (cases_eq q p)
    where
      off : (b : Bool) → not (b && false) ≡ true
      off true = refl
      off false = refl

      on : (b d : Bool) → (b && not (d && true)) ≡ ((b && not d) || false)
      on true true = refl
      on true false = refl
      on false d = refl

  pub count_step : (g : ℕ → Bool) (p c : ℕ) → p < length (trimmed a H) → g p ≡ false → (b : Bool) → reaches (trimmed a H) c p ≡ b
      → unreached_by (trimmed a H) (with' g p) c ≡ cond b (unreached_by (trimmed a H) g c) (unreached_by (trimmed a H) g c + 1)
  unfolding unreached_by
  count_step g p c l f true e = size_cong (λ q. with' g p q && not (reaches (trimmed a H) c q)) (λ q. g q && not (reaches (trimmed a H) c q)) (length (trimmed a H))
      (λ q k. ⊎_elim (λ (x : q ≡ p). rw (x, e, f, eq-eqb p p refl)) (λ (x : q ≡ p → ⊥). rw (ne_eqb q p x) (ap (λ (d : Bool). d && not (reaches (trimmed a H) c q)) (or_off (g q)))) (cases_eq q p))
    where
      or_off : (d : Bool) → (d || false) ≡ d
      or_off true = refl
      or_off false = refl
  count_step g p c l f false e = size_one_more (λ q. g q && not (reaches (trimmed a H) c q)) (λ q. with' g p q && not (reaches (trimmed a H) c q)) (length (trimmed a H)) p l
      (rw f) (rw (e, f, eq-eqb p p refl)) (λ q k x. rw (ne_eqb q p x) (ap (λ (d : Bool). d && not (reaches (trimmed a H) c q)) (sym (or_off (g q)))))
    where
      or_off : (d : Bool) → (d || false) ≡ d
      or_off true = refl
      or_off false = refl

  pub counts_step : (g : ℕ → Bool) (p : ℕ) (cs : List ℕ) (has : ℕ → Bool) → p < length (trimmed a H) → g p ≡ false → ((j : ℕ) → j < length cs → reaches (trimmed a H) (get_or cs j 0) p ≡ has j)
      → gains has 0 (map (unreached_by (trimmed a H) g) cs) ≡ map (unreached_by (trimmed a H) (with' g p)) cs
  counts_step g p cs has l f e = gains_is (unreached_by (trimmed a H) g) (unreached_by (trimmed a H) (with' g p)) has cs 0
      (λ j k. let z : 0 + j ≡ j = omega arith in rw z (count_step g p (get_or cs j 0) l f (has j) (e j k)))

  pub size_with : (g : ℕ → Bool) (p : ℕ) → p < length (trimmed a H) → g p ≡ false → size (with' g p) (length (trimmed a H)) ≡ size g (length (trimmed a H)) + 1
  size_with g p l f = size_one_more g (with' g p) (length (trimmed a H)) p l f (rw (f, eq-eqb p p refl)) (λ q k x. rw (ne_eqb q p x) (off (g q)))
    where
      off : (d : Bool) → d ≡ (d || false)
      off true = refl
      off false = refl

  module _ (g : ℕ → Bool) (cs : List ℕ) (w : Walk) (p : ℕ) (C : Core g cs w) (K : Closed g w (λ _. ⊥)) (e : first_of H w.waiting ≡ Some p) where
    px : (p < length H) × (w.waiting p ≡ true)
    px = first_says H w.waiting p e

    pl : p < length (trimmed a H)
    pl = inside_T p px.0

    pf : g p ≡ false
    pf = fresh g cs w p C px.1

    rp : reaches (trimmed a H) s p ≡ true
    rp = C.real p (C.sound.known p px.1)

    with_cases : (q : ℕ) → with' g p q ≡ true → (g q ≡ true) ⊎ (q ≡ p)
    with_cases q h = ⊎_elim (λ (x : g q ≡ true). inl x) (λ (x : eqb q p ≡ true). inr (eqb-true q p x)) (or_cases (g q) (eqb q p) h)

    upper' : (q d : ℕ) → with' g p q ≡ true → reaches (trimmed a H) s d ≡ true → reaches (trimmed a H) d q ≡ true → with' g p d ≡ true
    upper' q d h r t = ⊎_elim
        (λ (x : g q ≡ true). or_left (g d) (eqb d p) (C.upper q d x r t))
        (λ (x : q ≡ p). ⊎_elim (λ (y : d ≡ p). or_right (g d) (eqb d p) (eq-eqb d p y)) (λ (y : g d ≡ true). or_left (g d) (eqb d p) y) (top g cs w p C K e d r (subst (λ (z : ℕ). reaches (trimmed a H) d z ≡ true) x t)))
        (with_cases q h)

    -- p reaches none of those taken
    below_none : (q : ℕ) → g q ≡ true → reaches (trimmed a H) p q ≡ false
    below_none q h = not_so (reaches (trimmed a H) p q) (λ r. both_ways (g p) pf (C.upper q p h rp r))

    agree : (cs' : List ℕ) (has : ℕ → Bool) → ((m : ℕ) → has m ≡ true → (m < length cs') × (reaches (trimmed a H) (get_or cs' m 0) p ≡ true)) → ((m : ℕ) → m < length cs' → reaches (trimmed a H) (get_or cs' m 0) p ≡ true → has m ≡ true) → (j : ℕ) → j < length cs' → reaches (trimmed a H) (get_or cs' j 0) p ≡ has j
    agree cs' has f h j l = same (reaches (trimmed a H) (get_or cs' j 0) p) (has j) (h j l) (λ k. (f j k).1)

    full_plain : (d m : ℕ) → with' g p d ≡ true → m < length cs → reaches (trimmed a H) (get_or cs m 0) d ≡ true → w.marks d m ≡ true
    full_plain d m h l r = ⊎_elim (λ (x : g d ≡ true). C.mark_full d m x l r)
        (λ (x : d ≡ p). subst (λ (z : ℕ). w.marks z m ≡ true) (sym x) (mark_p g cs w p C K e m l (subst (λ (z : ℕ). reaches (trimmed a H) (get_or cs m 0) z ≡ true) x r))) (with_cases d h)

    pub plain_core : name_at (trimmed a H) a p ≡ None → Core (with' g p) cs (counted p (taken p w))
    unfolding counted taken gone
    plain_core nn = record {
      gone_is = λ q. taken_is g cs w p C px.1 q;
      sound = counted_sound (length H) p (taken p w) (taken_sound (length H) p w C.sound);
      real = C.real;
      begun = C.begun;
      upper = upper';
      mark_sound = C.mark_sound;
      mark_full = full_plain;
      found_is = C.found_is;
      counts_is = ap (gains (w.marks p) 0) C.counts_is ∙ counts_step g p cs (w.marks p) pl pf (agree cs (w.marks p) (C.mark_sound p) (λ m l r. mark_p g cs w p C K e m l r));
      seen_is = rw C.seen_is (sym (size_with g p pl pf));
      all_in = λ q k h y. ⊎_elim (λ (x : g q ≡ true). C.all_in q k x y) (λ (x : q ≡ p). absurd (let z : Some k ≡ None = sym y ∙ ap (name_at (trimmed a H) a) x ∙ nn in let o : ◌≡◌ {A = ℕ} 0 1 = cc in omega arith)) (with_cases q h);
      each_in = λ c m. (or_left (g c) (eqb c p) (C.each_in c m).0, (C.each_in c m).1);
      number = C.number ∙ size_cong (λ q. g q && not (absent (name_at (trimmed a H) a q))) (λ q. with' g p q && not (absent (name_at (trimmed a H) a q))) (length (trimmed a H))
          (λ q k. ⊎_elim (λ (x : q ≡ p). rw (x, nn, pf, eq-eqb p p refl) (unfold absent in refl)) (λ (x : q ≡ p → ⊥). rw (ne_eqb q p x) (ap (λ (d : Bool). d && not (absent (name_at (trimmed a H) a q))) (off (g q)))) (cases_eq q p));
      none_aside = C.none_aside;
    }
      where
        off : (d : Bool) → d ≡ (d || false)
        off true = refl
        off false = refl

    -- the marks once p is a candidate
    has_new : ℕ → ℕ → Bool
    has_new q m = w.marks q m || (eqb q p && eqb m (length w.found))

    found_length : length w.found ≡ length cs
    found_length = ap length C.found_is ∙ length-map cs (λ c. number_of (name_at (trimmed a H) a c))

    sound_new : (q m : ℕ) → has_new q m ≡ true → (m < length (cs ++ p ∷ [])) × (reaches (trimmed a H) (get_or (cs ++ p ∷ []) m 0) q ≡ true)
    unfolding has_new
    sound_new q m h = ⊎_elim
        (λ (x : w.marks q m ≡ true). let y = C.mark_sound q m x in
        (rw (length_push cs p) (omega (arith, y.0)), rw (getD_push_old cs p m y.0) y.1))
        (λ (x : (eqb q p && eqb m (length w.found)) ≡ true). let y = and_parts (eqb q p) (eqb m (length w.found)) x in
        let k : m ≡ length cs = eqb-true m (length w.found) y.1 ∙ found_length in
        (rw (length_push cs p) (omega arith), rw (getD_push_new cs p m k, eqb-true q p y.0) (reaches_itself (trimmed a H) p)))
        (or_cases (w.marks q m) (eqb q p && eqb m (length w.found)) h)

    full_new : (d m : ℕ) → with' g p d ≡ true → m < length (cs ++ p ∷ []) → reaches (trimmed a H) (get_or (cs ++ p ∷ []) m 0) d ≡ true → has_new d m ≡ true
    unfolding has_new
    full_new d m h l r = ⊎_elim
        (λ (k : m < length cs). or_left (w.marks d m) (eqb d p && eqb m (length w.found)) (full_plain d m h k (rw (getD_push_old cs p m k) at r)))
        (λ (k : length cs ≤ m). let z : m ≡ length cs = omega (arith, rw (length_push cs p) at l) in
        let t : reaches (trimmed a H) p d ≡ true = rw (getD_push_new cs p m z) at r in
        ⊎_elim
        (λ (x : g d ≡ true). absurd (both_ways (reaches (trimmed a H) p d) (below_none d x) t))
        (λ (x : d ≡ p). or_right (w.marks d m) (eqb d p && eqb m (length w.found)) (and_from (eqb d p) (eqb m (length w.found)) (eq-eqb d p x) (eq-eqb m (length w.found) (z ∙ sym found_length))))
        (with_cases d h))
        (cases_lt m (length cs))

    -- before the counting
    counts_new : w.counts ++ (w.seen + 1 - 1) ∷ [] ≡ map (unreached_by (trimmed a H) g) (cs ++ p ∷ [])
    counts_new =
        let z : w.seen + 1 - 1 ≡ unreached_by (trimmed a H) g p = omega (arith, C.seen_is, all_of) in
        sym (map_push (unreached_by (trimmed a H) g) cs p ∙ rw (z, C.counts_is))
      where
        on : (d r : Bool) → (d ≡ true → r ≡ false) → d ≡ (d && not r)
        on true true f = absurd (true≢false (f refl))
        on true false f = refl
        on false r f = refl

        all_of : size g (length (trimmed a H)) ≡ unreached_by (trimmed a H) g p
        all_of = unfold unreached_by in size_cong g (λ q. g q && not (reaches (trimmed a H) p q)) (length (trimmed a H)) (λ q _. on (g q) (reaches (trimmed a H) p q) (below_none q))

    pub named_core : (k : ℕ) → name_at (trimmed a H) a p ≡ Some k → Core (with' g p) (cs ++ p ∷ []) (counted p (adopted p k (taken p w)))
    unfolding counted taken adopted gone has_new
    named_core k nn = record {
      gone_is = λ q. taken_is g cs w p C px.1 q;
      sound = counted_sound (length H) p (adopted p k (taken p w)) (adopted_sound (length H) p k (taken p w) (taken_sound (length H) p w C.sound));
      real = C.real;
      begun = C.begun;
      upper = upper';
      mark_sound = sound_new;
      mark_full = full_new;
      found_is = sym (map_push (λ c. number_of (name_at (trimmed a H) a c)) cs p ∙ rw (nn, C.found_is) (unfold number_of in refl));
      counts_is = ap (gains (has_new p) 0) counts_new ∙ counts_step g p (cs ++ p ∷ []) (has_new p) pl pf (agree (cs ++ p ∷ []) (has_new p) (sound_new p) (λ m l r. full_new p m itself_in l r));
      seen_is = rw C.seen_is (sym (size_with g p pl pf));
      all_in = λ q j h y. member-append q cs (p ∷ []) ∙ ⊎_elim (λ (x : g q ≡ true). or_left (member q cs) (member q (p ∷ [])) (C.all_in q j x y))
          (λ (x : q ≡ p). or_right (member q cs) (member q (p ∷ [])) (unfold member any in or_left (eqb q p) false (eq-eqb q p x))) (with_cases q h);
      each_in = λ c m. ⊎_elim (λ (x : member c cs ≡ true). (or_left (g c) (eqb c p) (C.each_in c x).0, (C.each_in c x).1))
          (λ (x : member c (p ∷ []) ≡ true). let z : c ≡ p = only c x in (or_right (g c) (eqb c p) (eq-eqb c p z), rw (z, nn) (unfold number_of in refl)))
          (or_cases (member c cs) (member c (p ∷ [])) (sym (member-append c cs (p ∷ [])) ∙ m));
      number = length_push cs p ∙ ap (λ (z : ℕ). z + 1) C.number ∙ sym (size_one_more (λ q. g q && not (absent (name_at (trimmed a H) a q))) (λ q. with' g p q && not (absent (name_at (trimmed a H) a q))) (length (trimmed a H)) p pl
          (rw pf) (rw (nn, pf, eq-eqb p p refl) (unfold absent in refl)) (λ q l x. rw (ne_eqb q p x) (ap (λ (d : Bool). d && not (absent (name_at (trimmed a H) a q))) (off (g q)))));
      none_aside = C.none_aside;
    }
      where
        itself_in : with' g p p ≡ true
        itself_in = or_right (g p) (eqb p p) (eq-eqb p p refl)

        off : (d : Bool) → d ≡ (d || false)
        off true = refl
        off false = refl

        only : (c : ℕ) → member c (p ∷ []) ≡ true → c ≡ p
        only c m = ⊎_elim (λ (x : eqb c p ≡ true). eqb-true c p x) (λ (x : false ≡ true). absurd (false≢true x)) (or_cases (eqb c p) false (unfold member any in m))

    -- a name taken finds a candidate free
    pub room : (k : ℕ) → name_at (trimmed a H) a p ≡ Some k → free a (taken p w) ≡ true
    unfolding free taken
    room k nn = lt-ltb (length w.found) (min 32 a.most) (omega (
      arith,
      found_length,
      C.number,
      fit,
      size_less (λ q. g q && not (absent (name_at (trimmed a H) a q))) (λ q. reaches (trimmed a H) s q && not (absent (name_at (trimmed a H) a q))) (length (trimmed a H)) p
          (λ q _ h. let y = and_parts (g q) (not (absent (name_at (trimmed a H) a q))) h in and_from (reaches (trimmed a H) s q) (not (absent (name_at (trimmed a H) a q))) (g_real g cs w C q y.0) y.1) pl (rw pf) (rw (rp, nn) (unfold absent in refl)),
    ))

    pub plain_closed : Closed (with' g p) (counted p (taken p w)) (λ d. d ≡ p)
    unfolding counted taken
    plain_closed d r h x m = ⊎_elim (λ (y : g d ≡ true). K d r y (λ z. z) m) (λ (y : d ≡ p). absurd (x y)) (with_cases d h)

    pub named_closed : (k : ℕ) → Closed (with' g p) (counted p (adopted p k (taken p w))) (λ d. d ≡ p)
    unfolding counted taken adopted
    named_closed k d r h x m = ⊎_elim
        (λ (y : g d ≡ true). let z = K d r y (λ z. z) m in
        (z.0, λ i t. or_left (w.marks r i) (eqb r p && eqb i (length w.found)) (⊎_elim (λ (u : w.marks d i ≡ true). z.1 i u) (λ (u : (eqb d p && eqb i (length w.found)) ≡ true). absurd (x (eqb-true d p (and_parts (eqb d p) (eqb i (length w.found)) u).0))) (or_cases (w.marks d i) (eqb d p && eqb i (length w.found)) t))))
        (λ (y : d ≡ p). absurd (x y)) (with_cases d h)

    pub ahead : (d : ℕ) → with' g p d ≡ true → (d ≡ p → ⊥) → reaches (trimmed a H) p d ≡ false
    ahead d h x = ⊎_elim (λ (y : g d ≡ true). below_none d y) (λ (y : d ≡ p). absurd (x y)) (with_cases d h)

  handed_is : (p : ℕ) (ps : List ℕ) (w : Walk) (q : ℕ) → (w.waiting q ≡ true → w.met q ≡ true) → gone (handed p ps w) q ≡ gone w q
  unfolding gone handed
  handed_is p ps w q k = go (w.met q) (w.waiting q) (member q ps) k
    where
      go : (m v r : Bool) → (v ≡ true → m ≡ true) → ((m || r) && not (v || (r && not m))) ≡ (m && not v)
      go true true r k = refl
      go true false true k = refl
      go true false false k = refl
      go false true r k = absurd (false≢true (k refl))
      go false false true k = refl
      go false false false k = refl

  module _ (g : ℕ → Bool) (cs : List ℕ) (v : Walk) (p : ℕ) (C : Core g cs v) (K : Closed g v (λ d. d ≡ p)) (pl : p < length H) (rp : reaches (trimmed a H) s p ≡ true) (ah : (d : ℕ) → g d ≡ true → (d ≡ p → ⊥) → reaches (trimmed a H) p d ≡ false) where
    step_down : (q : ℕ) → member q (followed H a p) ≡ true → reaches (trimmed a H) p q ≡ true
    step_down q m = reaches_through (trimmed a H) p q q (inside_T q (followed_inside H L a p q pl m)) (rw (trimmed_parents a H p) m) (reaches_itself (trimmed a H) q)

    pub handed_core : Core g cs (handed p (followed H a p) v)
    handed_core = record {
      gone_is = λ q. handed_is p (followed H a p) v q (C.sound.known q) ∙ C.gone_is q;
      sound = handed_sound H L a p v pl C.sound;
      real = λ q h. ⊎_elim (λ (x : v.met q ≡ true). C.real q x) (λ (x : member q (followed H a p) ≡ true). reaches_trans (trimmed a H) s p q (inside_T q (followed_inside H L a p q pl x)) rp (step_down q x)) (or_cases (v.met q) (member q (followed H a p)) (unfold handed in h));
      begun = unfold handed in or_left (v.met s) (member s (followed H a p)) C.begun;
      upper = C.upper;
      mark_sound = λ q m h. ⊎_elim (λ (x : v.marks q m ≡ true). C.mark_sound q m x)
          (λ (x : (member q (followed H a p) && v.marks p m) ≡ true). let y = and_parts (member q (followed H a p)) (v.marks p m) x in let z = C.mark_sound p m y.1 in
          (z.0, reaches_trans (trimmed a H) (get_or cs m 0) p q (inside_T q (followed_inside H L a p q pl y.0)) z.1 (step_down q y.0)))
          (or_cases (v.marks q m) (member q (followed H a p) && v.marks p m) (unfold handed in h));
      mark_full = λ d m h l r. unfold handed in or_left (v.marks d m) (member d (followed H a p) && v.marks p m) (C.mark_full d m h l r);
      found_is = unfold handed in C.found_is;
      counts_is = unfold handed in C.counts_is;
      seen_is = unfold handed in C.seen_is;
      all_in = C.all_in;
      each_in = C.each_in;
      number = C.number;
      none_aside = unfold handed in C.none_aside;
    }

    pub handed_closed : Closed g (handed p (followed H a p) v) (λ _. ⊥)
    unfolding handed
    handed_closed d r h _ m = ⊎_elim
        (λ (x : d ≡ p). let k : member r (followed H a p) ≡ true = subst (λ (z : ℕ). member r (followed H a z) ≡ true) x m in (
          or_right (v.met r) (member r (followed H a p)) k,
          λ i t. or_right (v.marks r i) (member r (followed H a p) && v.marks p i) (and_from (member r (followed H a p)) (v.marks p i) k
              (⊎_elim (λ (u : v.marks d i ≡ true). subst (λ (z : ℕ). v.marks z i ≡ true) x u) (λ (u : (member d (followed H a p) && v.marks p i) ≡ true). (and_parts (member d (followed H a p)) (v.marks p i) u).1) (or_cases (v.marks d i) (member d (followed H a p) && v.marks p i) t))),
        ))
        (λ (x : d ≡ p → ⊥). let z = K d r h x m in (
          or_left (v.met r) (member r (followed H a p)) z.0,
          λ i t. or_left (v.marks r i) (member r (followed H a p) && v.marks p i)
              (⊎_elim (λ (u : v.marks d i ≡ true). z.1 i u) (λ (u : (member d (followed H a p) && v.marks p i) ≡ true). absurd (both_ways (reaches (trimmed a H) p d) (ah d h x) (step_down d (and_parts (member d (followed H a p)) (v.marks p i) u).0))) (or_cases (v.marks d i) (member d (followed H a p) && v.marks p i) t)),
        ))
        (cases_eq d p)

  -- c is of the least count
  abbrev pub Least : (ℕ → Bool) → List ℕ → ℕ → Type 0
  Least g cs c = (c' : ℕ) → member c' cs ≡ true → unreached_by (trimmed a H) g c ≤ unreached_by (trimmed a H) g c'

  -- a walk that is over
  pub record Final (w : Walk) : Type 0 where
    pub g : ℕ → Bool
    pub cs : List ℕ
    pub core : Core g cs w
    pub rest : (d : ℕ) → reaches (trimmed a H) s d ≡ true → (g d ≡ true) ⊎ ((c : ℕ) → member c cs ≡ true → Least g cs c → reaches (trimmed a H) c d ≡ true)
    pub none : cs ≡ [] → (d : ℕ) → reaches (trimmed a H) s d ≡ true → g d ≡ true
    pub quiet : (q : ℕ) → q < length H → w.waiting q ≡ false

  pub exact : (w : Walk) (F : Final w) (c : ℕ) → member c F.cs ≡ true → Least F.g F.cs c → unreached_by (trimmed a H) F.g c ≡ between (trimmed a H) s c
  unfolding unreached_by between
  exact w F c m l = size_cong (λ q. F.g q && not (reaches (trimmed a H) c q)) (λ q. reaches (trimmed a H) s q && not (reaches (trimmed a H) c q)) (length (trimmed a H))
      (λ q _. go q (F.g q) refl (reaches (trimmed a H) s q) refl (reaches (trimmed a H) c q) refl)
    where
      go : (q : ℕ) (x : Bool) → F.g q ≡ x → (y : Bool) → reaches (trimmed a H) s q ≡ y → (z : Bool) → reaches (trimmed a H) c q ≡ z → (x && not z) ≡ (y && not z)
      go q true e true f z h = refl
      go q true e false f z h = absurd (both_ways (reaches (trimmed a H) s q) f (g_real F.g F.cs w F.core q e))
      go q false e true f true h = refl
      go q false e true f false h = ⊎_elim (λ (k : F.g q ≡ true). absurd (both_ways (F.g q) e k)) (λ (k : (c : ℕ) → member c F.cs ≡ true → Least F.g F.cs c → reaches (trimmed a H) c q ≡ true). absurd (both_ways (reaches (trimmed a H) c q) h (k c m l))) (F.rest q f)
      go q false e false f z h = refl

  pub lowest : (w : Walk) (F : Final w) (c : ℕ) → member c F.cs ≡ true → Least F.g F.cs c → (q k : ℕ) → reaches (trimmed a H) s q ≡ true → name_at (trimmed a H) a q ≡ Some k → unreached_by (trimmed a H) F.g c ≤ between (trimmed a H) s q
  lowest w F c m l q k h nn = go (F.g q) refl
    where
      part : (x : ℕ) → F.g x ≡ true → reaches (trimmed a H) s x ≡ true
      part x = g_real F.g F.cs w F.core x

      go : (b : Bool) → F.g q ≡ b → unreached_by (trimmed a H) F.g c ≤ between (trimmed a H) s q
      go true e = let i : unreached_by (trimmed a H) F.g q ≤ between (trimmed a H) s q = unfold unreached_by between in size_mono (λ x. F.g x && not (reaches (trimmed a H) q x)) (λ x. reaches (trimmed a H) s x && not (reaches (trimmed a H) q x)) (length (trimmed a H))
          (λ x _ y. let z = and_parts (F.g x) (not (reaches (trimmed a H) q x)) y in and_from (reaches (trimmed a H) s x) (not (reaches (trimmed a H) q x)) (part x z.0) z.1) in
          omega (arith, l q (F.core.all_in q k e nn))
      go false e = unfold unreached_by between in size_mono (λ x. F.g x && not (reaches (trimmed a H) c x)) (λ x. reaches (trimmed a H) s x && not (reaches (trimmed a H) q x)) (length (trimmed a H))
          (λ x _ y. let z = and_parts (F.g x) (not (reaches (trimmed a H) c x)) y in and_from (reaches (trimmed a H) s x) (not (reaches (trimmed a H) q x)) (part x z.0)
          (let o : reaches (trimmed a H) q x ≡ false = not_so (reaches (trimmed a H) q x) (λ r. both_ways (F.g q) e (F.core.upper x q z.0 h r)) in rw o))

  pub ended_core : (g : ℕ → Bool) (cs : List ℕ) (w : Walk) → Core g cs w → Core g cs (ended w)
  unfolding ended gone
  ended_core g cs w C = record {
    gone_is = C.gone_is;
    sound = record { below = C.sound.below; known = C.sound.known; put = C.sound.put };
    real = C.real;
    begun = C.begun;
    upper = C.upper;
    mark_sound = C.mark_sound;
    mark_full = C.mark_full;
    found_is = C.found_is;
    counts_is = C.counts_is;
    seen_is = C.seen_is;
    all_in = C.all_in;
    each_in = C.each_in;
    number = C.number;
    none_aside = C.none_aside;
  }

  abbrev pub Live : Walk → Type 0
  Live w = (g : ℕ → Bool) × (cs : List ℕ) × Core g cs w × Closed g w (λ _. ⊥) × (w.over ≡ false)

  abbrev pub Stage : Walk → Type 0
  Stage w = Live w ⊎ (Final w × (w.over ≡ true))

  pub end_step : (w : Walk) → Live w → first_of H w.waiting ≡ None → Stage (ended w)
  end_step w (g, cs, C, K, o) e = inr (
    record
        { g = g; cs = cs; core = ended_core g cs w C; rest = λ d h. inl (all d h); none = λ _ d h. all d h; quiet = λ q l. unfold ended in first_none H w.waiting e q l },
    unfold ended in refl,
  )
    where
      all : (d : ℕ) → reaches (trimmed a H) s d ≡ true → g d ≡ true
      all d h = ⊎_elim (λ (x : g d ≡ true). x)
          (λ (y : (y : ℕ) × ((w.waiting y ≡ true) ⊎ ⊥) × Reaches (trimmed a H) y d). ⊎_elim (λ (z : w.waiting y.0 ≡ true). absurd (both_ways (w.waiting y.0) (first_none H w.waiting e y.0 (C.sound.below y.0 z)) z)) (λ (z : ⊥). absurd z) y.1)
          (frontier g cs w (λ _. ⊥) (λ _. inr (λ z. z)) C K d C.begun (reaches_sound (trimmed a H) s d h))

  pub onward_step : (g : ℕ → Bool) (cs : List ℕ) (v : Walk) (p : ℕ) → Core g cs v → Closed g v (λ d. d ≡ p) → p < length H → reaches (trimmed a H) s p ≡ true
      → ((d : ℕ) → g d ≡ true → (d ≡ p → ⊥) → reaches (trimmed a H) p d ≡ false) → v.over ≡ false → Stage (onward H a p v)
  unfolding onward
  onward_step g cs v p C K pl rp ah o = go (absent (first_of H v.waiting) && has_least (v.marks p) v.counts) refl
    where
      go : (b : Bool) → (absent (first_of H v.waiting) && has_least (v.marks p) v.counts) ≡ b → Stage (cond b (ended v) (handed p (followed H a p) v))
      go false e = inl (g, cs, handed_core g cs v p C K pl rp ah, handed_closed g cs v p C K pl rp ah, unfold handed in o)
      go true e =
          let x = and_parts (absent (first_of H v.waiting)) (has_least (v.marks p) v.counts) e in
          let q : first_of H v.waiting ≡ None = none_absent (first_of H v.waiting) x.0 in
          let y : has_least (v.marks p) (map (unreached_by (trimmed a H) g) cs) ≡ true = subst (λ (ks : List ℕ). has_least (v.marks p) ks ≡ true) C.counts_is x.1 in
          inr (
            record {
              g = g;
              cs = cs;
              core = ended_core g cs v C;
              rest = λ d h. ⊎_elim (λ (z : g d ≡ true). inl z)
                  (λ (z : (y : ℕ) × ((v.waiting y ≡ true) ⊎ (y ≡ p)) × Reaches (trimmed a H) y d). ⊎_elim
                  (λ (u : v.waiting z.0 ≡ true). absurd (both_ways (v.waiting z.0) (first_none H v.waiting q z.0 (C.sound.below z.0 u)) u))
                  (λ (u : z.0 ≡ p). inr (λ c m l. let t = least-marked (unreached_by (trimmed a H) g) (v.marks p) cs y c m l in
                  let r : reaches (trimmed a H) c p ≡ true = subst (λ (k : ℕ). reaches (trimmed a H) k p ≡ true) t.2 (C.mark_sound p t.0 t.3).1 in
                  reaches_trans (trimmed a H) c p d (reached_in d h) r (reaches_complete (trimmed a H) d (reached_in d h) (subst (λ (k : ℕ). Reaches (trimmed a H) k d) u z.2))))
                  z.1)
                  (frontier g cs v (λ d. d ≡ p) (λ k. cases_eq k p) C K d C.begun (reaches_sound (trimmed a H) s d h));
              none = λ n. absurd (no_least (v.marks p) (subst (λ (ks : List ℕ). has_least (v.marks p) (map (unreached_by (trimmed a H) g) ks) ≡ true) n y));
              quiet = λ k l. ended_quiet v k (first_none H v.waiting q k l);
            },
            ended_over v,
          )

  pub name_same : (p : ℕ) → name_at (trimmed a H) a p ≡ index_of a.names (at H p).id
  unfolding name_at
  name_same p = rw (trimmed_id a H p)

  pub turn_stage : (w : Walk) → Live w → Stage (turn H a false w)
  unfolding turn take_turn
  turn_stage w (g, cs, C, K, o) = go (first_of H w.waiting) refl
    where
      visited : (p : ℕ) → first_of H w.waiting ≡ Some p → (k : Option ℕ) → index_of a.names (at H p).id ≡ k → Stage (visit H a p k (taken p w))
      visited p e None f = unfold visit in onward_step (with' g p) cs (counted p (taken p w)) p (plain_core g cs w p C K e (name_same p ∙ f)) (plain_closed g cs w p C K e) (px g cs w p C K e).0 (rp g cs w p C K e) (ahead g cs w p C K e) (unfold counted taken in o)
      visited p e (Some k) f = unfold visit in subst (λ (b : Bool). Stage (cond b (onward H a p (counted p (adopted p k (taken p w)))) (set_aside p (taken p w)))) (sym (room g cs w p C K e k (name_same p ∙ f)))
          (onward_step (with' g p) (cs ++ p ∷ []) (counted p (adopted p k (taken p w))) p (named_core g cs w p C K e k (name_same p ∙ f)) (named_closed g cs w p C K e k) (px g cs w p C K e).0 (rp g cs w p C K e) (ahead g cs w p C K e) (unfold counted adopted taken in o))

      go : (q : Option ℕ) → first_of H w.waiting ≡ q → Stage (take_turn H a (first_of H w.waiting) w)
      go None e = subst (λ (q : Option ℕ). Stage (take_turn H a q w)) (sym e) (end_step w (g, cs, C, K, o) e)
      go (Some p) e = subst (λ (q : Option ℕ). Stage (take_turn H a q w)) (sym e) (visited p e (index_of a.names (at H p).id) refl)

  pub walk_stage : (j : ℕ) (w : Walk) → Stage w → Stage (walk H a j w)
  unfolding walk
  walk_stage zero w S = S
  walk_stage (suc j) w S = walk_stage j (turn H a w.over w) (⊎_elim
      (λ (x : Live w). subst (λ (b : Bool). Stage (turn H a b w)) (sym x.4) (turn_stage w x))
      (λ (x : Final w × (w.over ≡ true)). subst (λ (b : Bool). Stage (turn H a b w)) (sym x.1) (unfold turn in inr x))
      S)

  size_none : (k : ℕ) → size (λ _. false) k ≡ 0
  unfolding size
  size_none zero = refl
  size_none (suc k) = rw (size_none k) (omega arith)

  pub start_core : Core (λ _. false) [] (at_start s)
  unfolding at_start gone
  start_core = record {
    gone_is = λ q. off (eqb q s);
    sound = start_sound (length H) s sl;
    real = λ q h. rw (eqb-true q s h) (reaches_itself (trimmed a H) s);
    begun = eq-eqb s s refl;
    upper = λ q d h. absurd (false≢true h);
    mark_sound = λ q m h. absurd (false≢true h);
    mark_full = λ d m h. absurd (false≢true h);
    found_is = refl;
    counts_is = refl;
    seen_is = sym (size_none (length (trimmed a H)));
    all_in = λ q k h. absurd (false≢true h);
    each_in = λ c m. absurd (false≢true (unfold member any in m));
    number = sym (size_none (length (trimmed a H)));
    none_aside = refl;
  }
    where
      off : (b : Bool) → (b && not b) ≡ false
      off true = refl
      off false = refl

  pub start_stage : Stage (at_start s)
  start_stage = inl ((λ _. false), [], start_core, (λ d r h. absurd (false≢true h)), unfold at_start in refl)

  pub walk_final : Final (walk H a (suc (length H)) (at_start s))
  walk_final = ⊎_elim
      (λ (x : Live (walk H a (suc (length H)) (at_start s))). absurd (both_ways (walk H a (suc (length H)) (at_start s)).over x.4 (walk_over H L a (at_start s) (start_sound (length H) s sl))))
      (λ (x : Final (walk H a (suc (length H)) (at_start s)) × ((walk H a (suc (length H)) (at_start s)).over ≡ true)). x.0)
      (walk_stage (suc (length H)) (at_start s) start_stage)

  finish_still : (m j : ℕ) (f : Finish) → f.state.over ≡ true → finish H a m j f ≡ f
  unfolding finish finish_step
  finish_still m zero f o = refl
  finish_still m (suc j) f o = ap (λ (b : Bool). finish H a m j (finish_step H a m b f)) o ∙ finish_still m j f o

  pub finish_quiet : (m j : ℕ) (f : Finish) → f.state.over ≡ false → first_of H f.state.waiting ≡ None → (finish H a m (suc j) f).depth ≡ f.depth
  unfolding finish finish_step finish_turn
  finish_quiet m j f o e = ap (λ (b : Bool). (finish H a m j (finish_step H a m b f)).depth) o
      ∙ ap (λ (q : Option ℕ). (finish H a m j (finish_turn H a m q f)).depth) e
      ∙ ap (λ (x : Finish). x.depth) (finish_still m j (record { state = ended f.state; depth = f.depth }) (ended_over f.state))

  first_quiet : (S : ℕ → Bool) → ((q : ℕ) → q < length H → S q ≡ false) → first_of H S ≡ None
  unfolding first_of by_date
  first_quiet S h = ap head (keep_none S (by_date H) (λ q m. h q (ltb-true q (length H) (sym (member-ordered (λ p q. newer (at H p) (at H q)) q (length H)) ∙ m)))) ∙ (unfold head in refl)

  back_plain : (w : Walk) → w.aside ≡ None → ((back w).over ≡ false) × ((q : ℕ) → (back w).waiting q ≡ w.waiting q)
  unfolding back
  back_plain w e = subst (λ (o : Option ℕ). ((returned o w).over ≡ false) × ((q : ℕ) → (returned o w).waiting q ≡ w.waiting q)) (sym e) (plain w)
    where
      plain : (w : Walk) → ((returned None w).over ≡ false) × ((q : ℕ) → (returned None w).waiting q ≡ w.waiting q)
      plain w = unfold returned in (refl, λ q. refl)

  abbrev pub Unnamed : Type 0
  Unnamed = (q : ℕ) → reaches (trimmed a H) s q ≡ true → name_at (trimmed a H) a q ≡ None

  no_name_near : (k : ℕ) → Unnamed → Nearest (trimmed a H) a s (no_name a k)
  unfolding no_name
  no_name_near k u = go a.fallback
    where
      go : (b : Bool) → Nearest (trimmed a H) a s (cond b (bare k) nothing)
      go true = u
      go false = u

  not_some : (o : Option ℕ) → ((k : ℕ) → o ≡ Some k → ⊥) → o ≡ None
  not_some None f = refl
  not_some (Some k) f = absurd (f k refl)

  pub choose_near : (w : Walk) → Final w → (ns : List ℕ) → w.counts ≡ ns → Nearest (trimmed a H) a s (choose H a w ns)
  unfolding choose
  choose_near w F [] e = no_name_near w.seen (λ q h. not_some (name_at (trimmed a H) a q) (λ k y. empty_has F.cs (nil F.cs (sym F.core.counts_is ∙ e)) q (F.core.all_in q k (F.none (nil F.cs (sym F.core.counts_is ∙ e)) q h) y)))
    where
      nil : (cs : List ℕ) → map (unreached_by (trimmed a H) F.g) cs ≡ [] → cs ≡ []
      nil [] h = refl
      nil (c ∷ cs) h = absurd (let z : ◌≡◌ {A = ℕ} 0 1 = cc in omega arith)

      empty_has : (cs : List ℕ) → cs ≡ [] → (q : ℕ) → member q cs ≡ true → ⊥
      empty_has cs h q m = false≢true (unfold member any in (subst (λ (l : List ℕ). member q l ≡ true) h m))
  choose_near w F (n ∷ ns) e = found
    where
      f : ℕ → ℕ
      f = unreached_by (trimmed a H) F.g

      N : ℕ
      N = least n ns

      E : (j : ℕ) × (earliest N 0 (n ∷ ns) ≡ 0 + j) × (j < length (n ∷ ns)) × (get_or (n ∷ ns) j 0 ≡ N)
      E = earliest_says N 0 (n ∷ ns) (least_of n ns)

      j : ℕ
      j = E.0

      is : n ∷ ns ≡ map f F.cs
      is = sym e ∙ F.core.counts_is

      jl : j < length F.cs
      jl = subst (λ (k : ℕ). j < k) (length-map F.cs f) (subst (λ (l : List ℕ). j < length l) is E.2)

      c : ℕ
      c = get_or F.cs j 0

      cm : member c F.cs ≡ true
      cm = member_getD F.cs j jl

      fc : f c ≡ N
      fc = sym (getD_mapped f F.cs j jl) ∙ sym (ap (λ (l : List ℕ). get_or l j 0) is) ∙ E.3

      low : Least F.g F.cs c
      low c' m = let x : member (f c') (n ∷ ns) ≡ true = subst (λ (l : List ℕ). member (f c') l ≡ true) (sym is) (mapped_member f c' F.cs m) in
          let y = least_low n ns in
          let t : N ≤ f c' = ⊎_elim (λ (z : eqb (f c') n ≡ true). let u : f c' ≡ n = eqb-true (f c') n z in omega (arith, y.0)) (λ (z : member (f c') ns ≡ true). y.1 (f c') z) (member-cons (f c') n ns x) in
          omega (arith, fc)

      here : earliest N 0 (n ∷ ns) ≡ j
      here = E.1 ∙ omega arith

      bp : ((back w).over ≡ false) × ((q : ℕ) → (back w).waiting q ≡ w.waiting q)
      bp = back_plain w F.core.none_aside

      deep : (m : ℕ) → m ≡ j → (finish H a m (suc (length H)) (record { state = back w; depth = get_or w.counts m 0 })).depth ≡ f c
      deep m k = finish_quiet m (length H) (record { state = back w; depth = get_or w.counts m 0 }) bp.0 (first_quiet (back w).waiting (λ q l. bp.1 q ∙ F.quiet q l))
          ∙ ap (λ (i : ℕ). get_or w.counts i 0) k ∙ ap (λ (l : List ℕ). get_or l j 0) F.core.counts_is ∙ getD_mapped f F.cs j jl

      nm : (m : ℕ) → m ≡ j → get_or w.found m 0 ≡ number_of (name_at (trimmed a H) a c)
      nm m k = ap (λ (i : ℕ). get_or w.found i 0) k ∙ ap (λ (l : List ℕ). get_or l j 0) F.core.found_is ∙ getD_mapped (λ c. number_of (name_at (trimmed a H) a c)) F.cs j jl

      found : Nearest (trimmed a H) a s (settle H a (earliest N 0 (n ∷ ns)) w)
      found = unfold settle in record {
        place = c;
        reached = g_real F.g F.cs w F.core c (F.core.each_in c cm).0;
        its = (F.core.each_in c cm).1 ∙ ap Some (sym (nm (earliest N 0 (n ∷ ns)) here));
        depth = deep (earliest N 0 (n ∷ ns)) here ∙ exact w F c cm low;
        least = λ q k h y. subst (λ (d : ℕ). d ≤ between (trimmed a H) s q) (sym (deep (earliest N 0 (n ∷ ns)) here)) (lowest w F c cm low q k h y);
      }

  pub idle_near : (eqb a.most 0 || empty a.names) ≡ true → Unnamed
  idle_near h q r = ⊎_elim
      (λ (x : eqb a.most 0 ≡ true). not_some (name_at (trimmed a H) a q) (λ k y.
      let z : a.most ≡ 0 = eqb-true a.most 0 x in
      let i : size (λ _. false) (length (trimmed a H)) < size (λ q. reaches (trimmed a H) s q && not (absent (name_at (trimmed a H) a q))) (length (trimmed a H)) = size_less (λ _. false) (λ q. reaches (trimmed a H) s q && not (absent (name_at (trimmed a H) a q))) (length (trimmed a H)) q (λ x _ h. absurd (false≢true h)) (reached_in q r) refl (some_there q k r y) in
      omega (arith, fit)))
      (λ (x : empty a.names ≡ true). name_same q ∙ place_none a.names (at H q).id x)
      (or_cases (eqb a.most 0) (empty a.names) h)
    where
      some_there : (q k : ℕ) → reaches (trimmed a H) s q ≡ true → name_at (trimmed a H) a q ≡ Some k → (reaches (trimmed a H) s q && not (absent (name_at (trimmed a H) a q))) ≡ true
      some_there q k r y = rw (r, y) (unfold absent in refl)

pub size_zero : (k : ℕ) → size (λ _. false) k ≡ 0
unfolding size
size_zero zero = refl
size_zero (suc k) = rw (size_zero k) (omega arith)

pub between_none : (T : List Commit) (s : ℕ) → between T s s ≡ 0
unfolding between
between_none T s = size_cong (λ q. reaches T s q && not (reaches T s q)) (λ _. false) (length T) (λ q _. off (reaches T s q)) ∙ size_zero (length T)
  where
    off : (b : Bool) → (b && not b) ≡ false
    off true = refl
    off false = refl

pub nearest_law : NearestLaw
unfolding describe
nearest_law H L a i s h fall fit = go (index_of a.names i) refl
  where
    x : (s < length H) × ((at H s).id ≡ i)
    x = place_says H i s h

    T : List Commit
    T = trimmed a H

    own : name_at T a s ≡ index_of a.names i
    own = unfold name_at in rw (trimmed_id a H s, x.1)

    w : Walk
    w = walk H a (suc (length H)) (at_start s)

    walk_near : Nearest T a s (from_start H a (Some s))
    walk_near = unfold from_start in choose_near H L a s x.0 fall fit w (walk_final H L a s x.0 fall fit) w.counts refl

    idle : (b : Bool) → (eqb a.most 0 || empty a.names) ≡ b → Nearest T a s (unless_idle H a i b)
    idle true e = unfold unless_idle in no_name_near H L a s x.0 fall fit 0 (idle_near H L a s x.0 fall fit e)
    idle false e = unfold unless_idle in subst (λ (o : Option ℕ). Nearest T a s (from_start H a o)) (sym h) walk_near

    go : (k : Option ℕ) → index_of a.names i ≡ k → Nearest T a s (unless_named H a i k)
    go (Some k) e = unfold unless_named in record
        { place = s; reached = reaches_itself T s; its = own ∙ e; depth = sym (between_none T s); least = λ q j _ _. omega arith }
    go None e = unfold unless_named in idle (eqb a.most 0 || empty a.names) refl
