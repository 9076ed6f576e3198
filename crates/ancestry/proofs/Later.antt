-- A walk sees only what was held when it began: a commit taken in changes no description.
use Rattle.std.proofs.Common.{◌≡◌, ℕ, zero, suc, ◌<◌, ◌≤◌, Bool, true, false, not, ◌||◌, eqb, List, [], ◌∷◌, ◌++◌, length, get_or, Some, None, Option, sym, refl, ap, ◌∙◌, inr, ⊎_elim, arith}
use Rattle.std.proofs.lemmas.Bool.{eqb-true, ltb-true, lt-ltb, or_cases, cases_lt}
use Rattle.ancestry.specs.Sets.{every, keep, ordered, index_of}
use Rattle.ancestry.specs.Commits.{Commit, at}
use Rattle.ancestry.specs.Keys.{newer}
use Rattle.ancestry.specs.Lawful.{Lawful, Held}
use Rattle.ancestry.specs.Bases.{head, empty}
use Rattle.ancestry.specs.Naming.{Asked, named, front, followed}
use Rattle.ancestry.specs.Walk.{Walk, least, by_date, first_of, taken, adopted, counted, onward, visit, take_turn, turn, walk, at_start}
use Rattle.ancestry.specs.Finish.{Finish, returned, back, finish_turn, finish_step, finish}
use Rattle.ancestry.specs.Describe.{earliest, settle, choose, from_start, unless_idle, unless_named, describe}
use Rattle.ancestry.proofs.Sets.{same, not_so, every_intro, every_elim, member-ordered, keep-insert, ordered_cong}
use Rattle.ancestry.proofs.Join.{place_says}
use Rattle.ancestry.proofs.Grow.{place_old, grown, at_old, parents_old}
use Rattle.ancestry.proofs.Walks.{Sound, adopted_sound, counted_sound, finish_more, finish_turned, first_says, taken_sound, turned, walk_more, walked}

-- the same turns on the history with one commit more
module _ (H : List Commit) (c : Commit) (L : Lawful H) where
  pub first_old : (S : ℕ → Bool) → ((q : ℕ) → S q ≡ true → q < length H) → first_of (H ++ c ∷ []) S ≡ first_of H S
  unfolding first_of by_date ordered
  first_old S b = ap head (ap (λ (k : ℕ). keep S (ordered b' k)) (grown H c)
      ∙ keep-insert S b' (length H) (ordered b' (length H)) (not_so (S (length H)) (λ h. let l : length H < length H = b (length H) h in omega arith))
      ∙ ap (keep S) (ordered_cong b' b'' (length H) (λ p q k l. rw (at_old H c p k, at_old H c q l))))
    where
      b' : ℕ → ℕ → Bool
      b' p q = newer (at (H ++ c ∷ []) p) (at (H ++ c ∷ []) q)

      b'' : ℕ → ℕ → Bool
      b'' p q = newer (at H p) (at H q)

  pub followed_old : (a : Asked) (p : ℕ) → p < length H → followed (H ++ c ∷ []) a p ≡ followed H a p
  unfolding followed
  followed_old a p l = ap (front a.only_first) (parents_old H c p l)

  pub onward_old : (a : Asked) (p : ℕ) (w : Walk) → p < length H → Sound (length H) w → onward (H ++ c ∷ []) a p w ≡ onward H a p w
  unfolding onward
  onward_old a p w l s = rw (first_old w.waiting s.below, followed_old a p l)

  pub visit_old : (a : Asked) (p : ℕ) (k : Option ℕ) (w : Walk) → p < length H → Sound (length H) w → visit (H ++ c ∷ []) a p k w ≡ visit H a p k w
  unfolding visit
  visit_old a p None w l s = onward_old a p (counted p w) l (counted_sound (length H) p w s)
  visit_old a p (Some k) w l s = rw (onward_old a p (counted p (adopted p k w)) l (counted_sound (length H) p (adopted p k w) (adopted_sound (length H) p k w s)))

  pub turn_old : (a : Asked) (b : Bool) (w : Walk) → Sound (length H) w → turn (H ++ c ∷ []) a b w ≡ turn H a b w
  unfolding turn take_turn
  turn_old a true w s = refl
  turn_old a false w s = rw (first_old w.waiting s.below) (go (first_of H w.waiting) refl)
    where
      go : (o : Option ℕ) → first_of H w.waiting ≡ o → take_turn (H ++ c ∷ []) a o w ≡ take_turn H a o w
      go None f = refl
      go (Some p) f = let x = first_says H w.waiting p f in rw (at_old H c p x.0) (visit_old a p (index_of a.names (at H p).id) (taken p w) x.0 (taken_sound (length H) p w s))

  pub walk_old : (a : Asked) (j : ℕ) (w : Walk) → Sound (length H) w → walk (H ++ c ∷ []) a j w ≡ walk H a j w
  unfolding walk
  walk_old a zero w s = refl
  walk_old a (suc j) w s = rw (turn_old a w.over w s) (walk_old a j (turn H a w.over w) (turned H L a w 0 s (inr (omega arith))).0)

  pub every_old : (t : ℕ → Bool) → t (length H) ≡ true → every t (by_date (H ++ c ∷ [])) ≡ every t (by_date H)
  unfolding by_date
  every_old t e = same (every t (by_date (H ++ c ∷ []))) (every t (by_date H))
      (λ h. every_intro t (by_date H) (λ q m. let l : q < length H = ltb-true q (length H) (sym (member-ordered (λ p q. newer (at H p) (at H q)) q (length H)) ∙ m) in
      every_elim t (by_date (H ++ c ∷ [])) h q (member-ordered b' q (length (H ++ c ∷ [])) ∙ lt-ltb q (length (H ++ c ∷ [])) (rw (grown H c) (omega arith)))))
      (λ h. every_intro t (by_date (H ++ c ∷ [])) (λ q m. let l : q < suc (length H) = rw (grown H c) at (ltb-true q (length (H ++ c ∷ [])) (sym (member-ordered b' q (length (H ++ c ∷ []))) ∙ m)) in
      ⊎_elim (λ (x : q < length H). every_elim t (by_date H) h q (member-ordered (λ p q. newer (at H p) (at H q)) q (length H) ∙ lt-ltb q (length H) x))
      (λ (x : length H ≤ q). let y : q ≡ length H = omega arith in rw y e) (cases_lt q (length H))))
    where
      b' : ℕ → ℕ → Bool
      b' p q = newer (at (H ++ c ∷ []) p) (at (H ++ c ∷ []) q)

  pub finish_step_old : (a : Asked) (m : ℕ) (b : Bool) (f : Finish) → Sound (length H) f.state → finish_step (H ++ c ∷ []) a m b f ≡ finish_step H a m b f
  unfolding finish_step finish_turn
  finish_step_old a m true f s = refl
  finish_step_old a m false f s = ap (λ (o : Option ℕ). finish_turn (H ++ c ∷ []) a m o f) (first_old f.state.waiting s.below) ∙ go (first_of H f.state.waiting) refl
    where
      go : (o : Option ℕ) → first_of H f.state.waiting ≡ o → finish_turn (H ++ c ∷ []) a m o f ≡ finish_turn H a m o f
      go None e = refl
      go (Some p) e =
          let x = first_says H f.state.waiting p e in
          let w : Walk = taken p f.state in
          let out : w.waiting (length H) ≡ false = not_so (w.waiting (length H)) (λ h. let l : length H < length H = (taken_sound (length H) p f.state s).below (length H) h in omega arith) in
          let e₁ : every (λ q. not (w.waiting q) || w.marks q m) (by_date (H ++ c ∷ [])) ≡ every (λ q. not (w.waiting q) || w.marks q m) (by_date H) = every_old (λ q. not (w.waiting q) || w.marks q m) (rw out) in
          rw (e₁, followed_old a p x.0)

  pub finish_old : (a : Asked) (m j : ℕ) (f : Finish) → Sound (length H) f.state → finish (H ++ c ∷ []) a m j f ≡ finish H a m j f
  unfolding finish
  finish_old a m zero f s = refl
  finish_old a m (suc j) f s = ap (finish (H ++ c ∷ []) a m j) (finish_step_old a m f.state.over f s) ∙ finish_old a m j (finish_step H a m f.state.over f) (finish_turned H L a m f 0 s (inr (omega arith))).0

pub back_sound : (n : ℕ) (w : Walk) → Sound n w → Sound n (back w)
unfolding back returned
back_sound n w s = go w.aside refl
  where
    none : (p : ℕ) → ◌≡◌ {A = Option ℕ} None (Some p) → (p < n) × (w.met p ≡ true)
    none p e = absurd (let z : ◌≡◌ {A = ℕ} 0 1 = cc in omega arith)

    go : (o : Option ℕ) → w.aside ≡ o → Sound n (returned o w)
    go None e = record { below = s.below; known = s.known; put = none }
    go (Some p) e = record {
      below = λ q h. ⊎_elim (λ (x : w.waiting q ≡ true). s.below q x) (λ (x : eqb q p ≡ true). rw (eqb-true q p x) (s.put p e).0) (or_cases (w.waiting q) (eqb q p) h);
      known = λ q h. ⊎_elim (λ (x : w.waiting q ≡ true). s.known q x) (λ (x : eqb q p ≡ true). rw (eqb-true q p x) (s.put p e).1) (or_cases (w.waiting q) (eqb q p) h);
      put = none;
    }

pub start_sound : (n s : ℕ) → s < n → Sound n (at_start s)
unfolding at_start
start_sound n s l = record { below = λ q e. rw (eqb-true q s e) l; known = λ q e. e; put = λ p e. absurd (let z : ◌≡◌ {A = ℕ} 0 1 = cc in omega arith) }

pub settle_old : (H : List Commit) (c : Commit) → Lawful H → (a : Asked) (m : ℕ) (w : Walk) → Sound (length H) w → settle (H ++ c ∷ []) a m w ≡ settle H a m w
unfolding settle
settle_old H c L a m w s =
    let f : Finish = record { state = back w; depth = get_or w.counts m 0 } in
    let b : Sound (length H) (back w) = back_sound (length H) w s in
    let e : finish (H ++ c ∷ []) a m (suc (length (H ++ c ∷ []))) f ≡ finish H a m (suc (length H)) f
    = ap (λ (k : ℕ). finish (H ++ c ∷ []) a m (suc k) f) (grown H c) ∙ finish_old H c L a m (suc (suc (length H))) f b ∙ finish_more H L a m f b in
    ap (λ (g : Finish). named (get_or w.found m 0) g.depth g.state.seen) e

pub choose_old : (H : List Commit) (c : Commit) → Lawful H → (a : Asked) (w : Walk) (ns : List ℕ) → Sound (length H) w → choose (H ++ c ∷ []) a w ns ≡ choose H a w ns
unfolding choose
choose_old H c L a w [] s = refl
choose_old H c L a w (n ∷ ns) s = settle_old H c L a (earliest (least n ns) 0 (n ∷ ns)) w s

-- a commit taken in leaves the description of a commit held before as it was
pub describe_keeps : (H : List Commit) (c : Commit) → Lawful H → (a : Asked) (i : ℕ) → Held H i → describe (H ++ c ∷ []) a i ≡ describe H a i
unfolding describe unless_named
describe_keeps H c L a i h = go (index_of a.names i)
  where
    n : ℕ
    n = length H

    s : ℕ
    s = h.0

    ok : Sound n (at_start s)
    ok = start_sound n s (place_says H i s h.1).0

    walks : walk (H ++ c ∷ []) a (suc (length (H ++ c ∷ []))) (at_start s) ≡ walk H a (suc n) (at_start s)
    walks = ap (λ (k : ℕ). walk (H ++ c ∷ []) a (suc k) (at_start s)) (grown H c) ∙ walk_old H c L a (suc (suc n)) (at_start s) ok ∙ walk_more H L a (at_start s) ok

    from : from_start (H ++ c ∷ []) a (Some s) ≡ from_start H a (Some s)
    from = unfold from_start in ap (λ (w : Walk). choose (H ++ c ∷ []) a w w.counts) walks ∙ choose_old H c L a (walk H a (suc n) (at_start s)) (walk H a (suc n) (at_start s)).counts (walked H L a (suc n) (at_start s) 0 ok (inr (omega arith))).0

    idle : (b : Bool) → unless_idle (H ++ c ∷ []) a i b ≡ unless_idle H a i b
    idle true = unfold unless_idle in refl
    idle false = unfold unless_idle in ap (from_start (H ++ c ∷ []) a) (place_old H c i s h.1) ∙ from ∙ sym (ap (from_start H a) h.1)

    go : (k : Option ℕ) → unless_named (H ++ c ∷ []) a i k ≡ unless_named H a i k
    go (Some k) = refl
    go None = idle (eqb a.most 0 || empty a.names)
