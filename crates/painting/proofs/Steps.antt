-- What the walk down from results keeps.
use Rattle.std.proofs.Common.{◌≡◌, ℕ, ◌<◌, ◌≤◌, Bool, true, false, cond, ◌||◌, eqb, ltb, ◌⊎◌, List, [], ◌∷◌, ◌++◌, length, set, sym, refl, ap, ◌∙◌, subst, inl, inr, ⊎_elim, arith, length-set}
use Rattle.std.proofs.lemmas.List.{get_or-set_same, get_or-set_other}
use Rattle.std.proofs.lemmas.Bool.{both_ways, cases_eq, or_cases, or_left, or_right, eqb-true, ltb-true}
use Rattle.std.proofs.lemmas.Bool.Decides.{nat_tests}
use Rattle.ancestry.proofs.Join.{member-append}
use Rattle.ancestry.proofs.Reach.{Reaches-trans}
use Rattle.ancestry.proofs.Tallies.{member-cons}
use Rattle.ancestry.proofs.Unique.{member_here, member_there, member-nil}
use Rattle.ancestry.specs.Commits.{Commit, at}
use Rattle.ancestry.specs.Lawful.{Lawful}
use Rattle.ancestry.specs.Reaching.{itself, through}
use Rattle.ancestry.specs.Sets.{member}
use Rattle.painting.proofs.Counts.{total-cons}
use Rattle.painting.proofs.Turns.{set_keeps}
use Rattle.painting.specs.Marks.{blank, mark, seen, unmet, total}
use Rattle.painting.specs.Walks.{Walk, level, meet, meet_all, Done, Beneath, Fresh, Tracked}
use Rattle.painting.specs.declared.marks.Mark.{Mark}

pub member_end : (x y : ℕ) (ys : List ℕ) → member x (ys ++ y ∷ []) ≡ true → (member x ys ≡ true) ⊎ (x ≡ y)
member_end x y ys m = ⊎_elim (λ (k : member x ys ≡ true). inl k) (λ (k : member x (y ∷ []) ≡ true). ⊎_elim (λ (e : eqb x y ≡ true). inr (eqb-true x y e)) (λ (e : member x [] ≡ true). absurd (member-nil x e)) (member-cons x y [] k)) (or_cases (member x ys) (member x (y ∷ [])) (sym (member-append x ys (y ∷ [])) ∙ m))

pub member_front : (x y : ℕ) (ys : List ℕ) → member x ys ≡ true → member x (ys ++ y ∷ []) ≡ true
member_front x y ys m = member-append x ys (y ∷ []) ∙ or_left (member x ys) (member x (y ∷ [])) m

pub member_last : (y : ℕ) (ys : List ℕ) → member y (ys ++ y ∷ []) ≡ true
member_last y ys = member-append y ys (y ∷ []) ∙ or_right (member y ys) (member y (y ∷ [])) (member_here y [])

-- what telling places leaves of the walk
pub record Stepped (rs : List ℕ) (w v : Walk) : Type 0 where
  pub grown : (x : ℕ) → (mark w.marks x).met ≡ true → (mark v.marks x).met ≡ true
  pub keeps : (x : ℕ) → member x w.stack ≡ true → member x v.stack ≡ true
  pub fresh : (x : ℕ) → (mark v.marks x).met ≡ true → ((mark w.marks x).met ≡ true) ⊎ (member x v.stack ≡ true) × (member x rs ≡ true)
  pub stems : (x : ℕ) → member x v.stack ≡ true → (member x w.stack ≡ true) ⊎ (member x rs ≡ true) × ((mark v.marks x).met ≡ true)
  pub stales : (x : ℕ) → (mark v.marks x).stale ≡ (mark w.marks x).stale
  pub size : length v.marks ≡ length w.marks

pub stepped_none : (w : Walk) → Stepped [] w w
stepped_none w = record { grown = λ x e. e; keeps = λ x e. e; fresh = λ x e. inl e; stems = λ x e. inl e; stales = λ x. refl; size = refl }

pub stepped_same : (rs : List ℕ) (w : Walk) → Stepped rs w w
stepped_same rs w = record { grown = λ x e. e; keeps = λ x e. e; fresh = λ x e. inl e; stems = λ x e. inl e; stales = λ x. refl; size = refl }

pub stepped_more : (r : ℕ) (rs : List ℕ) (w v u : Walk) → Stepped (r ∷ []) w v → Stepped rs v u → Stepped (r ∷ rs) w u
stepped_more r rs w v u a b = record {
  grown = λ x e. b.grown x (a.grown x e);
  keeps = λ x e. b.keeps x (a.keeps x e);
  fresh = λ x e. ⊎_elim
      (λ (f : (mark v.marks x).met ≡ true). ⊎_elim inl (λ (k : (member x v.stack ≡ true) × (member x (r ∷ []) ≡ true)). inr (b.keeps x k.0, one x k.1)) (a.fresh x f))
      (λ (k : (member x u.stack ≡ true) × (member x rs ≡ true)). inr (k.0, member_there x r rs k.1)) (b.fresh x e);
  stems = λ x e. ⊎_elim
      (λ (f : member x v.stack ≡ true). ⊎_elim inl (λ (k : (member x (r ∷ []) ≡ true) × ((mark v.marks x).met ≡ true)). inr (one x k.0, b.grown x k.1)) (a.stems x f))
      (λ (k : (member x rs ≡ true) × ((mark u.marks x).met ≡ true)). inr (member_there x r rs k.0, k.1)) (b.stems x e);
  stales = λ x. b.stales x ∙ a.stales x;
  size = b.size ∙ a.size;
}
  where
    one : (x : ℕ) → member x (r ∷ []) ≡ true → member x (r ∷ rs) ≡ true
    one x m = ⊎_elim (λ (e : eqb x r ≡ true). subst (λ (y : ℕ). member y (r ∷ rs) ≡ true) (sym (eqb-true x r e)) (member_here r rs)) (λ (e : member x [] ≡ true). absurd (member-nil x e)) (member-cons x r [] m)

pub stepped_push : (r : ℕ) (w : Walk) → r < length w.marks → Stepped (r ∷ []) w (record { marks = set w.marks r (seen (mark w.marks r)); stack = w.stack ++ r ∷ [] })
stepped_push r w l = record {
  grown = set_keeps (λ x m. (mark ms x).met ≡ true → m.met ≡ true) ms r n (λ _. refl) (λ x e. e);
  keeps = λ x e. member_front x r w.stack e;
  fresh = λ x e. ⊎_elim (λ (k : x ≡ r). inr (subst (λ (y : ℕ). member y (w.stack ++ r ∷ []) ≡ true) (sym k) (member_last r w.stack), subst (λ (y : ℕ). member y (r ∷ []) ≡ true) (sym k) (member_here r [])))
      (λ (k : x ≡ r → ⊥). inl (subst (λ (m : Mark). m.met ≡ true) (get_or-set_other ms r x n blank k) e)) (cases_eq x r);
  stems = λ x e. ⊎_elim inl (λ (k : x ≡ r). inr (subst (λ (y : ℕ). member y (r ∷ []) ≡ true) (sym k) (member_here r []), subst (λ (y : ℕ). (mark (set ms r n) y).met ≡ true) (sym k) (ap (λ (m : Mark). m.met) (get_or-set_same ms r n blank l)))) (member_end x r w.stack e);
  stales = set_keeps (λ x m. m.stale ≡ (mark ms x).stale) ms r n refl (λ x. refl);
  size = length-set ms r n;
}
  where
    ms : List Mark
    ms = w.marks

    n : Mark
    n = seen (mark w.marks r)

pub stepped_meet : (H : List Commit) (low r : ℕ) (w : Walk) → r < length w.marks → Stepped (r ∷ []) w (meet H low r w)
unfolding meet
stepped_meet H low r w l = go ((mark w.marks r).met || ltb (level H r) low)
  where
    go : (b : Bool) → Stepped (r ∷ []) w (cond b w (record { marks = set w.marks r (seen (mark w.marks r)); stack = w.stack ++ r ∷ [] }))
    go true = stepped_same (r ∷ []) w
    go false = stepped_push r w l

pub done_meet : (H : List Commit) (low r : ℕ) (w : Walk) → r < length w.marks → ((mark (meet H low r w).marks r).met ≡ true) ⊎ (level H r < low)
unfolding meet
done_meet H low r w l = go ((mark w.marks r).met || ltb (level H r) low) refl
  where
    go : (b : Bool) → ((mark w.marks r).met || ltb (level H r) low) ≡ b → ((mark (cond b w (record { marks = set w.marks r (seen (mark w.marks r)); stack = w.stack ++ r ∷ [] })).marks r).met ≡ true) ⊎ (level H r < low)
    go true e = ⊎_elim inl (λ (k : ltb (level H r) low ≡ true). inr (ltb-true (level H r) low k)) (or_cases (mark w.marks r).met (ltb (level H r) low) e)
    go false e = inl (ap (λ (m : Mark). m.met) (get_or-set_same w.marks r (seen (mark w.marks r)) blank l))

pub stepped_all : (H : List Commit) (low : ℕ) (rs : List ℕ) (w : Walk) → ((r : ℕ) → member r rs ≡ true → r < length w.marks) → Stepped rs w (meet_all H low rs w)
unfolding meet_all
stepped_all H low [] w l = stepped_none w
stepped_all H low (r ∷ rs) w l =
    let a = stepped_meet H low r w (l r (member_here r rs)) in
    stepped_more r rs w (meet H low r w) (meet_all H low rs (meet H low r w)) a (stepped_all H low rs (meet H low r w) (λ y m. omega (arith, l y (member_there y r rs m), a.size)))

pub done_all : (H : List Commit) (low : ℕ) (rs : List ℕ) (w : Walk) → ((r : ℕ) → member r rs ≡ true → r < length w.marks) → (r : ℕ) → member r rs ≡ true → ((mark (meet_all H low rs w).marks r).met ≡ true) ⊎ (level H r < low)
unfolding meet_all
done_all H low [] w l r m = absurd (member-nil r m)
done_all H low (y ∷ rs) w l r m =
    let a = stepped_meet H low y w (l y (member_here y rs)) in
    let l' : (x : ℕ) → member x rs ≡ true → x < length (meet H low y w).marks = λ x i. omega (arith, l x (member_there x y rs i), a.size) in
    ⊎_elim
    (λ (e : eqb r y ≡ true). subst (λ (z : ℕ). ((mark (meet_all H low rs (meet H low y w)).marks z).met ≡ true) ⊎ (level H z < low)) (sym (eqb-true r y e))
    (⊎_elim (λ (f : (mark (meet H low y w).marks y).met ≡ true). inl ((stepped_all H low rs (meet H low y w) l').grown y f)) inr (done_meet H low y w (l y (member_here y rs)))))
    (λ (i : member r rs ≡ true). done_all H low rs (meet H low y w) l' r i)
    (member-cons r y rs m)

module _ (H : List Commit) (L : Lawful H) (low : ℕ) (rs : List ℕ) where
  done_grown : (ms ns : List Mark) → ((x : ℕ) → (mark ms x).met ≡ true → (mark ns x).met ≡ true) → (p : ℕ) → Done H low ms p → Done H low ns p
  done_grown ms ns g p d r m = ⊎_elim (λ (e : (mark ms r).met ≡ true). inl (g r e)) inr (d r m)

  -- the parents of p are met, p a result or a place that was met and has left the stack
  tracked_all : (cs : List ℕ) (p : ℕ) (st : List ℕ) (ms : List Mark) → length ms ≡ length H → p < length H → ((x : ℕ) → member x (at H p).parents ≡ true → Beneath H rs x)
      → ((x : ℕ) → member x st ≡ true → x < length H) → ((x : ℕ) → member x st ≡ true → (mark ms x).met ≡ true)
      → ((x : ℕ) → (mark ms x).met ≡ true → (member x st ≡ true) ⊎ ((x ≡ p) ⊎ Done H low ms x))
      → Fresh rs ms → ((x : ℕ) → (mark ms x).met ≡ true → Beneath H rs x)
      → ((q : ℕ) → member q cs ≡ true → (q ≡ p) ⊎ Done H low ms q)
      → Tracked H low rs cs (meet_all H low (at H p).parents (record { marks = ms; stack = st }))
  tracked_all cs p st ms len lp beneath ins on cl fr snd started =
      let w : Walk = record { marks = ms; stack = st } in
      let ps : List ℕ = (at H p).parents in
      let v : Walk = meet_all H low ps w in
      let l : (r : ℕ) → member r ps ≡ true → r < length ms = λ r m. omega (arith, L.inside p r lp m) in
      let s : Stepped ps w v = stepped_all H low ps w l in
      let d : Done H low v.marks p = done_all H low ps w l in
      record {
        inside = λ x m. ⊎_elim (ins x) (λ (k : (member x ps ≡ true) × ((mark v.marks x).met ≡ true)). L.inside p x lp k.0) (s.stems x m);
        on = λ x m. ⊎_elim (λ (k : member x st ≡ true). s.grown x (on x k)) (λ (k : (member x ps ≡ true) × ((mark v.marks x).met ≡ true)). k.1) (s.stems x m);
        closed = λ x e. ⊎_elim
            (λ (f : (mark ms x).met ≡ true). ⊎_elim (λ (k : member x st ≡ true). inl (s.keeps x k)) (λ (k : (x ≡ p) ⊎ Done H low ms x). inr (⊎_elim (λ (z : x ≡ p). subst (Done H low v.marks) (sym z) d) (done_grown ms v.marks s.grown x) k)) (cl x f))
            (λ (k : (member x v.stack ≡ true) × (member x ps ≡ true)). inl k.0) (s.fresh x e);
        fresh = λ x m. s.stales x ∙ fr x m;
        sound = λ x e. ⊎_elim (snd x) (λ (k : (member x v.stack ≡ true) × (member x ps ≡ true)). beneath x k.1) (s.fresh x e);
        started = λ q m. ⊎_elim (λ (z : q ≡ p). subst (Done H low v.marks) (sym z) d) (done_grown ms v.marks s.grown q) (started q m);
      }

  -- one more result, and its parents met
  pub tracked_start : (bs : List ℕ) (p : ℕ) (st : List ℕ) (ms : List Mark) → length ms ≡ length H → p < length H → member p rs ≡ true → Tracked H low rs bs (record { marks = ms; stack = st })
      → Tracked H low rs (bs ++ p ∷ []) (meet_all H low (at H p).parents (record { marks = ms; stack = st }))
  tracked_start bs p st ms len lp r t = tracked_all (bs ++ p ∷ []) p st ms len lp
      (λ x m. record { top = p; child = x; chosen = r; parent = m; reached = itself refl })
      t.inside t.on (λ x e. ⊎_elim inl (λ (k : Done H low ms x). inr (inr k)) (t.closed x e)) t.fresh t.sound
      (λ q m. ⊎_elim (λ (k : member q bs ≡ true). inr (t.started q k)) (λ (z : q ≡ p). inl z) (member_end q p bs m))

  -- a place taken from the stack, and its parents met
  pub tracked_turn : (bs : List ℕ) (p : ℕ) (st st' : List ℕ) (ms : List Mark) → length ms ≡ length H → st' ≡ st ++ p ∷ [] → Tracked H low rs bs (record { marks = ms; stack = st' })
      → Tracked H low rs bs (meet_all H low (at H p).parents (record { marks = ms; stack = st }))
  tracked_turn bs p st st' ms len e t =
      let put : (x : ℕ) → member x st ≡ true → member x st' ≡ true = λ x m. subst (λ (l : List ℕ). member x l ≡ true) (sym e) (member_front x p st m) in
      let pin : member p st' ≡ true = subst (λ (l : List ℕ). member p l ≡ true) (sym e) (member_last p st) in
      let b : Beneath H rs p = t.sound p (t.on p pin) in
      tracked_all bs p st ms len (t.inside p pin)
      (λ x m. record { top = b.top; child = b.child; chosen = b.chosen; parent = b.parent; reached = Reaches-trans H x p (through m (itself refl)) b.reached })
      (λ x m. t.inside x (put x m)) (λ x m. t.on x (put x m))
      (λ x f. ⊎_elim (λ (m : member x st' ≡ true). ⊎_elim inl (λ (z : x ≡ p). inr (inl z)) (member_end x p st (subst (λ (l : List ℕ). member x l ≡ true) e m))) (λ (k : Done H low ms x). inr (inr k)) (t.closed x f))
      t.fresh t.sound (λ q m. inr (t.started q m))

pub tracked_none : (H : List Commit) (low : ℕ) (rs : List ℕ) (ms : List Mark) → ((x : ℕ) → (mark ms x).met ≡ false) → Fresh rs ms → Tracked H low rs [] (record { marks = ms; stack = [] })
tracked_none H low rs ms u f = record {
  inside = λ x m. absurd (member-nil x m);
  on = λ x m. absurd (member-nil x m);
  closed = λ x e. absurd (both_ways (mark ms x).met (u x) e);
  fresh = f;
  sound = λ x e. absurd (both_ways (mark ms x).met (u x) e);
  started = λ q m. absurd (member-nil q m);
}

pub tracked_at : (H : List Commit) (low : ℕ) (rs bs : List ℕ) (w v : Walk) → w ≡ v → Tracked H low rs bs v → Tracked H low rs bs w
tracked_at H low rs bs w v e t = subst (Tracked H low rs bs) (sym e) t

pub stack_inside : (H : List Commit) → Lawful H → (low p : ℕ) (w v : Walk) → length w.marks ≡ length H → p < length H → v ≡ meet_all H low (at H p).parents w → ((x : ℕ) → member x w.stack ≡ true → x < length H) → (x : ℕ) → member x v.stack ≡ true → x < length H
stack_inside H L low p w v n l e h x m =
    ⊎_elim (h x) (λ (k : (member x (at H p).parents ≡ true) × ((mark (meet_all H low (at H p).parents w).marks x).met ≡ true)). L.inside p x l k.0)
    ((stepped_all H low (at H p).parents w (λ r i. omega (arith, L.inside p r l i))).stems x (subst (λ (u : Walk). member x u.stack ≡ true) e m))

pub popped : (n : ℕ) (st st' : List ℕ) (p : ℕ) → st ≡ st' ++ p ∷ [] → ((x : ℕ) → member x st ≡ true → x < n) → (p < n) × ((x : ℕ) → member x st' ≡ true → x < n)
popped n st st' p e k = (
  k p (subst (λ (s : List ℕ). member p s ≡ true) (sym e) (member_last p st')),
  λ x m. k x (subst (λ (s : List ℕ). member x s ≡ true) (sym e) (member_front x p st' m)),
)

pub unmet_most : (ms : List Mark) → total unmet ms ≤ length ms
unmet_most [] = unfold total in omega arith
unmet_most (m ∷ ms) = let a = total-cons unmet m ms in let b : unmet m ≤ 1 = grind (arith, nat_tests) in omega (arith, unmet_most ms)
