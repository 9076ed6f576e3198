-- A walk ends, and takes only what is held.
use Rattle.std.proofs.Common.{◌≡◌, ℕ, zero, suc, ◌+◌, ◌<◌, ◌≤◌, Bool, true, false, cond, not, ◌&&◌, ◌||◌, eqb, ◌⊎◌, List, [], ◌∷◌, length, Some, None, Option, sym, refl, ap, ◌∙◌, subst, inl, inr, ⊎_elim, arith}
use Rattle.std.proofs.lemmas.Bool.{false≢true, both_ways, eq-eqb, ltb-true, or_cases, or_left, or_right, and_parts}
use Rattle.ancestry.specs.Sets.{any, member, keep, index_of, absent, size}
use Rattle.ancestry.specs.Commits.{Commit, at}
use Rattle.ancestry.specs.Keys.{newer}
use Rattle.ancestry.specs.Lawful.{Lawful}
use Rattle.ancestry.specs.Bases.{head}
use Rattle.ancestry.specs.Naming.{Asked, front, followed}
use Rattle.ancestry.specs.Walk.{Walk, by_date, first_of, has_least, taken, adopted, set_aside, counted, ended, handed, onward, free, visit, take_turn, turn, walk}
use Rattle.ancestry.specs.Finish.{Finish, finish_turn, finish_step, finish}
use Rattle.ancestry.proofs.Sets.{member-keep, member-ordered, size_most, size_less}

-- what is taken is the first of the set, in the order of dates
pub head_in : (xs : List ℕ) (p : ℕ) → head xs ≡ Some p → member p xs ≡ true
unfolding head member any
head_in [] p e = absurd (let z : ◌≡◌ {A = ℕ} 0 1 = cc in omega arith)
head_in (x ∷ xs) p e = let d : p ≡ x = cc in or_left (eqb p x) (any (eqb p) xs) (eq-eqb p x d)

pub first_says : (H : List Commit) (S : ℕ → Bool) (p : ℕ) → first_of H S ≡ Some p → (p < length H) × (S p ≡ true)
unfolding first_of by_date
first_says H S p e =
    let m = and_parts (member p (by_date H)) (S p) (sym (member-keep S p (by_date H)) ∙ head_in (keep S (by_date H)) p e) in
    (ltb-true p (length H) (sym (member-ordered (λ p q. newer (at H p) (at H q)) p (length H)) ∙ m.0), m.1)

pub front_part : (b : Bool) (q : ℕ) (ps : List ℕ) → member q (front b ps) ≡ true → member q ps ≡ true
unfolding front member any
front_part true q [] m = m
front_part true q (r ∷ rs) m = ⊎_elim (λ (e : eqb q r ≡ true). or_left (eqb q r) (member q rs) e) (λ (e : false ≡ true). absurd (false≢true e)) (or_cases (eqb q r) false m)
front_part false q rs m = m

pub followed_inside : (H : List Commit) → Lawful H → (a : Asked) (p q : ℕ) → p < length H → member q (followed H a p) ≡ true → q < length H
unfolding followed
followed_inside H L a p q l m = L.inside p q l (front_part a.only_first q (at H p).parents m)

-- what each turn keeps
pub record Sound (n : ℕ) (w : Walk) : Type 0 where
  pub below : (q : ℕ) → w.waiting q ≡ true → q < n
  pub known : (q : ℕ) → w.waiting q ≡ true → w.met q ≡ true
  pub put : (p : ℕ) → w.aside ≡ Some p → (p < n) × (w.met p ≡ true)

-- met and waiting no more
unfoldable pub gone : Walk → ℕ → Bool
gone w q = w.met q && not (w.waiting q)

-- what was gone is gone
abbrev pub Further : Walk → Walk → Type 0
Further w v = (q : ℕ) → gone w q ≡ true → gone v q ≡ true

pub onward_sound : (H : List Commit) → Lawful H → (a : Asked) (p : ℕ) (w : Walk) → p < length H → Sound (length H) w → Sound (length H) (onward H a p w)
unfolding onward
onward_sound H L a p w l s = go (absent (first_of H w.waiting) && has_least (w.marks p) w.counts)
  where
    go : (b : Bool) → Sound (length H) (cond b (ended w) (handed p (followed H a p) w))
    go true = unfold ended in record { below = s.below; known = s.known; put = s.put }
    go false = unfold handed in record {
      below = λ q h. ⊎_elim (λ (x : w.waiting q ≡ true). s.below q x) (λ (x : (member q (followed H a p) && not (w.met q)) ≡ true). followed_inside H L a p q l (and_parts (member q (followed H a p)) (not (w.met q)) x).0) (or_cases (w.waiting q) (member q (followed H a p) && not (w.met q)) h);
      known = λ q h. ⊎_elim (λ (x : w.waiting q ≡ true). or_left (w.met q) (member q (followed H a p)) (s.known q x)) (λ (x : (member q (followed H a p) && not (w.met q)) ≡ true). or_right (w.met q) (member q (followed H a p)) (and_parts (member q (followed H a p)) (not (w.met q)) x).0) (or_cases (w.waiting q) (member q (followed H a p) && not (w.met q)) h);
      put = λ r e. ((s.put r e).0, or_left (w.met r) (member r (followed H a p)) (s.put r e).1);
    }

pub handed_further : (p : ℕ) (ps : List ℕ) (w : Walk) → Further w (handed p ps w)
unfolding gone handed
handed_further p ps w q g = go (w.met q) (w.waiting q) (member q ps) g
  where
    go : (m w r : Bool) → (m && not w) ≡ true → ((m || r) && not (w || (r && not m))) ≡ true
    go true true r g = absurd (false≢true g)
    go true false true g = refl
    go true false false g = refl
    go false w r g = absurd (false≢true g)

pub onward_further : (H : List Commit) (a : Asked) (p : ℕ) (w : Walk) → Further w (onward H a p w)
unfolding onward
onward_further H a p w q g = go (absent (first_of H w.waiting) && has_least (w.marks p) w.counts)
  where
    go : (b : Bool) → gone (cond b (ended w) (handed p (followed H a p) w)) q ≡ true
    go true = unfold gone ended in g
    go false = handed_further p (followed H a p) w q g

pub counted_sound : (n p : ℕ) (w : Walk) → Sound n w → Sound n (counted p w)
unfolding counted
counted_sound n p w s = record { below = s.below; known = s.known; put = s.put }

pub adopted_sound : (n p k : ℕ) (w : Walk) → Sound n w → Sound n (adopted p k w)
unfolding adopted
adopted_sound n p k w s = record { below = s.below; known = s.known; put = s.put }

pub taken_sound : (n p : ℕ) (w : Walk) → Sound n w → Sound n (taken p w)
unfolding taken
taken_sound n p w s = record {
  below = λ q h. s.below q (and_parts (w.waiting q) (not (eqb q p)) h).0;
  known = λ q h. s.known q (and_parts (w.waiting q) (not (eqb q p)) h).0;
  put = s.put;
}

pub visit_sound : (H : List Commit) → Lawful H → (a : Asked) (p : ℕ) (k : Option ℕ) (w : Walk) → p < length H → w.met p ≡ true → Sound (length H) w → Sound (length H) (visit H a p k w)
unfolding visit
visit_sound H L a p None w l m s = onward_sound H L a p (counted p w) l (counted_sound (length H) p w s)
visit_sound H L a p (Some k) w l m s = go (free a w)
  where
    go : (b : Bool) → Sound (length H) (cond b (onward H a p (counted p (adopted p k w))) (set_aside p w))
    go true = onward_sound H L a p (counted p (adopted p k w)) l (counted_sound (length H) p (adopted p k w) (adopted_sound (length H) p k w s))
    go false = unfold set_aside in record { below = s.below; known = s.known; put = λ r e. let d : p ≡ r = cc in rw (← d) (l, m) }

pub visit_further : (H : List Commit) (a : Asked) (p : ℕ) (k : Option ℕ) (w : Walk) → Further w (visit H a p k w)
unfolding visit counted adopted gone
visit_further H a p None w q g = onward_further H a p (counted p w) q g
visit_further H a p (Some k) w q g = go (free a w)
  where
    go : (b : Bool) → gone (cond b (onward H a p (counted p (adopted p k w))) (set_aside p w)) q ≡ true
    go true = onward_further H a p (counted p (adopted p k w)) q g
    go false = unfold set_aside in g

pub taken_further : (p : ℕ) (w : Walk) → Further w (taken p w)
unfolding taken gone
taken_further p w q g = go (w.met q) (w.waiting q) (eqb q p) g
  where
    go : (m w e : Bool) → (m && not w) ≡ true → (m && not (w && not e)) ≡ true
    go true true e g = absurd (false≢true g)
    go true false e g = refl
    go false w e g = absurd (false≢true g)

pub taken-gone : (p : ℕ) (w : Walk) → w.met p ≡ true → gone (taken p w) p ≡ true
unfolding taken gone
taken-gone p w m = rw (m, eq-eqb p p refl) (go (w.waiting p))
  where
    go : (w : Bool) → not (w && false) ≡ true
    go true = refl
    go false = refl

pub waiting_not_gone : (p : ℕ) (w : Walk) → w.waiting p ≡ true → gone w p ≡ false
unfolding gone
waiting_not_gone p w h = rw h (go (w.met p))
  where
    go : (m : Bool) → (m && false) ≡ false
    go true = refl
    go false = refl

pub ended_sound : (n : ℕ) (w : Walk) → Sound n w → Sound n (ended w)
unfolding ended
ended_sound n w s = record { below = s.below; known = s.known; put = s.put }

pub ended_over : (w : Walk) → (ended w).over ≡ true
unfolding ended
ended_over w = refl

pub taken_met : (p : ℕ) (w : Walk) → w.met p ≡ true → (taken p w).met p ≡ true
unfolding taken
taken_met p w m = m

-- a turn leaves a sound walk, over or with more gone
pub turned : (H : List Commit) → Lawful H → (a : Asked) (w : Walk) (k : ℕ) → Sound (length H) w → (w.over ≡ true) ⊎ (k ≤ size (gone w) (length H))
    → Sound (length H) (turn H a w.over w) × (((turn H a w.over w).over ≡ true) ⊎ (suc k ≤ size (gone (turn H a w.over w)) (length H)))
unfolding turn take_turn
turned H L a w k s e = go w.over refl (first_of H w.waiting) refl
  where
    go : (b : Bool) → w.over ≡ b → (o : Option ℕ) → first_of H w.waiting ≡ o → Sound (length H) (turn H a b w) × (((turn H a b w).over ≡ true) ⊎ (suc k ≤ size (gone (turn H a b w)) (length H)))
    go true b o f = (s, inl b)
    go false b None f = rw f (ended_sound (length H) w s, inl (ended_over w))
    go false b (Some p) f = rw f (
        let x = first_says H w.waiting p f in
        let m : w.met p ≡ true = s.known p x.1 in
        let nm : Option ℕ = index_of a.names (at H p).id in
        let v : Walk = visit H a p nm (taken p w) in
        let h : size (gone w) (length H) < size (gone v) (length H) = size_less (gone w) (gone v) (length H) p (λ q _ g. visit_further H a p nm (taken p w) q (taken_further p w q g)) x.0 (waiting_not_gone p w x.1) (visit_further H a p nm (taken p w) p (taken-gone p w m)) in (
          visit_sound H L a p nm (taken p w) x.0 (taken_met p w m) (taken_sound (length H) p w s),
          ⊎_elim (λ (y : w.over ≡ true). absurd (both_ways w.over b y)) (λ (y : k ≤ size (gone w) (length H)). inr (omega arith)) e,
        ))

pub walked : (H : List Commit) → Lawful H → (a : Asked) (j : ℕ) (w : Walk) (k : ℕ) → Sound (length H) w → (w.over ≡ true) ⊎ (k ≤ size (gone w) (length H))
    → Sound (length H) (walk H a j w) × (((walk H a j w).over ≡ true) ⊎ (k + j ≤ size (gone (walk H a j w)) (length H)))
unfolding walk
walked H L a zero w k s e = (s, ⊎_elim (λ (x : w.over ≡ true). inl x) (λ (x : k ≤ size (gone w) (length H)). inr (omega arith)) e)
walked H L a (suc j) w k s e =
    let t = turned H L a w k s e in
    let r = walked H L a j (turn H a w.over w) (suc k) t.0 t.1 in
    (r.0, ⊎_elim (λ (x : (walk H a j (turn H a w.over w)).over ≡ true). inl x) (λ (x : suc k + j ≤ size (gone (walk H a j (turn H a w.over w))) (length H)). inr (omega arith)) r.1)

-- as many turns as there are commits, and one, end it
pub walk_over : (H : List Commit) → Lawful H → (a : Asked) (w : Walk) → Sound (length H) w → (walk H a (suc (length H)) w).over ≡ true
walk_over H L a w s = ⊎_elim (λ (x : (walk H a (suc (length H)) w).over ≡ true). x)
    (λ (x : 0 + suc (length H) ≤ size (gone (walk H a (suc (length H)) w)) (length H)). absurd (let m = size_most (gone (walk H a (suc (length H)) w)) (length H) in omega arith))
    (walked H L a (suc (length H)) w 0 s (inr (omega arith))).1

pub walk_last : (H : List Commit) (a : Asked) (j : ℕ) (w : Walk) → walk H a (suc j) w ≡ turn H a (walk H a j w).over (walk H a j w)
unfolding walk
walk_last H a zero w = refl
walk_last H a (suc j) w = walk_last H a j (turn H a w.over w)

pub walk_more : (H : List Commit) → Lawful H → (a : Asked) (w : Walk) → Sound (length H) w → walk H a (suc (suc (length H))) w ≡ walk H a (suc (length H)) w
walk_more H L a w s = walk_last H a (suc (length H)) w ∙ ap (λ (b : Bool). turn H a b (walk H a (suc (length H)) w)) (walk_over H L a w s) ∙ still (walk H a (suc (length H)) w)
  where
    still : (v : Walk) → turn H a true v ≡ v
    still v = unfold turn in refl

-- the second walk
pub handed_sound : (H : List Commit) → Lawful H → (a : Asked) (p : ℕ) (w : Walk) → p < length H → Sound (length H) w → Sound (length H) (handed p (followed H a p) w)
unfolding handed
handed_sound H L a p w l s = record {
  below = λ q h. ⊎_elim (λ (x : w.waiting q ≡ true). s.below q x) (λ (x : (member q (followed H a p) && not (w.met q)) ≡ true). followed_inside H L a p q l (and_parts (member q (followed H a p)) (not (w.met q)) x).0) (or_cases (w.waiting q) (member q (followed H a p) && not (w.met q)) h);
  known = λ q h. ⊎_elim (λ (x : w.waiting q ≡ true). or_left (w.met q) (member q (followed H a p)) (s.known q x)) (λ (x : (member q (followed H a p) && not (w.met q)) ≡ true). or_right (w.met q) (member q (followed H a p)) (and_parts (member q (followed H a p)) (not (w.met q)) x).0) (or_cases (w.waiting q) (member q (followed H a p) && not (w.met q)) h);
  put = λ r e. ((s.put r e).0, or_left (w.met r) (member r (followed H a p)) (s.put r e).1);
}

pub ended_further : (w : Walk) → Further w (ended w)
unfolding ended gone
ended_further w q g = g

pub finish_turned : (H : List Commit) → Lawful H → (a : Asked) (m : ℕ) (f : Finish) (k : ℕ) → Sound (length H) f.state → (f.state.over ≡ true) ⊎ (k ≤ size (gone f.state) (length H))
    → Sound (length H) (finish_step H a m f.state.over f).state × (((finish_step H a m f.state.over f).state.over ≡ true) ⊎ (suc k ≤ size (gone (finish_step H a m f.state.over f).state) (length H)))
unfolding finish_step finish_turn
finish_turned H L a m f k s e = go w.over refl (first_of H w.waiting) refl
  where
    w : Walk
    w = f.state

    Good : Finish → Type 0
    Good g = Sound (length H) g.state × ((g.state.over ≡ true) ⊎ (suc k ≤ size (gone g.state) (length H)))

    pick : (p : ℕ) → first_of H w.waiting ≡ Some p → w.over ≡ false → (b : Bool) (d : ℕ) → Good (cond b (record { state = ended (taken p w); depth = f.depth }) (record { state = handed p (followed H a p) (taken p w); depth = d }))
    pick p o b true d = (ended_sound (length H) (taken p w) (taken_sound (length H) p w s), inl (ended_over (taken p w)))
    pick p o b false d =
        let x = first_says H w.waiting p o in
        let v : Walk = handed p (followed H a p) (taken p w) in
        let h : size (gone w) (length H) < size (gone v) (length H) = size_less (gone w) (gone v) (length H) p (λ q _ g. handed_further p (followed H a p) (taken p w) q (taken_further p w q g)) x.0 (waiting_not_gone p w x.1) (handed_further p (followed H a p) (taken p w) p (taken-gone p w (s.known p x.1))) in (
          handed_sound H L a p (taken p w) x.0 (taken_sound (length H) p w s),
          ⊎_elim (λ (y : w.over ≡ true). absurd (both_ways w.over b y)) (λ (y : k ≤ size (gone w) (length H)). inr (omega arith)) e,
        )

    go : (b : Bool) → w.over ≡ b → (o : Option ℕ) → first_of H w.waiting ≡ o → Good (finish_step H a m b f)
    go true b o e = (s, inl b)
    go false b None e = subst (λ (o : Option ℕ). Good (finish_turn H a m o f)) (sym e) (ended_sound (length H) w s, inl (ended_over w))
    go false b (Some p) e = subst (λ (o : Option ℕ). Good (finish_turn H a m o f)) (sym e) (pick p e b _ _)

pub finished : (H : List Commit) → Lawful H → (a : Asked) (m j : ℕ) (f : Finish) (k : ℕ) → Sound (length H) f.state → (f.state.over ≡ true) ⊎ (k ≤ size (gone f.state) (length H))
    → ((finish H a m j f).state.over ≡ true) ⊎ (k + j ≤ size (gone (finish H a m j f).state) (length H))
unfolding finish
finished H L a m zero f k s e = ⊎_elim (λ (x : f.state.over ≡ true). inl x) (λ (x : k ≤ size (gone f.state) (length H)). inr (omega arith)) e
finished H L a m (suc j) f k s e =
    let g : Finish = finish_step H a m f.state.over f in
    let t = finish_turned H L a m f k s e in
    ⊎_elim (λ (x : (finish H a m j g).state.over ≡ true). inl x) (λ (x : suc k + j ≤ size (gone (finish H a m j g).state) (length H)). inr (omega arith)) (finished H L a m j g (suc k) t.0 t.1)

pub finish_last : (H : List Commit) (a : Asked) (m j : ℕ) (f : Finish) → finish H a m (suc j) f ≡ finish_step H a m (finish H a m j f).state.over (finish H a m j f)
unfolding finish
finish_last H a m zero f = refl
finish_last H a m (suc j) f = finish_last H a m j (finish_step H a m f.state.over f)

pub finish_more : (H : List Commit) → Lawful H → (a : Asked) (m : ℕ) (f : Finish) → Sound (length H) f.state → finish H a m (suc (suc (length H))) f ≡ finish H a m (suc (length H)) f
finish_more H L a m f s = finish_last H a m (suc (length H)) f ∙ ap (λ (b : Bool). finish_step H a m b (finish H a m (suc (length H)) f)) over ∙ still (finish H a m (suc (length H)) f)
  where
    over : (finish H a m (suc (length H)) f).state.over ≡ true
    over = ⊎_elim (λ (x : (finish H a m (suc (length H)) f).state.over ≡ true). x)
        (λ (x : 0 + suc (length H) ≤ size (gone (finish H a m (suc (length H)) f).state) (length H)). absurd (let m = size_most (gone (finish H a m (suc (length H)) f).state) (length H) in omega arith))
        (finished H L a m (suc (length H)) f 0 s (inr (omega arith)))

    still : (v : Finish) → finish_step H a m true v ≡ v
    still v = unfold finish_step in refl
