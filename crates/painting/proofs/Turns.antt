-- One place told, all parents told, one turn: what is kept.
use Rattle.std.proofs.Common.{◌≡◌, ℕ, zero, suc, ◌<◌, ◌≤◌, Bool, true, false, cond, not, ◌&&◌, ◌||◌, eqb, List, [], ◌∷◌, length, set, sym, refl, ◌∙◌, subst, ⊎_elim, arith, length-set}
use Rattle.std.proofs.lemmas.List.{get_or-set_same, get_or-set_other, set_past}
use Rattle.std.proofs.lemmas.Bool.{true≢false, both_ways, cases_eq, cases_lt, cases_Bool, or_cases, or_left, or_right, and_parts, eqb-true}
use Rattle.ancestry.proofs.Reach.{Reaches-trans}
use Rattle.ancestry.proofs.Tallies.{member-cons}
use Rattle.ancestry.proofs.Unique.{member_here, member_there, member-nil}
use Rattle.ancestry.specs.Commits.{Commit, at}
use Rattle.ancestry.specs.Lawful.{Lawful}
use Rattle.ancestry.specs.Reaching.{Reaches, itself, through}
use Rattle.ancestry.specs.Sets.{member}
use Rattle.painting.specs.Marks.{blank, mark, covers, joined, told, newly, settled, hand, hand_all, settle, turn}
use Rattle.painting.specs.Painted.{Covers, Handed, Closed, Under, Sound, Down, Good}
use Rattle.painting.specs.declared.marks.Mark.{Mark}
use Rattle.painting.specs.declared.marks.Told.{Told}

-- what a mark has gained
pub record Grown (m n : Mark) : Type 0 where
  pub first : m.first ≡ true → n.first ≡ true
  pub others : m.others ≡ true → n.others ≡ true
  pub stale : m.stale ≡ true → n.stale ≡ true
  pub result : m.result ≡ true → n.result ≡ true

pub grown_same : (m : Mark) → Grown m m
grown_same m = record { first = λ e. e; others = λ e. e; stale = λ e. e; result = λ e. e }

pub grown_trans : (l m n : Mark) → Grown l m → Grown m n → Grown l n
grown_trans l m n a b = record { first = λ e. b.first (a.first e); others = λ e. b.others (a.others e); stale = λ e. b.stale (a.stale e); result = λ e. b.result (a.result e) }

pub grown-joined : (m : Mark) (t : Told) → Grown m (joined m t)
grown-joined m t = record { first = or_left m.first t.first; others = or_left m.others t.others; stale = or_left m.stale t.stale; result = λ e. e }

pub covers-grown : (m n : Mark) (t : Told) → Covers m t → Grown m n → Covers n t
covers-grown m n t c g = record { first = λ e. g.first (c.first e); others = λ e. g.others (c.others e); stale = λ e. g.stale (c.stale e) }

pub covers-joined : (m : Mark) (t : Told) → Covers (joined m t) t
covers-joined m t = record { first = or_right m.first t.first; others = or_right m.others t.others; stale = or_right m.stale t.stale }

has : (x y : Bool) → (x || not y) ≡ true → y ≡ true → x ≡ true
has true y h e = refl
has false true h e = h
has false false h e = e

pub covers_true : (m : Mark) (t : Told) → covers m t ≡ true → Covers m t
covers_true m t h =
    let a = and_parts ((m.first || not t.first) && (m.others || not t.others)) (m.stale || not t.stale) h in
    let b = and_parts (m.first || not t.first) (m.others || not t.others) a.0 in
    record { first = has m.first t.first b.0; others = has m.others t.others b.1; stale = has m.stale t.stale a.1 }

pub mark_past : (ms : List Mark) (p : ℕ) → length ms ≤ p → mark ms p ≡ blank
mark_past [] p h = refl
mark_past (m ∷ ms) zero h = absurd (omega arith)
mark_past (m ∷ ms) (suc p) h = mark_past ms p (omega arith)

-- what is true of each place's mark stays so, if it does where the mark is written
pub set_keeps : (P : ℕ → Mark → Type 0) (ms : List Mark) (r : ℕ) (n : Mark) → P r n → ((x : ℕ) → P x (mark ms x)) → (x : ℕ) → P x (mark (set ms r n) x)
set_keeps P ms r n h k x = ⊎_elim
    (λ (e : x ≡ r). ⊎_elim
    (λ (l : r < length ms). subst (λ (y : ℕ). P y (mark (set ms r n) y)) (sym e) (subst (P r) (sym (get_or-set_same ms r n blank l)) h))
    (λ (l : length ms ≤ r). subst (λ (l : List Mark). P x (mark l x)) (sym (set_past ms r n l)) (k x))
    (cases_lt r (length ms)))
    (λ (e : x ≡ r → ⊥). subst (P x) (sym (get_or-set_other ms r x n blank e)) (k x))
    (cases_eq x r)

pub hand_keeps : (P : ℕ → Mark → Type 0) (t : Told) (r : ℕ) (ms : List Mark) → ((m : Mark) → P r m → P r (joined m t)) → ((x : ℕ) → P x (mark ms x)) → (x : ℕ) → P x (mark (hand t r ms) x)
unfolding hand
hand_keeps P t r ms h k = go (covers (mark ms r) t)
  where
    go : (b : Bool) → (x : ℕ) → P x (mark (cond b ms (set ms r (joined (mark ms r) t))) x)
    go true = k
    go false = set_keeps P ms r (joined (mark ms r) t) (h (mark ms r) (k r)) k

pub hand_all_keeps : (P : ℕ → Mark → Type 0) (t : Told) (rs : List ℕ) (ms : List Mark) → ((r : ℕ) (m : Mark) → member r rs ≡ true → P r m → P r (joined m t)) → ((x : ℕ) → P x (mark ms x)) → (x : ℕ) → P x (mark (hand_all t rs ms) x)
unfolding hand_all
hand_all_keeps P t [] ms h k = k
hand_all_keeps P t (r ∷ rs) ms h k = hand_all_keeps P t rs (hand t r ms) (λ y m i. h y m (member_there y r rs i)) (hand_keeps P t r ms (λ m. h r m (member_here r rs)) k)

pub length-hand : (t : Told) (r : ℕ) (ms : List Mark) → length (hand t r ms) ≡ length ms
unfolding hand
length-hand t r ms = go (covers (mark ms r) t)
  where
    go : (b : Bool) → length (cond b ms (set ms r (joined (mark ms r) t))) ≡ length ms
    go true = refl
    go false = length-set ms r (joined (mark ms r) t)

pub length-hand_all : (t : Told) (rs : List ℕ) (ms : List Mark) → length (hand_all t rs ms) ≡ length ms
unfolding hand_all
length-hand_all t [] ms = refl
length-hand_all t (r ∷ rs) ms = length-hand_all t rs (hand t r ms) ∙ length-hand t r ms

pub length-settle : (p : ℕ) (ms : List Mark) → length (settle p ms) ≡ length ms
unfolding settle
length-settle p ms = length-set ms p (settled (mark ms p))

pub hand_all-grown : (t : Told) (rs : List ℕ) (ms : List Mark) (x : ℕ) → Grown (mark ms x) (mark (hand_all t rs ms) x)
hand_all-grown t rs ms = hand_all_keeps (λ x m. Grown (mark ms x) m) t rs ms (λ r m _ g. grown_trans (mark ms r) m (joined m t) g (grown-joined m t)) (λ x. grown_same (mark ms x))

-- a mark that does not wait afterwards was not written
pub hand_all_still : (t : Told) (rs : List ℕ) (ms : List Mark) (x : ℕ) → (mark (hand_all t rs ms) x).waiting ≡ false → mark (hand_all t rs ms) x ≡ mark ms x
hand_all_still t rs ms = hand_all_keeps (λ x m. m.waiting ≡ false → m ≡ mark ms x) t rs ms (λ r m _ g e. absurd (true≢false e)) (λ x e. refl)

pub hand-covers : (t : Told) (r : ℕ) (ms : List Mark) → r < length ms → Covers (mark (hand t r ms) r) t
unfolding hand
hand-covers t r ms l = go (covers (mark ms r) t) refl
  where
    go : (b : Bool) → covers (mark ms r) t ≡ b → Covers (mark (cond b ms (set ms r (joined (mark ms r) t))) r) t
    go true e = covers_true (mark ms r) t e
    go false e = subst (λ (m : Mark). Covers m t) (sym (get_or-set_same ms r (joined (mark ms r) t) blank l)) (covers-joined (mark ms r) t)

pub hand_all-covers : (t : Told) (rs : List ℕ) (ms : List Mark) (r : ℕ) → member r rs ≡ true → r < length ms → Covers (mark (hand_all t rs ms) r) t
unfolding hand_all
hand_all-covers t [] ms r i l = absurd (member-nil r i)
hand_all-covers t (y ∷ rs) ms r i l = ⊎_elim
    (λ (e : eqb r y ≡ true). let l' : y < length ms = rw (eqb-true r y e) at l in
    subst (λ (z : ℕ). Covers (mark (hand_all t rs (hand t y ms)) z) t) (sym (eqb-true r y e)) (covers-grown (mark (hand t y ms) y) (mark (hand_all t rs (hand t y ms)) y) t (hand-covers t y ms l') (hand_all-grown t rs (hand t y ms) y)))
    (λ (i : member r rs ≡ true). hand_all-covers t rs (hand t y ms) r i (omega (arith, length-hand t y ms)))
    (member-cons r y rs i)

-- the closure after a turn
pub closed_turn : (H : List Commit) → Lawful H → (ms : List Mark) (p : ℕ) → length ms ≡ length H → p < length H → Closed H ms → Closed H (turn H p ms)
unfolding turn settle
closed_turn H L ms p n lp c x lx w =
    let t : Told = told (mark ms p) in
    let ps : List ℕ = (at H p).parents in
    let ms₀ : List Mark = set ms p (settled (mark ms p)) in
    let ms₁ : List Mark = hand_all t ps ms₀ in
    let s : mark ms₁ x ≡ mark ms₀ x = hand_all_still t ps ms₀ x w in
    let n₀ : length ms₀ ≡ length ms = length-set ms p (settled (mark ms p)) in
    ⊎_elim
    (λ (e : x ≡ p).
    let z : mark ms₁ p ≡ settled (mark ms p) = subst (λ (y : ℕ). mark ms₁ y ≡ mark ms₀ y) e s ∙ get_or-set_same ms p (settled (mark ms p)) blank (omega arith) in
    subst (λ (y : ℕ). Handed H ms₁ y) (sym e)
    (record {
      parents = λ r i. subst (λ (m : Mark). Covers (mark ms₁ r) (told m)) (sym z) (hand_all-covers t ps ms₀ r i (omega (arith, L.inside p r lp i)));
      due = subst (λ (m : Mark). m.first ≡ true → m.others ≡ true → m.stale ≡ false → m.result ≡ true) (sym z) (λ a b d. due (mark ms p) a b d);
    }))
    (λ (e : x ≡ p → ⊥).
    let z : mark ms₁ x ≡ mark ms x = s ∙ get_or-set_other ms p x (settled (mark ms p)) blank e in
    let h : Handed H ms x = c x lx (subst (λ (m : Mark). m.waiting ≡ false) z w) in
    record {
      parents = λ r i. subst (λ (m : Mark). Covers (mark ms₁ r) (told m)) (sym z) (covers-grown (mark ms r) (mark ms₁ r) (told (mark ms x)) (h.parents r i) (grown_trans (mark ms r) (mark ms₀ r) (mark ms₁ r) (settle_grown r) (hand_all-grown t ps ms₀ r)));
      due = subst (λ (m : Mark). m.first ≡ true → m.others ≡ true → m.stale ≡ false → m.result ≡ true) (sym z) h.due;
    })
    (cases_eq x p)
  where
    due : (m : Mark) → m.first ≡ true → m.others ≡ true → m.stale ≡ false → (settled m).result ≡ true
    due m a b d = rw (a, b, d) (either m.result)
      where
        either : (x : Bool) → (x || (true && not x)) ≡ true
        either true = refl
        either false = refl

    settle_grown : (r : ℕ) → Grown (mark ms r) (mark (set ms p (settled (mark ms p))) r)
    settle_grown = set_keeps (λ x m. Grown (mark ms x) m) ms p (settled (mark ms p)) (record { first = λ e. e; others = λ e. e; stale = λ e. e; result = or_left (mark ms p).result (newly (mark ms p)) }) (λ x. grown_same (mark ms x))

pub turn-grown : (H : List Commit) (p : ℕ) (ms : List Mark) (x : ℕ) → Grown (mark ms x) (mark (turn H p ms) x)
unfolding turn settle
turn-grown H p ms x = grown_trans (mark ms x) (mark (set ms p (settled (mark ms p))) x) (mark (hand_all (told (mark ms p)) (at H p).parents (set ms p (settled (mark ms p)))) x)
    (set_keeps (λ x m. Grown (mark ms x) m) ms p (settled (mark ms p)) (record { first = λ e. e; others = λ e. e; stale = λ e. e; result = or_left (mark ms p).result (newly (mark ms p)) }) (λ x. grown_same (mark ms x)) x)
    (hand_all-grown (told (mark ms p)) (at H p).parents (set ms p (settled (mark ms p))) x)

module _ (H : List Commit) (A B : ℕ → Bool) where
  pub sound_joined : (p r : ℕ) (m n : Mark) → Down H A → Down H B → p < length H → Sound H A B p m → member r (at H p).parents ≡ true → Sound H A B r n → Sound H A B r (joined n (told m))
  sound_joined p r m n da db l s i k = record {
    first = λ e. ⊎_elim k.first (λ (f : m.first ≡ true). da p r (s.first f) i) (or_cases n.first m.first e);
    others = λ e. ⊎_elim k.others (λ (f : m.others ≡ true). db p r (s.others f) i) (or_cases n.others m.others e);
    stale = λ e. ⊎_elim k.stale (λ (f : (m.stale || (m.first && m.others)) ≡ true). ⊎_elim
        (λ (f : m.stale ≡ true). let u = s.stale f in
        record { child = p; shared = u.shared; inside = l; held = u.held; ours = u.ours; theirs = u.theirs; reached = Reaches-trans H p u.child (through u.parent (itself refl)) u.reached; parent = i })
        (λ (f : (m.first && m.others) ≡ true). let b = and_parts m.first m.others f in
        record { child = p; shared = p; inside = l; held = l; ours = s.first b.0; theirs = s.others b.1; reached = itself refl; parent = i })
        (or_cases m.stale (m.first && m.others) f)) (or_cases n.stale (m.stale || (m.first && m.others)) e);
    result = k.result;
  }

  pub sound_settled : (p : ℕ) (m : Mark) → Sound H A B p m → Sound H A B p (settled m)
  sound_settled p m s = record {
    first = s.first;
    others = s.others;
    stale = s.stale;
    result = λ e. ⊎_elim s.result (λ (f : newly m ≡ true). let d = and_parts ((m.first && m.others) && not m.stale) (not m.result) f in let a = and_parts (m.first && m.others) (not m.stale) d.0 in let b = and_parts m.first m.others a.0 in (s.first b.0, s.others b.1)) (or_cases m.result (newly m) e);
  }

  pub sound_turn : Down H A → Down H B → (ms : List Mark) (p : ℕ) → p < length H → ((x : ℕ) → Sound H A B x (mark ms x)) → (x : ℕ) → Sound H A B x (mark (turn H p ms) x)
  unfolding turn settle
  sound_turn da db ms p l s = hand_all_keeps (Sound H A B) (told (mark ms p)) (at H p).parents (set ms p (settled (mark ms p)))
      (λ r n i k. sound_joined p r (mark ms p) n da db l (s p) i k)
      (set_keeps (Sound H A B) ms p (settled (mark ms p)) (sound_settled p (mark ms p) (s p)) s)

  pub good_turn : Lawful H → Down H A → Down H B → (ms : List Mark) (p : ℕ) → length ms ≡ length H → p < length H → Good H A B ms → Good H A B (turn H p ms)
  good_turn L da db ms p n l g = record {
    closed = closed_turn H L ms p n l g.closed;
    sound = sound_turn da db ms p l g.sound;
    first = λ x a. let s = g.first x a in (s.0, s.1, (turn-grown H p ms s.0).first s.2, s.3);
    others = λ x a. let s = g.others x a in (s.0, s.1, (turn-grown H p ms s.0).others s.2, s.3);
  }

  -- no other shared place reaches p
  pub record Top (p : ℕ) : Type 0 where
    pub inside : p < length H
    pub ours : A p ≡ true
    pub theirs : B p ≡ true
    pub alone : (q : ℕ) → q < length H → A q ≡ true → B q ≡ true → Reaches H q p → q ≡ p

  -- nothing that reaches such a place is under a shared place
  pub above_top : Lawful H → (p s : ℕ) → Top p → Reaches H s p → Under H A B s → ⊥
  above_top L p s t r u =
      let e : u.shared ≡ p = t.alone u.shared u.held u.ours u.theirs (Reaches-trans H p u.child (through u.parent r) u.reached) in
      let back : Reaches H p u.child = subst (λ (y : ℕ). Reaches H y u.child) e u.reached in
      L.acyclic u.child s u.inside u.parent (Reaches-trans H u.child p back r)

  -- nothing that is not stale waits
  abbrev pub Idle : List Mark → Type 0
  Idle ms = (p : ℕ) → (mark ms p).waiting ≡ true → (mark ms p).stale ≡ true

  module _ (L : Lawful H) (ms : List Mark) (g : Good H A B ms) (idle : Idle ms) (p : ℕ) (t : Top p) where
    fresh : (s : ℕ) → Reaches H s p → (mark ms s).stale ≡ false
    fresh s r = ⊎_elim (λ (e : (mark ms s).stale ≡ true). absurd (above_top L p s t r ((g.sound s).stale e))) (λ (e : (mark ms s).stale ≡ false). e) (cases_Bool (mark ms s).stale)

    done : (s : ℕ) → Reaches H s p → (mark ms s).waiting ≡ false
    done s r = ⊎_elim (λ (e : (mark ms s).waiting ≡ true). absurd (both_ways (mark ms s).stale (fresh s r) (idle s e))) (λ (e : (mark ms s).waiting ≡ false). e) (cases_Bool (mark ms s).waiting)

    down_first : (s : ℕ) → s < length H → (mark ms s).first ≡ true → Reaches H s p → (mark ms p).first ≡ true
    down_first s l f (itself e) = subst (λ (y : ℕ). (mark ms y).first ≡ true) e f
    down_first s l f (through {r = r} i d) = down_first r (L.inside s r l i) (((g.closed s l (done s (through i d))).parents r i).first f) d

    down_others : (s : ℕ) → s < length H → (mark ms s).others ≡ true → Reaches H s p → (mark ms p).others ≡ true
    down_others s l f (itself e) = subst (λ (y : ℕ). (mark ms y).others ≡ true) e f
    down_others s l f (through {r = r} i d) = down_others r (L.inside s r l i) (((g.closed s l (done s (through i d))).parents r i).others f) d

    pub finish : ((mark ms p).result ≡ true) × ((mark ms p).stale ≡ false)
    finish =
        let a = g.first p t.ours in
        let b = g.others p t.theirs in
        let k = fresh p (itself refl) in
        ((g.closed p t.inside (done p (itself refl))).due (down_first a.0 a.1 a.2 a.3) (down_others b.0 b.1 b.2 b.3) k, k)
