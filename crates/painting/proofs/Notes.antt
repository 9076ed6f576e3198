-- The results beside the marks, and what painting leaves.
use Rattle.std.proofs.Common.{◌≡◌, ℕ, suc, ◌+◌, ◌<◌, ◌≤◌, Bool, true, false, cond, not, ◌&&◌, ◌||◌, eqb, List, [], ◌∷◌, ◌++◌, length, set, sym, refl, ap, ◌∙◌, subst, ⊎_elim, arith, length-append, length-set}
use Rattle.std.proofs.lemmas.List.{get_or-set_same, get_or-set_other}
use Rattle.std.proofs.lemmas.List.Sums.{sum_by-cons}
use Rattle.std.proofs.lemmas.Bool.{both_ways, cases_eq, cases_lt, and_parts, and_from, eqb-true, eq-eqb, ne_eqb, not-true}
use Rattle.std.proofs.lemmas.Bool.Decides.{nat_tests}
use Rattle.ancestry.specs.Sets.{member}
use Rattle.ancestry.specs.Bases.{shared}
use Rattle.ancestry.specs.Commits.{Commit, parents_of}
use Rattle.ancestry.specs.Lawful.{Lawful}
use Rattle.ancestry.proofs.Tallies.{member-cons}
use Rattle.ancestry.proofs.Unique.{member_here, member_there, member-nil}
use Rattle.painting.specs.Bits.{flags}
use Rattle.painting.specs.Entries.{times}
use Rattle.painting.specs.Marks.{blank, mark, told, newly, settled, lively, resulted, total, hand_all, settle, turn}
use Rattle.painting.specs.Painted.{Noted, Down, Good, Painted, Unmet}
use Rattle.painting.specs.Seeded.{ours, theirs, Blank, places_of, reached_by, meeting}
use Rattle.painting.specs.declared.marks.Mark.{Mark}
use Rattle.painting.specs.declared.marks.Told.{Told}
use Rattle.painting.proofs.Counts.{total-cons, total-set, idle}
use Rattle.painting.proofs.Seeds.{ids_reach, id_reach, down_places, good_start}
use Rattle.painting.proofs.Turns.{set_keeps, hand_all_keeps, length-hand_all, mark_past, finish}

-- HOW OFTEN A PLACE STANDS IN A LIST
pub times-cons : (p q : ℕ) (qs : List ℕ) → times p (q ∷ qs) ≡ cond (eqb q p) 1 0 + times p qs
unfolding times
times-cons p q qs = sum_by-cons (λ q. cond (eqb q p) 1 0) q qs

pub times_end : (p q : ℕ) (qs : List ℕ) → times p (qs ++ q ∷ []) ≡ times p qs + cond (eqb q p) 1 0
times_end p q [] = times-cons p q [] ∙ (let z : times p [] ≡ 0 = unfold times in refl in omega arith)
times_end p q (x ∷ qs) = times-cons p x (qs ++ q ∷ []) ∙ (let a = times-cons p x qs in let b = times_end p q qs in omega arith)

pub here : (a p : ℕ) → a ≡ p → ◌≡◌ {A = ℕ} (cond (eqb a p) 1 0) 1
here a p e = rw (eq-eqb a p e)

pub elsewhere : (a p : ℕ) → (a ≡ p → ⊥) → ◌≡◌ {A = ℕ} (cond (eqb a p) 1 0) 0
elsewhere a p e = rw (ne_eqb a p e)

pub times-member : (p : ℕ) (ps : List ℕ) → 0 < times p ps → member p ps ≡ true
times-member p [] h = absurd (let z : times p [] ≡ 0 = unfold times in refl in omega arith)
times-member p (q ∷ ps) h = ⊎_elim
    (λ (e : q ≡ p). subst (λ (y : ℕ). member p (y ∷ ps) ≡ true) (sym e) (member_here p ps))
    (λ (e : q ≡ p → ⊥). member_there p q ps (times-member p ps (omega (arith, times-cons p q ps, elsewhere q p e))))
    (cases_eq q p)

pub member-times : (p : ℕ) (ps : List ℕ) → member p ps ≡ true → 0 < times p ps
member-times p [] m = absurd (member-nil p m)
member-times p (q ∷ ps) m = ⊎_elim
    (λ (e : eqb p q ≡ true). omega (arith, times-cons p q ps, here q p (sym (eqb-true p q e))))
    (λ (k : member p ps ≡ true). omega (arith, times-cons p q ps, member-times p ps k))
    (member-cons p q ps m)

-- ONE TURN. The sum over marks that count the same is the same.
total_same : (f : Mark → ℕ) (ms ns : List Mark) → length ms ≡ length ns → ((p : ℕ) → f (mark ms p) ≡ f (mark ns p)) → total f ms ≡ total f ns
total_same f [] [] l h = refl
total_same f [] (n ∷ ns) l h = absurd (omega arith)
total_same f (m ∷ ms) [] l h = absurd (omega arith)
total_same f (m ∷ ms) (n ∷ ns) l h =
    let a : f m ≡ f n = h 0 in
    let b : total f ms ≡ total f ns = total_same f ms ns (omega arith) (λ p. h (suc p)) in
    total-cons f m ms ∙ (omega (arith, total-cons f n ns))

noted_hand_all : (t : Told) (rs : List ℕ) (ms : List Mark) (ps : List ℕ) → Noted ms ps → Noted (hand_all t rs ms) ps
noted_hand_all t rs ms ps k =
    let e : (x : ℕ) → resulted (mark (hand_all t rs ms) x) ≡ resulted (mark ms x) = hand_all_keeps (λ x m. resulted m ≡ resulted (mark ms x)) t rs ms (λ r m _ z. z) (λ x. refl) in
    record { once = λ p. k.once p ∙ sym (e p); count = k.count ∙ sym (total_same resulted (hand_all t rs ms) ms (length-hand_all t rs ms) e) }

-- a mark that is not newly a result counts as it did
settled_old : (m : Mark) → newly m ≡ false → resulted (settled m) ≡ resulted m
settled_old m e = go m.result (newly m) e
  where
    go : (a b : Bool) → b ≡ false → ◌≡◌ {A = ℕ} (cond (a || b) 1 0) (cond a 1 0)
    go true b e = refl
    go false b e = rw e refl

settled_new : (m : Mark) → newly m ≡ true → (resulted (settled m) ≡ 1) × (resulted m ≡ 0)
settled_new m e = (go m.result (newly m) e, none m.result (not-true m.result (and_parts ((m.first && m.others) && not m.stale) (not m.result) e).1))
  where
    go : (a b : Bool) → b ≡ true → ◌≡◌ {A = ℕ} (cond (a || b) 1 0) 1
    go true b e = refl
    go false b e = rw e refl

    none : (a : Bool) → a ≡ false → ◌≡◌ {A = ℕ} (cond a 1 0) 0
    none a e = rw e refl

noted_settle_new : (ms : List Mark) (p : ℕ) (rs : List ℕ) → p < length ms → newly (mark ms p) ≡ true → Noted ms rs → Noted (settle p ms) (rs ++ p ∷ [])
unfolding settle
noted_settle_new ms p rs l e k =
    let n : Mark = settled (mark ms p) in
    let s = settled_new (mark ms p) e in
    let at_p : mark (set ms p n) p ≡ n = get_or-set_same ms p n blank l in
    record {
      once = λ x. times_end x p rs ∙ ⊎_elim
          (λ (z : x ≡ p). subst (λ (y : ℕ). times y rs + cond (eqb p y) 1 0 ≡ resulted (mark (set ms p n) y)) (sym z) (omega (arith, k.once p, s.0, s.1, ap resulted at_p, here p p refl)))
          (λ (z : x ≡ p → ⊥). omega (arith, k.once x, ap resulted (get_or-set_other ms p x n blank z), elsewhere p x (λ y. z (sym y))))
          (cases_eq x p);
      count = length-append rs (p ∷ []) ∙ (omega (arith, k.count, total-set resulted ms p n l, s.0, s.1));
    }

noted_settle_old : (ms : List Mark) (p : ℕ) (rs : List ℕ) → p < length ms → newly (mark ms p) ≡ false → Noted ms rs → Noted (settle p ms) rs
unfolding settle
noted_settle_old ms p rs l e k =
    let n : Mark = settled (mark ms p) in
    let s = settled_old (mark ms p) e in
    let at_p : mark (set ms p n) p ≡ n = get_or-set_same ms p n blank l in
    record {
      once = λ x. ⊎_elim
          (λ (z : x ≡ p). subst (λ (y : ℕ). times y rs ≡ resulted (mark (set ms p n) y)) (sym z) (k.once p ∙ sym s ∙ ap resulted (sym at_p)))
          (λ (z : x ≡ p → ⊥). k.once x ∙ ap resulted (sym (get_or-set_other ms p x n blank z)))
          (cases_eq x p);
      count = omega (arith, k.count, total-set resulted ms p n l, s);
    }

pub noted_new : (H : List Commit) (p : ℕ) (ms : List Mark) (rs : List ℕ) → p < length ms → newly (mark ms p) ≡ true → Noted ms rs → Noted (turn H p ms) (rs ++ p ∷ [])
unfolding turn
noted_new H p ms rs l e k = noted_hand_all (told (mark ms p)) (parents_of H p) (settle p ms) (rs ++ p ∷ []) (noted_settle_new ms p rs l e k)

pub noted_old : (H : List Commit) (p : ℕ) (ms : List Mark) (rs : List ℕ) → p < length ms → newly (mark ms p) ≡ false → Noted ms rs → Noted (turn H p ms) rs
unfolding turn
noted_old H p ms rs l e k = noted_hand_all (told (mark ms p)) (parents_of H p) (settle p ms) rs (noted_settle_old ms p rs l e k)

pub unmet-turn : (H : List Commit) (p : ℕ) (ms : List Mark) → Unmet ms → Unmet (turn H p ms)
unfolding turn settle
unmet-turn H p ms u =
    hand_all_keeps (λ x m. m.met ≡ false) (told (mark ms p)) (parents_of H p) (set ms p (settled (mark ms p))) (λ r m _ e. e)
    (set_keeps (λ x m. m.met ≡ false) ms p (settled (mark ms p)) (u p) u)

-- there are no more results than places
resulted_most : (ms : List Mark) → total resulted ms ≤ length ms
resulted_most [] = unfold total in omega arith
resulted_most (m ∷ ms) = let a = total-cons resulted m ms in let b : resulted m ≤ 1 = grind (arith, nat_tests) in omega (arith, resulted_most ms)

pub few_noted : (ms : List Mark) (rs : List ℕ) → Noted ms rs → length rs ≤ length ms
few_noted ms rs k = omega (arith, k.count, resulted_most ms)

-- there is a place left for a new one
pub room_noted : (ms : List Mark) (p : ℕ) (rs : List ℕ) → p < length ms → Noted ms rs → newly (mark ms p) ≡ true → length rs < length ms
room_noted ms p rs l k e =
    let s = settled_new (mark ms p) e in
    let n : Mark = settled (mark ms p) in
    omega (arith, k.count, total-set resulted ms p n l, s.0, s.1, resulted_most (set ms p n), length-set ms p n)

-- THE END
is_one : (b : Bool) → 0 < cond b 1 0 → b ≡ true
is_one true h = refl
is_one false h = absurd (omega arith)

was_one : (b : Bool) → b ≡ true → ◌≡◌ {A = ℕ} (cond b 1 0) 1
was_one b e = rw e

at_most : (b : Bool) → cond b 1 0 ≤ 1
at_most true = omega arith
at_most false = omega arith

pub painted_by : (H : List Commit) → Lawful H → (A B : ℕ → Bool) (S : ℕ → Bool) (ms : List Mark) (rs : List ℕ) → length ms ≡ length H → ((p : ℕ) → p < length H → S p ≡ (A p && B p))
    → Good H A B ms → total lively ms ≡ 0 → Noted ms rs → Unmet ms → Painted H S ms rs
painted_by H L A B S ms rs len is g z k u = record {
  all = λ p l s un.
      let a = and_parts (A p) (B p) (sym (is p l) ∙ s) in
      let f = finish H A B L ms g (idle ms z) p (record { inside = l; ours = a.0; theirs = a.1; alone = λ q m x y r. un q m (is q m ∙ and_from (A q) (B q) x y) r }) in
      (times-member p rs (omega (arith, k.once p, was_one (mark ms p).result f.0)), f.1);
  only = λ p m.
      let r : (mark ms p).result ≡ true = is_one (mark ms p).result (omega (arith, k.once p, member-times p rs m)) in
      let l : p < length H = ⊎_elim (λ (l : p < length ms). let x : p < length H = omega arith in x) (λ (l : length ms ≤ p). absurd (both_ways (mark ms p).result (ap (λ (m : Mark). m.result) (mark_past ms p l)) r)) (cases_lt p (length ms)) in
      let a = (g.sound p).result r in
      (l, is p l ∙ and_from (A p) (B p) a.0 a.1);
  once = λ p. omega (arith, k.once p, at_most (mark ms p).result);
  unmet = u;
}

-- painting from places: what the code's steps leave
pub painted_from : (H G : List Commit) → Lawful H → (S : ℕ → Bool) (fs ps : List ℕ) (ms ns ms' : List Mark) (rs : List ℕ)
    → G ≡ H → length ms ≡ length H → length ms' ≡ length H → ((s : ℕ) → member s fs ≡ true → s < length H) → ((s : ℕ) → member s ps ≡ true → s < length H)
    → ((p : ℕ) → p < length H → S p ≡ (reached_by H fs p && reached_by H ps p)) → Blank ms → ns ≡ hand_all theirs ps (hand_all ours fs ms)
    → ((A B : ℕ → Bool) → Down G A → Down G B → Good G A B ns → Good G A B ms') → total lively ms' ≡ 0 → Noted ms' rs → Unmet ms'
    → Painted H S ms' rs
painted_from H G L S fs ps ms ns ms' rs e len len' inf inp is b start k z notes u =
    let k' : (A B : ℕ → Bool) → Down H A → Down H B → Good H A B ns → Good H A B ms' = subst (λ (X : List Commit). (A B : ℕ → Bool) → Down X A → Down X B → Good X A B ns → Good X A B ms') e k in
    let go : Good H (reached_by H fs) (reached_by H ps) ns = subst (Good H (reached_by H fs) (reached_by H ps)) (sym start) (good_start H L fs ps inf inp ms len b) in
    painted_by H L (reached_by H fs) (reached_by H ps) S ms' rs len' is (k' (reached_by H fs) (reached_by H ps) (down_places H L fs inf) (down_places H L ps inp) go) z notes u

-- the marks as they are lent, under the name that they have once the painter is gone
pub painted_at : (H : List Commit) (S : ℕ → Bool) (rs ms l : List ℕ) → l ≡ ms → Painted H S (flags ms) rs → Painted H S (flags l) rs
painted_at H S rs ms l e p = subst (λ (x : List ℕ). Painted H S (flags x) rs) (sym e) p

pub shared_is : (H : List Commit) (f : ℕ) (zs : List ℕ) (p : ℕ) → shared H f zs p ≡ (reached_by H (places_of H (f ∷ [])) p && reached_by H (places_of H zs) p)
unfolding shared
shared_is H f zs p = rw (id_reach H f p, ids_reach H zs p) refl

pub meeting_is : (H : List Commit) (f : ℕ) (ps : List ℕ) (p : ℕ) → meeting H f ps p ≡ (reached_by H (places_of H (f ∷ [])) p && reached_by H ps p)
unfolding meeting
meeting_is H f ps p = rw (id_reach H f p) refl
