-- The queue beside the marks, and what a turn costs.
use Rattle.std.proofs.Common.{◌≡◌, ℕ, ◌+◌, ◌<◌, ◌≤◌, Bool, true, false, cond, eqb, List, [], ◌∷◌, length, set, is_ok, is_some, Some, None, Ok, Err, sum_by, Option, Result, sym, refl, ap, ◌∙◌, subst, ⊎_elim, arith, length-set}
use Rattle.std.specs.List.Sorted.{IsPermutation}
use Rattle.std.specs.List.{AllByRecursion}
use Rattle.std.proofs.lemmas.List.{get_or-set_same, get_or-set_other, set_past}
use Rattle.std.proofs.lemmas.List.Sums.{sum_by-set, sum_by-cons, get_or-le-sum_by}
use Rattle.std.proofs.lemmas.List.Sorted.{sum_by-IsPermutation}
use Rattle.std.proofs.lemmas.Bool.{both_ways, cases_eq, cases_lt, cases_Bool, false≢true, eq-eqb, ne_eqb}
use Rattle.std.proofs.lemmas.Bool.Decides.{nat_tests}
use Rattle.ancestry.specs.Commits.{Commit, at}
use Rattle.ancestry.specs.declared.refusal.Refusal.{Refusal}
use Rattle.painting.proofs.Turns.{mark_past}
use Rattle.painting.specs.Entries.{occurs}
use Rattle.painting.specs.Marks.{blank, mark, covers, joined, told, settled, lively, waits, cost, total, hand, hand_all, settle, turn}
use Rattle.painting.specs.Painted.{Kept}
use Rattle.painting.specs.declared.marks.Mark.{Mark}
use Rattle.painting.specs.declared.marks.Told.{Told}
use Rattle.queue.proofs.Waiting.{length_taken, length_put}
use Rattle.queue.specs.Kinds.{beats}
use Rattle.queue.specs.Queues.{waiting, room, Whole, Inserted, Taken}
use Rattle.queue.specs.declared.kinds.Keyed.{Keyed}
use Rattle.queue.specs.declared.lent.Queue.{Queue}

pub total-set : (f : Mark → ℕ) (ms : List Mark) (i : ℕ) (n : Mark) → i < length ms → total f (set ms i n) + f (mark ms i) ≡ total f ms + f n
unfolding total
total-set f ms i n l = sum_by-set f ms i n blank l

pub total_has : (f : Mark → ℕ) (ms : List Mark) (i : ℕ) → i < length ms → f (mark ms i) ≤ total f ms
unfolding total
total_has f ms i l = get_or-le-sum_by f ms i blank l

pub total-cons : (f : Mark → ℕ) (m : Mark) (ms : List Mark) → total f (m ∷ ms) ≡ f m + total f ms
unfolding total
total-cons f m ms = sum_by-cons f m ms

pub total_mono : (f k : Mark → ℕ) → ((m : Mark) → f m ≤ k m) → (ms : List Mark) → total f ms ≤ total k ms
unfolding total
total_mono f k h [] = omega arith
total_mono f k h (m ∷ ms) = let a = sum_by-cons f m ms in let b = sum_by-cons k m ms in let i : sum_by f ms ≤ sum_by k ms = total_mono f k h ms in omega (arith, a, b, i, h m)

waits-le : (m : Mark) → waits m ≤ 1
waits-le m = grind (arith, nat_tests)

lively-waits : (m : Mark) → lively m ≤ waits m
lively-waits m = grind (arith, nat_tests)

pub waits_most : (ms : List Mark) → total waits ms ≤ length ms
waits_most [] = unfold total in omega arith
waits_most (m ∷ ms) = let a = total-cons waits m ms in omega (arith, waits_most ms, waits-le m)

pub alive_waits : (ms : List Mark) → total lively ms ≤ total waits ms
alive_waits ms = total_mono lively waits lively-waits ms

pub occurs_put : (p : ℕ) (ws vs : List Keyed) (e : Keyed) → IsPermutation (e ∷ ws) vs → occurs p vs ≡ cond (eqb e.place p) 1 0 + occurs p ws
unfolding occurs
occurs_put p ws vs e s = sum_by-IsPermutation (λ e. cond (eqb e.place p) 1 0) (e ∷ ws) vs s ∙ sum_by-cons (λ e. cond (eqb e.place p) 1 0) e ws

pub occurs-taken : (p : ℕ) (ws vs : List Keyed) (e : Keyed) → IsPermutation ws (e ∷ vs) → occurs p ws ≡ cond (eqb e.place p) 1 0 + occurs p vs
unfolding occurs
occurs-taken p ws vs e s = sym (sum_by-IsPermutation (λ e. cond (eqb e.place p) 1 0) ws (e ∷ vs) s) ∙ sum_by-cons (λ e. cond (eqb e.place p) 1 0) e vs

spot : (a p : ℕ) → a ≡ p → ◌≡◌ {A = ℕ} (cond (eqb a p) 1 0) 1
spot a p e = rw (eq-eqb a p e)

off : (a p : ℕ) → (a ≡ p → ⊥) → ◌≡◌ {A = ℕ} (cond (eqb a p) 1 0) 0
off a p e = rw (ne_eqb a p e)

-- one mark is written, and the queue changes to match
pub record Moves (ms : List Mark) (q q' : Queue Keyed) (r : ℕ) (n : Mark) : Type 0 where
  pub here : occurs r (waiting q') + waits (mark ms r) ≡ occurs r (waiting q) + waits n
  pub there : (p : ℕ) → (p ≡ r → ⊥) → occurs p (waiting q') ≡ occurs p (waiting q)
  pub count : length (waiting q') + waits (mark ms r) ≡ length (waiting q) + waits n

kept_set : (ms : List Mark) (q q' : Queue Keyed) (live live' r : ℕ) (n : Mark) → Kept ms q live → r < length ms → Whole beats q' → room q' ≡ room q → Moves ms q q' r n → live' ≡ total lively (set ms r n) → Kept (set ms r n) q' live'
kept_set ms q q' live live' r n k l w rm mv lv = record {
  whole = w;
  space = omega (arith, length-set ms r n, k.space);
  tied = λ p. ⊎_elim
      (λ (e : p ≡ r). subst (λ (y : ℕ). occurs y (waiting q') ≡ waits (mark (set ms r n) y)) (sym e)
      (let z : occurs r (waiting q') ≡ waits n = omega (arith, mv.here, k.tied r) in z ∙ ap waits (sym (get_or-set_same ms r n blank l))))
      (λ (e : p ≡ r → ⊥). mv.there p e ∙ k.tied p ∙ ap waits (sym (get_or-set_other ms r p n blank e)))
      (cases_eq p r);
  count = omega (arith, total-set waits ms r n l, mv.count, k.count);
  alive = lv;
}

pub waits_one : (m : Mark) → m.waiting ≡ true → waits m ≡ 1
waits_one m e = rw e refl

pub waits_none : (m : Mark) → m.waiting ≡ false → waits m ≡ 0
waits_none m e = rw e refl

pub one_waits : (m : Mark) → 0 < waits m → m.waiting ≡ true
one_waits m h = ⊎_elim (λ (e : m.waiting ≡ true). e) (λ (e : m.waiting ≡ false). absurd (omega (arith, waits_none m e))) (cases_Bool m.waiting)

pub moves_put : (ms : List Mark) (q q' : Queue Keyed) (r : ℕ) (n : Mark) (e : Keyed) → IsPermutation (e ∷ waiting q) (waiting q') → e.place ≡ r → (mark ms r).waiting ≡ false → n.waiting ≡ true → Moves ms q q' r n
moves_put ms q q' r n e s pl w wn = record {
  here = omega (arith, occurs_put r (waiting q) (waiting q') e s, waits_none (mark ms r) w, waits_one n wn, spot e.place r pl);
  there = λ p d. occurs_put p (waiting q) (waiting q') e s ∙ omega (arith, off e.place p (λ z. d (sym z ∙ pl)));
  count = omega (arith, length_put (waiting q) (waiting q') e s, waits_none (mark ms r) w, waits_one n wn);
}

pub moves_same : (ms : List Mark) (q : Queue Keyed) (r : ℕ) (n : Mark) → (mark ms r).waiting ≡ true → n.waiting ≡ true → Moves ms q q r n
moves_same ms q r n w wn = record
    { here = omega (arith, waits_one (mark ms r) w, waits_one n wn); there = λ p d. refl; count = omega (arith, waits_one (mark ms r) w, waits_one n wn) }

pub moves_taken : (ms : List Mark) (q q' : Queue Keyed) (n : Mark) (e : Keyed) → IsPermutation (waiting q) (e ∷ waiting q') → (mark ms e.place).waiting ≡ true → n.waiting ≡ false → Moves ms q q' e.place n
moves_taken ms q q' n e s w wn = record {
  here = omega (arith, occurs-taken e.place (waiting q) (waiting q') e s, waits_none n wn, waits_one (mark ms e.place) w, spot e.place e.place refl);
  there = λ p d. sym (occurs-taken p (waiting q) (waiting q') e s ∙ omega (arith, off e.place p (λ z. d (sym z))));
  count = omega (arith, length_taken (waiting q) (waiting q') e s, waits_none n wn, waits_one (mark ms e.place) w);
}

-- an entry that is taken is of a place that waits
pub taken-waits : (ms : List Mark) (q : Queue Keyed) (vs : List Keyed) (live : ℕ) (e : Keyed) → Kept ms q live → IsPermutation (waiting q) (e ∷ vs) → (mark ms e.place).waiting ≡ true
taken-waits ms q vs live e k s = one_waits (mark ms e.place) (omega (arith, occurs-taken e.place (waiting q) vs e s, k.tied e.place, spot e.place e.place refl))

pub waiting_inside : (ms : List Mark) (p : ℕ) → (mark ms p).waiting ≡ true → p < length ms
waiting_inside ms p w = ⊎_elim (λ (l : p < length ms). l) (λ (l : length ms ≤ p). absurd (both_ways (mark ms p).waiting (ap (λ (m : Mark). m.waiting) (mark_past ms p l)) w)) (cases_lt p (length ms))

-- a place that does not wait has room in the queue
pub free-room : (ms : List Mark) (q : Queue Keyed) (live r : ℕ) → Kept ms q live → r < length ms → (mark ms r).waiting ≡ false → length (waiting q) < room q
free-room ms q live r k l w =
    let n : Mark = joined (mark ms r) (record { first = false; others = false; stale = false }) in
    omega (arith, total-set waits ms r n l, waits_none (mark ms r) w, waits_one n refl, waits_most (set ms r n), length-set ms r n, k.count, k.space)

cost-joined : (m : Mark) (t : Told) → covers m t ≡ false → cost (joined m t) + 1 ≤ cost m
cost-joined m t h = grind (arith, nat_tests)

pub cost-hand : (t : Told) (r : ℕ) (ms : List Mark) → total cost (hand t r ms) ≤ total cost ms
unfolding hand
cost-hand t r ms = go (covers (mark ms r) t) refl
  where
    go : (b : Bool) → covers (mark ms r) t ≡ b → total cost (cond b ms (set ms r (joined (mark ms r) t))) ≤ total cost ms
    go true e = omega arith
    go false e = ⊎_elim
        (λ (l : r < length ms). omega (arith, total-set cost ms r (joined (mark ms r) t) l, cost-joined (mark ms r) t e))
        (λ (l : length ms ≤ r). rw (set_past ms r (joined (mark ms r) t) l) (omega arith))
        (cases_lt r (length ms))

pub cost-hand_all : (t : Told) (rs : List ℕ) (ms : List Mark) → total cost (hand_all t rs ms) ≤ total cost ms
unfolding hand_all
cost-hand_all t [] ms = omega arith
cost-hand_all t (r ∷ rs) ms = omega (arith, cost-hand_all t rs (hand t r ms), cost-hand t r ms)

cost-settled : (m : Mark) → m.waiting ≡ true → cost (settled m) + 1 ≡ cost m
cost-settled m h = rw h (omega arith)

pub cost-turn : (H : List Commit) (p : ℕ) (ms : List Mark) → p < length ms → (mark ms p).waiting ≡ true → total cost (turn H p ms) < total cost ms
unfolding turn settle
cost-turn H p ms l w = omega (arith, cost-hand_all (told (mark ms p)) (at H p).parents (set ms p (settled (mark ms p))), total-set cost ms p (settled (mark ms p)) l, cost-settled (mark ms p) w)

lively_one : (m : Mark) → m.waiting ≡ true → m.stale ≡ false → lively m ≡ 1
lively_one m w s = rw (w, s)

-- where none is alive, all that waits is stale
pub idle : (ms : List Mark) → total lively ms ≡ 0 → (p : ℕ) → (mark ms p).waiting ≡ true → (mark ms p).stale ≡ true
idle ms z p w = ⊎_elim (λ (e : (mark ms p).stale ≡ true). e) (λ (e : (mark ms p).stale ≡ false). absurd (omega (arith, z, total_has lively ms p (waiting_inside ms p w), lively_one (mark ms p) w e))) (cases_Bool (mark ms p).stale)

pub total_lively : (ms : List Mark) → total lively ms ≤ length ms
total_lively ms = omega (arith, alive_waits ms, waits_most ms)

pub lively_most : (m : Mark) → lively m ≤ 1
lively_most m = omega (arith, lively-waits m, waits-le m)

pub hand_yes : (t : Told) (r : ℕ) (ms : List Mark) → covers (mark ms r) t ≡ true → ms ≡ hand t r ms
unfolding hand
hand_yes t r ms e = rw e

pub hand_no : (t : Told) (r : ℕ) (ms : List Mark) → covers (mark ms r) t ≡ false → set ms r (joined (mark ms r) t) ≡ hand t r ms
unfolding hand
hand_no t r ms e = rw e

-- what an insertion that was accepted puts into the queue
pub inserted : {A : Type 0} (e : Keyed) (q q' : Queue Keyed) (o : Result A Refusal) → Inserted e q o q' → is_ok o ≡ true → IsPermutation (e ∷ waiting q) (waiting q')
inserted e q q' (Ok a) h k = h.1
inserted e q q' (Err f) h k = absurd (false≢true k)

-- a place told that did not wait
pub kept_put : (ms ns : List Mark) (q q' : Queue Keyed) (live live' r : ℕ) (n : Mark) (e : Keyed) → Kept ms q live → r < length ms → (mark ms r).waiting ≡ false → n.waiting ≡ true
    → Whole beats q' → room q' ≡ room q → IsPermutation (e ∷ waiting q) (waiting q') → e.place ≡ r → ns ≡ set ms r n → live' ≡ total lively ns → Kept ns q' live'
kept_put ms ns q q' live live' r n e k l w wn wh rm s pl is lv = subst (λ (x : List Mark). Kept x q' live') (sym is) (kept_set ms q q' live live' r n k l wh rm (moves_put ms q q' r n e s pl w wn) (lv ∙ ap (total lively) is))

-- a place told that waited
pub kept_same : (ms ns : List Mark) (q : Queue Keyed) (live live' r : ℕ) (n : Mark) → Kept ms q live → r < length ms → (mark ms r).waiting ≡ true → n.waiting ≡ true
    → ns ≡ set ms r n → live' ≡ total lively ns → Kept ns q live'
kept_same ms ns q live live' r n k l w wn is lv = subst (λ (x : List Mark). Kept x q live') (sym is) (kept_set ms q q live live' r n k l k.whole refl (moves_same ms q r n w wn) (lv ∙ ap (total lively) is))

-- a place taken
pub kept_taken : (ms ns : List Mark) (q q' : Queue Keyed) (live live' : ℕ) (e : Keyed) (n : Mark) → Kept ms q live → Whole beats q' → room q' ≡ room q → IsPermutation (waiting q) (e ∷ waiting q')
    → n.waiting ≡ false → ns ≡ set ms e.place n → live' ≡ total lively ns → Kept ns q' live'
kept_taken ms ns q q' live live' e n k wh rm s wn is lv =
    let w = taken-waits ms q (waiting q') live e k s in
    let l = waiting_inside ms e.place w in
    subst (λ (x : List Mark). Kept x q' live') (sym is) (kept_set ms q q' live live' e.place n k l wh rm (moves_taken ms q q' n e s w wn) (lv ∙ ap (total lively) is))

-- while something waits the queue gives one of the best
pub taken_some : (q q' : Queue Keyed) (o : Option Keyed) → 0 < length (waiting q) → Taken beats q o q' → is_some o ≡ true
taken_some q q' None l h = absurd (omega (arith, ap length h.0))
taken_some q q' (Some x) l h = refl

pub took_best : (q q' : Queue Keyed) (o : Option Keyed) (x : Keyed) → Taken beats q o q' → o ≡ Some x → IsPermutation (waiting q) (x ∷ waiting q') × AllByRecursion (λ y. beats y x ≡ false) (waiting q)
took_best q q' o x h e = subst (λ (y : Option Keyed). Taken beats q y q') e h

-- while some place is alive the queue gives one
pub take_some : (ms : List Mark) (q q' : Queue Keyed) (live : ℕ) (o : Option Keyed) → Kept ms q live → 0 < live → Taken beats q o q' → is_some o ≡ true
take_some ms q q' live o k l h = taken_some q q' o (omega (arith, k.alive, alive_waits ms, k.count)) h

turn_is : (H G : List Commit) (p : ℕ) (ms l : List Mark) (n : Mark) (t : Told) → G ≡ H → n ≡ settled (mark ms p) → t ≡ told (mark ms p) → l ≡ hand_all t (at G p).parents (set ms p n) → l ≡ turn H p ms
unfolding turn settle
turn_is H G p ms l n t s e d h = h ∙ ap (λ (x : List Commit). hand_all t (at x p).parents (set ms p n)) s ∙ ap (λ (x : Mark). hand_all t (at H p).parents (set ms p x)) e ∙ ap (λ (x : Told). hand_all x (at H p).parents (set ms p (settled (mark ms p)))) d

-- the marks once a place is taken and its parents are told, as the code writes them
pub turn_written : (H G : List Commit) (p : ℕ) (ms ns l : List Mark) (m n : Mark) (t : Told) → G ≡ H → m ≡ mark ms p → n ≡ settled m → t ≡ told m → ns ≡ set ms p n → l ≡ hand_all t (at G p).parents ns → l ≡ turn H p ms
turn_written H G p ms ns l m n t s a b d e h = turn_is H G p ms l n t s (b ∙ ap settled a) (d ∙ ap told a) (h ∙ ap (hand_all t (at G p).parents) e)
