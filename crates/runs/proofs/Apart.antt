-- Several histories, each as far as it has gone.
use Rattle.std.proofs.Common.{◌≡◌, ℕ, ◌<◌, ◌≤◌, Bool, true, false, cond, eqb, ⊎_elim, List, [], ◌∷◌, ◌++◌, length, map, take, Some, get_or, set, sym, refl, ap, ◌∙◌, subst, arith}
use Rattle.std.specs.List.{slice_get}
use Rattle.std.proofs.lemmas.Bool.{cases_eq, eq-eqb, eqb-true}
use Rattle.std.proofs.lemmas.List.{append-nil, length-map, length-take-le, length-set, get_or-set_same, get_or-set_other}
use Rattle.std.proofs.lemmas.Option.{slice_get_within, slice_get-get_or, get_or_from_slice_get}
use Rattle.ancestry.specs.Asking.{Space}
use Rattle.ancestry.proofs.Sets.{not_so}
use Rattle.history.specs.declared.reader.Reader.{Ghosts}
use Rattle.runs.specs.Several.{events_at, AllWhole, EachRan}
use Rattle.runs.specs.declared.call.Event.{Event}
use Rattle.runs.specs.declared.several.Addressed.{Addressed}
use Rattle.runs.specs.declared.several.Noted.{Noted}
use Rattle.runs.proofs.Kept.{run_law}
use Rattle.runs.proofs.Progress.{Went, went_none}

events_none : (k : ℕ) → events_at k [] ≡ []
unfolding events_at
events_none k = refl

events_more : (k : ℕ) (ns : List Noted) (n : Noted) → events_at k (ns ++ n ∷ []) ≡ events_at k ns ++ events_at k (n ∷ [])
unfolding events_at
events_more k [] n = refl
events_more k (m ∷ ns) n = split (eqb m.to k) _ _ _ (events_more k ns n)
  where
    split : (b : Bool) (es fs gs : List Event) → es ≡ fs ++ gs → cond b (m.event ∷ es) es ≡ cond b (m.event ∷ fs) fs ++ gs
    split true es fs gs e = ap (λ (xs : List Event). m.event ∷ xs) e
    split false es fs gs e = e

events_own : (n : Noted) → events_at n.to (n ∷ []) ≡ n.event ∷ []
unfolding events_at
events_own n = rw (eq-eqb n.to n.to refl) refl

events_other : (k : ℕ) (n : Noted) → (n.to ≡ k → ⊥) → events_at k (n ∷ []) ≡ []
unfolding events_at
events_other k n d = rw (not_so (eqb n.to k) (λ e. d (eqb-true n.to k e))) refl

-- as many events as calls were made
pub made_so_far : {A B : Type 0} (f : A → B) (es : List A) (calls : List B) (i : ℕ) → map f es ≡ take i calls → i < length calls → length es ≡ i
made_so_far f es calls i m l = sym (length-map es f) ∙ ap length m ∙ length-take-le i calls (omega (arith, l))

-- a call addressed to none of n histories
pub next_call : (calls : List Addressed) (i k m n : ℕ) (d : Addressed) → k ≡ i → m ≡ n → i < length calls → m ≤ (get_or calls i d).to →
    (a : Addressed) × (slice_get calls k ≡ Some a) × (n ≤ a.to)
next_call calls i k m n d e f l h = (get_or calls i d, rw e (slice_get-get_or calls i d l), subst (λ (j : ℕ). j ≤ (get_or calls i d).to) f h)

pub record EachWent {S : Type 0} (g : Ghosts S) (s : Space) (before : List S) (ns : List Noted) (after : List S) : Type 0 where
  pub each : (k : ℕ) (h h' : S) → slice_get before k ≡ Some h → slice_get after k ≡ Some h' → Went g h s (events_at k ns) h'

module _ {S : Type 0} (g : Ghosts S) (s : Space) (before : List S) where
  pub each_none : AllWhole g before → EachWent g s before [] before
  each_none w = record { each = λ k h h' a b. rw (events_none k) (subst (λ (x : S). Went g h s [] x) (some_same h h' (sym a ∙ b)) (went_none g h s (w k h a))) }
    where
      some_same : (x y : S) → Some x ≡ Some y → x ≡ y
      some_same x y e = cc e

  -- one history changes, and what is noted is noted of it
  pub each_set : (ns ms : List Noted) (hs : List S) (to : ℕ) (d x : S) → to < length hs → EachWent g s before ns hs
      → ((h : S) → Went g h s (events_at to ns) (get_or hs to d) → Went g h s (events_at to ms) x)
      → ((k : ℕ) → (to ≡ k → ⊥) → events_at k ms ≡ events_at k ns)
      → EachWent g s before ms (set hs to x)
  each_set ns ms hs to d x l E own other = record {
    each = λ k h h' a b. ⊎_elim
        (λ (e : to ≡ k). subst (λ (j : ℕ). slice_get before j ≡ Some h → slice_get (set hs to x) j ≡ Some h' → Went g h s (events_at j ms) h') e (mine h h') a b)
        (λ n. subst (λ (es : List Event). Went g h s es h') (sym (other k n)) (E.each k h h' a (theirs k h' n b)))
        (cases_eq to k);
  }
    where
      mine : (h h' : S) → slice_get before to ≡ Some h → slice_get (set hs to x) to ≡ Some h' → Went g h s (events_at to ms) h'
      mine h h' a b = subst (λ (y : S). Went g h s (events_at to ms) y) (sym (get_or-set_same hs to x d l) ∙ get_or_from_slice_get (set hs to x) to h' d b) (own h (E.each to h (get_or hs to d) a (slice_get-get_or hs to d l)))

      theirs : (k : ℕ) (h' : S) → (to ≡ k → ⊥) → slice_get (set hs to x) k ≡ Some h' → slice_get hs k ≡ Some h'
      theirs k h' n b =
          let w : k < length hs = omega (arith, slice_get_within (set hs to x) k h' b, length-set hs to x) in
          slice_get-get_or hs k d w ∙ ap Some (sym (get_or-set_other hs to k x d (λ e. n (sym e))) ∙ get_or_from_slice_get (set hs to x) k h' d b)

  pub each_more : (ns : List Noted) (n : Noted) (hs : List S) (d x : S) → n.to < length hs → EachWent g s before ns hs
      → ((h : S) (es : List Event) → Went g h s es (get_or hs n.to d) → Went g h s (es ++ n.event ∷ []) x)
      → EachWent g s before (ns ++ n ∷ []) (set hs n.to x)
  each_more ns n hs d x l E f = each_set ns (ns ++ n ∷ []) hs n.to d x l E
      (λ h w. subst (λ (es : List Event). Went g h s es x) (sym (events_more n.to ns n ∙ ap (λ (es : List Event). events_at n.to ns ++ es) (events_own n))) (f h (events_at n.to ns) w))
      (λ k e. events_more k ns n ∙ ap (λ (es : List Event). events_at k ns ++ es) (events_other k n e) ∙ append-nil (events_at k ns))

  pub each_same : (ns : List Noted) (hs : List S) (to : ℕ) (d x : S) → to < length hs → EachWent g s before ns hs
      → ((h : S) (es : List Event) → Went g h s es (get_or hs to d) → Went g h s es x)
      → EachWent g s before ns (set hs to x)
  each_same ns hs to d x l E f = each_set ns ns hs to d x l E (λ h w. f h (events_at to ns) w) (λ k e. refl)

  pub each_kept : (ns : List Noted) (hs : List S) → AllWhole g before → EachWent g s before ns hs → EachRan g s before ns hs
  each_kept ns hs w E k h h' a b =
      let t = E.each k h h' a b in
      record { whole = t.whole; capacity = t.room; ran = t.ran; promised = run_law _ (g.lawful h (w k h a)) t.ran }

  -- the history that a call is addressed to is whole
  pub each_whole : (ns : List Noted) (hs : List S) (to : ℕ) (d : S) → length hs ≡ length before → to < length hs → EachWent g s before ns hs → g.whole (get_or hs to d)
  each_whole ns hs to d e l E = (E.each to (get_or before to d) (get_or hs to d) (slice_get-get_or before to d (omega (arith, e, l))) (slice_get-get_or hs to d l)).whole
