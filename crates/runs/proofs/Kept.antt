-- Every run keeps what was promised.
use Rattle.std.proofs.Common.{◌≡◌, ℕ, ◌<◌, true, ◌≢◌, List, [], ◌∷◌, ◌++◌, length, Some, None, Ok, Option, sym, refl, ap, ◌∙◌, subst, ⊎_elim, arith, eqb}
use Rattle.std.proofs.lemmas.List.{append_assoc, append-nil}
use Rattle.std.proofs.lemmas.Bool.{false≢true, or_cases, eqb-true}
use Rattle.ancestry.specs.Sets.{any, member}
use Rattle.ancestry.specs.Commits.{Commit, at, place_of}
use Rattle.ancestry.specs.Bases.{bases, octopus, best, shared}
use Rattle.ancestry.specs.Intake.{refusal, unless}
use Rattle.ancestry.specs.Lawful.{Lawful, Laws, Held, AllHeld}
use Rattle.ancestry.specs.Asking.{denied}
use Rattle.ancestry.specs.Theorems.{best_ids, gather, TakenIn}
use Rattle.ancestry.specs.declared.refusal.Refusal.{Refusal}
use Rattle.ancestry.proofs.Sets.{not_so}
use Rattle.ancestry.proofs.Join.{place_says, place_held, ids_elim, bases_general, best_inside, swap_law, join_law}
use Rattle.ancestry.proofs.Grow.{grown, at_old, at_new, answer_old, gather_elim}
use Rattle.ancestry.proofs.Unique.{member_here, member_there}
use Rattle.ancestry.proofs.Intakes.{growth_law, intake_law, held_later, unchanged_law, parent_inside}
use Rattle.runs.specs.Runs.{Event, intake, merge_base, octopus_base, gained, taken, Run, Ran}
use Rattle.runs.specs.Promised.{during, at_end, GetsBases, GetsCommon, TookIn, Promised, RunLaw}
use Rattle.runs.proofs.Steps.{Steps, steps, taken_on, taken-append, Cut, cut, placed, takes}

-- an answer given is the answer due
due : {A : Type 0} (o : Option Refusal) (a b : A) → Ok a ≡ unless o b → a ≡ b
due None a b e = cc e
due (Some f) a b e = absurd (cc e)

held_after : (H cs : List Commit) (i : ℕ) → Held H i → Held (H ++ cs) i
held_after H [] i h = rw (append-nil H) h
held_after H (c ∷ cs) i h = subst (λ (K : List Commit). Held K i) (append_assoc H (c ∷ []) cs) (held_after (H ++ c ∷ []) cs i (held_later H c i h))

at_after : (H cs : List Commit) (p : ℕ) → p < length H → at (H ++ cs) p ≡ at H p
at_after H [] p l = rw (append-nil H) refl
at_after H (c ∷ cs) p l = ap (λ (K : List Commit). at K p) (sym (append_assoc H (c ∷ []) cs)) ∙ at_after (H ++ c ∷ []) cs p (rw (grown H c) (omega (arith, l))) ∙ at_old H c p l

alone : (H : List Commit) (x : ℕ) → Held H x → AllHeld H (x ∷ [])
unfolding member any
alone H x h i m = ⊎_elim (λ (e : eqb i x ≡ true). rw (eqb-true i x e) h) (λ k. absurd (false≢true k)) (or_cases (eqb i x) _ m)

-- the best of ids that are held stay
best_ids_old : (H : List Commit) (c : Commit) → Lawful H → Lawful (H ++ c ∷ []) → (is : List ℕ) → AllHeld H is → best_ids (H ++ c ∷ []) is ≡ best_ids H is
unfolding best_ids
best_ids_old H c L M is h = answer_old H c L (λ p. member (at H p).id is) (λ p. member (at (H ++ c ∷ []) p).id is)
    (λ p l. ap (λ (d : Commit). member d.id is) (at_old H c p l))
    (not_so (member (at (H ++ c ∷ []) (length H)).id is) (λ m.
    let k = h (at (H ++ c ∷ []) (length H)).id m in
    let f = place_says H (at (H ++ c ∷ []) (length H)).id k.0 k.1 in
    let x : k.0 < length H = f.0 in
    let e : k.0 ≡ length H = M.apart k.0 (length H) (rw (grown H c) (omega (arith, x))) (rw (grown H c) (omega arith)) (ap (λ (d : Commit). d.id) (at_old H c k.0 x) ∙ f.1) in
    omega (arith, x, e)))

best_ids_after : (room : ℕ) (H cs : List Commit) → Laws room H → TakenIn room H cs → (is : List ℕ) → AllHeld H is → best_ids (H ++ cs) is ≡ best_ids H is
best_ids_after room H [] L t is h = rw (append-nil H) refl
best_ids_after room H (c ∷ cs) L t is h =
    let M = growth_law room H c L t.0 in
    ap (λ (K : List Commit). best_ids K is) (sym (append_assoc H (c ∷ []) cs))
    ∙ best_ids_after room (H ++ c ∷ []) cs M t.1 is (λ i m. held_later H c i (h i m))
    ∙ best_ids_old H c L.lawful M.lawful is h

gather_same : (f g : ℕ → List ℕ) (xs : List ℕ) → ((x : ℕ) → member x xs ≡ true → f x ≡ g x) → gather f xs ≡ gather g xs
unfolding gather
gather_same f g [] h = refl
gather_same f g (x ∷ xs) h = rw (h x (member_here x xs), gather_same f g xs (λ y m. h y (member_there y x xs m))) refl

one : (x : ℕ) → (x ∷ []) ≢ []
one x e = cc e

bases_held : (H : List Commit) → Lawful H → (f x : ℕ) → Held H f → AllHeld H (bases H f (x ∷ []))
bases_held H L f x h i m =
    let e = ids_elim H i (best H (shared H f (x ∷ []))) (rw (bases_general H L f h (x ∷ []) (one x)) at m) in
    let l = best_inside H (shared H f (x ∷ [])) e.0 e.1 in
    (e.0, ap (place_of H) e.2 ∙ place_held H L e.0 l)

-- a list of commits, and what is taken in from there to the end of a run
record Onward (room : ℕ) (H end : List Commit) : Type 0 where
  added : List Commit
  laws : Laws room H
  taken_in : TakenIn room H added
  is : end ≡ H ++ added

module _ (r : Run) (L : Laws r.room r.start) (R : Ran r) where
  here : (before later : List Event) (e : Event) → r.events ≡ before ++ e ∷ later → Cut r.room r.start before e later
  here before later e k = cut r.room r.start before e later (subst (Steps r.room r.start) k (steps r.room r.start r.events R.right))

  ends : Laws r.room r.end
  ends = subst (Laws r.room) (sym R.list) (takes r.room r.start r.events L (steps r.room r.start r.events R.right)).laws

  -- from before a call that takes nothing in
  onward : (before later : List Event) (e : Event) → r.events ≡ before ++ e ∷ later → gained e ≡ [] → Onward r.room (r.start ++ taken before) r.end
  onward before later e k n =
      let c = here before later e k in
      let H : List Commit = r.start ++ taken before in
      let M = (takes r.room r.start before L c.first).laws in
      let s : Steps r.room H later = subst (λ (K : List Commit). Steps r.room K later) (ap (λ (cs : List Commit). H ++ cs) n ∙ append-nil H) c.rest in
      record {
        added = taken later;
        laws = M;
        taken_in = (takes r.room H later M s).taken_in;
        is = R.list
            ∙ ap (λ (es : List Event). r.start ++ taken es) k
            ∙ ap (λ (cs : List Commit). r.start ++ cs) (taken-append before (e ∷ later))
            ∙ ap (λ (cs : List Commit). r.start ++ (taken before ++ cs)) (taken_on e later ∙ ap (λ (cs : List Commit). cs ++ taken later) n)
            ∙ sym (append_assoc r.start (taken before) (taken later));
      }

  -- what a question got is the answer over the last list
  bases_settled : (f : ℕ) (is bs : List ℕ) → GetsBases r f is bs → bs ≡ bases r.end f is
  bases_settled f is bs (at_end s x h) = due (denied s (length r.end) (length is)) bs (bases r.end f is) x
  bases_settled f is bs (during before later s k h) =
      let H : List Commit = r.start ++ taken before in
      let o = onward before later (merge_base f is s (Ok bs)) k refl in
      due (denied s (length H) (length is)) bs (bases H f is) (here before later (merge_base f is s (Ok bs)) k).right
      ∙ sym (ap (λ (K : List Commit). bases K f is) o.is ∙ (unchanged_law r.room H o.added o.laws o.taken_in f is (h f (member_here f is)) (λ i m. h i (member_there i f is m))).0)

  common_settled : (f : ℕ) (is : List ℕ) (a : Option ℕ) → GetsCommon r f is a → a ≡ octopus r.end f is
  common_settled f is a (at_end s x h) = due (denied s (length r.end) (length is)) a (octopus r.end f is) x
  common_settled f is a (during before later s k h) =
      let H : List Commit = r.start ++ taken before in
      let o = onward before later (octopus_base f is s (Ok a)) k refl in
      due (denied s (length H) (length is)) a (octopus H f is) (here before later (octopus_base f is s (Ok a)) k).right
      ∙ sym (ap (λ (K : List Commit). octopus K f is) o.is ∙ (unchanged_law r.room H o.added o.laws o.taken_in f is (h f (member_here f is)) (λ i m. h i (member_there i f is m))).1)

  held_then : (f : ℕ) (is bs : List ℕ) → GetsBases r f is bs → AllHeld r.end (f ∷ is)
  held_then f is bs (at_end s x h) = h
  held_then f is bs (during before later s k h) = λ i m.
      let o = onward before later (merge_base f is s (Ok bs)) k refl in
      subst (λ (K : List Commit). Held K i) (sym o.is) (held_after (r.start ++ taken before) o.added i (h i m))

  answered : {A : Type 0} (o : Option Refusal) (a b : A) → o ≡ None → a ≡ b → Ok a ≡ unless o b
  answered o a b n e = rw (n, e) refl

  -- the laws of the last list, read in what was answered
  joined : (f : ℕ) (xs ys bs cs ds : List ℕ) → xs ≢ [] → ys ≢ [] → GetsBases r f xs bs → GetsBases r f ys cs → GetsBases r f (xs ++ ys) ds → ds ≡ best_ids r.end (bs ++ cs)
  joined f xs ys bs cs ds nx ny g h k =
      bases_settled f (xs ++ ys) ds k
      ∙ join_law r.end ends.lawful f (held_then f xs bs g f (member_here f xs)) xs ys nx ny
      ∙ sym (rw (bases_settled f xs bs g, bases_settled f ys cs h) refl)

  swapped : (a b : ℕ) (bs cs : List ℕ) → GetsBases r a (b ∷ []) bs → GetsBases r b (a ∷ []) cs → bs ≡ cs
  swapped a b bs cs g h = bases_settled a (b ∷ []) bs g ∙ swap_law r.end a b ∙ sym (bases_settled b (a ∷ []) cs h)

  taken_in : (c : Commit) (x : ℕ) → TookIn r c x → (of : ℕ → List ℕ) (bs : List ℕ) → ((p : ℕ) → member p c.parents ≡ true → GetsBases r (at r.end p).id (x ∷ []) (of p)) → GetsBases r c.id (x ∷ []) bs → bs ≡ best_ids r.end (gather of c.parents)
  taken_in c x t of bs g h =
      bases_settled c.id (x ∷ []) bs h
      ∙ ap (λ (K : List Commit). bases K c.id (x ∷ [])) is
      ∙ (unchanged_law r.room G after M w c.id (x ∷ []) own (alone G x (held_later H c x t.held))).0
      ∙ intake_law r.room H c N none x t.held
      ∙ sym (ap (λ (K : List Commit). best_ids K (gather of c.parents)) is
      ∙ ap (best_ids (G ++ after)) (gather_same of old c.parents parents)
      ∙ best_ids_after r.room G after M w (gather old c.parents) olds)
    where
      e : Event
      e = intake c (Ok t.place)

      k : Cut r.room r.start t.before e t.later
      k = here t.before t.later e t.happened

      H : List Commit
      H = r.start ++ taken t.before

      G : List Commit
      G = H ++ c ∷ []

      after : List Commit
      after = taken t.later

      N : Laws r.room H
      N = (takes r.room r.start t.before L k.first).laws

      none : refusal r.room H c ≡ None
      none = placed r.room H c t.place k.right

      M : Laws r.room G
      M = growth_law r.room H c N none

      w : TakenIn r.room G after
      w = (takes r.room G t.later M k.rest).taken_in

      is : r.end ≡ G ++ after
      is = R.list
          ∙ ap (λ (es : List Event). r.start ++ taken es) t.happened
          ∙ ap (λ (cs : List Commit). r.start ++ cs) (taken-append t.before (e ∷ t.later))
          ∙ ap (λ (cs : List Commit). r.start ++ (taken t.before ++ cs)) (taken_on e t.later)
          ∙ sym (append_assoc r.start (taken t.before) (c ∷ after))
          ∙ sym (append_assoc H (c ∷ []) after)

      there : (p : ℕ) → p < length H → Held H (at H p).id
      there p l = (p, place_held H N.lawful p l)

      own : Held G c.id
      own = (length H, ap (λ (d : Commit). place_of G d.id) (sym (at_new H c)) ∙ place_held G M.lawful (length H) (rw (grown H c) (omega arith)))

      old : ℕ → List ℕ
      old p = bases H (at H p).id (x ∷ [])

      parents : (p : ℕ) → member p c.parents ≡ true → of p ≡ old p
      parents p m =
          let l : p < length H = parent_inside r.room H c none p m in
          bases_settled (at r.end p).id (x ∷ []) (of p) (g p m)
          ∙ ap (λ (K : List Commit). bases K (at K p).id (x ∷ [])) (is ∙ append_assoc H (c ∷ []) after)
          ∙ ap (λ (d : Commit). bases (H ++ c ∷ after) d.id (x ∷ [])) (at_after H (c ∷ after) p l)
          ∙ (unchanged_law r.room H (c ∷ after) N (none, w) (at H p).id (x ∷ []) (there p l) (alone H x t.held)).0

      olds : AllHeld G (gather old c.parents)
      olds i m =
          let e = gather_elim i old c.parents m in
          held_later H c i (bases_held H N.lawful (at H e.0).id x (there e.0 (parent_inside r.room H c none e.0 e.1)) i e.2)

  promised : Promised r
  promised = record {
    laws = ends;
    bases_again = λ f is bs g s n. answered (denied s (length r.end) (length is)) bs (bases r.end f is) n (bases_settled f is bs g);
    common_again = λ f is o g s n. answered (denied s (length r.end) (length is)) o (octopus r.end f is) n (common_settled f is o g);
    bases_same = λ f is bs cs g h. bases_settled f is bs g ∙ sym (bases_settled f is cs h);
    common_same = λ f is o q g h. common_settled f is o g ∙ sym (common_settled f is q h);
    joined = joined;
    swapped = swapped;
    taken_in = taken_in;
  }

pub run_law : RunLaw
run_law r L R = promised r L R
