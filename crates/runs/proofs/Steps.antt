-- A run taken call by call.
use Rattle.std.proofs.Common.{◌≡◌, ℕ, List, [], ◌∷◌, ◌++◌, length, Some, None, Ok, Err, Option, sym, refl, ap, ◌∙◌, subst}
use Rattle.std.proofs.lemmas.List.{append_assoc, append-nil}
use Rattle.ancestry.specs.Commits.{Commit}
use Rattle.ancestry.specs.Intake.{refusal, unless}
use Rattle.ancestry.specs.Lawful.{Laws}
use Rattle.ancestry.specs.Theorems.{TakenIn}
use Rattle.ancestry.specs.declared.refusal.Refusal.{Refusal}
use Rattle.ancestry.proofs.Intakes.{growth_law}
use Rattle.runs.specs.Runs.{Event, intake, count, capacity, find, read, parent, merge_base, octopus_base, Right, gained, taken}
use Rattle.runs.specs.Promised.{NoneLaw, MoreLaw}

pub taken_on : (e : Event) (es : List Event) → taken (e ∷ es) ≡ gained e ++ taken es
unfolding taken
taken_on e es = refl

pub taken-append : (es fs : List Event) → taken (es ++ fs) ≡ taken es ++ taken fs
unfolding taken
taken-append [] fs = refl
taken-append (e ∷ es) fs = ap (λ (cs : List Commit). gained e ++ cs) (taken-append es fs) ∙ sym (append_assoc (gained e) (taken es) (taken fs))

-- each call rightly answered over the list that the calls before it left
unfoldable pub Steps : ℕ → List Commit → List Event → Type 0
Steps room H [] = Unit {0}
Steps room H (e ∷ es) = Right room H e × Steps room (H ++ gained e) es

-- each call rightly answered, at any cut
abbrev pub Cuts : ℕ → List Commit → List Event → Type 0
Cuts room H es = (before later : List Event) (e : Event) → es ≡ before ++ e ∷ later → Right room (H ++ taken before) e

nothing : (H : List Commit) → H ++ taken [] ≡ H
unfolding taken
nothing H = append-nil H

one_on : (H : List Commit) (e : Event) (es : List Event) → H ++ taken (e ∷ es) ≡ (H ++ gained e) ++ taken es
unfolding taken
one_on H e es = sym (append_assoc H (gained e) (taken es))

pub steps : (room : ℕ) (H : List Commit) (es : List Event) → Cuts room H es → Steps room H es
unfolding Steps
steps room H [] f = tt
steps room H (e ∷ es) f = (subst (λ (K : List Commit). Right room K e) (nothing H) (f [] es e refl), steps room (H ++ gained e) es (λ b l x k. subst (λ (K : List Commit). Right room K x) (one_on H e b) (f (e ∷ b) l x (ap (λ (fs : List Event). e ∷ fs) k))))

first : Event → List Event → Event
first d [] = d
first d (e ∷ es) = e

rest : List Event → List Event
rest [] = []
rest (e ∷ es) = es

pub cuts : (room : ℕ) (H : List Commit) (es : List Event) → Steps room H es → Cuts room H es
unfolding Steps first rest
cuts room H [] s [] l x k = absurd (cc k)
cuts room H [] s (b ∷ bs) l x k = absurd (cc k)
cuts room H (e ∷ es) s [] l x k = subst (λ (K : List Commit). Right room K x) (sym (nothing H)) (subst (Right room H) (ap (first e) k) s.0)
cuts room H (e ∷ es) s (b ∷ bs) l x k =
    subst (λ (d : Event). Right room (H ++ taken (d ∷ bs)) x) (ap (first e) k)
    (subst (λ (K : List Commit). Right room K x) (sym (one_on H e bs)) (cuts room (H ++ gained e) es s.1 bs l x (ap rest k)))

pub more : (room : ℕ) (H : List Commit) (es : List Event) (e : Event) → Steps room H es → Right room (H ++ taken es) e → Steps room H (es ++ e ∷ [])
unfolding Steps
more room H [] e s r = (subst (λ (K : List Commit). Right room K e) (nothing H) r, tt)
more room H (d ∷ es) e s r = (s.0, more room (H ++ gained d) es e s.1 (subst (λ (K : List Commit). Right room K e) (one_on H d es) r))

pub none_law : NoneLaw
none_law room H = record { list = sym (nothing H); right = cuts room H [] (unfold Steps in tt) }

only : (e : Event) → taken (e ∷ []) ≡ gained e
unfolding taken
only e = append-nil (gained e)

pub more_law : MoreLaw
more_law r e R = λ x. record {
  list = ap (λ (H : List Commit). H ++ gained e) R.list ∙ append_assoc r.start (taken r.events) (gained e) ∙ ap (λ (cs : List Commit). r.start ++ cs) (ap (λ (cs : List Commit). taken r.events ++ cs) (sym (only e)) ∙ sym (taken-append r.events (e ∷ [])));
  right = cuts r.room r.start (r.events ++ e ∷ []) (more r.room r.start r.events e (steps r.room r.start r.events R.right) (subst (λ (H : List Commit). Right r.room H e) R.list x));
}

-- a run cut at a call: what came before it, the call, and what came after
pub record Cut (room : ℕ) (H : List Commit) (before : List Event) (e : Event) (later : List Event) : Type 0 where
  pub first : Steps room H before
  pub right : Right room (H ++ taken before) e
  pub rest : Steps room ((H ++ taken before) ++ gained e) later

pub cut : (room : ℕ) (H : List Commit) (before : List Event) (e : Event) (later : List Event) → Steps room H (before ++ e ∷ later) → Cut room H before e later
unfolding Steps
cut room H [] e later s = record {
  first = tt;
  right = subst (λ (K : List Commit). Right room K e) (sym (nothing H)) s.0;
  rest = subst (λ (K : List Commit). Steps room (K ++ gained e) later) (sym (nothing H)) s.1;
}
cut room H (d ∷ ds) e later s =
    let c = cut room (H ++ gained d) ds e later s.1 in
    record {
      first = (s.0, c.first);
      right = subst (λ (K : List Commit). Right room K e) (sym (one_on H d ds)) c.right;
      rest = subst (λ (K : List Commit). Steps room (K ++ gained e) later) (sym (one_on H d ds)) c.rest;
    }

-- a commit that was placed was not refused
pub placed : (room : ℕ) (H : List Commit) (c : Commit) (p : ℕ) → Ok p ≡ unless (refusal room H c) (length H) → refusal room H c ≡ None
placed room H c p e = go (refusal room H c) refl e
  where
    go : (o : Option Refusal) → refusal room H c ≡ o → Ok p ≡ unless o (length H) → refusal room H c ≡ None
    go None k e = k
    go (Some f) k e = absurd (cc e)

-- the commits of some calls are taken in, and the laws hold afterwards
pub record Takes (room : ℕ) (H : List Commit) (cs : List Commit) : Type 0 where
  pub taken_in : TakenIn room H cs
  pub laws : Laws room (H ++ cs)

pub takes_none : (room : ℕ) (H : List Commit) → Laws room H → Takes room H []
takes_none room H L = record { taken_in = tt; laws = subst (Laws room) (sym (append-nil H)) L }

pub takes_then : (room : ℕ) (H cs ds : List Commit) → Takes room H cs → Takes room (H ++ cs) ds → Takes room H (cs ++ ds)
takes_then room H cs ds t u = record { taken_in = go H cs ds t.taken_in u.taken_in; laws = subst (Laws room) (append_assoc H cs ds) u.laws }
  where
    go : (H cs ds : List Commit) → TakenIn room H cs → TakenIn room (H ++ cs) ds → TakenIn room H (cs ++ ds)
    go H [] ds t u = subst (λ (K : List Commit). TakenIn room K ds) (append-nil H) u
    go H (c ∷ cs) ds t u = (t.0, go (H ++ c ∷ []) cs ds t.1 (subst (λ (K : List Commit). TakenIn room K ds) (sym (append_assoc H (c ∷ []) cs)) u))

takes_welcome : (room : ℕ) (H : List Commit) (c : Commit) → Laws room H → refusal room H c ≡ None → Takes room H (c ∷ [])
takes_welcome room H c L n = record { taken_in = (n, tt); laws = growth_law room H c L n }

pub takes_one : (room : ℕ) (H : List Commit) (e : Event) → Laws room H → Right room H e → Takes room H (gained e)
takes_one room H (intake c (Ok p)) L r = takes_welcome room H c L (placed room H c p r)
takes_one room H (intake c (Err f)) L r = takes_none room H L
takes_one room H (count n) L r = takes_none room H L
takes_one room H (capacity n) L r = takes_none room H L
takes_one room H (find i o) L r = takes_none room H L
takes_one room H (read p o) L r = takes_none room H L
takes_one room H (parent p n o) L r = takes_none room H L
takes_one room H (merge_base f is s a) L r = takes_none room H L
takes_one room H (octopus_base f is s a) L r = takes_none room H L

pub takes : (room : ℕ) (H : List Commit) (es : List Event) → Laws room H → Steps room H es → Takes room H (taken es)
unfolding Steps taken
takes room H [] L s = takes_none room H L
takes room H (e ∷ es) L s = let t = takes_one room H e L s.0 in takes_then room H (gained e) (taken es) t (takes room (H ++ gained e) es t.laws s.1)
