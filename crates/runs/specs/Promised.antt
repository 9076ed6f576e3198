-- What holds after every run, each statement to be read without its proof.
use Rattle.std.specs.Prelude.{◌≡◌, ℕ, true, ◌≢◌, List, [], ◌∷◌, ◌++◌, length, None, Ok, Option, Result}
use Rattle.ancestry.specs.Sets.{member}
use Rattle.ancestry.specs.Commits.{Commit, at}
use Rattle.ancestry.specs.Lawful.{Laws, Held, AllHeld}
use Rattle.ancestry.specs.Asking.{Space, denied}
use Rattle.ancestry.specs.Theorems.{best_ids, gather}
use Rattle.ancestry.specs.declared.refusal.Refusal.{Refusal}
use Rattle.runs.specs.Runs.{Event, intake, merge_base, octopus_base, Right, gained, taken, Run, Ran}

-- a is what a question about these commits gets of the run: the answer to a call in it, or to a call made at its end; the commits
-- were held when it was asked
pub data Gets {A : Type 0} (r : Run) (question : Space → Result A Refusal → Event) (about : List ℕ) (a : A) : Type 0 where
  during : (before later : List Event) (s : Space) → r.events ≡ before ++ question s (Ok a) ∷ later → AllHeld (r.start ++ taken before) about → Gets r question about a
  at_end : (s : Space) → Right r.room r.end (question s (Ok a)) → AllHeld r.end about → Gets r question about a

-- the bases of f against the others
abbrev pub GetsBases : Run → ℕ → List ℕ → List ℕ → Type 0
GetsBases r f others = Gets r (merge_base f others) (f ∷ others)

-- the octopus base of f and the others
abbrev pub GetsCommon : Run → ℕ → List ℕ → Option ℕ → Type 0
GetsCommon r f others = Gets r (octopus_base f others) (f ∷ others)

-- c was taken in during the run, when x was held
pub record TookIn (r : Run) (c : Commit) (x : ℕ) : Type 0 where
  pub before : List Event
  pub later : List Event
  pub place : ℕ
  pub happened : r.events ≡ before ++ intake c (Ok place) ∷ later
  pub held : Held (r.start ++ taken before) x

pub record Promised (r : Run) : Type 0 where
  -- the laws of a history still hold
  pub laws : Laws r.room r.end
  -- a question once answered gets that answer at the end, whenever it is lent enough
  pub bases_again : (f : ℕ) (is bs : List ℕ) → GetsBases r f is bs → (s : Space) → denied s (length r.end) (length is) ≡ None → Right r.room r.end (merge_base f is s (Ok bs))
  pub common_again : (f : ℕ) (is : List ℕ) (o : Option ℕ) → GetsCommon r f is o → (s : Space) → denied s (length r.end) (length is) ≡ None → Right r.room r.end (octopus_base f is s (Ok o))
  -- and whenever it is answered, it gets that answer
  pub bases_same : (f : ℕ) (is bs cs : List ℕ) → GetsBases r f is bs → GetsBases r f is cs → bs ≡ cs
  pub common_same : (f : ℕ) (is : List ℕ) (o q : Option ℕ) → GetsCommon r f is o → GetsCommon r f is q → o ≡ q
  -- the bases against two lists joined, neither empty, are the best of both answers
  pub joined : (f : ℕ) (xs ys bs cs ds : List ℕ) → xs ≢ [] → ys ≢ [] → GetsBases r f xs bs → GetsBases r f ys cs → GetsBases r f (xs ++ ys) ds → ds ≡ best_ids r.end (bs ++ cs)
  -- two commits swapped have the same bases
  pub swapped : (a b : ℕ) (bs cs : List ℕ) → GetsBases r a (b ∷ []) bs → GetsBases r b (a ∷ []) cs → bs ≡ cs
  -- a commit taken in has, against any commit held before it, the best of its parents' bases against that one
  pub taken_in : (c : Commit) (x : ℕ) → TookIn r c x → (of : ℕ → List ℕ) (bs : List ℕ) → ((p : ℕ) → member p c.parents ≡ true → GetsBases r (at r.end p).id (x ∷ []) (of p)) → GetsBases r c.id (x ∷ []) bs → bs ≡ best_ids r.end (gather of c.parents)

-- every run from a list that keeps the laws of a history
abbrev pub RunLaw : Type 0
RunLaw = (r : Run) → Laws r.room r.start → Ran r → Promised r

-- no call is a run
abbrev pub NoneLaw : Type 0
NoneLaw = (room : ℕ) (H : List Commit) → Ran (record { room = room; start = H; events = []; end = H })

-- a run and one call more, rightly answered, is a run
abbrev pub MoreLaw : Type 0
MoreLaw = (r : Run) (e : Event) → Ran r → Right r.room r.end e → Ran (record { room = r.room; start = r.start; events = r.events ++ e ∷ []; end = r.end ++ gained e })
