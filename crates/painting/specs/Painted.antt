-- What painting keeps true. A and B are what the first commit and what the others reach.
use Rattle.std.specs.Prelude.{◌≡◌, ℕ, ◌<◌, ◌≤◌, Bool, true, false, List, length}
use Rattle.ancestry.specs.Sets.{member}
use Rattle.ancestry.specs.Commits.{Commit, parents_of}
use Rattle.ancestry.specs.Reaching.{Reaches}
use Rattle.ancestry.specs.Theorems.{Unreached}
use Rattle.queue.specs.Kinds.{beats}
use Rattle.queue.specs.Queues.{waiting, room, Whole}
use Rattle.queue.specs.declared.kinds.Keyed.{Keyed}
use Rattle.queue.specs.declared.lent.Queue.{Queue}
use Rattle.painting.specs.Marks.{mark, told, waits, lively, resulted, total}
use Rattle.painting.specs.Entries.{times, occurs}
use Rattle.painting.specs.declared.marks.Mark.{Mark}
use Rattle.painting.specs.declared.marks.Told.{Told}

-- the queue holds each place that waits once, and nothing else; `live` of them are not stale
pub record Kept (ms : List Mark) (q : Queue Keyed) (live : ℕ) : Type 0 where
  pub whole : Whole beats q
  pub space : length ms ≤ room q
  pub tied : (p : ℕ) → occurs p (waiting q) ≡ waits (mark ms p)
  pub count : length (waiting q) ≡ total waits ms
  pub alive : live ≡ total lively ms

-- the results are the places that are marked so, each once
pub record Noted (ms : List Mark) (rs : List ℕ) : Type 0 where
  pub once : (p : ℕ) → times p rs ≡ resulted (mark ms p)
  pub count : length rs ≡ total resulted ms

-- a mark has what is told
pub record Covers (m : Mark) (t : Told) : Type 0 where
  pub first : t.first ≡ true → m.first ≡ true
  pub others : t.others ≡ true → m.others ≡ true
  pub stale : t.stale ≡ true → m.stale ≡ true

-- p has told its parents, and is a result if it is due
pub record Handed (H : List Commit) (ms : List Mark) (p : ℕ) : Type 0 where
  pub parents : (r : ℕ) → member r (parents_of H p) ≡ true → Covers (mark ms r) (told (mark ms p))
  pub due : (mark ms p).first ≡ true → (mark ms p).others ≡ true → (mark ms p).stale ≡ false → (mark ms p).result ≡ true

-- every place that does not wait has told its parents
abbrev pub Closed : List Commit → List Mark → Type 0
Closed H ms = (p : ℕ) → p < length H → (mark ms p).waiting ≡ false → Handed H ms p

-- a shared place reaches a child of p
pub record Under (H : List Commit) (A B : ℕ → Bool) (p : ℕ) : Type 0 where
  pub child : ℕ
  pub shared : ℕ
  pub inside : child < length H
  pub held : shared < length H
  pub ours : A shared ≡ true
  pub theirs : B shared ≡ true
  pub reached : Reaches H shared child
  pub parent : member p (parents_of H child) ≡ true

-- a mark says what is so
pub record Sound (H : List Commit) (A B : ℕ → Bool) (p : ℕ) (m : Mark) : Type 0 where
  pub first : m.first ≡ true → A p ≡ true
  pub others : m.others ≡ true → B p ≡ true
  pub stale : m.stale ≡ true → Under H A B p
  pub result : m.result ≡ true → (A p ≡ true) × (B p ≡ true)

-- a set that has the parents of its members
abbrev pub Down : List Commit → (ℕ → Bool) → Type 0
Down H A = (p r : ℕ) → A p ≡ true → member r (parents_of H p) ≡ true → A r ≡ true

-- each place of the set is reached from one with the flag
abbrev pub Rooted : List Commit → (ℕ → Bool) → (ℕ → Bool) → Type 0
Rooted H A flag = (p : ℕ) → A p ≡ true → (s : ℕ) × (s < length H) × (flag s ≡ true) × Reaches H s p

pub record Good (H : List Commit) (A B : ℕ → Bool) (ms : List Mark) : Type 0 where
  pub closed : Closed H ms
  pub sound : (p : ℕ) → Sound H A B p (mark ms p)
  pub first : Rooted H A (λ p. (mark ms p).first)
  pub others : Rooted H B (λ p. (mark ms p).others)

-- no place was met yet on the way down from results
abbrev pub Unmet : List Mark → Type 0
Unmet ms = (p : ℕ) → (mark ms p).met ≡ false

-- the results have all that no other of the set reaches, and those are not stale; and they are places of the set
pub record Painted (H : List Commit) (S : ℕ → Bool) (ms : List Mark) (rs : List ℕ) : Type 0 where
  pub all : (p : ℕ) → p < length H → S p ≡ true → Unreached H S p → (member p rs ≡ true) × ((mark ms p).stale ≡ false)
  pub only : (p : ℕ) → member p rs ≡ true → (p < length H) × (S p ≡ true)
  pub once : (p : ℕ) → times p rs ≤ 1
  pub unmet : Unmet ms
