-- What the calls of a history say of its meaning, which is a capacity and the list of its commits by place.
use Rattle.std.specs.Prelude.{◌≡◌, ℕ, ◌<◌, ◌≤◌, List, length, Some, None, Option}
use Rattle.ancestry.specs.Commits.{Commit, at, parents_of}
use Rattle.ancestry.specs.Ids.{num}
use Rattle.ancestry.specs.Intake.{refusal, grown}
use Rattle.history.specs.declared.grow.NewCommit.{NewCommit}
use Rattle.history.specs.declared.reader.Entry.{Entry}

-- the commit that a call of intake offers
abbrev pub offered : NewCommit → Commit
offered c = record { id = num c.id; generation = c.generation; date = c.date; parents = c.parents.now }

-- a call that grows nothing: the history is whole after it, with the same commits and the same capacity
pub record Same {S : Type 0} (whole : S → Type 0) (commits : S → List Commit) (room : S → ℕ) (before after : S) : Type 0 where
  pub still : whole after
  pub list : commits after ≡ commits before
  pub capacity : room after ≡ room before

-- a call of intake that offers c: the history is whole after it, with the same capacity, and its list has grown by c unless c
-- was refused
pub record Grown {S : Type 0} (whole : S → Type 0) (commits : S → List Commit) (room : S → ℕ) (before : S) (c : Commit) (after : S) : Type 0 where
  pub still : whole after
  pub list : commits after ≡ grown (refusal (room before) (commits before) c) (commits before) c
  pub capacity : room after ≡ room before

-- an entry tells of the commit at a place
pub record Tells (H : List Commit) (p : ℕ) (e : Entry) : Type 0 where
  pub held : p < length H
  pub id : num e.id ≡ (at H p).id
  pub generation : e.generation ≡ (at H p).generation
  pub date : e.date ≡ (at H p).date
  pub parents : e.parents ≡ length (parents_of H p)

-- what read answers: beyond the list none, else an entry that tells of the commit
abbrev pub Reads : List Commit → ℕ → Option Entry → Type 0
Reads H p None = length H ≤ p
Reads H p (Some e) = Tells H p e
