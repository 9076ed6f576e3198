-- The orders of the two kinds of entry: those of the commits that they stand for.
use Rattle.std.specs.Prelude.{◌≡◌, ℕ, Bool, [], ℤ, Some, None}
use Rattle.ancestry.specs.Commits.{Commit}
use Rattle.ancestry.specs.Ids.{num}
use Rattle.ancestry.specs.Keys.{newer, better}
use Rattle.queue.specs.declared.kinds.Keyed.{Keyed}
use Rattle.queue.specs.declared.kinds.Dated.{Dated}

-- a commit with the entry's key and id
abbrev pub keyed_commit : Keyed → Commit
keyed_commit e = record { id = num e.id; generation = Some e.generation; date = e.date; parents = [] }

-- the better commit leaves first
abbrev pub beats : Keyed → Keyed → Bool
beats x y = better (keyed_commit x) (keyed_commit y)

abbrev pub same_key : Keyed → Keyed → Type 0
same_key x y = (x.generation ≡ y.generation) × (x.date ≡ y.date) × (num x.id ≡ num y.id)

-- a commit with a date and an id
abbrev pub dated : ℤ → ℕ → Commit
dated date i = record { id = i; generation = None; date = date; parents = [] }

abbrev pub dated_commit : Dated → Commit
dated_commit e = dated e.date (num e.id)

-- the newer commit leaves first
abbrev pub later : Dated → Dated → Bool
later x y = newer (dated_commit x) (dated_commit y)

abbrev pub same_date : Dated → Dated → Type 0
same_date x y = (x.date ≡ y.date) × (num x.id ≡ num y.id)
