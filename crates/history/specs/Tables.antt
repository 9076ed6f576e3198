-- What a table of rows means.
use Rattle.std.specs.Prelude.{ℕ, ◌≤◌, List, map, length}
use Rattle.ancestry.specs.Commits.{Commit, parents_of}
use Rattle.ancestry.specs.Ids.{num}
use Rattle.ancestry.specs.Lawful.{Laws}
use Rattle.history.specs.declared.table.Row.{Row}
use Rattle.history.specs.declared.table.Table.{Table}

-- the commit of a row
abbrev pub commit_of : Row → Commit
commit_of r = record { id = num r.id; generation = r.generation; date = r.date; parents = r.parents.items }

-- the commits of a table, by place
abbrev pub listed : {N : ℕ} → Table N → List Commit
listed t = map commit_of t.rows.items

-- what the table of a history keeps: the laws of a history, and that no commit has more than 16 parents
pub record Stored {N : ℕ} (room : ℕ) (t : Table N) : Type 0 where
  pub laws : Laws room (listed t)
  pub few : (p : ℕ) → length (parents_of (listed t) p) ≤ 16
