-- A workspace that owns its memory: how much it has, and what its answer slots hold.
use Rattle.std.specs.Prelude.{ℕ, ◌+◌, ◌*◌, List, vec_items, vec_len}
use Rattle.ancestry.specs.Asking.{Space, space_of}
use Rattle.ancestry.specs.declared.id.Id.{Id}
use Rattle.revision.specs.declared.owned.OwnedWorkspace.{OwnedWorkspace}

abbrev pub sizes_of : OwnedWorkspace → Space
sizes_of w = space_of (vec_len w.marks) (vec_len w.queue) (vec_len w.stack) (vec_len w.answers)

-- what a question about merge bases needs in a history of n commits
abbrev pub needed : ℕ → Space
needed n = space_of n (3 * n + 1001) (2 * n) (n + 1)

abbrev pub slots_of : OwnedWorkspace → List Id
slots_of w = vec_items w.answers
