-- The nearest name of a commit.
use Rattle.std.specs.Prelude.{ℕ, suc, Bool, true, false, cond, ◌||◌, List, [], ◌∷◌, length, Some, None, Option, ◌==◌, slice_index}
use Rattle.ancestry.specs.Commits.{Commit, place_of}
use Rattle.ancestry.specs.Bases.{empty}
use Rattle.ancestry.specs.Naming.{Asked, Answer, named, nothing, name_of, no_name}
use Rattle.ancestry.specs.Walk.{Walk, walk, at_start, least}
use Rattle.ancestry.specs.Finish.{Finish, finish, back}

-- the earliest of the counts, numbered from m, that is n
unfoldable pub earliest : ℕ → ℕ → List ℕ → ℕ
earliest n m [] = m
earliest n m (k ∷ ks) = cond (k == n) m (earliest n (suc m) ks)

-- the answer for the chosen candidate m
unfoldable pub settle : List Commit → Asked → ℕ → Walk → Answer
settle H a m w =
    let f : Finish = finish H a m (suc (length H)) (record { state = back w; depth = slice_index w.counts m }) in
    named (slice_index w.found m) f.depth f.state.seen

-- of the candidates the one of smallest count, then the earliest found
unfoldable pub choose : List Commit → Asked → Walk → List ℕ → Answer
choose H a w [] = no_name a w.seen
choose H a w (n ∷ ns) = settle H a (earliest (least n ns) 0 (n ∷ ns)) w

-- the walk from the start; one that is not held is refused before this is asked
unfoldable pub from_start : List Commit → Asked → Option ℕ → Answer
from_start H a None = nothing
from_start H a (Some s) = let w : Walk = walk H a (suc (length H)) (at_start s) in choose H a w w.counts

-- with no candidate allowed or no names there is no walk
unfoldable pub unless_idle : List Commit → Asked → ℕ → Bool → Answer
unless_idle H a i true = no_name a 0
unless_idle H a i false = from_start H a (place_of H i)

-- a named start is its own answer, held or not
unfoldable pub unless_named : List Commit → Asked → ℕ → Option ℕ → Answer
unless_named H a i (Some k) = named k 0 0
unless_named H a i None = unless_idle H a i (a.most == 0 || empty a.names)

unfoldable pub describe : List Commit → Asked → ℕ → Answer
describe H a i = unless_named H a i (name_of a i)
