-- What the nearest name is, where dates fall along the parents followed.
use Rattle.std.specs.Prelude.{◌≡◌, ℕ, ◌≤◌, min, true, not, ◌&&◌, List, map, length, Some, None, Option, int_lt}
use Rattle.ancestry.specs.Sets.{member, size, absent}
use Rattle.ancestry.specs.Commits.{Commit, at, parents_of}
use Rattle.ancestry.specs.Reaching.{reaches}
use Rattle.ancestry.specs.Naming.{Asked, Answer, named, bare, nothing, name_of, front}

-- the commit with only the parents followed
unfoldable pub trim : Asked → Commit → Commit
trim a c = record { id = c.id; generation = c.generation; date = c.date; parents = front a.only_first c.parents }

-- the history with only the parents followed; below, T stands for such a list
unfoldable pub trimmed : Asked → List Commit → List Commit
trimmed a H = map (trim a) H

-- the name that a place has
unfoldable pub name_at : List Commit → Asked → ℕ → Option ℕ
name_at T a p = name_of a (at T p).id

-- the number of commits reached from s but not from c
unfoldable pub between : List Commit → ℕ → ℕ → ℕ
between T s c = size (λ q. reaches T s q && not (reaches T c q)) (length T)

-- each commit reached from s has a later date than each of its parents
abbrev pub DatesFall : List Commit → ℕ → Type 0
DatesFall T s =
    (p r : ℕ) → reaches T s p ≡ true → member r (parents_of T p) ≡ true → int_lt (at T r).date (at T p).date ≡ true

-- the names reached from s are at most the candidates allowed
abbrev pub NamesFit : List Commit → Asked → ℕ → Type 0
NamesFit T a s = size (λ q. reaches T s q && not (absent (name_at T a q))) (length T) ≤ min 32 a.most

-- the name k, at depth d, is of a commit that s reaches; d is the number between; for no name reached is it lower
pub record Found (T : List Commit) (a : Asked) (s k d : ℕ) : Type 0 where
  pub place : ℕ
  pub reached : reaches T s place ≡ true
  pub its : name_at T a place ≡ Some k
  pub depth : d ≡ between T s place
  pub least : (q j : ℕ) → reaches T s q ≡ true → name_at T a q ≡ Some j → d ≤ between T s q

-- no name is reached from s
abbrev pub NoneReached : List Commit → Asked → ℕ → Type 0
NoneReached T a s = (q : ℕ) → reaches T s q ≡ true → name_at T a q ≡ None

-- an answer is right: a name is given exactly when one is reached, and it is the nearest
abbrev pub Nearest : List Commit → Asked → ℕ → Answer → Type 0
Nearest T a s (named k d seen) = Found T a s k d
Nearest T a s (bare seen) = NoneReached T a s
Nearest T a s nothing = NoneReached T a s
