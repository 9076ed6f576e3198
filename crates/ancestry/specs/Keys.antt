-- Keys: the generation, absent counting as 4,294,967,295, and then the date. The greater key is better, and of equal
-- keys the lower id.
use Rattle.std.specs.Prelude.{ℕ, Bool, true, false, cond, ◌&&◌, ◌||◌, ℤ, Some, None, Option, ◌==◌, int_lt, nat_lt}
use Rattle.ancestry.specs.Commits.{Commit}

unfoldable pub rank : Option ℕ → ℕ
rank None = 4294967295
rank (Some g) = g

unfoldable pub eqZ : ℤ → ℤ → Bool
eqZ a b = cond (int_lt a b) false (cond (int_lt b a) false true)

-- of two commits the newer has the greater date, and of equal dates the lower id
unfoldable pub newer : Commit → Commit → Bool
newer a b = int_lt b.date a.date || (eqZ a.date b.date && nat_lt a.id b.id)

-- the better has the greater generation, and of equal generations is the newer
unfoldable pub better : Commit → Commit → Bool
better a b =
    nat_lt (rank b.generation) (rank a.generation)
    || (rank a.generation == rank b.generation && newer a b)
