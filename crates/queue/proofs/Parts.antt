-- The order of an entry, as the order of its parts says it.
use Rattle.std.proofs.Common.{◌≡◌, Ordering, Less, Equal, Greater, nat_cmp, int_cmp, is_gt, arith}
use Rattle.std.proofs.lemmas.Bool.Decides.{nat_tests}
use borrow.Author.Differences.{ints}
use Rattle.std.specs.Ordering.{ordering_then, MatchOrdering}
use Rattle.ancestry.specs.Commits.{Commit}
use Rattle.ancestry.specs.Keys.{rank, eqZ, newer, better}

-- an order that is asked for only where the first is a tie says what both in turn say
pub asked_then : (o r p : Ordering) (Q : Type 0) → MatchOrdering o (r ≡ Less) Q (r ≡ Greater) → (Q → r ≡ p) → r ≡ ordering_then o p
asked_then Less r p Q m f = m
asked_then Equal r p Q m f = f m
asked_then Greater r p Q m f = m

pub newer_by_parts : (a b : Commit) → is_gt (ordering_then (int_cmp a.date b.date) (nat_cmp b.id a.id)) ≡ newer a b
unfolding newer eqZ
newer_by_parts a b = grind (arith, ints, nat_tests)

pub better_by_parts : (a b : Commit) → is_gt (ordering_then (ordering_then (nat_cmp (rank a.generation) (rank b.generation)) (int_cmp a.date b.date)) (nat_cmp b.id a.id)) ≡ better a b
unfolding newer eqZ better
better_by_parts a b = grind (arith, ints, nat_tests)
