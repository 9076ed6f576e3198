-- Lists of places that are there.
use Rattle.std.specs.Prelude.{◌≡◌, ℕ, ◌<◌, true, List}
use Rattle.ancestry.specs.Sets.{member}

-- each place of the list is one of the first n: a fact of a list and one history, and so of no type
abbrev pub AllBelow : ℕ → List ℕ → Type 0
AllBelow n ps = (p : ℕ) → member p ps ≡ true → p < n
