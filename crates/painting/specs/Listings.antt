-- What a list of places in a lent slice means.
use Rattle.std.specs.Prelude.{ℕ, List, length, take}
use Rattle.painting.specs.declared.places.Places.{Places}

abbrev pub listed : Places → List ℕ
listed p = take p.len p.slots.now

-- how many places can be listed
abbrev pub room : Places → ℕ
room p = length p.slots.now
