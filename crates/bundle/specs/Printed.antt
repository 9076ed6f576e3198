-- How a tally is printed.
use Rattle.std.specs.Prelude.{ℕ, List, ◌++◌, codes, decimal}
use Rattle.bundle.specs.declared.tally.Tally.{Tally}

abbrev pub tally_text : Tally → List ℕ
tally_text t =
    codes "# " ++ (decimal t.taken_in ++ (codes " commits taken in, " ++ (decimal t.refused ++ (codes " refused, "
    ++ (decimal t.answered ++ (codes " questions answered, " ++ (decimal t.malformed ++ codes " malformed")))))))
