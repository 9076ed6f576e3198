-- How what is told of a commit is printed.
use Rattle.std.specs.Prelude.{ℕ, List, ◌++◌, Some, None, codes, decimal, Option}
use Rattle.std.specs.Fmt.{signed_decimal}
use Rattle.ancestry.specs.Ids.{num}
use Rattle.ancestry.specs.Numbers.{hex}
use Rattle.history.specs.declared.reader.Entry.{Entry}

abbrev pub generation_text : Option ℕ → List ℕ
generation_text (Some g) = decimal g
generation_text None = codes "-"

-- the id, the generation or `-`, the date and the number of parents, parted by blanks
abbrev pub entry_text : Entry → List ℕ
entry_text e =
    hex (num e.id) ++ (codes " " ++ (generation_text e.generation ++ (codes " " ++ (signed_decimal e.date ++ (codes " " ++ decimal e.parents)))))
