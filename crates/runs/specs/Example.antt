-- A run as it goes, with a commit that is refused, and a question that is lent too little.
use Rattle.std.specs.Prelude.{[], ◌∷◌, Some, None, Ok, Err, pos}
use Rattle.ancestry.specs.Cases.{plain, history_k}
use Rattle.ancestry.specs.Asking.{Space, space_of}
use Rattle.ancestry.specs.declared.refusal.Refusal.TheVariants.{IdHeld, WorkspaceShort}
use Rattle.runs.specs.Runs.{intake, count, find, read, parent, merge_base, octopus_base, Run, Ran}

abbrev pub enough : Space
enough = space_of 512 2537 1024 513

abbrev pub short : Space
short = space_of 512 2537 1024 5

-- two stations each take over what the other has; the list is the first of the table of misleading histories
abbrev pub criss_cross : Run
criss_cross = record {
  room = 512;
  start = [];
  events =
      intake (plain 18 100 []) (Ok 0)
      ∷ intake (plain 24 200 (0 ∷ [])) (Ok 1)
      ∷ intake (plain 25 210 (0 ∷ [])) (Ok 2)
      ∷ intake (plain 25 999 []) (Err IdHeld)
      ∷ count 3
      ∷ intake (plain 1 300 (1 ∷ 2 ∷ [])) (Ok 3)
      ∷ find 2 None
      ∷ intake (plain 2 310 (2 ∷ 1 ∷ [])) (Ok 4)
      ∷ merge_base 1 (2 ∷ []) enough (Ok (25 ∷ 24 ∷ []))
      ∷ merge_base 1 (2 ∷ []) short (Err WorkspaceShort)
      ∷ intake (plain 3 320 (1 ∷ [])) (Ok 5)
      ∷ parent 4 1 (Some 1)
      ∷ read 5 (Some (record { id = 3; generation = None; date = pos 320; parents = 1 }))
      ∷ octopus_base 1 (2 ∷ 3 ∷ []) enough (Ok (Some 24))
      ∷ [];
  end = history_k;
}

abbrev pub Example : Type 0
Example = Ran criss_cross
