use Rattle.std.proofs.Common.{◌≡◌, ◌+◌, ◌++◌, map, drop, vec_items}
use Rattle.lines.specs.Bytes.{texts}
use Rattle.orders.specs.Fields.{each_on, ok_mapped, parent_of, via}
use Rattle.orders.specs.declared.expected.Expected.TheVariants.{AParent}
use Rattle.orders.proofs.parsing.parents.Given as goal

-- the parents read so far and what is left to read give the answer
abbrev pub invariant-loop-index : goal.invariant-loop-index
invariant-loop-index l =
    ok_mapped (λ ps. map via (vec_items l.parents) ++ ps) (each_on parent_of AParent (5 + l.index) (texts (drop l.index l.text-items)))
    ≡ each_on parent_of AParent 5 (drop 4 (texts l.fields))
