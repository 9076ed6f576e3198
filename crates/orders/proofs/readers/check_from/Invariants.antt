use Rattle.std.proofs.Common.{◌≡◌, ◌+◌, ◌-◌, drop}
use Rattle.lines.specs.Bytes.{texts}
use Rattle.orders.specs.Fields.{each_on, checked}
use Rattle.orders.proofs.readers.check_from.Given as goal

-- what is left to read gives the answer
abbrev pub invariant-loop-index : goal.invariant-loop-index
invariant-loop-index g l =
    checked (each_on g.T.FromText.spells l.expected (l.first + l.index) (texts (drop l.index l.text-items)))
    ≡ checked (each_on g.T.FromText.spells l.expected l.first (drop (l.first - 1) (texts l.fn.fields)))
