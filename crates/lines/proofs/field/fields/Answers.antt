use Rattle.std.proofs.Common.{rules, tests}
use Rattle.std.proofs.lemmas.Iterator.Consumers.{YieldsList-at, YieldsList-from_filter, map_from_collect}
use Rattle.std.proofs.lemmas.Iterator.Splits.{YieldsList-from_slice_split}
use Rattle.lines.specs.Bytes.{blank}
use Rattle.lines.proofs.Parting.{full, fields_are_parts}
use Rattle.lines.proofs.field.fields.Goals as goal

pub returns : goal.returns
returns c =
    let t = c.args.line.now in
    rw (← fields_are_parts t)
    (map_from_collect _ c.collect.ensures.ran (YieldsList-from_filter _ full (YieldsList-at c.filter.ensures.source (YieldsList-from_slice_split _ blank t c.split.ensures.rest c.split.ensures.done c.split.ensures.closure (λ x b q k. search (rules, tests)))) c.filter.ensures.closure (λ x b q k. search (rules, tests))))
