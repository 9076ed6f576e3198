use Rattle.std.proofs.Common.{◌≡◌, ◌-◌, drop, sym, ap, ◌∙◌, arith}
use Rattle.std.proofs.lemmas.Grind.{common_steps}
use Rattle.std.proofs.lemmas.List.{drop-map}
use Rattle.lines.specs.Bytes.{texts}
use Rattle.orders.proofs.readers.fields_from.Goals as goal

pub returns : goal.returns
returns c =
    let fs = c.args.fields.now in
    let n = c.args.first - 1 in
    let rest : c.unwrap_or.result.now ≡ drop n fs = grind (arith, common_steps) in
    ap texts rest ∙ sym (drop-map (λ f. f.now) n fs)
