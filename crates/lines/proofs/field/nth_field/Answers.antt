use Rattle.std.proofs.Common.{ap, ◌∙◌, sym, rules}
use Rattle.std.specs.Option.{option_map}
use Rattle.std.proofs.lemmas.Option.{slice_get-map}
use Rattle.lines.specs.Bytes.{texts}
use Rattle.lines.proofs.Parting.{got, numbered}
use Rattle.lines.proofs.field.nth_field.Goals as goal

pub returns : goal.returns
returns c =
    let fs = c.args.fields.now in
    let i = c.in_ok-checked_sub.field-0 in
    let found = c.copied.ensures ∙ got fs i c.get.result c.get.ensures.lookup.3 in
    ap (option_map (λ f. f.now)) found ∙ sym (slice_get-map (λ f. f.now) fs i) ∙ numbered (texts fs) c.args.number i (search rules)
