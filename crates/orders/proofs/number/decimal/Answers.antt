use Rattle.std.proofs.Common.{sym, ◌∙◌, rules, tests}
use Rattle.std.proofs.lemmas.Iterator.{YieldsList-from_slice}
use Rattle.std.proofs.lemmas.Iterator.Consumers.{fold_from_yields_List}
use Rattle.std.proofs.lemmas.Iterator.Search.{all_from_yields_List}
use Rattle.std.specs.Char.{is_ascii_digit}
use Rattle.orders.proofs.Digits.{saturated, decimal_some, decimal_empty, decimal_other}
use Rattle.orders.proofs.number.decimal.Goals as goal
use Rattle.orders.proofs.number.decimal.Goals.{then-is_empty-via-then-is_empty, then-is_empty-via-else-is_empty+then-not-all}

pub returns-then-is_empty : goal.returns-then-is_empty
returns-then-is_empty c =
    let t = c.args.text.now in
    elim c.then-is_empty.branch [
      | then-is_empty-via-then-is_empty w ↦ decimal_empty t (search rules)
      | then-is_empty-via-else-is_empty+then-not-all w ↦
          decimal_other t (sym (all_from_yields_List is_ascii_digit _ _ _ w.all.ensures.ran (YieldsList-from_slice t (cc)) (λ x b q k. search (rules, tests))) ∙ w.if-not-all.true)
    ]

pub returns : goal.returns
returns c =
    let t = c.args.text.now in
    let digits = sym (all_from_yields_List is_ascii_digit _ _ _ c.all.ensures.ran (YieldsList-from_slice t (cc)) (λ x b q k. search (rules, tests))) ∙ c.if-not-all.false in
    let value = fold_from_yields_List _ saturated 0 c.fold.result c.fold.ensures.ran (YieldsList-from_slice t (cc)) (λ a x b q k. search (rules, tests)) in
    decimal_some t c.fold.result (search rules) digits value
