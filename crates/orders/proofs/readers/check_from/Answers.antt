use Rattle.std.proofs.Common.{Err, ap, ◌∙◌}
use Rattle.std.proofs.lemmas.Result.{err_from_is_err_and}
use Rattle.orders.proofs.Spelled.{checked_more, checked_fault, checked_end}
use Rattle.orders.proofs.readers.check_from.Goals as goal

pub loop-index-preserved : goal.loop-index-preserved
loop-index-preserved g c =
    checked_more _ _ _ _ _ _ _ c.loop-index-test.true c.in_ok-read_text.ensures ∙ c.loop-index.invariant

pub returns : goal.returns
returns g c = checked_end _ _ _ _ _ c.loop-index-test.false ∙ c.loop-index.invariant

pub returns-in_err-read_text : goal.returns-in_err-read_text
returns-in_err-read_text g c =
    let p = err_from_is_err_and c.from_residual.result c.from_residual.ensures.1 in
    p.1 ∙ ap Err p.2 ∙ checked_fault _ _ _ _ _ _ _ c.loop-index-test.true c.in_err-read_text.ensures ∙ c.loop-index.invariant
