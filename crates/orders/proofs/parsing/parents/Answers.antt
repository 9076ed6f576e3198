use Rattle.std.proofs.Common.{◌≡◌, ◌+◌, [], ◌∷◌, ◌++◌, map, drop, vec_items, sym, ap, ◌∙◌}
use Rattle.std.proofs.lemmas.List.{map-append}
use Rattle.std.proofs.lemmas.Result.{err_from_is_err_and}
use Rattle.lines.specs.Bytes.{texts}
use Rattle.orders.specs.Fields.{ok_mapped, each_on, parent_of, via}
use Rattle.orders.specs.declared.expected.Expected.TheVariants.{AParent}
use Rattle.orders.proofs.Spelled.{kept_more, kept_fault, kept_end}
use Rattle.orders.proofs.parsing.parents.Goals as goal

pub loop-index-preserved : goal.loop-index-preserved
loop-index-preserved c =
    let i = c.loop-index.index in
    let ps = vec_items c.loop-index.parents in
    let p = c.in_ok-read_text.field-0 in
    let more : map via (vec_items c.push.new.self) ≡ map via ps ++ via p ∷ [] =
    ap (map via) c.in_ok-push.ensures.items ∙ map-append via ps (p ∷ []) in
    let left = each_on parent_of AParent (5 + (i + 1)) (texts (drop (i + 1) c.fields_from-text-items.result.now)) in
    ap (λ before. ok_mapped (λ xs. before ++ xs) left) more
    ∙ kept_more _ _ _ _ _ _ _ _ c.loop-index-test.true c.in_ok-read_text.ensures
    ∙ c.loop-index.invariant

pub returns : goal.returns
returns c =
    sym c.loop-index.invariant ∙ kept_end parent_of AParent _ 5 _ (map via (vec_items c.loop-index.parents)) c.loop-index-test.false

pub returns-in_err-read_text : goal.returns-in_err-read_text
returns-in_err-read_text c =
    let p = err_from_is_err_and c.from_residual.result c.from_residual.ensures.1 in
    rw (p.1, p.2) (sym c.loop-index.invariant ∙ kept_fault _ _ _ _ _ _ _ _ c.loop-index-test.true c.in_err-read_text.ensures)
