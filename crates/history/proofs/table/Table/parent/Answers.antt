use Rattle.std.proofs.Common.{ap, sym, ◌∙◌}
use Rattle.std.specs.List.{slice_get}
use Rattle.ancestry.specs.Commits.{Commit}
use Rattle.history.proofs.Listed.{found_at, nothing_at, copied_get}
use Rattle.history.proofs.table.Table.parent.Goals as goal

pub returns-in_err-get : goal.returns-in_err-get
returns-in_err-get g c = c.from_residual.ensures ∙ nothing_at c.args.self.now _ c.args.place c.deref.ensures.0 c.args.n c.in_err-get.ensures.lookup.0

pub returns : goal.returns
returns g c =
    let found = c.in_ok-get.ensures.lookup in
    let e = found_at c.args.self.now _ c.args.place c.deref.ensures.0 c.in_ok-get.field-0.now found.0 found.1 in
    let x = c.get-2.ensures.lookup in
    c.copied.ensures ∙ copied_get _ c.in_ok-get.field-0.now.parents.items _ c.args.n c.deref-2.ensures.0 x.0 x.1 ∙ sym (ap (λ (d : Commit). slice_get d.parents c.args.n) e)
