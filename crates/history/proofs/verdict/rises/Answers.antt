use Rattle.std.proofs.Common.{List, get_or, sym, ap, ◌∙◌}
use Rattle.ancestry.specs.Commits.{Commit}
use Rattle.ancestry.specs.Intake.{exceeds}
use Rattle.history.proofs.Sames.{same_self, same_then}
use Rattle.history.proofs.Verdicts.{any_more, any_here, any-nil}
use Rattle.history.proofs.verdict.rises.Goals as goal

pub loop-place-init : goal.loop-place-init
loop-place-init g c = (same_self _ c.requires, any-nil _)

-- what the call says of the place, over the list as it was at first
pub returns-then-exceeded : goal.returns-then-exceeded
returns-then-exceeded g c =
    let H = g.H.Reader.commits c.args.history.now in
    let q = get_or c.args.parents.now c.loop-place.place-index 0 in
    let e = sym (c.exceeded.ensures.answer ∙ ap (λ (x : List Commit). exceeds x c.args.generation q) c.loop-place.invariant.0.list) ∙ c.if-exceeded.true in
    record {
      same = same_then c.loop-place.invariant.0 c.exceeded.ensures.same;
      answer = sym (any_here (exceeds H c.args.generation) c.args.parents.now c.loop-place.place-index c.loop-place-test.true e);
    }

pub loop-place-preserved : goal.loop-place-preserved
loop-place-preserved g c =
    let H = g.H.Reader.commits c.args.history.now in
    let q = get_or c.args.parents.now c.loop-place.place-index 0 in
    let e = sym (c.exceeded.ensures.answer ∙ ap (λ (x : List Commit). exceeds x c.args.generation q) c.loop-place.invariant.0.list) ∙ c.if-exceeded.false in (
      same_then c.loop-place.invariant.0 c.exceeded.ensures.same,
      any_more (exceeds H c.args.generation) c.args.parents.now c.loop-place.place-index c.loop-place-test.true c.loop-place.invariant.1 e,
    )
