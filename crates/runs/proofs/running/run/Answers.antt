use Rattle.std.proofs.Common.{◌+◌, List, [], ◌∷◌, ◌++◌, map, take, ◌≡◌, refl, sym, ap, ◌∙◌, subst, arith, vec_items}
use Rattle.std.proofs.lemmas.List.{take_more}
use Rattle.revision.specs.Owned.{sizes_of}
use Rattle.runs.specs.Calls.{call_of}
use Rattle.runs.specs.declared.call.Call.{Call}
use Rattle.runs.specs.declared.call.Event.{Event}
use Rattle.runs.proofs.Kept.{run_law}
use Rattle.runs.proofs.Progress.{Went, went_none, went_more, went_same, calls_more, not_failed}
use Rattle.runs.proofs.running.run.Goals as goal

pub returns-then-is_err-clause-ran : goal.returns-then-is_err-clause-ran
returns-then-is_err-clause-ran g c =
    (subst (λ (es : List Event). Went g.H.Reader c.args.history.now (sizes_of c.args.space.now) es c.args.history.now) (sym (c.reserve.ensures.items ∙ c.new-events.ensures.items)) (went_none g.H.Reader c.args.history.now (sizes_of c.args.space.now) c.requires)).ran

pub returns-then-is_err-clause-promised : goal.returns-then-is_err-clause-promised
returns-then-is_err-clause-promised g c = run_law _ (g.H.Reader.lawful c.args.history.now c.requires) (returns-then-is_err-clause-ran g c)

pub loop-call-init : goal.loop-call-init
loop-call-init g c =
    let e = sym (c.reserve.ensures.items ∙ c.new-events.ensures.items) in (
      subst (λ (es : List Event). Went g.H.Reader c.args.history.now (sizes_of c.args.space.now) es c.args.history.now) e (went_none g.H.Reader c.args.history.now (sizes_of c.args.space.now) c.requires),
      subst (λ (es : List Event). map call_of es ≡ []) e refl,
      refl,
      omega (arith, not_failed c.reserve.result (sym c.is_err.ensures.value ∙ c.if-is_err.false) c.reserve.ensures.ok),
    )

pub returns-in-Err-clause-promised : goal.returns-in-Err-clause-promised
returns-in-Err-clause-promised g c =
    run_law _ (g.H.Reader.lawful c.args.history.now c.requires)
    (went_same g.H.Reader c.args.history.now (sizes_of c.args.space.now) (vec_items c.loop-call.events) c.loop-call.history c.step.new.history c.loop-call.invariant.0 c.step.ensures.whole c.step.ensures.capacity c.in-Err.ensures.list).ran

pub loop-call-preserved : goal.loop-call-preserved
loop-call-preserved g c =
    let calls = c.args.calls.now in
    let i = c.loop-call.call-index in
    let es = vec_items c.loop-call.events in
    let v = c.loop-call.invariant in
    let r = c.in-Ok.ensures in
    let e = sym c.push_reserved.ensures.items in (
      subst (λ (es : List Event). Went g.H.Reader c.args.history.now (sizes_of c.args.space.now) es c.step.new.history) e
          (went_more g.H.Reader c.args.history.now (sizes_of c.args.space.now) es c.loop-call.history c.step.new.history (sizes_of c.loop-call.space) c.in-Ok.event v.0 v.2 r.whole r.capacity r.list r.right),
      subst (λ (es : List Event). map call_of es ≡ take (i + 1) calls) e
          (calls_more calls i es c.in-Ok.event v.1 (take_more calls i _ c.loop-call-test.true ∙ ap (λ (d : Call). take i calls ++ d ∷ []) (sym r.call))),
      c.step.ensures.sizes ∙ v.2,
      omega (arith, c.push_reserved.ensures.capacity, v.3),
    )

pub returns-clause-promised : goal.returns-clause-promised
returns-clause-promised g c = run_law _ (g.H.Reader.lawful c.args.history.now c.requires) c.loop-call.invariant.0.ran
