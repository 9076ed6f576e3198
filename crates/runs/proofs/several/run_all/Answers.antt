use Rattle.std.proofs.Common.{◌≡◌, ◌+◌, List, [], ◌∷◌, ◌++◌, length, map, take, set, sym, refl, ap, ◌∙◌, subst, arith, vec_items}
use Rattle.std.proofs.lemmas.List.{take_more, length-set, map-append}
use Rattle.revision.specs.Owned.{sizes_of}
use Rattle.runs.specs.Several.{addressed_of, EachRan}
use Rattle.runs.specs.declared.call.Call.{Call}
use Rattle.runs.specs.declared.several.Addressed.{Addressed}
use Rattle.runs.specs.declared.several.Noted.{Noted}
use Rattle.runs.proofs.Progress.{went_more, went_same, not_failed}
use Rattle.runs.proofs.Apart.{EachWent, each_none, each_more, each_same, each_kept, each_whole, made_so_far, next_call}
use Rattle.runs.proofs.several.run_all.Goals as goal

pub returns-then-is_err-clause-each : goal.returns-then-is_err-clause-each
returns-then-is_err-clause-each g c =
    subst (λ (ns : List Noted). EachRan g.H.Reader (sizes_of c.args.space.now) c.args.histories.now ns c.args.histories.now) (sym (c.reserve.ensures.items ∙ c.new-events.ensures.items))
    (each_kept g.H.Reader (sizes_of c.args.space.now) c.args.histories.now [] c.args.histories.now c.requires (each_none g.H.Reader (sizes_of c.args.space.now) c.args.histories.now c.requires))

pub loop-addressed-init : goal.loop-addressed-init
loop-addressed-init g c =
    let e = sym (c.reserve.ensures.items ∙ c.new-events.ensures.items) in (
      refl,
      subst (λ (ns : List Noted). EachWent g.H.Reader (sizes_of c.args.space.now) c.args.histories.now ns c.args.histories.now) e (each_none g.H.Reader (sizes_of c.args.space.now) c.args.histories.now c.requires),
      subst (λ (ns : List Noted). map addressed_of ns ≡ []) e refl,
      refl,
      omega (arith, not_failed c.reserve.result (sym c.is_err.ensures.value ∙ c.if-is_err.false) c.reserve.ensures.ok),
    )

pub returns-then-to-histories-clause-why : goal.returns-then-to-histories-clause-why
returns-then-to-histories-clause-why g c =
    let calls = c.args.calls.now in
    let i = c.loop-addressed.addressed-index in
    let v = c.loop-addressed.invariant in
    let n : length (vec_items c.loop-addressed.events) ≡ i = made_so_far addressed_of (vec_items c.loop-addressed.events) calls i v.2 c.loop-addressed-test.true in
    λ e. next_call calls i _ _ _ _ n v.0 c.loop-addressed-test.true c.if-to-histories.true

pub returns-then-to-histories-clause-each : goal.returns-then-to-histories-clause-each
returns-then-to-histories-clause-each g c = each_kept g.H.Reader (sizes_of c.args.space.now) c.args.histories.now (vec_items c.loop-addressed.events) c.loop-addressed.histories c.requires c.loop-addressed.invariant.1

pub step-requires : goal.step-requires
step-requires g c = each_whole g.H.Reader (sizes_of c.args.space.now) c.args.histories.now (vec_items c.loop-addressed.events) c.loop-addressed.histories _ c.index-histories-to.result c.loop-addressed.invariant.0 (omega (arith, c.if-to-histories.false)) c.loop-addressed.invariant.1

pub returns-in-Err-clause-each : goal.returns-in-Err-clause-each
returns-in-Err-clause-each g c =
    let m = g.H.Reader in
    let s = sizes_of c.args.space.now in
    let r = c.in-Err.ensures in
    each_kept m s c.args.histories.now (vec_items c.loop-addressed.events) _ c.requires
    (each_same m s c.args.histories.now (vec_items c.loop-addressed.events) c.loop-addressed.histories _ c.index-histories-to.result c.step.new.history (omega (arith, c.if-to-histories.false)) c.loop-addressed.invariant.1
    (λ h es w. went_same m h s es _ c.step.new.history w r.whole r.capacity r.list))

pub loop-addressed-preserved : goal.loop-addressed-preserved
loop-addressed-preserved g c =
    let m = g.H.Reader in
    let s = sizes_of c.args.space.now in
    let calls = c.args.calls.now in
    let i = c.loop-addressed.addressed-index in
    let ns = vec_items c.loop-addressed.events in
    let v = c.loop-addressed.invariant in
    let r = c.in-Ok.ensures in
    let n : Noted = record { to = _; event = c.in-Ok.event } in
    let e = sym c.push_reserved.ensures.items in (
      length-set c.loop-addressed.histories _ c.step.new.history ∙ v.0,
      subst (λ (ms : List Noted). EachWent m s c.args.histories.now ms (set c.loop-addressed.histories n.to c.step.new.history)) e
          (each_more m s c.args.histories.now ns n c.loop-addressed.histories c.index-histories-to.result c.step.new.history (omega (arith, c.if-to-histories.false)) v.1
          (λ h es w. went_more m h s es _ c.step.new.history (sizes_of c.loop-addressed.space) c.in-Ok.event w v.3 r.whole r.capacity r.list r.right)),
      subst (λ (ms : List Noted). map addressed_of ms ≡ take (i + 1) calls) e
          (map-append addressed_of ns (n ∷ []) ∙ ap (λ (cs : List Addressed). cs ++ addressed_of n ∷ []) v.2 ∙ sym (take_more calls i _ c.loop-addressed-test.true ∙ ap (λ (d : Addressed). take i calls ++ d ∷ []) (sym (ap (λ (d : Call). record { to = n.to; call = d }) r.call)))),
      c.step.ensures.sizes ∙ v.3,
      omega (arith, c.push_reserved.ensures.capacity, v.4),
    )

pub returns-clause-each : goal.returns-clause-each
returns-clause-each g c = each_kept g.H.Reader (sizes_of c.args.space.now) c.args.histories.now (vec_items c.loop-addressed.events) c.loop-addressed.histories c.requires c.loop-addressed.invariant.1
