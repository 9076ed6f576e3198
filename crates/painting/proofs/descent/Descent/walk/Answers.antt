use Rattle.std.proofs.Common.{◌≡◌, ℕ, ◌+◌, ◌<◌, true, List, [], ◌∷◌, length, sym, refl, ap, ◌∙◌, subst, arith, length-append}
use Rattle.ancestry.specs.Commits.{Commit, parents_of}
use Rattle.ancestry.specs.Sets.{member}
use Rattle.painting.specs.Bits.{flags}
use Rattle.painting.specs.Descents.{walk_of}
use Rattle.painting.specs.Listings.{listed}
use Rattle.painting.specs.Walks.{Walk, meet_all, Tracked}
use Rattle.painting.proofs.Codes.{length-flags}
use Rattle.painting.proofs.Descending.{goes_then, goes_shorter}
use Rattle.painting.proofs.Steps.{tracked_turn, tracked_at, stack_inside, popped}
use Rattle.painting.proofs.descent.Descent.walk.Goals as goal
use Rattle.painting.proofs.descent.Descent.walk.Goals.{In-Some}

-- the place that was taken, and those that are left
taken : (g : _) (c : In-Some g) → (c.in-Some.place < length (g.H.Reader.commits c.args.history.now)) × ((x : ℕ) → member x (listed c.pop.new.self) ≡ true → x < length (g.H.Reader.commits c.args.history.now))
taken g c = popped _ (listed c.loop-place.self.stack.now) (listed c.pop.new.self) c.in-Some.place c.in-Some.ensures.answer c.loop-place.invariant.1

pub meet_parents-requires-clause-below : goal.meet_parents-requires-clause-below
meet_parents-requires-clause-below g c = omega (arith, (taken g (goal.at.meet_parents-requires-clause-below g c).In-Some).0, ap length c.loop-place.invariant.0.same.list)

pub loop-place-preserved : goal.loop-place-preserved
loop-place-preserved g c =
    let H = g.H.Reader.commits c.args.history.now in
    let L = (g.H.Reader.lawful c.args.history.now c.requires.ready.still).lawful in
    let k = c.loop-place.invariant.0 in
    let low = c.args.self.now.low in
    let p = c.in-Some.place in
    let ms = flags c.loop-place.self.marks.now in
    let st = listed c.pop.new.self in
    let w : Walk = record { marks = ms; stack = st } in
    let pop = c.in-Some.ensures.answer in
    let e = c.meet_parents.ensures.walk ∙ ap (λ (x : List Commit). meet_all x c.loop-place.self.low (parents_of x p) w) k.same.list ∙ ap (λ (x : ℕ). meet_all H x (parents_of H p) w) k.low in
    let len : length ms ≡ length H = omega (arith, length-flags c.loop-place.self.marks.now, k.ready.size, ap length k.same.list) in
    let t = taken g (goal.at.loop-place-preserved g c).In-Some in
    let n : length (listed c.loop-place.self.stack.now) ≡ length st + 1 = ap length pop ∙ length-append st (p ∷ []) in (
      goes_then k (goes_then (goes_shorter k.ready refl refl c.pop.ensures.room (omega (arith, n))) c.meet_parents.ensures.goes),
      stack_inside H L low p w (walk_of c.meet_parents.new.self) len t.0 e t.1,
      λ rs bs t. tracked_at H low rs bs _ _ e (tracked_turn H L low rs bs p st (listed c.loop-place.self.stack.now) ms len pop (c.loop-place.invariant.2 rs bs t)),
    )

pub returns-clause-tracked : goal.returns-clause-tracked
returns-clause-tracked g c rs bs t =
    let H = g.H.Reader.commits c.args.history.now in
    let e : listed c.loop-place.self.stack.now ≡ listed c.pop.new.self = c.in_default.ensures.answer.0 ∙ sym c.in_default.ensures.answer.1 in
    subst (λ (s : List ℕ). Tracked H c.args.self.now.low rs bs (record { marks = flags c.loop-place.self.marks.now; stack = s })) e (c.loop-place.invariant.2 rs bs t)
