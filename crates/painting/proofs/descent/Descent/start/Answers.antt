use Rattle.std.proofs.Common.{ℕ, ◌+◌, List, length, get_or, take, sym, ap, ◌∙◌, subst, arith}
use Rattle.std.proofs.lemmas.List.{take_more}
use Rattle.ancestry.specs.Commits.{Commit, parents_of}
use Rattle.painting.specs.Bits.{flags}
use Rattle.painting.specs.Descents.{walk_of}
use Rattle.painting.specs.Listings.{listed}
use Rattle.painting.specs.Walks.{meet_all, Tracked}
use Rattle.painting.proofs.Codes.{length-flags}
use Rattle.painting.proofs.Descending.{goes_self, goes_then}
use Rattle.painting.proofs.Left.{getD-member}
use Rattle.painting.proofs.Steps.{tracked_none, tracked_start, tracked_at}
use Rattle.painting.proofs.descent.Descent.start.Goals as goal

pub loop-place-init : goal.loop-place-init
loop-place-init g c = (goes_self c.requires.ready, rw c.requires.empty (tracked_none _ _ _ (flags c.args.self.now.marks.now) c.requires.unmet c.requires.fresh))

pub meet_parents-requires-clause-below : goal.meet_parents-requires-clause-below
meet_parents-requires-clause-below g c =
    let ps = c.args.places.now in
    let i = c.loop-place.place-index in
    omega (arith, ap length c.loop-place.invariant.0.same.list, c.requires.inside (get_or ps i 0) (getD-member ps i c.loop-place-test.true))

pub loop-place-preserved : goal.loop-place-preserved
loop-place-preserved g c =
    let H = g.H.Reader.commits c.args.history.now in
    let L = (g.H.Reader.lawful c.args.history.now c.requires.ready.still).lawful in
    let k = c.loop-place.invariant.0 in
    let ps = c.args.places.now in
    let i = c.loop-place.place-index in
    let p = get_or ps i 0 in
    let ms = flags c.loop-place.self.marks.now in
    let low = c.args.self.now.low in
    let m = getD-member ps i c.loop-place-test.true in
    let w = walk_of c.loop-place.self in
    let e = c.meet_parents.ensures.walk ∙ ap (λ (x : List Commit). meet_all x c.loop-place.self.low (parents_of x p) w) k.same.list ∙ ap (λ (x : ℕ). meet_all H x (parents_of H p) w) k.low in
    let t = tracked_start H L low ps (take i ps) p (listed c.loop-place.self.stack.now) ms (omega (arith, length-flags c.loop-place.self.marks.now, k.ready.size, ap length k.same.list)) (c.requires.inside p m) m c.loop-place.invariant.1 in (
      goes_then k c.meet_parents.ensures.goes,
      tracked_at H low ps (take (i + 1) ps) _ _ e (subst (λ (b : List ℕ). Tracked H low ps b (meet_all H low (parents_of H p) w)) (sym (take_more ps i 0 c.loop-place-test.true)) t),
    )
