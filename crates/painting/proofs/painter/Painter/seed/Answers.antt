use Rattle.std.proofs.Common.{◌≡◌, List, length, sym, ap, ◌∙◌, arith}
use Rattle.ancestry.specs.Commits.{Commit}
use Rattle.history.proofs.Sames.{same_then}
use Rattle.painting.specs.Bits.{flags}
use Rattle.painting.proofs.Going.{goes_self, goes_then, goes_looked}
use Rattle.painting.proofs.Seeds.{seed_none, seed_found, seed_absent, seed_member}
use Rattle.painting.proofs.painter.Painter.seed.Goals as goal
use Rattle.painting.proofs.painter.Painter.seed.Goals.{After-place}

pub loop-seed-init : goal.loop-seed-init
loop-seed-init g c = (goes_self c.requires.ready, seed_none _ _ _)

-- what the seed names
named : (g : _) (c : goal.After-place g) → g.S.Seed.place_in (g.H.Reader.commits c.args.history.now) c.seed-item.result ≡ c.place.result
named g c = sym (c.place.ensures.answer ∙ ap (λ (H : List Commit). g.S.Seed.place_in H c.seed-item.result) c.loop-seed.invariant.0.same.list)

pub tell-requires-clause-below : goal.tell-requires-clause-below
tell-requires-clause-below g c =
    let b = (goal.at.tell-requires-clause-below g c).After-place in
    let m = seed_member (g.S.Seed.place_in (g.H.Reader.commits c.args.history.now)) c.args.seeds.now c.loop-seed.seed-index c.seed-item.result c.in-Some.place c.loop-seed-test.true c.seed-item.is (named g b ∙ c.in-Some.is) in
    omega (arith, c.requires.inside c.in-Some.place m, ap length (same_then c.loop-seed.invariant.0.same c.place.ensures.same).list)

pub loop-seed-preserved-in_default : goal.loop-seed-preserved-in_default
loop-seed-preserved-in_default g c =
    let b = (goal.at.loop-seed-preserved-in_default g c).After-place in
    (goes_looked c.loop-seed.invariant.0 c.place.ensures.same, seed_absent (g.S.Seed.place_in (g.H.Reader.commits c.args.history.now)) c.args.told c.args.seeds.now c.loop-seed.seed-index c.seed-item.result (flags c.args.self.now.marks.now) _ c.loop-seed-test.true c.seed-item.is (named g b ∙ c.in_default.is) c.loop-seed.invariant.1)

pub loop-seed-preserved : goal.loop-seed-preserved
loop-seed-preserved g c =
    let b = (goal.at.loop-seed-preserved g c).After-place in
    let s = goes_looked c.loop-seed.invariant.0 c.place.ensures.same in
    (goes_then s c.tell.ensures.goes, seed_found (g.S.Seed.place_in (g.H.Reader.commits c.args.history.now)) c.args.told c.args.seeds.now c.loop-seed.seed-index c.seed-item.result c.in-Some.place (flags c.args.self.now.marks.now) _ _ c.loop-seed-test.true c.seed-item.is (named g b ∙ c.in-Some.is) c.loop-seed.invariant.1 c.tell.ensures.marks)
