use Rattle.std.proofs.Common.{◌≡◌, List, [], ◌∷◌, length, sym, refl, ap, ◌∙◌, subst, arith, rules}
use Rattle.ancestry.specs.Bases.{shared}
use Rattle.ancestry.specs.Ids.{num, nums}
use Rattle.history.proofs.Sames.{same_then}
use Rattle.painting.specs.Bits.{flags}
use Rattle.painting.specs.Listings.{listed}
use Rattle.painting.specs.Marks.{hand_all}
use Rattle.painting.specs.Painted.{Noted, Painted, Unmet}
use Rattle.painting.specs.Seeded.{ours, theirs, places_of}
use Rattle.painting.specs.declared.marks.Mark.{Mark}
use Rattle.painting.proofs.Codes.{length-flags}
use Rattle.painting.proofs.Going.{goes_then}
use Rattle.painting.proofs.Notes.{painted_from, painted_at, shared_is, few_noted}
use Rattle.painting.proofs.Seeds.{ids_inside, ids_told, places_inside, noted_start, unmet_start}
use Rattle.painting.proofs.paint.paint_down_to_common.Goals as goal
use Rattle.painting.proofs.paint.paint_down_to_common.Goals.{After-seed-2, After-paint}

pub seed-requires-clause-inside : goal.seed-requires-clause-inside
seed-requires-clause-inside g c = ids_inside (g.H.Reader.commits c.args.history.now) (c.args.first ∷ [])

pub seed-requires-2-clause-inside : goal.seed-requires-2-clause-inside
seed-requires-2-clause-inside g c = ids_inside (g.H.Reader.commits c.seed.new.history) c.args.others.now

-- the marks once all are told
seeded : (g : _) (c : After-seed-2 g)
    → flags c.seed-2.new.self.marks.now ≡ hand_all theirs (places_of (g.H.Reader.commits c.args.history.now) (nums c.args.others.now)) (hand_all ours (places_of (g.H.Reader.commits c.args.history.now) (num c.args.first ∷ [])) (flags c.new-painter.result.marks.now))
seeded g c =
    let H = g.H.Reader.commits c.args.history.now in
    ids_told H (g.H.Reader.commits c.seed.new.history) theirs c.args.others.now _ _ c.seed.ensures.goes.same.list c.seed-2.ensures.marks
    ∙ ap (hand_all theirs (places_of H (nums c.args.others.now))) (ids_told H H ours (c.args.first ∷ []) _ _ refl c.seed.ensures.marks)

pub paint-requires-clause-none : goal.paint-requires-clause-none
paint-requires-clause-none g c =
    let H = g.H.Reader.commits c.args.history.now in
    let L = (g.H.Reader.lawful c.args.history.now c.requires.whole).lawful in
    let n = noted_start H L (places_of H (num c.args.first ∷ [])) (places_of H (nums c.args.others.now)) (places_inside H _) (places_inside H _) (flags c.new-painter.result.marks.now) c.new-painter.ensures.blank in
    subst (Noted (flags c.seed-2.new.self.marks.now)) (sym c.clear.ensures.empty) (subst (λ (x : List Mark). Noted x []) (sym (seeded g (goal.at.paint-requires-clause-none g c).After-seed-2)) n)

pub paint-requires-clause-unmet : goal.paint-requires-clause-unmet
paint-requires-clause-unmet g c =
    let H = g.H.Reader.commits c.args.history.now in
    let L = (g.H.Reader.lawful c.args.history.now c.requires.whole).lawful in
    let u = unmet_start H L (places_of H (num c.args.first ∷ [])) (places_of H (nums c.args.others.now)) (places_inside H _) (places_inside H _) (flags c.new-painter.result.marks.now) c.new-painter.ensures.blank in
    subst Unmet (sym (seeded g (goal.at.paint-requires-clause-unmet g c).After-seed-2)) u

-- the painter has a mark for each commit, as there were at first
size : (g : _) (c : After-paint g) → length (flags c.paint.new.self.marks.now) ≡ length (g.H.Reader.commits c.args.history.now)
size g c =
    let w = goes_then c.seed.ensures.goes (goes_then c.seed-2.ensures.goes c.paint.ensures.goes) in
    omega (arith, length-flags c.paint.new.self.marks.now, w.ready.size, ap length w.same.list)

pub returns-clause-few : goal.returns-clause-few
returns-clause-few g c = omega (arith, few_noted _ _ c.paint.ensures.noted, size g (goal.at.returns-clause-few g c).After-paint)

-- what painting leaves
painted : (g : _) (c : After-paint g) → flags c.seed-2.new.self.marks.now ≡ hand_all theirs (places_of (g.H.Reader.commits c.args.history.now) (nums c.args.others.now)) (hand_all ours (places_of (g.H.Reader.commits c.args.history.now) (num c.args.first ∷ [])) (flags c.new-painter.result.marks.now))
    → Painted (g.H.Reader.commits c.args.history.now) (shared (g.H.Reader.commits c.args.history.now) (num c.args.first) (nums c.args.others.now)) (flags c.paint.new.self.marks.now) (listed c.paint.new.results)
painted g c start =
    let H = g.H.Reader.commits c.args.history.now in
    let L = (g.H.Reader.lawful c.args.history.now c.requires.whole).lawful in
    let f = num c.args.first in
    let zs = nums c.args.others.now in
    painted_from H (g.H.Reader.commits c.seed-2.new.history) L (shared H f zs) (places_of H (f ∷ [])) (places_of H zs) (flags c.new-painter.result.marks.now) (flags c.seed-2.new.self.marks.now) (flags c.paint.new.self.marks.now) (listed c.paint.new.results)
    (same_then c.seed.ensures.goes.same c.seed-2.ensures.goes.same).list (omega (arith, length-flags c.new-painter.result.marks.now, c.new-painter.ensures.size, c.requires.size)) (size g c)
    (places_inside H (f ∷ [])) (places_inside H zs) (λ p _. shared_is H f zs p) c.new-painter.ensures.blank start c.paint.ensures.good c.paint.ensures.idle c.paint.ensures.noted c.paint.ensures.unmet

pub returns-clause-inside : goal.returns-clause-inside
returns-clause-inside g c p m = let w = goal.at.returns-clause-inside g c in ((painted g w.After-paint (seeded g w.After-seed-2)).only p m).0

pub returns-clause-painted : goal.returns-clause-painted
returns-clause-painted g c =
    let w = goal.at.returns-clause-painted g c in
    let k : c.paint.new.self.marks.ghost_name ≡ _ = c.paint.ensures.goes.held ∙ c.seed-2.ensures.goes.held ∙ c.seed.ensures.goes.held ∙ c.new-painter.ensures.held in
    painted_at (g.H.Reader.commits c.args.history.now) (shared (g.H.Reader.commits c.args.history.now) (num c.args.first) (nums c.args.others.now)) (listed c.paint.new.results) c.paint.new.self.marks.now _ (search rules) (painted g w.After-paint (seeded g w.After-seed-2))
