use Rattle.std.proofs.Common.{◌≡◌, ℕ, true, List, [], ◌∷◌, length, sym, refl, ap, ◌∙◌, subst, arith, rules}
use Rattle.ancestry.specs.Sets.{member}
use Rattle.ancestry.specs.Ids.{num}
use Rattle.history.proofs.Sames.{same_then}
use Rattle.painting.specs.Bits.{flags}
use Rattle.painting.specs.Listings.{listed}
use Rattle.painting.specs.Marks.{hand_all}
use Rattle.painting.specs.Painted.{Noted, Painted, Unmet}
use Rattle.painting.specs.Seeded.{ours, theirs, places_of, meeting}
use Rattle.painting.specs.declared.marks.Mark.{Mark}
use Rattle.painting.proofs.Codes.{length-flags}
use Rattle.painting.proofs.Going.{goes_then}
use Rattle.painting.proofs.Notes.{painted_from, painted_at, meeting_is, few_noted}
use Rattle.painting.proofs.Seeds.{ids_inside, ids_told, places_inside, places_inside_too, places_told, noted_start, unmet_start}
use Rattle.painting.proofs.paint.paint_from_places.Goals as goal
use Rattle.painting.proofs.paint.paint_from_places.Goals.{After-seed-2, After-paint}

pub seed-requires-clause-inside : goal.seed-requires-clause-inside
seed-requires-clause-inside g c = ids_inside (g.H.Reader.commits c.args.history.now) (c.args.id ∷ [])

pub seed-requires-2-clause-inside : goal.seed-requires-2-clause-inside
seed-requires-2-clause-inside g c = places_inside_too (g.H.Reader.commits c.seed.new.history) c.as_slice.result.now (λ p m. omega (arith, c.requires.inside p (subst (λ (l : List ℕ). member p l ≡ true) c.as_slice.ensures m), ap length c.seed.ensures.goes.same.list))

-- the marks once all are told
seeded : (g : _) (c : After-seed-2 g)
    → flags c.seed-2.new.self.marks.now ≡ hand_all theirs (listed c.args.results.now) (hand_all ours (places_of (g.H.Reader.commits c.args.history.now) (num c.args.id ∷ [])) (flags c.new-painter.result.marks.now))
seeded g c =
    let H = g.H.Reader.commits c.args.history.now in
    places_told theirs (listed c.args.results.now) c.as_slice.result.now _ _ c.as_slice.ensures c.seed-2.ensures.marks
    ∙ ap (hand_all theirs (listed c.args.results.now)) (ids_told H H ours (c.args.id ∷ []) _ _ refl c.seed.ensures.marks)

pub paint-requires-clause-none : goal.paint-requires-clause-none
paint-requires-clause-none g c =
    let H = g.H.Reader.commits c.args.history.now in
    let L = (g.H.Reader.lawful c.args.history.now c.requires.whole).lawful in
    let n = noted_start H L (places_of H (num c.args.id ∷ [])) (listed c.args.results.now) (places_inside H _) c.requires.inside (flags c.new-painter.result.marks.now) c.new-painter.ensures.blank in
    subst (Noted (flags c.seed-2.new.self.marks.now)) (sym c.clear.ensures.empty) (subst (λ (x : List Mark). Noted x []) (sym (seeded g (goal.at.paint-requires-clause-none g c).After-seed-2)) n)

pub paint-requires-clause-unmet : goal.paint-requires-clause-unmet
paint-requires-clause-unmet g c =
    let H = g.H.Reader.commits c.args.history.now in
    let L = (g.H.Reader.lawful c.args.history.now c.requires.whole).lawful in
    let u = unmet_start H L (places_of H (num c.args.id ∷ [])) (listed c.args.results.now) (places_inside H _) c.requires.inside (flags c.new-painter.result.marks.now) c.new-painter.ensures.blank in
    subst Unmet (sym (seeded g (goal.at.paint-requires-clause-unmet g c).After-seed-2)) u

-- the painter has a mark for each commit, as there were at first
size : (g : _) (c : After-paint g) → length (flags c.paint.new.self.marks.now) ≡ length (g.H.Reader.commits c.args.history.now)
size g c =
    let w = goes_then c.seed.ensures.goes (goes_then c.seed-2.ensures.goes c.paint.ensures.goes) in
    omega (arith, length-flags c.paint.new.self.marks.now, w.ready.size, ap length w.same.list)

pub returns-clause-few : goal.returns-clause-few
returns-clause-few g c = omega (arith, few_noted _ _ c.paint.ensures.noted, size g (goal.at.returns-clause-few g c).After-paint)

-- what painting leaves
painted : (g : _) (c : After-paint g) → flags c.seed-2.new.self.marks.now ≡ hand_all theirs (listed c.args.results.now) (hand_all ours (places_of (g.H.Reader.commits c.args.history.now) (num c.args.id ∷ [])) (flags c.new-painter.result.marks.now))
    → Painted (g.H.Reader.commits c.args.history.now) (meeting (g.H.Reader.commits c.args.history.now) (num c.args.id) (listed c.args.results.now)) (flags c.paint.new.self.marks.now) (listed c.paint.new.results)
painted g c start =
    let H = g.H.Reader.commits c.args.history.now in
    let L = (g.H.Reader.lawful c.args.history.now c.requires.whole).lawful in
    let f = num c.args.id in
    let ps = listed c.args.results.now in
    painted_from H (g.H.Reader.commits c.seed-2.new.history) L (meeting H f ps) (places_of H (f ∷ [])) ps (flags c.new-painter.result.marks.now) (flags c.seed-2.new.self.marks.now) (flags c.paint.new.self.marks.now) (listed c.paint.new.results)
    (same_then c.seed.ensures.goes.same c.seed-2.ensures.goes.same).list (omega (arith, length-flags c.new-painter.result.marks.now, c.new-painter.ensures.size, c.requires.size)) (size g c)
    (places_inside H (f ∷ [])) c.requires.inside (λ p _. meeting_is H f ps p) c.new-painter.ensures.blank start c.paint.ensures.good c.paint.ensures.idle c.paint.ensures.noted c.paint.ensures.unmet

pub returns-clause-inside : goal.returns-clause-inside
returns-clause-inside g c p m = let w = goal.at.returns-clause-inside g c in ((painted g w.After-paint (seeded g w.After-seed-2)).only p m).0

pub returns-clause-painted : goal.returns-clause-painted
returns-clause-painted g c =
    let w = goal.at.returns-clause-painted g c in
    let k : c.paint.new.self.marks.ghost_name ≡ _ = c.paint.ensures.goes.held ∙ c.seed-2.ensures.goes.held ∙ c.seed.ensures.goes.held ∙ c.new-painter.ensures.held in
    painted_at (g.H.Reader.commits c.args.history.now) (meeting (g.H.Reader.commits c.args.history.now) (num c.args.id) (listed c.args.results.now)) (listed c.paint.new.results) c.paint.new.self.marks.now _ (search rules) (painted g w.After-paint (seeded g w.After-seed-2))
