use Rattle.std.proofs.Common.{◌≡◌, ℕ, ◌<◌, ◌≤◌, true, List, length, sym, ap, ◌∙◌, subst, arith, rules}
use Rattle.ancestry.specs.Sets.{member, keep}
use Rattle.history.proofs.Sames.{same_then}
use Rattle.painting.specs.Bits.{flags}
use Rattle.painting.specs.Descents.{walk_of}
use Rattle.painting.specs.Listings.{listed}
use Rattle.painting.specs.Marks.{mark, left}
use Rattle.painting.specs.Walks.{level, Fresh, Tracked}
use Rattle.painting.proofs.Codes.{length-flags}
use Rattle.painting.proofs.Left.{keep_inside, keep_fresh, keep_fewer, keep_at, bests_one, bests_from}
use Rattle.painting.proofs.Steps.{unmet_most}
use Rattle.painting.proofs.redundant.remove_redundant.Goals as goal
use Rattle.painting.proofs.redundant.remove_redundant.Goals.{After-retain_left}

-- what the first pass keeps are places of the history
inside : (g : _) (c : After-retain_left g) (p : ℕ) → member p (listed c.retain_left.new.places) ≡ true → p < length (g.H.Reader.commits c.args.history.now)
inside g c = keep_inside _ (flags c.args.marks.now) (listed c.args.results.now) (listed c.retain_left.new.places) c.retain_left.ensures.kept c.requires.inside

pub returns-then-alone-clause-few : goal.returns-then-alone-clause-few
returns-then-alone-clause-few g c = keep_fewer _ _ _ c.retain_left.ensures.kept

pub returns-then-alone-clause-inside : goal.returns-then-alone-clause-inside
returns-then-alone-clause-inside g c = inside g (goal.at.returns-then-alone-clause-inside g c).After-retain_left

pub returns-then-alone-clause-bests : goal.returns-then-alone-clause-bests
returns-then-alone-clause-bests g c S P =
    let L = (g.H.Reader.lawful c.args.history.now c.requires.whole).lawful in
    bests_one (g.H.Reader.commits c.args.history.now) L S (flags c.args.marks.now) (listed c.args.results.now) (listed c.retain_left.new.places) c.retain_left.ensures.kept (omega (arith, ap length c.as_slice.ensures, c.if-alone.true)) P

pub lowest-requires-clause-inside : goal.lowest-requires-clause-inside
lowest-requires-clause-inside g c p m = inside g (goal.at.lowest-requires-clause-inside g c).After-retain_left p (subst (λ (l : List ℕ). member p l ≡ true) c.as_slice-2.ensures m)

pub start-requires-clause-ready : goal.start-requires-clause-ready
start-requires-clause-ready g c =
    let n = ap length c.lowest.ensures.same.list in
    record {
      still = c.lowest.ensures.same.still;
      size = omega (arith, n, c.requires.size);
      fits = omega (arith, n, ap length c.new-stack.ensures.empty, unmet_most (flags c.args.marks.now), length-flags c.args.marks.now, c.new-stack.ensures.room, c.requires.stack, c.requires.size);
    }

pub start-requires-clause-inside : goal.start-requires-clause-inside
start-requires-clause-inside g c p m = omega (arith, ap length c.lowest.ensures.same.list, inside g (goal.at.start-requires-clause-inside g c).After-retain_left p (subst (λ (l : List ℕ). member p l ≡ true) c.as_slice-3.ensures m))

pub start-requires-clause-fresh : goal.start-requires-clause-fresh
start-requires-clause-fresh g c = subst (λ (l : List ℕ). Fresh l (flags c.args.marks.now)) (sym c.as_slice-3.ensures) (keep_fresh _ _ _ c.retain_left.ensures.kept)

pub retain_left-requires-2 : goal.retain_left-requires-2
retain_left-requires-2 g c = record { inside = λ p m. omega (arith, inside g (goal.at.retain_left-requires-2 g c).After-retain_left p m, c.requires.size) }

pub returns-clause-few : goal.returns-clause-few
returns-clause-few g c = omega (arith, keep_fewer _ _ _ c.retain_left.ensures.kept, keep_fewer _ _ _ c.retain_left-2.ensures.kept)

pub returns-clause-inside : goal.returns-clause-inside
returns-clause-inside g c = keep_inside _ _ _ _ c.retain_left-2.ensures.kept (inside g (goal.at.returns-clause-inside g c).After-retain_left)

pub returns-clause-bests : goal.returns-clause-bests
returns-clause-bests g c S P =
    let H = g.H.Reader.commits c.args.history.now in
    let L = (g.H.Reader.lawful c.args.history.now c.requires.whole).lawful in
    let G = g.H.Reader.commits c.lowest.new.history in
    let F = g.H.Reader.commits c.start.new.history in
    let qs = listed c.retain_left.new.places in
    let rs = listed c.retain_left-2.new.places in
    let low = c.lowest.result in
    let w₁ = walk_of c.start.new.self in
    let w₂ = walk_of c.walk.new.self in
    let h : c.walk.new.self.marks.ghost_name ≡ _ = c.walk.ensures.goes.held ∙ c.start.ensures.goes.held in
    let r : rs ≡ keep (λ p. left (mark (flags c.walk.new.self.marks.now) p)) qs = keep_at qs rs _ c.walk.new.self.marks.now (search rules) c.retain_left-2.ensures.kept in
    let least : (p : ℕ) → member p qs ≡ true → low ≤ level H p = subst (λ (l : List ℕ). (p : ℕ) → member p l ≡ true → low ≤ level H p) c.as_slice-2.ensures c.lowest.ensures.least in
    let start : Tracked G low qs qs w₁ = subst (λ (l : List ℕ). Tracked G low l l w₁) c.as_slice-3.ensures c.start.ensures.tracked in
    let walk : (rs bs : List ℕ) → Tracked F low rs bs w₁ → Tracked F low rs bs w₂ = subst (λ (k : ℕ). (rs bs : List ℕ) → Tracked F k rs bs w₁ → Tracked F k rs bs w₂) c.start.ensures.goes.low c.walk.ensures.tracked in
    bests_from H G F L c.lowest.ensures.same.list (same_then c.lowest.ensures.same c.start.ensures.goes.same).list S (flags c.args.marks.now) w₁ w₂ (listed c.args.results.now) qs rs low c.retain_left.ensures.kept r least start walk c.walk.ensures.over P
