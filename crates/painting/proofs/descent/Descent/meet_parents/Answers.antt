use Rattle.std.proofs.Common.{◌≡◌, ℕ, List, Some, length, ap, ◌∙◌, arith}
use Rattle.std.specs.List.{slice_get}
use Rattle.ancestry.specs.Commits.{Commit, at, parents_of}
use Rattle.history.proofs.Sames.{same_then}
use Rattle.painting.specs.Descents.{walk_of}
use Rattle.painting.specs.Walks.{meet}
use Rattle.painting.proofs.Descending.{goes_self, goes_then, goes_looked}
use Rattle.painting.proofs.Meets.{meet_all_none, meet_all_more}
use Rattle.painting.proofs.Parents.{parent_is, nth_member}
use Rattle.painting.proofs.descent.Descent.meet_parents.Goals as goal
use Rattle.painting.proofs.descent.Descent.meet_parents.Goals.{After-unwrap-parent}

pub loop-n-init : goal.loop-n-init
loop-n-init g c = (goes_looked (goes_self c.requires.ready) c.parents_of-n-end.ensures.same, meet_all_none _ _ _)

-- the parent that the history gave
given : (g : _) (c : After-unwrap-parent g) → slice_get (at (g.H.Reader.commits c.args.history.now) c.args.place).parents c.loop-n.n ≡ Some c.unwrap-parent.result
given g c = parent_is (g.H.Reader.commits c.args.history.now) (g.H.Reader.commits c.loop-n.history) c.args.place c.loop-n.n _ _ c.loop-n.invariant.0.same.list c.parent.ensures.answer c.unwrap-parent.ensures

pub meet-requires-clause-below : goal.meet-requires-clause-below
meet-requires-clause-below g c =
    let b = (goal.at.meet-requires-clause-below g c).After-unwrap-parent in
    let i = (g.H.Reader.lawful c.args.history.now c.requires.ready.still).lawful.inside c.args.place c.unwrap-parent.result c.requires.below (nth_member _ c.loop-n.n _ (given g b)) in
    omega (arith, i, ap length (same_then c.loop-n.invariant.0.same c.parent.ensures.same).list)

pub loop-n-preserved : goal.loop-n-preserved
loop-n-preserved g c =
    let H = g.H.Reader.commits c.args.history.now in
    let s = goes_looked c.loop-n.invariant.0 c.parent.ensures.same in
    let w = walk_of c.loop-n.self in (
      goes_then s c.meet.ensures.goes,
      c.meet.ensures.walk
          ∙ ap (λ (G : List Commit). meet G c.loop-n.self.low c.unwrap-parent.result w) s.same.list
          ∙ ap (λ (k : ℕ). meet H k c.unwrap-parent.result w) c.loop-n.invariant.0.low
          ∙ meet_all_more H c.args.self.now.low (parents_of H c.args.place) c.loop-n.n c.unwrap-parent.result (walk_of c.args.self.now) w (given g (goal.at.loop-n-preserved g c).After-unwrap-parent) c.loop-n.invariant.1,
    )
