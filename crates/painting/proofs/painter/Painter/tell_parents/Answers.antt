use Rattle.std.proofs.Common.{◌≡◌, Some, length, ap, ◌∙◌, arith}
use Rattle.std.specs.List.{slice_get}
use Rattle.ancestry.specs.Commits.{at}
use Rattle.history.proofs.Sames.{same_then}
use Rattle.painting.specs.Bits.{flags}
use Rattle.painting.proofs.Going.{goes_self, goes_then, goes_looked}
use Rattle.painting.proofs.Parents.{hand_all_none, hand_all_more, parent_is, nth_member}
use Rattle.painting.proofs.painter.Painter.tell_parents.Goals as goal
use Rattle.painting.proofs.painter.Painter.tell_parents.Goals.{After-unwrap-parent}

pub loop-n-init : goal.loop-n-init
loop-n-init g c = (goes_looked (goes_self c.requires.ready) c.parents_of-n-end.ensures.same, hand_all_none _ _)

-- the parent that the history gave
given : (g : _) (c : goal.After-unwrap-parent g) → slice_get (at (g.H.Reader.commits c.args.history.now) c.args.place).parents c.loop-n.n ≡ Some c.unwrap-parent.result
given g c = parent_is (g.H.Reader.commits c.args.history.now) (g.H.Reader.commits c.loop-n.history) c.args.place c.loop-n.n _ _ c.loop-n.invariant.0.same.list c.parent.ensures.answer c.unwrap-parent.ensures

pub tell-requires-clause-below : goal.tell-requires-clause-below
tell-requires-clause-below g c =
    let b = (goal.at.tell-requires-clause-below g c).After-unwrap-parent in
    let i = (g.H.Reader.lawful c.args.history.now c.requires.ready.still).lawful.inside c.args.place c.unwrap-parent.result c.requires.below (nth_member _ c.loop-n.n _ (given g b)) in
    omega (arith, i, ap length (same_then c.loop-n.invariant.0.same c.parent.ensures.same).list)

pub loop-n-preserved : goal.loop-n-preserved
loop-n-preserved g c = (
  goes_then (goes_looked c.loop-n.invariant.0 c.parent.ensures.same) c.tell.ensures.goes,
  c.tell.ensures.marks ∙ hand_all_more c.args.told _ c.loop-n.n c.unwrap-parent.result (flags c.args.self.now.marks.now) (flags c.loop-n.self.marks.now) (given g (goal.at.loop-n-preserved g c).After-unwrap-parent) c.loop-n.invariant.1,
)
