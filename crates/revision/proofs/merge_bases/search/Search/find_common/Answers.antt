use Rattle.std.proofs.Common.{List, length, subst}
use Rattle.ancestry.specs.Ids.{num}
use Rattle.ancestry.specs.Commits.{Commit}
use Rattle.history.proofs.Sames.{same_then}
use Rattle.painting.specs.Listings.{listed}
use Rattle.revision.specs.Searching.{Fits}
use Rattle.revision.proofs.Folds.{folded_more}
use Rattle.revision.proofs.merge_bases.search.Search.find_common.Goals as goal

pub loop-other-preserved : goal.loop-other-preserved
loop-other-preserved g c =
    let H = g.H.Reader.commits c.args.history.now in
    let L = (g.H.Reader.lawful c.args.history.now c.requires.whole).lawful in
    let K = g.H.Reader.commits c.loop-other.history in
    let i = c.loop-other.invariant in
    let r = c.round.ensures in (
      same_then i.0 r.same,
      subst (λ (G : List Commit). Fits (length G) c.round.new.self) i.0.list r.fits,
      folded_more H K L (num c.args.first) c.args.others.now c.loop-other.other-index _ (listed c.loop-other.self.results) (listed c.round.new.self.results) c.loop-other-test.true i.0.list i.2 r.bests,
    )
