use Rattle.std.proofs.Common.{length, take}
use Rattle.ancestry.specs.Ids.{num, nums}
use Rattle.history.specs.Meaning.{Same}
use Rattle.painting.specs.Listings.{listed}
use Rattle.revision.specs.Folding.{Folded}
use Rattle.revision.specs.Searching.{Fits}
use Rattle.revision.proofs.merge_bases.search.Search.find_common.Given as goal

abbrev pub invariant-loop-other : goal.invariant-loop-other
invariant-loop-other g l =
    let m = g.H.Reader in
    let H = m.commits l.fn.history in
    Same m.whole m.commits m.room l.fn.history l.history
    × Fits (length H) l.self
    × Folded H (num l.fn.first) (nums (take l.other-index l.others)) (listed l.self.results)
