use Rattle.std.proofs.Common.{rules, ◌≡◌}
use Rattle.std.specs.Ordering.{ordering_then}
use Rattle.ancestry.specs.Ids.{id_cmp}
use Rattle.queue.specs.Kinds.{dated_commit}
use Rattle.queue.proofs.Parts.{asked_then, newer_by_parts}
use Rattle.queue.proofs.kinds.DatedEntry.is_better.Goals as goal

pub returns : goal.returns
returns c =
    let ids = id_cmp c.args.other.now.id c.args.self.now.id in
    let then : c.then_with.result ≡ ordering_then c.cmp-by_date.result ids =
    asked_then c.cmp-by_date.result c.then_with.result ids _ c.then_with.ensures (λ q. search rules) in
    rw (c.is_gt.ensures, then, c.cmp-by_date.ensures) (newer_by_parts (dated_commit c.args.self.now) (dated_commit c.args.other.now))
