use Rattle.std.proofs.Common.{rules, ◌≡◌, int_cmp}
use Rattle.std.specs.Ordering.{ordering_then}
use Rattle.ancestry.specs.Keys.{rank}
use Rattle.ancestry.specs.Ids.{id_cmp}
use Rattle.queue.specs.Kinds.{keyed_commit}
use Rattle.queue.proofs.Parts.{asked_then, better_by_parts}
use Rattle.queue.proofs.kinds.KeyedEntry.is_better.Goals as goal

pub returns : goal.returns
unfolding rank
returns c =
    let dates = int_cmp c.args.self.now.date c.args.other.now.date in
    let ids = id_cmp c.args.other.now.id c.args.self.now.id in
    let by_key : c.then_with-by_key.result ≡ ordering_then c.cmp-by_generation.result dates =
    asked_then c.cmp-by_generation.result c.then_with-by_key.result dates _ c.then_with-by_key.ensures (λ q. search rules) in
    let then : c.then_with.result ≡ ordering_then c.then_with-by_key.result ids =
    asked_then c.then_with-by_key.result c.then_with.result ids _ c.then_with.ensures (λ q. search rules) in
    rw (c.is_gt.ensures, then, by_key, c.cmp-by_generation.ensures) (better_by_parts (keyed_commit c.args.self.now) (keyed_commit c.args.other.now))
