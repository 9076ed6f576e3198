use Rattle.std.proofs.Common.{sym, ap, ◌∙◌}
use Rattle.ancestry.specs.Numbers.{spelled}
use Rattle.ancestry.specs.Ids.{spelled-words, digits-words}
use Rattle.ancestry.proofs.Bytes.{num-bits}
use Rattle.ancestry.proofs.id.Id.as_words.Goals as goal

pub returns : goal.returns
returns c =
    let e = c.in_words.ensures.own in
    let w = c.in_words.ensures.fits in
    record {
      own = e;
      words = e ∙ sym (digits-words c.args.self.now w);
      back = ap (spelled 4294967296) e ∙ spelled-words c.args.self.now;
      fits = w;
      bits = num-bits c.args.self.now w;
    }
