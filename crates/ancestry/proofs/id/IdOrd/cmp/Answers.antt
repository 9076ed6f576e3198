use Rattle.std.proofs.Common.{◌∙◌, ◌≡◌}
use Rattle.ancestry.specs.Ids.{words_cmp}
use Rattle.ancestry.proofs.Compared.{by_number}
use Rattle.ancestry.proofs.id.IdOrd.cmp.Goals as goal

pub returns : goal.returns
returns c =
    let by_words : c.cmp.result ≡ words_cmp c.args.self.now c.args.other.now = rw (c.cmp.ensures, c.as_words.ensures.own, c.as_words-2.ensures.own) in
    record {
      words = by_words;
      number = by_words ∙ by_number c.args.self.now c.args.other.now c.as_words.ensures.fits c.as_words-2.ensures.fits;
    }
