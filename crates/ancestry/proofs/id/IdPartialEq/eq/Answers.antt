use Rattle.std.proofs.Common.{◌∙◌, ◌≡◌}
use Rattle.ancestry.specs.Ids.{same_words}
use Rattle.ancestry.proofs.Compared.{same_lists, same_by_number}
use Rattle.ancestry.proofs.id.IdPartialEq.eq.Goals as goal

pub returns : goal.returns
returns c =
    let by_words : c.eq.result ≡ same_words c.args.self.now c.args.other.now = rw (c.eq.ensures, c.as_words.ensures.own, c.as_words-2.ensures.own) (same_lists c.args.self.now c.args.other.now) in
    record {
      words = by_words;
      number = by_words ∙ same_by_number c.args.self.now c.args.other.now c.as_words.ensures.fits c.as_words-2.ensures.fits;
    }
