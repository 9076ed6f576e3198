use Rattle.std.proofs.Common.{codes, sym, ap, rules}
use Rattle.std.proofs.lemmas.Slice.Eq.{text_from_reads}
use Rattle.orders.specs.Words.{word_of}
use Rattle.orders.proofs.words.WordFromText.from_text.Goals as goal

pub returns-in-commit : goal.returns-in-commit
returns-in-commit c = ap word_of (sym (text_from_reads c.args.text.now (codes "commit") (search rules) (search rules)))

pub returns-in-capacity : goal.returns-in-capacity
returns-in-capacity c = ap word_of (sym (text_from_reads c.args.text.now (codes "capacity") (search rules) (search rules)))

pub returns-in-parent : goal.returns-in-parent
returns-in-parent c = ap word_of (sym (text_from_reads c.args.text.now (codes "parent") (search rules) (search rules)))

-- the arm of `merge-base`
pub returns-in-109 : goal.returns-in-109
returns-in-109 c = ap word_of (sym (text_from_reads c.args.text.now (codes "merge-base") (search rules) (search rules)))

pub returns-in-octopus : goal.returns-in-octopus
returns-in-octopus c = ap word_of (sym (text_from_reads c.args.text.now (codes "octopus") (search rules) (search rules)))

pub returns-in-describe : goal.returns-in-describe
returns-in-describe c = ap word_of (sym (text_from_reads c.args.text.now (codes "describe") (search rules) (search rules)))
