-- How answers are printed.
use Rattle.std.specs.Prelude.{ℕ, List, ◌++◌, Some, None, Ok, Err, codes, decimal}
use Rattle.ancestry.specs.Intake.{printed}
use Rattle.history.specs.Printed.{entry_text}
use Rattle.answering.specs.declared.answer.Answer.{Answer}
use Rattle.answering.specs.declared.answer.Answer.TheVariants as answer

abbrev pub place_text : ℕ → List ℕ
place_text p = codes "place " ++ decimal p

abbrev pub answer_text : Answer → List ℕ
answer_text (answer.Intake (Ok p)) = place_text p
answer_text (answer.Intake (Err f)) = printed f
answer_text (answer.Place (Some p)) = place_text p
answer_text (answer.Place None) = codes "none"
answer_text (answer.Number n) = decimal n
answer_text (answer.Commit (Some e)) = entry_text e
answer_text (answer.Commit None) = codes "none"
answer_text answer.Kept = codes "kept"
answer_text answer.NotYet = codes "not yet"
