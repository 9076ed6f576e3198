use Rattle.std.proofs.Common.{arith}
use Rattle.revision.proofs.Members.{refused_many, refused_short, short_marks, short_queue, short_stack, short_answers, suffices}
use Rattle.revision.proofs.workspace.Sizes.suffice.Goals as goal
use Rattle.revision.proofs.workspace.Sizes.suffice.Goals.{then-self-count-via-then-self-count, then-self-count-via-else-self-count+then-self-count-2, then-self-count-via-else-self-count+else-self-count-2+then-self-count-3, then-self-count-via-else-self-count+else-self-count-2+else-self-count-3+then-self-count-4}

pub returns-then-others-gt-MAX_OTHERS : goal.returns-then-others-gt-MAX_OTHERS
returns-then-others-gt-MAX_OTHERS c = refused_many _ _ _ _ (omega arith)

pub returns-then-self-count : goal.returns-then-self-count
returns-then-self-count c = refused_short _ _ _ _ (omega arith) (elim c.then-self-count.branch [
  | then-self-count-via-then-self-count w ↦ short_marks _ _ (omega arith)
  | then-self-count-via-else-self-count+then-self-count-2 w ↦ short_queue _ _ (omega arith)
  | then-self-count-via-else-self-count+else-self-count-2+then-self-count-3 w ↦ short_stack _ _ (omega arith)
  | then-self-count-via-else-self-count+else-self-count-2+else-self-count-3+then-self-count-4 w ↦ short_answers _ _ (omega arith)
])

pub returns : goal.returns
returns c = suffices _ _ _ _ (omega arith) (record { marks = omega arith; queue = omega arith; stack = omega arith; answers = omega arith })
