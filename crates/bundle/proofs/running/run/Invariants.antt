use Rattle.std.proofs.Common.{◌≡◌}
use Rattle.lines.specs.Bytes.{lines_of}
use Rattle.bundle.specs.Runs.{no_lines}
use Rattle.bundle.proofs.Leading.{Leads}
use Rattle.bundle.proofs.running.run.Given as goal

abbrev pub invariant-loop-line : goal.invariant-loop-line
invariant-loop-line g l =
    (goal.iterator-loop-line g).can_next l.line-iterator
    × (goal.iterator-loop-line g).is_finite l.line-iterator
    × g.H.Reader.whole l.history
    × (g.H.Reader.room l.history ≡ g.H.Reader.room l.initial.history)
    × Leads (g.H.Reader.room l.initial.history) (g.H.Reader.commits l.initial.history) no_lines (lines_of l.fn.text)
    (g.H.Reader.commits l.history) l.tally l.line-iterator
