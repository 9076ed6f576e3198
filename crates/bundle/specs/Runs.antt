-- A whole bundle: its lines are replied to one after another, and counted by their replies.
use Rattle.std.specs.Prelude.{◌≡◌, ℕ, ◌+◌, min, true, false, ◌⊎◌, List, [], ◌∷◌, Ok, Err, Result}
use Rattle.ancestry.specs.Commits.{Commit}
use Rattle.lines.specs.Bytes.{trimmed, passed, fields_of}
use Rattle.orders.specs.Lines.{line}
use Rattle.orders.specs.declared.expected.Malformed.{Malformed}
use Rattle.answering.specs.declared.answer.Answer.{Answer}
use Rattle.answering.specs.declared.answer.Answer.TheVariants as answer
use Rattle.bundle.specs.Replies.{Fits}
use Rattle.bundle.specs.declared.tally.Tally.{Tally}

abbrev pub no_lines : Tally
no_lines = record { taken_in = 0; refused = 0; answered = 0; malformed = 0 }

-- one more, up to the largest number that can be counted
abbrev pub more : ℕ → ℕ
more n = min (n + 1) 18446744073709551615

abbrev pub one_taken_in : Tally → Tally
one_taken_in t = record { taken_in = more t.taken_in; refused = t.refused; answered = t.answered; malformed = t.malformed }

abbrev pub one_refused : Tally → Tally
one_refused t = record { taken_in = t.taken_in; refused = more t.refused; answered = t.answered; malformed = t.malformed }

abbrev pub one_answered : Tally → Tally
one_answered t = record { taken_in = t.taken_in; refused = t.refused; answered = more t.answered; malformed = t.malformed }

abbrev pub one_malformed : Tally → Tally
one_malformed t = record { taken_in = t.taken_in; refused = t.refused; answered = t.answered; malformed = more t.malformed }

-- the tally with one more line
abbrev pub counted : Result Answer Malformed → Tally → Tally
counted (Ok (answer.Intake (Ok p))) t = one_taken_in t
counted (Ok (answer.Intake (Err f))) t = one_refused t
counted (Ok (answer.Place p)) t = one_answered t
counted (Ok (answer.Number n)) t = one_answered t
counted (Ok (answer.Commit e)) t = one_answered t
counted (Ok answer.Kept) t = one_answered t
counted (Ok answer.NotYet) t = one_answered t
counted (Err m) t = one_malformed t

-- the lines take the list H and the tally t to the list H' and the tally t': a line that says nothing is passed over, any
-- other gets the reply that fits it
abbrev pub Ran : ℕ → List Commit → Tally → List (List ℕ) → List Commit → Tally → Type 0
Ran room H t [] H' t' = (H' ≡ H) × (t' ≡ t)
Ran room H t (l ∷ ls) H' t' =
    ((passed (trimmed l) ≡ true) × Ran room H t ls H' t')
    ⊎ ((passed (trimmed l) ≡ false)
    × ((r : Result Answer Malformed) × (K : List Commit) × Fits room H (line (fields_of (trimmed l))) r K × Ran room K (counted r t) ls H' t'))
