-- What is read of the fields of a line, or which field is not as expected.
use Rattle.std.specs.Prelude.{ℕ, suc, Bool, true, false, cond, List, [], ◌∷◌, drop, Some, None, Ok, Err, codes, Option, Result}
use Rattle.std.specs.Option.{option_map, ok_or}
use Rattle.ancestry.specs.Ids.{num}
use Rattle.ancestry.specs.Numbers.{from_hex}
use Rattle.lines.specs.Bytes.{starts, field_of}
use Rattle.orders.specs.Spelling.{decimal_of}
use Rattle.orders.specs.declared.expected.Expected.{Expected}
use Rattle.orders.specs.declared.expected.Expected.TheVariants.{AWord, AnId, AGeneration, ADate, AParent, AName, APlace, ANumber, AnOption, TheEnd}
use Rattle.orders.specs.declared.expected.Malformed.{Malformed}
use Rattle.orders.specs.declared.parent.Parent.{Parent}
use Rattle.orders.specs.declared.parent.Parent.TheVariants.{Place, Named}

-- what a field was expected to be, in plain words
abbrev pub words_for : Expected → List ℕ
words_for AWord = codes "commit, name, count, capacity, find, read, parent, merge-base, octopus or describe"
words_for AnId = codes "an id of 40 hexadecimal digits"
words_for AGeneration = codes "a generation, which is a number or -"
words_for ADate = codes "a date, which is a number, with - before it if negative"
words_for AParent = codes "a parent, which is an id of 40 hexadecimal digits, or @ and a place"
words_for AName = codes "a name"
words_for APlace = codes "a place, which is a number"
words_for ANumber = codes "a number"
words_for AnOption = codes "--candidates=N, --always or --first-parent"
words_for TheEnd = codes "the end of the line"

-- go on with what was read, unless the line is malformed
abbrev pub by : {X Y : Type 0} → Result X Malformed → (X → Result Y Malformed) → Result Y Malformed
by (Ok x) f = f x
by (Err m) f = Err m

abbrev pub ok_mapped : {X Y E : Type 0} → (X → Y) → Result X E → Result Y E
ok_mapped f (Ok x) = Ok (f x)
ok_mapped f (Err e) = Err e

abbrev pub fault : ℕ → Expected → Malformed
fault k e = record { field = k; expected = e }

-- the text of field k
abbrev pub text_at : Expected → List (List ℕ) → ℕ → Result (List ℕ) Malformed
text_at e fs k = ok_or (field_of fs k) (fault k e)

-- what field k spells
abbrev pub read_at : {X : Type 0} → (List ℕ → Option X) → Expected → List (List ℕ) → ℕ → Result X Malformed
read_at reads e fs k = by (text_at e fs k) (λ t. ok_or (reads t) (fault k e))

abbrev pub ended : ℕ → Option (List ℕ) → Result (Unit {0}) Malformed
ended k None = Ok tt
ended k (Some t) = Err (fault k TheEnd)

-- the line ends before field k
abbrev pub end_at : List (List ℕ) → ℕ → Result (Unit {0}) Malformed
end_at fs k = ended k (field_of fs k)

-- what each of the fields spells, of which the first has the number k
unfoldable pub each_on : {X : Type 0} → (List ℕ → Option X) → Expected → ℕ → List (List ℕ) → Result (List X) Malformed
each_on reads e k [] = Ok []
each_on reads e k (t ∷ ts) = by (ok_or (reads t) (fault k e)) (λ x. by (each_on reads e (suc k) ts) (λ xs. Ok (x ∷ xs)))

abbrev pub checked : {X : Type 0} → Result (List X) Malformed → Result (Unit {0}) Malformed
checked r = ok_mapped (λ _. tt) r

-- a parent as a line names it, by its place or by its id's number
pub data Via : Type 0 where
  place : ℕ → Via
  named : ℕ → Via

abbrev pub via : Parent → Via
via (Place n) = place n
via (Named i) = named (num i)

-- `@` and a place, or an id
abbrev pub parent_of : List ℕ → Option Via
parent_of t = cond (starts 64 t) (option_map place (decimal_of (drop 1 t))) (option_map named (from_hex t))

abbrev pub chosen : Bool → Option (Unit {0})
chosen true = Some tt
chosen false = None
