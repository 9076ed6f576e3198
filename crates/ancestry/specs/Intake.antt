-- What intake answers: which refusals apply to a commit that is offered, and the lowest of them.
use Rattle.std.specs.Prelude.{◌≡◌, ℕ, ◌<◌, Bool, true, false, cond, not, ◌&&◌, List, [], ◌∷◌, ◌++◌, length, ℤ, pos, negsuc, Some, None, Ok, Err, codes, decimal, Option, Result, ◌==◌, int_le, nat_le, nat_lt}
use Rattle.ancestry.specs.Sets.{any, absent}
use Rattle.ancestry.specs.Commits.{Commit, at, place_of}
use Rattle.ancestry.specs.Keys.{rank}
use Rattle.ancestry.specs.declared.refusal.Refusal.{Refusal}
use Rattle.ancestry.specs.declared.refusal.Refusal.TheVariants.{DateOutOfRange, GenerationTooHigh, TooManyParents, IdHeld, NoSuchParent, GenerationRises, Full, TooManyOthers, WorkspaceShort}

-- a refusal's number
abbrev pub number : Refusal → ℕ
number DateOutOfRange = 11
number GenerationTooHigh = 12
number TooManyParents = 13
number IdHeld = 14
number NoSuchParent = 15
number GenerationRises = 16
number Full = 17
number TooManyOthers = 31
number WorkspaceShort = 32

-- what a refusal says to people
abbrev pub words : Refusal → List ℕ
words DateOutOfRange = codes "the date is outside -17179869184 to 17179869183"
words GenerationTooHigh = codes "the generation is above 1073741823"
words TooManyParents = codes "there are more than 16 parents"
words IdHeld = codes "the id is already held"
words NoSuchParent = codes "a parent is not a place in the history"
words GenerationRises = codes "a parent's generation exceeds the commit's"
words Full = codes "the history is full"
words TooManyOthers = codes "there are more than 1000 others"
words WorkspaceShort = codes "the workspace is short"

-- how a refusal is printed
abbrev pub printed : Refusal → List ℕ
printed f = codes "refused " ++ (decimal (number f) ++ (codes ": " ++ words f))

-- dates run from -17,179,869,184 to 17,179,869,183
unfoldable pub in_range : ℤ → Bool
in_range d = int_le (negsuc 17179869183) d && int_le d (pos 17179869183)

-- generations run to 1,073,741,823
unfoldable pub too_high : Option ℕ → Bool
too_high None = false
too_high (Some g) = nat_lt 1073741823 g

-- the generation of a parent that is a place exceeds g
unfoldable pub exceeds : List Commit → ℕ → ℕ → Bool
exceeds H g p = nat_lt p (length H) && nat_lt g (rank (at H p).generation)

-- whether a refusal applies to the commit c, offered to a history of capacity `room` that holds the list H; those of
-- questions never do
unfoldable pub applies : ℕ → List Commit → Commit → Refusal → Bool
applies room H c DateOutOfRange = not (in_range c.date)
applies room H c GenerationTooHigh = too_high c.generation
applies room H c TooManyParents = nat_lt 16 (length c.parents)
applies room H c IdHeld = not (absent (place_of H c.id))
applies room H c NoSuchParent = any (λ p. nat_le (length H) p) c.parents
applies room H c GenerationRises = any (exceeds H (rank c.generation)) c.parents
applies room H c Full = length H == room
applies room H c TooManyOthers = false
applies room H c WorkspaceShort = false

-- the first of a list of refusals that applies
unfoldable pub first_that : (Refusal → Bool) → List Refusal → Option Refusal
first_that applies [] = None
first_that applies (f ∷ fs) = cond (applies f) (Some f) (first_that applies fs)

-- why the commit is refused: the lowest that applies
unfoldable pub refusal : ℕ → List Commit → Commit → Option Refusal
refusal room H c =
    first_that (applies room H c)
    (DateOutOfRange ∷ GenerationTooHigh ∷ TooManyParents ∷ IdHeld ∷ NoSuchParent ∷ GenerationRises ∷ Full ∷ [])

-- the refusal, or else the answer
abbrev pub unless : {A : Type 0} → Option Refusal → A → Result A Refusal
unless None a = Ok a
unless (Some f) a = Err f

-- the list after intake: a commit that is not refused is appended
abbrev pub grown : Option Refusal → List Commit → Commit → List Commit
grown None H c = H ++ c ∷ []
grown (Some f) H c = H

-- r is the lowest refusal that applies, and none where none does
abbrev pub Lowest : ℕ → List Commit → Commit → Option Refusal → Type 0
Lowest room H c None = (f : Refusal) → applies room H c f ≡ false
Lowest room H c (Some f) = (applies room H c f ≡ true) × ((g : Refusal) → number g < number f → applies room H c g ≡ false)
