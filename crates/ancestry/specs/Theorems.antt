-- What holds of the definitions, each statement to be read without its proof.
use Rattle.std.specs.Prelude.{◌≡◌, ℕ, ◌<◌, Bool, true, ◌≢◌, List, [], ◌∷◌, ◌++◌, length, Some, None, MatchOption}
use Rattle.ancestry.specs.Sets.{member}
use Rattle.ancestry.specs.Commits.{Commit, at, place_of}
use Rattle.ancestry.specs.Reaching.{Reaches, reaches}
use Rattle.ancestry.specs.Keys.{better}
use Rattle.ancestry.specs.Lawful.{Lawful, Laws, Held, AllHeld}
use Rattle.ancestry.specs.Bases.{ids, best, bases, octopus}
use Rattle.ancestry.specs.Naming.{Asked}
use Rattle.ancestry.specs.Describe.{describe}
use Rattle.ancestry.specs.Nearest.{trimmed, DatesFall, NamesFit, Nearest}
use Rattle.ancestry.specs.Intake.{refusal, Lowest}
use Rattle.ancestry.specs.Numbers.{from_hex, hex}
use Rattle.ancestry.specs.Ids.{num, Words, same_words, same_id, words_cmp, id_cmp}
use Rattle.ancestry.specs.declared.id.Id.{Id}

-- IDS. Two ids with one number are equal, and an id's letters read back as its number.
abbrev pub IdLaw : Type 0
IdLaw = (a b : Id) → Words a → Words b → num a ≡ num b → a ≡ b

abbrev pub HexLaw : Type 0
HexLaw = (i : Id) → Words i → from_hex (hex (num i)) ≡ Some (num i)

-- Ids are equal and compare by their words as by their numbers.
abbrev pub OrderLaw : Type 0
OrderLaw = (a b : Id) → Words a → Words b → (same_words a b ≡ same_id a b) × (words_cmp a b ≡ id_cmp a b)

-- PLACES. A place found holds the id; where none is found, no place does.
abbrev pub PlaceLaw : Type 0
PlaceLaw = (H : List Commit) (i : ℕ) →
    MatchOption (place_of H i) ((p : ℕ) → p < length H → (at H p).id ≢ i) (λ p. (p < length H) × ((at H p).id ≡ i))

-- REACHING. The test and the relation agree.
abbrev pub ReachingLaw : Type 0
ReachingLaw = (H : List Commit) (p q : ℕ) → q < length H →
    (reaches H p q ≡ true → Reaches H p q) × (Reaches H p q → reaches H p q ≡ true)

-- BEST SETS. A list in strict order: each stands before all that follow.
abbrev pub Strict : (ℕ → ℕ → Bool) → List ℕ → Type 0
Strict before [] = Unit {0}
Strict before (x ∷ xs) = ((y : ℕ) → member y xs ≡ true → before x y ≡ true) × Strict before xs

-- no other member of the set S reaches p
abbrev pub Unreached : List Commit → (ℕ → Bool) → ℕ → Type 0
Unreached H S p = (q : ℕ) → q < length H → S q ≡ true → Reaches H q p → q ≡ p

-- r lists exactly the members of S that no other member reaches, best key first
pub record IsBest (H : List Commit) (S : ℕ → Bool) (r : List ℕ) : Type 0 where
  pub all : (p : ℕ) → p < length H → S p ≡ true → Unreached H S p → member p r ≡ true
  pub only : (p : ℕ) → member p r ≡ true → (p < length H) × (S p ≡ true) × Unreached H S p
  pub sorted : Strict (λ p q. better (at H p) (at H q)) r

-- `best` is such a list, and there is no other
abbrev pub BestLaw : Type 0
BestLaw = (H : List Commit) → Lawful H → (S : ℕ → Bool) →
    IsBest H S (best H S) × ((r : List ℕ) → IsBest H S r → r ≡ best H S)

-- MERGE BASES. The best of a list of ids, and the lists that f gives at each of a list, joined.
unfoldable pub best_ids : List Commit → List ℕ → List ℕ
best_ids H is = ids H (best H (λ p. member (at H p).id is))

unfoldable pub gather : (ℕ → List ℕ) → List ℕ → List ℕ
gather f [] = []
gather f (x ∷ xs) = f x ++ gather f xs

-- two commits swapped have the same bases, held or not
abbrev pub SwapLaw : Type 0
SwapLaw = (H : List Commit) (a b : ℕ) → bases H a (b ∷ []) ≡ bases H b (a ∷ [])

-- the bases of a held commit against two joined lists, neither empty, are the best of both answers
abbrev pub JoinLaw : Type 0
JoinLaw = (H : List Commit) → Lawful H → (f : ℕ) → Held H f → (xs ys : List ℕ) → xs ≢ [] → ys ≢ [] →
    bases H f (xs ++ ys) ≡ best_ids H (bases H f xs ++ bases H f ys)

-- GROWTH. A commit that no refusal meets, appended, keeps all laws of a history.
abbrev pub GrowthLaw : Type 0
GrowthLaw = (room : ℕ) (H : List Commit) (c : Commit) → Laws room H → refusal room H c ≡ None → Laws room (H ++ c ∷ [])

-- what refuses a commit is the lowest refusal that applies
abbrev pub RefusalLaw : Type 0
RefusalLaw = (room : ℕ) (H : List Commit) (c : Commit) → Lowest room H c (refusal room H c)

-- a commit taken in has, against any commit held before it, the best of its parents' bases against that one
abbrev pub IntakeLaw : Type 0
IntakeLaw = (room : ℕ) (H : List Commit) (c : Commit) → Laws room H → refusal room H c ≡ None → (x : ℕ) → Held H x →
    bases (H ++ c ∷ []) c.id (x ∷ [])
    ≡ best_ids (H ++ c ∷ []) (gather (λ r. bases H (at H r).id (x ∷ [])) c.parents)

-- each commit of the list is taken in, one after another
abbrev pub TakenIn : ℕ → List Commit → List Commit → Type 0
TakenIn room H [] = Unit {0}
TakenIn room H (c ∷ cs) = (refusal room H c ≡ None) × TakenIn room (H ++ c ∷ []) cs

-- whatever is taken in later, every question about commits held before has the answer that it had
abbrev pub UnchangedLaw : Type 0
UnchangedLaw = (room : ℕ) (H later : List Commit) → Laws room H → TakenIn room H later →
    (first : ℕ) (others : List ℕ) → Held H first → AllHeld H others →
    (bases (H ++ later) first others ≡ bases H first others)
    × (octopus (H ++ later) first others ≡ octopus H first others)
    × ((a : Asked) → describe (H ++ later) a first ≡ describe H a first)

-- NAMES. Where dates fall and the names reached fit the candidates, describe gives a name exactly when one is reached, at the
-- number of commits between, which no other name reached undercuts
abbrev pub NearestLaw : Type 0
NearestLaw = (H : List Commit) → Lawful H → (a : Asked) (i s : ℕ) → place_of H i ≡ Some s →
    DatesFall (trimmed a H) s → NamesFit (trimmed a H) a s → Nearest (trimmed a H) a s (describe H a i)
