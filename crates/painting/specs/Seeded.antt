-- Where painting starts.
use Rattle.std.specs.Prelude.{◌≡◌, ℕ, Bool, true, false, ◌&&◌, List, [], ◌∷◌, Some, None, Option}
use Rattle.ancestry.specs.Sets.{any}
use Rattle.ancestry.specs.Commits.{Commit, place_of}
use Rattle.ancestry.specs.Reaching.{reaches, id_reaches}
use Rattle.painting.specs.Marks.{blank, mark}
use Rattle.painting.specs.declared.marks.Mark.{Mark}
use Rattle.painting.specs.declared.marks.Told.{Told}

-- what the first commit is told, and what the others are told
abbrev pub ours : Told
ours = record { first = true; others = false; stale = false }

abbrev pub theirs : Told
theirs = record { first = false; others = true; stale = false }

abbrev pub Blank : List Mark → Type 0
Blank ms = (p : ℕ) → mark ms p ≡ blank

-- a place that was found, in front of others
abbrev pub with_found : Option ℕ → List ℕ → List ℕ
with_found None ps = ps
with_found (Some p) ps = p ∷ ps

-- the places that the test finds for a list; what it finds none for is passed over
unfoldable pub places_by : {A : Type 0} → (A → Option ℕ) → List A → List ℕ
places_by f [] = []
places_by f (x ∷ xs) = with_found (f x) (places_by f xs)

-- the places of ids; those that are not held are passed over
abbrev pub places_of : List Commit → List ℕ → List ℕ
places_of H is = places_by (place_of H) is

-- one of the places reaches p
unfoldable pub reached_by : List Commit → List ℕ → ℕ → Bool
reached_by H ps p = any (λ s. reaches H s p) ps

-- reached from an id and from at least one of some places
unfoldable pub meeting : List Commit → ℕ → List ℕ → ℕ → Bool
meeting H i ps p = id_reaches H i p && reached_by H ps p
