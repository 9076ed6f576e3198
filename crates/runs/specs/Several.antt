-- Runs on several histories: each call is addressed to one of them, by its number.
use Rattle.std.specs.Prelude.{◌≡◌, ℕ, ◌≤◌, List, [], ◌∷◌, length, cond, ◌==◌, Some, Ok, Err, Result, Vec, vec_items}
use Rattle.std.specs.List.{slice_get}
use Rattle.std.specs.declared.alloc.Global.{Global}
use Rattle.ancestry.specs.Asking.{Space}
use Rattle.history.specs.declared.reader.Reader.{Ghosts}
use Rattle.runs.specs.Runs.{Ran}
use Rattle.runs.specs.Promised.{Promised}
use Rattle.runs.specs.Calls.{call_of, story}
use Rattle.runs.specs.declared.call.Event.{Event}
use Rattle.runs.specs.declared.several.Addressed.{Addressed}
use Rattle.runs.specs.declared.several.Noted.{Noted}
use Rattle.runs.specs.declared.several.Halted.{Halted}
use Rattle.runs.specs.declared.several.Why.TheVariants.{NoSuchHistory}

-- every one of the histories is whole
abbrev pub AllWhole : {S : Type 0} → Ghosts S → List S → Type 0
AllWhole {S} g hs = (k : ℕ) (h : S) → slice_get hs k ≡ Some h → g.whole h

-- the call of an event, as it was addressed
abbrev pub addressed_of : Noted → Addressed
addressed_of n = record { to = n.to; call = call_of n.event }

-- what happened, also where the run was ended
abbrev pub noted : Result (Vec Noted Global) Halted → List Noted
noted (Ok v) = vec_items v
noted (Err f) = vec_items f.events

-- what happened to the history k
unfoldable pub events_at : ℕ → List Noted → List Event
events_at k [] = []
events_at k (n ∷ ns) = cond (n.to == k) (n.event ∷ events_at k ns) (events_at k ns)

-- one history, from a value to a later one
pub record Kept {S : Type 0} (g : Ghosts S) (s : Space) (before : S) (es : List Event) (after : S) : Type 0 where
  pub whole : g.whole after
  pub capacity : g.room after ≡ g.room before
  pub ran : Ran (story g before s es after)
  pub promised : Promised (story g before s es after)

-- each history ran through the calls addressed to it, and no other
abbrev pub EachRan : {S : Type 0} → Ghosts S → Space → List S → List Noted → List S → Type 0
EachRan {S} g s before ns after = (k : ℕ) (h h' : S) → slice_get before k ≡ Some h → slice_get after k ≡ Some h' → Kept g s h (events_at k ns) h'

-- for want of a history a run ends only where the next call is addressed to none
abbrev pub Halts : ℕ → List Addressed → Halted → Type 0
Halts n calls f = f.why ≡ NoSuchHistory → (a : Addressed) × (slice_get calls (length (vec_items f.events)) ≡ Some a) × (n ≤ a.to)
