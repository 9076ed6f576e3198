-- The calls and events of the code, as a run has them.
use Rattle.std.specs.Prelude.{ℕ, List, map, Some, None, Ok, Err, Option, Result, Vec, vec_items}
use Rattle.std.specs.declared.alloc.Global.{Global}
use Rattle.ancestry.specs.Asking.{Space, numbered}
use Rattle.ancestry.specs.Ids.{num, nums}
use Rattle.ancestry.specs.declared.id.Id.{Id}
use Rattle.ancestry.specs.declared.refusal.Refusal.{Refusal}
use Rattle.history.specs.Meaning.{offered}
use Rattle.history.specs.declared.reader.Entry.{Entry}
use Rattle.history.specs.declared.reader.Reader.{Ghosts}
use Rattle.runs.specs.Runs as run
use Rattle.runs.specs.Runs.{Told}
use Rattle.runs.specs.declared.call.Call.{Call}
use Rattle.runs.specs.declared.call.Call.TheVariants as call
use Rattle.runs.specs.declared.call.Event.{Event}
use Rattle.runs.specs.declared.running.Stopped.{Stopped}
use Rattle.runs.specs.declared.call.Event.TheVariants.{Intake, Count, Capacity, Find, Read, Parent, MergeBase, Octopus}

abbrev pub told_of : Option Entry → Option Told
told_of None = None
told_of (Some e) = Some (record { id = num e.id; generation = e.generation; date = e.date; parents = e.parents })

abbrev pub bases_of : Result (Vec Id Global) Refusal → Result (List ℕ) Refusal
bases_of (Ok v) = Ok (nums (vec_items v))
bases_of (Err f) = Err f

-- what happened, where so much is lent to each question
abbrev pub event_of : Space → Event → run.Event
event_of s (Intake c r) = run.intake (offered c) r
event_of s (Count n) = run.count n
event_of s (Capacity n) = run.capacity n
event_of s (Find i r) = run.find (num i) r
event_of s (Read p r) = run.read p (told_of r)
event_of s (Parent p n r) = run.parent p n r
event_of s (MergeBase f is r) = run.merge_base (num f) (nums is.now) s (bases_of r)
event_of s (Octopus f is r) = run.octopus_base (num f) (nums is.now) s (numbered r)

-- the call of an event
abbrev pub call_of : Event → Call
call_of (Intake c r) = call.Intake c
call_of (Count n) = call.Count
call_of (Capacity n) = call.Capacity
call_of (Find i r) = call.Find i
call_of (Read p r) = call.Read p
call_of (Parent p n r) = call.Parent p n
call_of (MergeBase f is r) = call.MergeBase f is
call_of (Octopus f is r) = call.Octopus f is

-- the events of a run, also where it was ended
abbrev pub made : Result (Vec Event Global) Stopped → List Event
made (Ok v) = vec_items v
made (Err s) = vec_items s.events

-- the run that leads a history from one value to another
abbrev pub story : {S : Type 0} → Ghosts S → S → Space → List Event → S → run.Run
story h before s es after = record { room = h.room before; start = h.commits before; events = map (event_of s) es; end = h.commits after }
