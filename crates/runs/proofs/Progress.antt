-- A run as far as it has gone.
use Rattle.std.proofs.Common.{◌≡◌, ℕ, ◌+◌, false, Ok, Err, Result, List, [], ◌∷◌, ◌++◌, map, take, sym, refl, ap, ◌∙◌, subst}
use Rattle.std.specs.Prelude.{OnOk}
use Rattle.std.specs.Result.{is_err}
use Rattle.std.proofs.lemmas.List.{map-append}
use Rattle.ancestry.specs.Commits.{Commit}
use Rattle.ancestry.specs.Asking.{Space}
use Rattle.history.specs.declared.reader.Reader.{Ghosts}
use Rattle.runs.specs.Runs as run
use Rattle.runs.specs.Runs.{Ran, Right, gained}
use Rattle.runs.specs.Calls.{event_of, call_of, story}
use Rattle.runs.specs.declared.call.Call.{Call}
use Rattle.runs.specs.declared.call.Event.{Event}
use Rattle.runs.proofs.Steps.{none_law, more_law}

-- these are the events of a run from one value of a history to another
pub record Went {S : Type 0} (g : Ghosts S) (h : S) (s : Space) (es : List Event) (h' : S) : Type 0 where
  pub whole : g.whole h'
  pub room : g.room h' ≡ g.room h
  pub ran : Ran (story g h s es h')

module _ {S : Type 0} (g : Ghosts S) (h : S) (s : Space) where
  pub went_none : g.whole h → Went g h s [] h
  went_none w = record { whole = w; room = refl; ran = none_law (g.room h) (g.commits h) }

  pub went_more : (es : List Event) (h1 h2 : S) (s' : Space) (e : Event) → Went g h s es h1 → s' ≡ s
      → g.whole h2 → g.room h2 ≡ g.room h1 → g.commits h2 ≡ g.commits h1 ++ gained (event_of s' e) → Right (g.room h1) (g.commits h1) (event_of s' e)
      → Went g h s (es ++ e ∷ []) h2
  went_more es h1 h2 s' e R k w m l x = record {
    whole = w;
    room = m ∙ R.room;
    ran = subst (λ (fs : List run.Event). Ran (record { room = g.room h; start = g.commits h; events = fs; end = g.commits h2 })) (sym (map-append (event_of s) es (e ∷ [])))
        (subst (λ (H : List Commit). Ran (record { room = g.room h; start = g.commits h; events = map (event_of s) es ++ event_of s e ∷ []; end = H })) (sym (l ∙ ap (λ (z : Space). g.commits h1 ++ gained (event_of z e)) k))
        (more_law (story g h s es h1) (event_of s e) R.ran (subst (λ (z : Space). Right (g.room h) (g.commits h1) (event_of z e)) k (subst (λ (n : ℕ). Right n (g.commits h1) (event_of s' e)) R.room x))));
  }

  pub went_same : (es : List Event) (h1 h2 : S) → Went g h s es h1 → g.whole h2 → g.room h2 ≡ g.room h1 → g.commits h2 ≡ g.commits h1 → Went g h s es h2
  went_same es h1 h2 R w m l = record {
    whole = w;
    room = m ∙ R.room;
    ran = subst (λ (H : List Commit). Ran (record { room = g.room h; start = g.commits h; events = map (event_of s) es; end = H })) (sym l) R.ran;
  }

-- one call more
pub calls_more : (calls : List Call) (i : ℕ) (es : List Event) (e : Event) → map call_of es ≡ take i calls → take (i + 1) calls ≡ take i calls ++ call_of e ∷ [] → map call_of (es ++ e ∷ []) ≡ take (i + 1) calls
calls_more calls i es e m t = map-append call_of es (e ∷ []) ∙ ap (λ (cs : List Call). cs ++ call_of e ∷ []) m ∙ sym t

-- what holds where a result is fine, of one that has not failed
pub not_failed : {A E P : Type 0} (r : Result A E) → is_err r ≡ false → OnOk r P → P
not_failed (Ok a) e p = p
not_failed (Err x) e p = absurd (cc e)
