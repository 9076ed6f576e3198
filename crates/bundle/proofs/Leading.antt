-- A bundle, one line after another.
use Rattle.std.proofs.Common.{◌≡◌, ℕ, true, false, List, [], ◌∷◌, Result, sym, refl, subst, inl, inr}
use Rattle.ancestry.specs.Commits.{Commit}
use Rattle.lines.specs.Bytes.{trimmed, passed, fields_of}
use Rattle.orders.specs.Lines.{line}
use Rattle.bundle.specs.Replies.{Fits}
use Rattle.bundle.specs.Runs.{Ran, counted}
use Rattle.orders.specs.declared.expected.Malformed.{Malformed}
use Rattle.answering.specs.declared.answer.Answer.{Answer}
use Rattle.bundle.specs.declared.tally.Tally.{Tally}

-- what is left to run leads where the whole leads
abbrev pub Leads : ℕ → List Commit → Tally → List (List ℕ) → List Commit → Tally → List (List ℕ) → Type 0
Leads room H t ls K s ks = (H' : List Commit) (t' : Tally) → Ran room K s ks H' t' → Ran room H t ls H' t'

pub leads_passed : (room : ℕ) (H : List Commit) (t : Tally) (ls : List (List ℕ)) (K : List Commit) (s : Tally) (all l : List (List ℕ)) (first : List ℕ) →
    all ≡ first ∷ l → passed (trimmed first) ≡ true → Leads room H t ls K s all → Leads room H t ls K s l
leads_passed room H t ls K s all l first e p leads H' t' ran =
    leads H' t' (subst (λ (ks : List (List ℕ)). Ran room K s ks H' t') (sym e) (inl (p, ran)))

pub leads_replied : (room : ℕ) (H : List Commit) (t : Tally) (ls : List (List ℕ)) (K : List Commit) (s : Tally) (all l : List (List ℕ)) (first : List ℕ)
    (r : Result Answer Malformed) (K₁ : List Commit) →
    all ≡ first ∷ l → passed (trimmed first) ≡ false → Fits room K (line (fields_of (trimmed first))) r K₁ →
    Leads room H t ls K s all → Leads room H t ls K₁ (counted r s) l
leads_replied room H t ls K s all l first r K₁ e p fits leads H' t' ran =
    leads H' t' (subst (λ (ks : List (List ℕ)). Ran room K s ks H' t') (sym e) (inr (p, (r, K₁, fits, ran))))

pub leads_over : (room : ℕ) (H : List Commit) (t : Tally) (ls : List (List ℕ)) (K : List Commit) (s : Tally) (ks : List (List ℕ)) →
    ks ≡ [] → Leads room H t ls K s ks → Ran room H t ls K s
leads_over room H t ls K s ks e leads =
    leads K s (subst (λ (js : List (List ℕ)). Ran room K s js K s) (sym e) (refl, refl))
