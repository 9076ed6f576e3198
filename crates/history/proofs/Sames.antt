-- Calls that grow nothing, one after another.
use Rattle.std.proofs.Common.{ℕ, List, refl, ◌∙◌}
use Rattle.ancestry.specs.Commits.{Commit}
use Rattle.history.specs.Meaning.{Same}

module _ {S : Type 0} {whole : S → Type 0} {commits : S → List Commit} {room : S → ℕ} where
  pub same_self : (a : S) → whole a → Same whole commits room a a
  same_self a w = record { still = w; list = refl; capacity = refl }

  pub same_then : {a b c : S} → Same whole commits room a b → Same whole commits room b c → Same whole commits room a c
  same_then s t = record { still = t.still; list = t.list ∙ s.list; capacity = t.capacity ∙ s.capacity }
