-- What is lent of owned memory, and what comes back.
use Rattle.std.proofs.Common.{◌≡◌, ℕ, List, Result, sym, subst}
use Rattle.ancestry.specs.Asking.{space_of, Listed}
use Rattle.ancestry.specs.declared.id.Id.{Id}
use Rattle.ancestry.specs.declared.refusal.Refusal.{Refusal}

pub space_same : (a b c d a' b' c' d' : ℕ) → a ≡ a' → b ≡ b' → c ≡ c' → d ≡ d' → space_of a b c d ≡ space_of a' b' c' d'
space_same a b c d a' b' c' d' p q r s = cc

pub listed_same : (list : List ℕ) (before before' : List Id) (r : Result ℕ Refusal) (after after' : List Id) → before ≡ before' → after' ≡ after → Listed list before r after → Listed list before' r after'
listed_same list before before' r after after' b a h = subst (λ (x : List Id). Listed list x r after') b (subst (λ (x : List Id). Listed list before r x) (sym a) h)
