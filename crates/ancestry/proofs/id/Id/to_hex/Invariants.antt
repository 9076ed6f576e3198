use Rattle.std.proofs.Common.{◌≡◌, ℕ, ◌<◌, length}
use Rattle.ancestry.specs.Numbers.{digits}
use Rattle.ancestry.specs.Ids.{num}
use Rattle.ancestry.proofs.Letters.{Lettered}
use Rattle.ancestry.proofs.id.Id.to_hex.Given as goal

abbrev pub invariant-loop-i : goal.invariant-loop-i
invariant-loop-i l = (length l.text ≡ 40) × ((k : ℕ) → k < l.i → Lettered (digits 256 20 (num l.fn.self)) l.text k)
