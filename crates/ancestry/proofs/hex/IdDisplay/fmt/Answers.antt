use Rattle.std.proofs.Common.{sym, subst, refl, ℕ, List, Result, Ok, Err}
use Rattle.std.specs.Result.{MatchResult, IsOk}
use Rattle.std.specs.Str.{IsUtf8}
use Rattle.ancestry.proofs.Letters.{hex-is_text}
use Rattle.ancestry.proofs.hex.IdDisplay.fmt.Goals as goal

-- what is a text is read as one
read_as_text : {T E : Type 0} (U : Type 0) (P : T → Type 0) (Q : E → Type 0) (r : Result T E) → U → MatchResult r P (λ e. (U → ⊥) × Q e) → IsOk r
read_as_text U P Q (Ok x) u m = refl
read_as_text U P Q (Err e) u m = absurd (m.0 u)

pub unwrap-requires : goal.unwrap-requires
unwrap-requires g c =
    let text : IsUtf8 c.to_hex-letters.result = subst (λ (t : List ℕ). IsUtf8 t) (sym c.to_hex-letters.ensures.letters) (hex-is_text _) in
    read_as_text (IsUtf8 c.to_hex-letters.result) _ _ c.from_utf8.result text c.from_utf8.ensures.cases
