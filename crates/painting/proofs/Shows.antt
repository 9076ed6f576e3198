-- What a history's answer says of a place that is there.
use Rattle.std.proofs.Common.{◌≡◌, ℕ, ◌<◌, true, List, length, is_some, Some, None, Option, refl, subst, arith}
use Rattle.ancestry.specs.Commits.{Commit}
use Rattle.history.specs.Meaning.{Reads, Tells}
use Rattle.history.specs.declared.reader.Entry.{Entry}

pub entered : (H : List Commit) (p : ℕ) (o : Option Entry) (e : Entry) → Reads H p o → o ≡ Some e → Tells H p e
entered H p o e s q = subst (Reads H p) q s

pub shown : (H : List Commit) (p : ℕ) (o : Option Entry) → Reads H p o → p < length H → is_some o ≡ true
shown H p None s l = absurd (omega arith)
shown H p (Some e) s l = refl
