-- Calls of a painter, one after another, and looks at the history between them.
use Rattle.std.proofs.Common.{length, sym, refl, ap, ◌∙◌}
use Rattle.history.specs.Unchanged.{Unchanged}
use Rattle.history.specs.declared.reader.Reader.{Ghosts}
use Rattle.history.proofs.Sames.{same_self, same_then}
use Rattle.painting.specs.Painters.{Ready, Goes}
use Rattle.painting.specs.declared.painter.Painter.{Painter}

module _ {S : Type 0} {m : Ghosts S} where
  pub ready_looked : {h h₁ : S} {p : Painter} → Ready m h p → Unchanged m h h₁ → Ready m h₁ p
  ready_looked r s = record { still = s.still; size = r.size ∙ sym (ap length s.list); kept = r.kept }

  pub goes_self : {h : S} {p : Painter} → Ready m h p → Goes m h h p p
  goes_self r = record { same = same_self _ r.still; held = refl; ready = r }

  pub goes_then : {h h₁ h₂ : S} {p p₁ p₂ : Painter} → Goes m h h₁ p p₁ → Goes m h₁ h₂ p₁ p₂ → Goes m h h₂ p p₂
  goes_then a b = record { same = same_then a.same b.same; held = b.held ∙ a.held; ready = b.ready }

  pub goes_looked : {h h₁ h₂ : S} {p p₁ : Painter} → Goes m h h₁ p p₁ → Unchanged m h₁ h₂ → Goes m h h₂ p p₁
  goes_looked a s = record { same = same_then a.same s; held = a.held; ready = ready_looked a.ready s }
