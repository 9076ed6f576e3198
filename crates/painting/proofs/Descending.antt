-- Calls of a descent, one after another, and looks at the history between them.
use Rattle.std.proofs.Common.{◌≡◌, ℕ, ◌≤◌, List, length, MutBor, sym, refl, ap, ◌∙◌, arith}
use Rattle.history.specs.Unchanged.{Unchanged}
use Rattle.history.specs.declared.reader.Reader.{Ghosts}
use Rattle.history.proofs.Sames.{same_self, same_then}
use Rattle.painting.specs.Bits.{flags}
use Rattle.painting.specs.Descents.{Ready, Goes}
use Rattle.painting.specs.Listings.{listed, room as space}
use Rattle.painting.specs.Marks.{unmet, total}
use Rattle.painting.specs.declared.descent.Descent.{Descent}

module _ {S : Type 0} {m : Ghosts S} where
  pub goes_self : {h : S} {d : Descent} → Ready m h d → Goes m h h d d
  goes_self r = record { same = same_self _ r.still; held = refl; low = refl; fewer = omega arith; ready = r }

  pub goes_then : {h h₁ h₂ : S} {d d₁ d₂ : Descent} → Goes m h h₁ d d₁ → Goes m h₁ h₂ d₁ d₂ → Goes m h h₂ d d₂
  goes_then a b = record { same = same_then a.same b.same; held = b.held ∙ a.held; low = b.low ∙ a.low; fewer = omega (arith, a.fewer, b.fewer); ready = b.ready }

  pub goes_looked : {h h₁ h₂ : S} {d d₁ : Descent} → Goes m h h₁ d d₁ → Unchanged m h₁ h₂ → Goes m h h₂ d d₁
  goes_looked a s = record {
    same = same_then a.same s;
    held = a.held;
    low = a.low;
    fewer = a.fewer;
    ready = record { still = s.still; size = a.ready.size ∙ sym (ap length s.list); fits = a.ready.fits };
  }

  -- a shorter stack in the same slots
  pub goes_shorter : {h : S} {d d₁ : Descent} → Ready m h d → d₁.marks ≡ d.marks → d₁.low ≡ d.low → space d₁.stack.now ≡ space d.stack.now → length (listed d₁.stack.now) ≤ length (listed d.stack.now) → Goes m h h d d₁
  goes_shorter {d = d} {d₁} r m l s f =
      let u : total unmet (flags d₁.marks.now) ≡ total unmet (flags d.marks.now) = ap (λ (x : MutBor (List ℕ)). total unmet (flags x.now)) m in
      record {
        same = same_self _ r.still;
        held = ap (λ (x : MutBor (List ℕ)). x.ghost_name) m;
        low = l;
        fewer = omega (arith, f, u);
        ready = record { still = r.still; size = ap (λ (x : MutBor (List ℕ)). length x.now) m ∙ r.size; fits = omega (arith, f, u, s, r.fits) };
      }
