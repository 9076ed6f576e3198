-- The places of parents, one after another.
use Rattle.std.proofs.Common.{◌≡◌, ℕ, ◌+◌, ◌<◌, List, [], ◌∷◌, ◌++◌, map, length, get_or, take, sym, ap, ◌∙◌}
use Rattle.std.proofs.lemmas.List.{take_more, map-append}
use Rattle.ancestry.specs.Commits.{Commit}
use Rattle.answering.specs.Answers.{place_in}
use Rattle.orders.specs.Fields.{via}
use Rattle.orders.specs.declared.parent.Parent.{Parent}

pub places_more : (H : List Commit) (ps : List Parent) (i : ℕ) (d : Parent) (xs : List ℕ) (x : ℕ) → i < length ps →
    xs ≡ map (place_in H) (map via (take i ps)) → x ≡ place_in H (via (get_or ps i d)) →
    xs ++ x ∷ [] ≡ map (place_in H) (map via (take (i + 1) ps))
places_more H ps i d xs x l e h =
    ap (λ ys. ys ++ x ∷ []) e
    ∙ ap (λ y. map (place_in H) (map via (take i ps)) ++ y ∷ []) h
    ∙ sym (map-append (place_in H) (map via (take i ps)) (via (get_or ps i d) ∷ []))
    ∙ sym (ap (map (place_in H)) (map-append via (take i ps) (get_or ps i d ∷ [])))
    ∙ sym (ap (λ qs. map (place_in H) (map via qs)) (take_more ps i d l))
