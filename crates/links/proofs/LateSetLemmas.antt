-- The set tells which late envelope stands first.
use Rattle.std.proofs.Common.{◌≡◌, ◌∙◌, sym, ap, refl, ℕ, cond, Some, List, [], ◌∷◌}
use Rattle.std.specs.Prelude.{◌||◌, find}
use Rattle.net_core.specs.SeededRule.{is_among}
use Rattle.links.specs.Drawings.{drawing, is_late_in}
use Rattle.links.specs.LateSet.{HasAll}
use Rattle.links.specs.declared.drawing.Draws.{Draws}
use Rattle.links.specs.declared.late_set.LateSet.{LateSet}
use Rattle.links.proofs.LateLemmas.{among_both}

-- the set finds the late envelope that stands first
pub first_same : (before : List ℕ) (s : LateSet) (d : Draws) (fresh : List ℕ) → HasAll before s →
    find (is_late_in s d) fresh ≡ find (is_among (drawing before d).late) fresh
first_same before s d [] all = refl
first_same before s d (i ∷ fresh) all =
    ap (λ t. cond t (Some i) (find (is_late_in s d) fresh)) (ap (λ b. b || is_among d.late i) (all i) ∙ sym (among_both before d.late i))
    ∙ ap (λ o. cond (is_among (drawing before d).late i) (Some i) o) (first_same before s d fresh all)
