-- A view is left for an execution that this warden has not asked about.
use Rattle.std.proofs.Common.{◌≡◌, ◌+◌, ◌*◌, ◌<◌, ◌≤◌, ◌^◌, Bool, true, false, cond, List, [], ◌∷◌, suc, nat_le, refl, ap, ◌∙◌, arith}
use Rattle.std.specs.Prelude.{IsTrue, is_none, ◌||◌, ◌&&◌}
use Rattle.std.specs.List.{list_any}
use Rattle.std.proofs.lemmas.Bool.Decides.{nat_tests}
use Rattle.protocol.specs.Words.{Exec, same_exec}
use Rattle.protocol.specs.Warden.State.{Round, WardenRules, WardenState, decision_on}
use Rattle.protocol.specs.Warden.Recovery.{next_view, used}
use Rattle.protocol.specs.Warden.Truncation.{is_recovering}
use Rattle.recovery.specs.Round.{last_view}
use Rattle.recovery.specs.Recoverer.{RecoveringWarden, can_recover}

used_none : (x : Exec) (rounds : List Round) → list_any (λ (a : Round). same_exec x a.exec) rounds ≡ false → used x rounds ≡ 0
used_none x [] e = refl
used_none x (a ∷ rounds) e = go (same_exec x a.exec) (used_none x rounds) e
  where
    go : (b : Bool) → (list_any (λ (c : Round). same_exec x c.exec) rounds ≡ false → used x rounds ≡ 0)
        → (b || list_any (λ (c : Round). same_exec x c.exec) rounds) ≡ false → cond b (suc (used x rounds)) (used x rounds) ≡ 0
    go true ih h = absurd (cc)
    go false ih h = ih h

first_view : (r : WardenRules) (s : WardenState) (x : Exec) → r.warden < 2 ^ 32 → is_recovering s x ≡ false → nat_le (next_view r s x) last_view ≡ true
unfolding next_view
first_view r s x low e =
    let none : used x s.rounds ≡ 0 = used_none x s.rounds e in
    let view : r.warden + used x s.rounds * r.wardens ≡ r.warden + 0 * r.wardens = ap (λ n. r.warden + n * r.wardens) none in
    let fits : r.warden + used x s.rounds * r.wardens ≤ last_view = omega arith in
    grind (arith, nat_tests)

pub unasked_can_recover : (w : RecoveringWarden) (x : Exec) → w.rules.warden < 2 ^ 32 → is_recovering w.state x ≡ false → is_none (decision_on w.state x) ≡ true → IsTrue (can_recover w x)
unasked_can_recover w x low e f =
    ap (λ b. b && nat_le (next_view w.rules w.state x) last_view) f ∙ first_view w.rules w.state x low e
