-- A block that is done so many times.
use Rattle.std.proofs.Common.{◌≡◌, ℕ, zero, suc, ◌+◌, ◌*◌, ◌<◌, ◌≤◌, length, Option, Some, None, refl, subst, sym, ◌∙◌, ℤ, arith}
use Rattle.morty_base.specs.declared.names.Key.{Key}
use Rattle.txn_lang.specs.Tree.{Commands, Repeat}
use Rattle.txn_lang.specs.Actions.{repeated, actions, all_actions}
use Rattle.txn_lang.specs.Limits.{steps}
use Rattle.serial_runs.specs.declared.effects.Stop.{Stop}
use Rattle.serial_runs.specs.declared.execution.Execution.{Execution}
use Rattle.serial_runs.specs.Execution.{IsStep}
use Rattle.serial_runs.proofs.ExecutionLemmas.{IsLeft, begun_in, begins}

-- from the state `old` a block was done some of so many times
pub record IsRepeating {S : Type 0} (ask : S → Key → Option (ℤ × S)) (old new : Execution S) (times done : ℕ) (body : Commands) : Type 0 where
  pub rest : ℕ
  pub counted : done + rest ≡ times
  pub locals : length new.locals ≡ length old.locals
  pub begun : new.did.begun + rest * steps body ≤ old.did.begun + (1 + times * steps body)
  pub left : IsLeft ask old new (actions (Repeat times body)) (repeated rest (all_actions body))

module _ {S : Type 0} (ask : S → Key → Option (ℤ × S)) where
  pub none_done : (old at : Execution S) (times : ℕ) (body : Commands) → at ≡ begun_in old → IsRepeating ask old at times 0 body
  none_done old at times body e =
      subst (λ at. IsRepeating ask old at times 0 body) (sym e)
      record {
        rest = times;
        counted = omega arith;
        locals = refl;
        begun = omega arith;
        left = record { same = λ next. begins ask old (repeated times (all_actions body) next old.locals) };
      }

  -- where it is to be done once more
  record Once (old mid : Execution S) (times done : ℕ) (body : Commands) : Type 0 where
    further : ℕ
    counted : done + 1 + further ≡ times
    begun : mid.did.begun + (steps body + further * steps body) ≤ old.did.begun + (1 + times * steps body)
    left : IsLeft ask old mid (actions (Repeat times body)) (repeated (suc further) (all_actions body))

  once_of : (old mid : Execution S) (times done : ℕ) (body : Commands) (rest : ℕ) → done < times → done + rest ≡ times → mid.did.begun + rest * steps body ≤ old.did.begun + (1 + times * steps body) → IsLeft ask old mid (actions (Repeat times body)) (repeated rest (all_actions body)) → Once old mid times done body
  once_of old mid times done body zero lt counted begun left = absurd (omega arith)
  once_of old mid times done body (suc further) lt counted begun left =
      record { further = further; counted = omega arith; begun = omega arith; left = left }

  once : (old mid : Execution S) (times done : ℕ) (body : Commands) → done < times → IsRepeating ask old mid times done body → Once old mid times done body
  once old mid times done body lt h = once_of old mid times done body h.rest lt h.counted h.begun h.left

  pub has_room : (old mid : Execution S) (times done : ℕ) (body : Commands) → done < times → IsRepeating ask old mid times done body → mid.did.begun + steps body ≤ old.did.begun + (1 + times * steps body)
  has_room old mid times done body lt h = let o = once old mid times done body lt h in omega (arith, o.begun)

  pub one_more : (old mid new : Execution S) (times done : ℕ) (body : Commands) → done < times → IsRepeating ask old mid times done body → IsStep ask mid new (all_actions body) None → length new.locals ≡ length mid.locals → new.did.begun ≤ mid.did.begun + steps body → IsRepeating ask old new times (done + 1) body
  one_more old mid new times done body lt h step locals begun =
      let o = once old mid times done body lt h in
      record {
        rest = o.further;
        counted = o.counted;
        locals = locals ∙ h.locals;
        begun = omega (arith, o.begun);
        left = record { same = λ next. o.left.same next ∙ step (repeated o.further (all_actions body) next) };
      }

  pub stops_within : (old mid new : Execution S) (times done : ℕ) (body : Commands) (stop : Stop) → done < times → IsRepeating ask old mid times done body → IsStep ask mid new (all_actions body) (Some stop) → IsStep ask old new (actions (Repeat times body)) (Some stop)
  stops_within old mid new times done body stop lt h step =
      let o = once old mid times done body lt h in
      λ next. o.left.same next ∙ step (repeated o.further (all_actions body) next)

  pub all_done : (old new : Execution S) (times : ℕ) (body : Commands) → IsRepeating ask old new times times body → IsStep ask old new (actions (Repeat times body)) None
  all_done old new times body h =
      let none : h.rest ≡ 0 = omega (arith, h.counted) in
      let left = subst (λ n. IsLeft ask old new (actions (Repeat times body)) (repeated n (all_actions body))) none h.left in
      left.same
