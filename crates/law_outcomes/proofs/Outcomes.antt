-- Every run is correct at each moment.
use Rattle.std.proofs.Common.{◌≡◌, ◌<◌, ap, ◌∙◌, subst, List, [], ◌∷◌, ◌++◌, inl, inr}
use Rattle.std.specs.Prelude.{map}
use Rattle.protocol.specs.Words.{Key, Event}
use Rattle.txn_lang.specs.Keys.{Entry, held}
use Rattle.txn_lang.specs.Program.{last_map}
use Rattle.report.specs.declared.rows.ValueRow.{ValueRow}
use Rattle.protocol.specs.Lists.{IsIn}
use Rattle.protocol.specs.World.State.{World, first_world}
use Rattle.protocol.specs.World.Events.{replay_from}
use Rattle.protocol.specs.World.Decided.{Committed}
use Rattle.protocol.specs.World.Committed.{committed_executions}
use Rattle.protocol_plans.specs.Scripted.{Scripted, plan_of}
use Rattle.protocol.proofs.BasicLaws.{replays_join}
use Rattle.law_safety.proofs.AgreementLaw.{agreement}
use Rattle.law_safety.proofs.OneExecution.{one_execution}
use Rattle.law_safety.proofs.BaseOfDrop.{base_of_drop}
use Rattle.protocol_plans.specs.SerialOutcome.{first_map, programs_of, map_of, IsSerial}
use Rattle.law_serial.proofs.SerialReads.{serial_reads}
use Rattle.law_serial.proofs.DropsAreSerial.{drops_are_serial}
use Rattle.world_rows.specs.Rows.{rows_of, keys_of, sorted_keys}
use Rattle.law_outcomes.specs.Outcome.{IsCorrect, IsSettled, OutcomesAreCorrect}

-- a row of these keys has the value that the map holds
at_keys : (m : List Entry) (ks : List Key) (v : ValueRow) → IsIn v (map (λ k. record { key = k; value = held m k }) ks) → v.value ≡ held m v.key
at_keys m [] v there = absurd there
at_keys m (k ∷ ks) v (inl e) = cc
at_keys m (k ∷ ks) v (inr there) = at_keys m ks v there

values_held : (s : Scripted) (w : World) → IsSerial s (committed_executions (plan_of s) w) → (v : ValueRow) → IsIn v (rows_of s w).values →
    v.value ≡ held (last_map (first_map s.firsts) (programs_of s (committed_executions (plan_of s) w))) v.key
unfolding rows_of
values_held s w serial v there =
    at_keys (map_of (first_map s.firsts) (committed_executions (plan_of s) w)) (sorted_keys (keys_of s (committed_executions (plan_of s) w))) v there
    ∙ ap (λ (m : List Entry). held m v.key) serial.left

correct_at : (s : Scripted) → 0 < s.replicas → (events : List Event) → IsCorrect s (replay_from (plan_of s) first_world events)
correct_at s some events =
    let serial = serial_reads s some events in
    record {
      agreed = agreement (plan_of s) some events;
      once = one_execution (plan_of s) some events;
      serial = serial;
      values = values_held s (replay_from (plan_of s) first_world events) serial;
      based = drops_are_serial s some events;
    }

settled_at : (s : Scripted) → 0 < s.replicas → (events more : List Event) →
    IsSettled (replay_from (plan_of s) first_world events) (replay_from (plan_of s) first_world (events ++ more))
settled_at s some events more v bs x sent upto committed = (base_of_drop (plan_of s) some events more v bs sent).settled x upto
    (subst (λ (w : World). Committed w x) (replays_join (plan_of s) first_world events more) committed)

pub outcomes_are_correct : OutcomesAreCorrect
outcomes_are_correct s some events = record {
  correct = λ first rest split. correct_at s some first;
  settled = λ first more rest split. settled_at s some first more;
}
