-- So far all are decided.
use Rattle.std.proofs.Common.{◌≡◌, true, take}
use Rattle.std.specs.Prelude.{is_some}
use Rattle.std.specs.List.{list_all}
use Rattle.protocol.specs.Warden.State.{decision_on}
use Rattle.truncation.proofs.truncation.are_decided.Given as goal

abbrev pub invariant-loop-x : goal.invariant-loop-x
invariant-loop-x l = list_all (λ x. is_some (decision_on l.rec.state x)) (take l.x-index l.named) ≡ true
