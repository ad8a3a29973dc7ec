-- A client with one transaction, beside the code of its program.
use Rattle.std.specs.Prelude.{◌≡◌, [], ◌∷◌}
use Rattle.flat_code.specs.Operation.{Flat}
use Rattle.protocol.specs.Client.State as protocol
use Rattle.protocol.specs.Client.State.{ClientState}
use Rattle.coordinator.specs.Execution.{Loaded}
use Rattle.coordinator.specs.Coordinator.{StandsFor}
use Rattle.coordinator.specs.declared.coordinator.Coordinator.{Coordinator}

-- the coordinator stands for a client whose one program has this code
pub record Runs (code : Flat) (s : Coordinator) : Type 0 where
  pub loaded : Loaded
  pub runs : loaded.code ≡ code
  pub rules : protocol.Rules
  pub state : ClientState
  pub stands : StandsFor (record { rules = rules; programs = loaded ∷ []; numbers = 0 ∷ [] }) state s
