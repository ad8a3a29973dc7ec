-- What a world is made of: a setup, and its programs with their code.
use Rattle.std.specs.Prelude.{◌≡◌, ℕ, List, map}
use Rattle.txn_lang.specs.Program.{Program}
use Rattle.flat_code.specs.Operation.{Flat}
use Rattle.coordinator.specs.Execution.{Loaded}
use Rattle.coordinator.specs.Memory.{codes_of}
use Rattle.world.specs.Clients.{Loads}
use Rattle.protocol.specs.World.State.{Plan, World}
use Rattle.protocol_plans.specs.Scripted.{Scripted, plan_of}
use Rattle.script.specs.declared.setup.Txn.{Txn}
use Rattle.script.specs.declared.setup.Setup.{Setup}
use Rattle.script.specs.Sayable.{IsSetup}
use Rattle.script_plans.specs.Plans.{scripted}
use Rattle.net_core.specs.Machine.{History}
use Rattle.world_rows.specs.Machine.{world_after}
use Rattle.world.specs.declared.origin.Origin.{Origin}

-- the programs of a setup
abbrev pub programs_in : Setup → List Program
programs_in s = map (λ p. p.prog) s.progs

-- the codes are those of the setup's programs
pub record AreCodes (s : Setup) (codes : List Flat) : Type 0 where
  pub programs : List Loaded
  pub own : map (λ l. l.program) programs ≡ programs_in s
  pub codes_are : codes ≡ codes_of programs

-- some text says the setup, and the code is that of its programs
pub record IsOrigin (o : Origin) : Type 0 where
  pub says : IsSetup o.setup
  pub codes : AreCodes o.setup o.kit

-- what the setup says to the protocol
abbrev pub script : Origin → Scripted
script o = scripted o.setup

abbrev pub plan : Origin → Plan
plan o = plan_of (scripted o.setup)

-- the numbers of the programs of each client's transactions
abbrev pub numbers_in : Setup → List (List ℕ)
numbers_in s = map (map (λ (t : Txn). t.prog)) s.clients

-- the plan with the programs
abbrev pub loads : (o : Origin) → IsOrigin o → Loads
loads o is = record { plan = plan_of (scripted o.setup); programs = is.codes.programs; numbers = numbers_in o.setup }

-- the world after a history
abbrev pub world_at : Origin → History → World
world_at o h = world_after (plan_of (scripted o.setup)) h
