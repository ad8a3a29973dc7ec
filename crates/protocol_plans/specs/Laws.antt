-- What a plan that is made of programs has.
use Rattle.std.specs.Prelude.{ℕ}
use Rattle.std.specs.List.{slice_get}
use Rattle.txn_lang.specs.Program.{Program}
use Rattle.protocol.specs.Client.State.{walk_at}
use Rattle.protocol.specs.World.State.{rules}
use Rattle.protocol.specs.World.Premises.{IsProgramWalk, WritesGrow, HasPrograms, MeetsPremises}
use Rattle.protocol_plans.specs.Scripted.{program_walk, Scripted, plan_of}
use Rattle.protocol_plans.specs.Limits.{IsScript}

-- each program asks for its reads one after another, and makes its writes so
abbrev pub ProgramsWalk : Type 0
ProgramsWalk = (p : Program) → IsProgramWalk (program_walk p) × WritesGrow (program_walk p)

-- so does each transaction of a script's plan
abbrev pub PlansHavePrograms : Type 0
PlansHavePrograms = (s : Scripted) → HasPrograms (plan_of s) × ((c n : ℕ) → WritesGrow (walk_at (slice_get (rules (plan_of s) c).txns n)))

-- the plan of a script within its limits has it
abbrev pub ScriptsMeetPremises : Type 0
ScriptsMeetPremises = (s : Scripted) → IsScript s → MeetsPremises (plan_of s)
