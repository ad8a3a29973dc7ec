-- Setups within the limits of scripts say scripts within those of the protocol.
use Rattle.script.specs.declared.setup.Setup.{Setup}
use Rattle.script.specs.Sayable.{IsSetup}
use Rattle.protocol_plans.specs.Limits.{IsScript}
use Rattle.script_plans.specs.Plans.{scripted}

-- what a setup that some text says tells the protocol keeps the limits that its laws ask
abbrev pub SetupsAreScripts : Type 0
SetupsAreScripts = (s : Setup) → IsSetup s → IsScript (scripted s)
