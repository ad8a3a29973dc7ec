use Rattle.std.proofs.Common.{sym, subst}
use Rattle.std.specs.Prelude.{IfOk}
use Rattle.world.specs.World.{IsTaken}
use Rattle.world.proofs.parts.Parts.take.Goals as goal

pub returns-in-Ran : goal.returns-in-Ran
returns-in-Ran c = subst (λ e. IfOk c.run.result (IsTaken c.args.self.now e c.run.new.self)) (sym c.in-Ran.is) c.run.ensures

pub returns-in-Picked : goal.returns-in-Picked
returns-in-Picked c = subst (λ e. IfOk c.pick.result (IsTaken c.args.self.now e c.pick.new.self)) (sym c.in-Picked.is) c.pick.ensures
