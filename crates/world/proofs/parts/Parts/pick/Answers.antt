use Rattle.std.proofs.Common.{◌≡◌, ap, sym, subst}
use Rattle.std.specs.Prelude.{IfOk, is_some}
use Rattle.protocol.specs.Words.{Picked}
use Rattle.world.specs.World.{IsTaken}
use Rattle.world.proofs.Happening.{doing, is_itself}
use Rattle.world.proofs.parts.Parts.pick.Goals as goal

pub act-requires-clause-alone : goal.act-requires-clause-alone
act-requires-clause-alone c =
    let h = c.requires in
    is_itself h.loads.plan h.world c.args.node c.args.pick (ap is_some (doing c.args.self.now (Picked c.args.node c.args.pick) h))
    (λ i e. c.in_default.not-Deliver i e) (λ e. c.in_default.not-Stop e) (λ n here e. c.in_default.not-Go e)

pub returns-in-Deliver : goal.returns-in-Deliver
returns-in-Deliver c =
    subst (λ k. IfOk c.deliver.result (IsTaken c.args.self.now (Picked c.args.node k) c.deliver.new.self)) (sym c.in-Deliver.is) c.deliver.ensures

pub returns-in-Stop : goal.returns-in-Stop
returns-in-Stop c = subst (λ k. IfOk c.stop.result (IsTaken c.args.self.now (Picked c.args.node k) c.stop.new.self)) (sym c.in-Stop.is) c.stop.ensures

pub returns-in-Go : goal.returns-in-Go
returns-in-Go c = subst (λ k. IfOk c.begin.result (IsTaken c.args.self.now (Picked c.args.node k) c.begin.new.self)) (sym c.in-Go.is) c.begin.ensures
