use Rattle.std.proofs.Common.{◌≡◌, ap, sym, subst}
use Rattle.std.specs.Prelude.{IfOk, is_some}
use Rattle.protocol.specs.Words.{Go, Picked}
use Rattle.world.specs.World.{IsTaken}
use Rattle.world.proofs.Happening.{doing, only_clients_go}
use Rattle.world.proofs.parts.Parts.begin.Goals as goal

pub unreachable-requires : goal.unreachable-requires
unreachable-requires c =
    let h = c.requires in
    let client = only_clients_go h.loads.plan h.world c.args.node (ap is_some (doing c.args.self.now (Picked c.args.node Go) h)) in
    c.in_default.not-Client client.0 client.1

pub returns : goal.returns
returns c = subst (λ n. IfOk c.go.result (IsTaken c.args.self.now (Picked n Go) c.go.new.self)) (sym c.in-Client.is) c.go.ensures
