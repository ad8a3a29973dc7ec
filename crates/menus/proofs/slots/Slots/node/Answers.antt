-- The node of a slot stands there.
use Rattle.std.proofs.Common.{◌≡◌, ◌-◌, ap, arith}
use Rattle.menus.specs.Slots.{Counts}
use Rattle.menus.proofs.SlotsLemmas.{client_in, replica_in, warden_in}
use Rattle.menus.proofs.slots.Slots.node.Goals as goal

pub returns-then-slot-self : goal.returns-then-slot-self
returns-then-slot-self c =
    let clients : c.self.inside.clients ≡ c.args.self.now.clients = ap (λ (v : Counts). v.clients) c.self.view_is in
    client_in c.args.self.now c.args.slot _ (omega (arith, c.if-slot-self.true)) (omega arith)

pub returns-then-other-self : goal.returns-then-other-self
returns-then-other-self c =
    let clients : c.self.inside.clients ≡ c.args.self.now.clients = ap (λ (v : Counts). v.clients) c.self.view_is in
    let replicas : c.self.inside.replicas ≡ c.args.self.now.replicas = ap (λ (v : Counts). v.replicas) c.self.view_is in
    replica_in c.args.self.now c.args.slot (c.args.slot - c.self.inside.clients) _ (omega (arith, c.if-slot-self.false)) (omega arith)
    (omega (arith, c.if-other-self.true))

pub returns : goal.returns
returns c =
    let clients : c.self.inside.clients ≡ c.args.self.now.clients = ap (λ (v : Counts). v.clients) c.self.view_is in
    let replicas : c.self.inside.replicas ≡ c.args.self.now.replicas = ap (λ (v : Counts). v.replicas) c.self.view_is in
    warden_in c.args.self.now c.args.slot (c.args.slot - c.self.inside.clients - c.self.inside.replicas) _
    (omega (arith, c.if-slot-self.false, c.if-other-self.false)) (omega arith) (omega (arith, c.requires, c.if-slot-self.false, c.if-other-self.false))
