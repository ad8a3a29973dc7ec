-- A node that is there stands in its slot.
use Rattle.std.proofs.Common.{◌≡◌, ◌-◌, Some, ap, sym, ◌∙◌, arith}
use Rattle.protocol.specs.Words.{NodeId}
use Rattle.menus.specs.Slots.{Counts}
use Rattle.menus.proofs.SlotsLemmas.{client_in, replica_in, warden_in}
use Rattle.menus.proofs.slots.Slots.slot.Goals as goal

pub returns-in-Client-clause-found : goal.returns-in-Client-clause-found
returns-in-Client-clause-found c =
    let clients : c.self.inside.clients ≡ c.args.self.now.clients = ap (λ (v : Counts). v.clients) c.self.view_is in
    client_in c.args.self.now (c.in-Client.n - 1) c.in-Client.n (omega (arith, c.if-n-ge1.true, c.if-n-self.true)) (omega (arith, c.if-n-ge1.true))
    ∙ ap (λ (n : NodeId). Some n) (sym c.in-Client.is)

pub returns-in-Replica-clause-found : goal.returns-in-Replica-clause-found
returns-in-Replica-clause-found c =
    let clients : c.self.inside.clients ≡ c.args.self.now.clients = ap (λ (v : Counts). v.clients) c.self.view_is in
    let replicas : c.self.inside.replicas ≡ c.args.self.now.replicas = ap (λ (v : Counts). v.replicas) c.self.view_is in
    replica_in c.args.self.now _ (c.in-Replica.n - 1) c.in-Replica.n (omega arith) (omega (arith, c.if-n-ge1-2.true))
    (omega (arith, c.if-n-ge1-2.true, c.if-n-self-2.true))
    ∙ ap (λ (n : NodeId). Some n) (sym c.in-Replica.is)

pub returns-in-Warden-clause-found : goal.returns-in-Warden-clause-found
returns-in-Warden-clause-found c =
    let clients : c.self.inside.clients ≡ c.args.self.now.clients = ap (λ (v : Counts). v.clients) c.self.view_is in
    let replicas : c.self.inside.replicas ≡ c.args.self.now.replicas = ap (λ (v : Counts). v.replicas) c.self.view_is in
    let wardens : c.self.inside.wardens ≡ c.args.self.now.wardens = ap (λ (v : Counts). v.wardens) c.self.view_is in
    warden_in c.args.self.now _ (c.in-Warden.n - 1) c.in-Warden.n (omega arith) (omega (arith, c.if-n-ge1-3.true))
    (omega (arith, c.if-n-ge1-3.true, c.if-n-self-3.true))
    ∙ ap (λ (n : NodeId). Some n) (sym c.in-Warden.is)
