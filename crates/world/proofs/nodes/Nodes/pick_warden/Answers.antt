-- A warden that recovers or truncates moves the world.
use Rattle.std.proofs.Common.{◌≡◌, Some, ap, sym, subst, ◌∙◌}
use Rattle.std.proofs.lemmas.Result.{on_ok_weaker}
use Rattle.protocol.specs.Words.{Warden}
use Rattle.protocol.specs.Warden.State.{WardenTurn}
use Rattle.protocol.specs.Warden.Step.{warden_step}
use Rattle.protocol.specs.Warden.Step.WardenInput.{Recovers, Truncates}
use Rattle.protocol.specs.World.Events.{pick_moves}
use Rattle.protocol.proofs.TestLemmas.{true_false}
use Rattle.world_rows.specs.Machine.{can_pick}
use Rattle.world.specs.Wardens.{AreTurned}
use Rattle.world.specs.NodeJobs.{has_is}
use Rattle.world.proofs.NodesLemmas.{turn_is, warden_does}
use Rattle.world.proofs.PickLemmas.{recovers_is, truncates_is, warden_not}
use Rattle.world.proofs.nodes.Nodes.pick_warden.Goals as goal

pub recover-requires-clause-can : goal.recover-requires-clause-can
recover-requires-clause-can c =
    let q = c.requires.can in
    let k = c.args.number in
    let x = c.in-Recover.exec in
    let there = sym (has_is q.loads q.world c.args.self.now (Warden k) q.stands) ∙ c.requires.has in (
      q.loads.plan,
      q.world.warden,
      q.stands.wardens,
      recovers_is q.loads.plan q.world k x (q.views k there x) ∙ ap (can_pick q.loads.plan q.world (Warden k)) (sym c.in-Recover.is) ∙ q.can,
    )

pub truncate-requires-clause-can : goal.truncate-requires-clause-can
truncate-requires-clause-can c =
    let q = c.requires.can in
    let k = c.args.number in (
      q.loads.plan,
      q.world.warden,
      q.stands.wardens,
      truncates_is q.loads.plan q.world k c.in-Truncate.ver ∙ ap (can_pick q.loads.plan q.world (Warden k)) (sym c.in-Truncate.is) ∙ q.can,
    )

pub unreachable-requires : goal.unreachable-requires
unreachable-requires c =
    let q = c.requires.can in
    true_false (sym (warden_not q.loads.plan q.world c.args.number c.args.pick c.in_default.not-Recover c.in_default.not-Truncate ∙ q.can))

pub returns-in-Recover : goal.returns-in-Recover
unfolding pick_moves warden_step
returns-in-Recover c = on_ok_weaker c.recover.result (λ f. λ l w v are e.
    let k = c.args.number in
    warden_does l w c.args.self.now k (Recovers c.in-Recover.exec) v c.recover.new.self c.args.out.now c.recover.new.out are
    (subst (λ x. pick_moves l.plan w (Warden k) x ≡ Some v) c.in-Recover.is e)
    (λ t step. subst (λ (u : WardenTurn). AreTurned l.plan w.warden k u c.recover.new.self c.args.out.now c.recover.new.out) (turn_is _ _ t step)
    (f l.plan w.warden are.wardens))) c.recover.ensures

pub returns-in-Truncate : goal.returns-in-Truncate
unfolding pick_moves warden_step
returns-in-Truncate c = on_ok_weaker c.truncate.result (λ f. λ l w v are e.
    let k = c.args.number in
    warden_does l w c.args.self.now k (Truncates c.in-Truncate.ver) v c.truncate.new.self c.args.out.now c.truncate.new.out are
    (subst (λ x. pick_moves l.plan w (Warden k) x ≡ Some v) c.in-Truncate.is e)
    (λ t step. subst (λ (u : WardenTurn). AreTurned l.plan w.warden k u c.truncate.new.self c.args.out.now c.truncate.new.out) (turn_is _ _ t step)
    (f l.plan w.warden are.wardens))) c.truncate.ensures
