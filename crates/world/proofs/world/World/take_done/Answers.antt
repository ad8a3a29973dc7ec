use Rattle.std.proofs.Common.{◌≡◌, ◌∷◌, true, false, Some, refl, ap, sym, ◌∙◌}
use Rattle.protocol.specs.Words.{Ran}
use Rattle.protocol.proofs.TestLemmas.{true_false}
use Rattle.continuation.specs.declared.segment.Job.{Job}
use Rattle.net_core.specs.Machine.{Moves, Refused}
use Rattle.world.specs.Origin.{plan, loads, world_at}
use Rattle.world.proofs.Giving.{done_can, due_job, ran_can, taken}
use Rattle.world.proofs.Taking.{full_effect, full_still, moved_by, moves_effect, stands_still}
use Rattle.world.proofs.world.World.take_done.Goals as goal

pub returns-then-not-is_pending-clause-given : goal.returns-then-not-is_pending-clause-given
returns-then-not-is_pending-clause-given c = λ o h s. (
  λ j due of.
      let d = c.args.done.now in
      let job = due_job c.args.self.now o h s c.args.client d j due ∙ ap (λ (k : Job). Some k) (sym of.0 ∙ sym c.job.ensures) in
      let tells = c.is_pending.ensures.pending (loads o s.after.origin) (world_at o h) s.after.world in
      true_false (sym (tells.1 (due.live, job)) ∙ c.if-not-is_pending.true),
  s,
)

pub returns-then-is_full-clause-given : goal.returns-then-is_full-clause-given
returns-then-is_full-clause-given c = λ o h s.
    let k = c.args.self.now in
    let w = world_at o h in
    let l = loads o s.after.origin in
    let tells = (c.is_pending.ensures.pending l w s.after.world).0 c.if-not-is_pending.false in
    let job = tells.1 ∙ ap (λ (j : Job). Some j) c.job.ensures in
    let some = ran_can l w k.parts c.args.client c.args.done.now.job s.after.world tells.0 job in
    let full = sym (c.is_full.ensures l w s.after.world) ∙ c.if-is_full.true in
    let effect = full_effect (plan o) w (Ran c.args.client) some full in
    (c.args.client, taken k o h s c.args.client c.args.done.now Refused tells.0 job c.requires.code effect, stands_still k o h (Ran c.args.client) s (full_still _ effect))

pub give-requires-clause-can : goal.give-requires-clause-can
give-requires-clause-can c =
    let r = c.requires.usable.reached c.if-self.false in
    let tells = (c.is_pending.ensures.pending (loads r.origin r.stands.after.origin) (world_at r.origin r.history) r.stands.after.world).0 c.if-not-is_pending.false in
    done_can c.args.self.now c.args.client c.args.done.now.job r tells.0 (tells.1 ∙ ap (λ (j : Job). Some j) c.job.ensures)

pub returns-clause-usable : goal.returns-clause-usable
returns-clause-usable c = record {
  some_node = c.requires.usable.some_node;
  reached = λ whole.
      let k = c.args.self.now in
      let r = c.requires.usable.reached c.if-self.false in
      let l = loads r.origin r.stands.after.origin in
      let w = world_at r.origin r.history in
      let tells = (c.is_pending.ensures.pending l w r.stands.after.world).0 c.if-not-is_pending.false in
      let some = ran_can l w k.parts c.args.client c.args.done.now.job r.stands.after.world tells.0 (tells.1 ∙ ap (λ (j : Job). Some j) c.job.ensures) in
      record {
        origin = r.origin;
        history = Ran c.args.client ∷ r.history;
        stands = moved_by k c.give.new.self r.origin r.history (Ran c.args.client) r.stands c.in_ok-give.ensures some;
      };
}

pub returns-clause-given : goal.returns-clause-given
returns-clause-given c = λ o h s.
    let k = c.args.self.now in
    let w = world_at o h in
    let l = loads o s.after.origin in
    let tells = (c.is_pending.ensures.pending l w s.after.world).0 c.if-not-is_pending.false in
    let job = tells.1 ∙ ap (λ (j : Job). Some j) c.job.ensures in
    let some = ran_can l w k.parts c.args.client c.args.done.now.job s.after.world tells.0 job in
    let room = sym (c.is_full.ensures l w s.after.world) ∙ c.if-is_full.false in
    let effect = moves_effect (plan o) w (Ran c.args.client) some room in
    (c.args.client, taken k o h s c.args.client c.args.done.now Moves tells.0 job c.requires.code effect, moved_by k c.give.new.self o h (Ran c.args.client) s c.in_ok-give.ensures some)
