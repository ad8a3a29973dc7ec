use Rattle.std.proofs.Common.{◌≡◌, ◌∷◌, true, false, ap, sym, ◌∙◌}
use Rattle.std.specs.Prelude.{is_some}
use Rattle.protocol.specs.World.Events.{enabled}
use Rattle.net_core.specs.Replay.{out_of}
use Rattle.world.specs.Origin.{plan, loads, world_at}
use Rattle.world.proofs.Taking.{can_happen, full_effect, full_still, idle_effect, idle_still, moved_by, moves_effect, stands_still}
use Rattle.world.proofs.world.World.take.Goals as goal

pub returns-then-not-can-clause-taken : goal.returns-then-not-can-clause-taken
returns-then-not-can-clause-taken c = λ o h s.
    let w = world_at o h in
    let none : is_some (enabled (plan o) w c.args.event) ≡ false =
    sym (c.can.ensures (loads o s.after.origin) w s.after.world s.whole.sound.views) ∙ c.if-not-can.true in
    let effect = idle_effect (plan o) w c.args.event none in
    (stands_still c.args.self.now o h c.args.event s (idle_still _ effect), ap out_of (sym effect))

pub returns-then-is_full-clause-taken : goal.returns-then-is_full-clause-taken
returns-then-is_full-clause-taken c = λ o h s.
    let w = world_at o h in
    let l = loads o s.after.origin in
    let some : is_some (enabled (plan o) w c.args.event) ≡ true = sym (c.can.ensures l w s.after.world s.whole.sound.views) ∙ c.if-not-can.false in
    let full = sym (c.is_full.ensures l w s.after.world) ∙ c.if-is_full.true in
    let effect = full_effect (plan o) w c.args.event some full in
    (stands_still c.args.self.now o h c.args.event s (full_still _ effect), ap out_of (sym effect))

pub happen-requires-clause-can : goal.happen-requires-clause-can
happen-requires-clause-can c =
    can_happen c.args.self.now c.args.event c.can.result (c.requires.reached c.if-self.false) c.can.ensures c.if-not-can.false

pub returns-clause-usable : goal.returns-clause-usable
returns-clause-usable c = record {
  some_node = c.requires.some_node;
  reached = λ whole.
      let r = c.requires.reached c.if-self.false in
      let some = sym (c.can.ensures (loads r.origin r.stands.after.origin) (world_at r.origin r.history) r.stands.after.world r.stands.whole.sound.views) ∙ c.if-not-can.false in
      record {
        origin = r.origin;
        history = c.args.event ∷ r.history;
        stands = moved_by c.args.self.now c.happen.new.self r.origin r.history c.args.event r.stands c.in_ok-happen.ensures some;
      };
}

pub returns-clause-taken : goal.returns-clause-taken
returns-clause-taken c = λ o h s.
    let w = world_at o h in
    let l = loads o s.after.origin in
    let some : is_some (enabled (plan o) w c.args.event) ≡ true = sym (c.can.ensures l w s.after.world s.whole.sound.views) ∙ c.if-not-can.false in
    let room = sym (c.is_full.ensures l w s.after.world) ∙ c.if-is_full.false in
    (moved_by c.args.self.now c.happen.new.self o h c.args.event s c.in_ok-happen.ensures some, ap out_of (sym (moves_effect (plan o) w c.args.event some room)))
