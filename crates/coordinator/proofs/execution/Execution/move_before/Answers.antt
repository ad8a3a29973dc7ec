-- One more read takes its next label.
use Rattle.std.proofs.Common.{◌∙◌, sym, arith}
use Rattle.coordinator.proofs.MovingLemmas.{as_many, one_moved}
use Rattle.coordinator.proofs.execution.Execution.move_before.Goals as goal

pub move_at-requires : goal.move_at-requires
move_at-requires c = λ whole.
    let was = sym (c.loop-i.invariant.broken) ∙ whole in
    let n = as_many c.args.self.now c.loop-i.self c.loop-i.i (c.loop-i.invariant.log was) in
    omega (arith, n, c.requires was)

pub loop-i-preserved : goal.loop-i-preserved
loop-i-preserved c = record {
  stands = λ o s. c.move_at.ensures.stands o (c.loop-i.invariant.stands o s);
  broken = c.move_at.ensures.broken ∙ c.loop-i.invariant.broken;
  log = λ whole.
      let is = c.loop-i.invariant.log whole in
      one_moved c.args.self.now c.loop-i.self c.move_at.new.self c.loop-i.i is (c.move_at.ensures.log (c.loop-i.invariant.broken ∙ whole));
}
