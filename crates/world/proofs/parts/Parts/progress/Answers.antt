-- Each client tells how far it came.
use Rattle.std.proofs.Common.{◌+◌, get_or, sym, subst, ap, arith}
use Rattle.world.proofs.ProgressLemmas.{AreTold, none_told, one_more, all_told, client_there}
use Rattle.world.proofs.parts.Parts.progress.Goals as goal

pub loop-i-init : goal.loop-i-init
loop-i-init c = subst (AreTold c.args.self.now 0) (sym c.new-all.ensures) (none_told c.args.self.now)

pub progress_of-told-requires : goal.progress_of-told-requires
progress_of-told-requires c = client_there c.args.self.now c.loop-i.i c.requires (omega (arith, c.loop-i-test.true, c.client_count-count.ensures))

pub loop-i-preserved : goal.loop-i-preserved
loop-i-preserved c =
    let p = c.args.self.now in
    let i = c.loop-i.i in
    subst (AreTold p (i + 1)) (sym c.in_ok-push.ensures.ok)
    (one_more p i _ 0 c.loop-i.all c.progress_of-told.result (omega (arith, c.loop-i-test.true, c.client_count-count.ensures))
    (ap (λ xs. get_or xs i 0) c.as_slice-txns.ensures) c.loop-i.invariant c.progress_of-told.ensures)

pub returns : goal.returns
returns c = record {
  few = omega (arith, c.loop-i.invariant.count, c.loop-i.auto.i-end, c.client_count-count.type_inv);
  told =
      all_told c.args.self.now c.loop-i.i c.loop-i.all c.loop-i.invariant
      (omega (arith, c.loop-i-test.false, c.loop-i.auto.i-end, c.client_count-count.ensures));
}
