-- One more write of the list.
use Rattle.std.proofs.Common.{◌<◌, length, sym, subst, List, arith}
use Rattle.txn_lang.specs.Keys.{Entry}
use Rattle.world_rows.specs.Values.{HasValues}
use Rattle.world_rows.proofs.ValuesLemmas.{writes_more}
use Rattle.world_rows.proofs.values.ValueTable.write.Goals as goal

pub loop-write-preserved : goal.loop-write-preserved
loop-write-preserved c = λ m h.
    let lt : c.loop-write.write-index < length c.args.writes.now = omega arith in
    subst (λ (es : List Entry). HasValues es c.set.new.self) (sym (writes_more c.args.writes.now c.loop-write.write-index _ m lt))
    (c.in_ok-set.ensures _ (c.loop-write.invariant m h))
