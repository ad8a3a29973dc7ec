use Rattle.std.proofs.Common.{take, subst}
use Rattle.std.proofs.lemmas.List.{take_all}
use Rattle.txn_lang.specs.Keys.{after_writes}
use Rattle.serial_rows.specs.Keys.{AreKeys}
use Rattle.serial_rows.proofs.KeyLemmas.{one_more_written}
use Rattle.serial_rows.proofs.keys.add_keys.Goals as goal

pub loop-write-preserved : goal.loop-write-preserved
loop-write-preserved c = λ m are.
    let ws = c.args.writes.now in
    let i = c.loop-write.write-index in
    subst (λ l. AreKeys l c.add_key.new.keys) (one_more_written ws m i c.write-item.result c.loop-write-test.true c.write-item.is)
    (c.in_ok-add_key.ensures (after_writes (take i ws) m) (c.loop-write.invariant m are))

pub returns : goal.returns
returns c = λ m are.
    let ws = c.args.writes.now in
    let i = c.loop-write.write-index in
    subst (λ l. AreKeys (after_writes l m) c.loop-write.keys) (take_all i ws c.loop-write-test.false) (c.loop-write.invariant m are)
