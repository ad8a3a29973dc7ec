use Rattle.std.proofs.Common.{◌∷◌, ap, subst, ◌∙◌, w64}
use Rattle.std.proofs.lemmas.Int.{to_z-of_z}
use Rattle.txn_lang.specs.Keys.{entry, HoldTheSame}
use Rattle.txn_lang.proofs.SameMaps.{same_map}
use Rattle.serial_runs.proofs.MapLemmas.{one_written}
use Rattle.serial_runs.proofs.map.Map.with_writes.Goals as goal

pub loop-write-init : goal.loop-write-init
loop-write-init c = same_map _

pub loop-write-preserved : goal.loop-write-preserved
loop-write-preserved c =
    let key = c.write.inside.key in
    let same = ap (entry key) (to_z-of_z w64 c.write.inside.value c.write.invariant) ∙ c.write.view_is in
    let made = subst (λ e. HoldTheSame c.insert.new.self (e ∷ c.loop-write.map)) same c.in_ok-insert.ensures.ok in
    one_written c.args.writes.now c.loop-write.write-index c.write-item.result c.loop-write.map c.insert.new.self _ c.loop-write-test.true c.write-item.is made c.loop-write.invariant
