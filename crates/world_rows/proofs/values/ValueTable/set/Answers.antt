-- One more write.
use Rattle.std.proofs.Common.{◌≡◌, ap, ◌∙◌, cond, Some, rules, w64, to_z, of_z, ℤ}
use Rattle.std.specs.Ordering.{is_eq}
use Rattle.world_rows.specs.Orders.{key_cmp}
use Rattle.world_rows.specs.Values.{value_at}
use Rattle.world_rows.specs.declared.values.ValueTable.{ValueTable}
use Rattle.world_rows.proofs.ValuesLemmas.{written}
use Rattle.world_rows.proofs.values.ValueTable.set.Goals as goal

pub returns : goal.returns
returns c = λ m h.
    let w = c.args.write in
    let t : ValueTable = record { values = c.insert.new.self } in
    let same : to_z w64 (of_z w64 c.args.write.value) ≡ c.args.write.value = search rules in
    written m w c.args.self.now t
    (λ k. c.in_ok-insert.ensures.updates.0 k ∙ ap (λ (v : ℤ). cond (is_eq (key_cmp w.key k)) (Some v) (value_at c.args.self.now k)) same) h
