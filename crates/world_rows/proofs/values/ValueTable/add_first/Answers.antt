-- One more first value.
use Rattle.std.proofs.Common.{◌≡◌, sym, ap, ◌∙◌, cond, Some, rules, w64, to_z, of_z, ℤ}
use Rattle.std.specs.Ordering.{is_eq}
use Rattle.world_rows.specs.Orders.{key_cmp}
use Rattle.world_rows.specs.Values.{value_at}
use Rattle.world_rows.specs.declared.values.ValueTable.{ValueTable}
use Rattle.world_rows.proofs.ValuesLemmas.{first_kept, first_new}
use Rattle.world_rows.proofs.values.ValueTable.add_first.Goals as goal

pub returns-in_ok-insert : goal.returns-in_ok-insert
returns-in_ok-insert c = λ fs h.
    let f = c.args.first in
    let t : ValueTable = record { values = c.insert.new.self } in
    let same : to_z w64 (of_z w64 c.args.first.value) ≡ c.args.first.value = search rules in
    first_new fs f c.args.self.now t (sym c.contains_key.ensures ∙ c.if-not-contains_key.true)
    (λ k. c.in_ok-insert.ensures.updates.0 k ∙ ap (λ (v : ℤ). cond (is_eq (key_cmp f.key k)) (Some v) (value_at c.args.self.now k)) same) h

pub returns-else-not-contains_key : goal.returns-else-not-contains_key
returns-else-not-contains_key c = λ fs h. first_kept fs c.args.first c.args.self.now (sym c.contains_key.ensures ∙ c.if-not-contains_key.false) h
