use Rattle.std.proofs.Common.{◌≡◌, ◌∙◌, ap, sym, cond, Some, rules, w64, to_z, of_z, ℤ}
use Rattle.protocol.specs.Words.{same_key}
use Rattle.mv_index.specs.FirstValues.{value_at}
use Rattle.mv_index.proofs.FirstValuesLemmas.{key_eq, kept_value, new_value}
use Rattle.mv_index.proofs.first_values.FirstValues.add.Goals as goal

pub returns-in_ok-insert : goal.returns-in_ok-insert
returns-in_ok-insert c = λ k.
    let f = c.args.first in
    let old = value_at c.args.self.now in
    let same : to_z w64 (of_z w64 c.args.first.value) ≡ c.args.first.value = search rules in
    new_value old _ f k (sym c.contains_key.ensures ∙ c.if-not-contains_key.true)
    (c.in_ok-insert.ensures.updates.0 k
    ∙ (ap (λ t. cond t (Some (to_z w64 (of_z w64 c.args.first.value))) (old k)) (key_eq f.key k)
    ∙ ap (λ (v : ℤ). cond (same_key k f.key) (Some v) (old k)) same))

pub returns-else-not-contains_key : goal.returns-else-not-contains_key
returns-else-not-contains_key c = λ k. kept_value (value_at c.args.self.now) c.args.first k (sym c.contains_key.ensures ∙ c.if-not-contains_key.false)
