-- The rows are those of the entries, which rise by key.
use Rattle.std.proofs.Common.{◌≡◌, ◌∙◌, ◌++◌, sym, subst, append-nil}
use Rattle.std.specs.Prelude.{map}
use Rattle.world_rows.proofs.SortedKeys.{shown, value_rows_are}
use Rattle.world_rows.proofs.values.ValueTable.rows.Goals as goal

pub returns : goal.returns
returns c = λ m ks h has.
    let t = c.args.self.now in
    let rows = c.loop-key.rows in
    let all = subst (λ r. rows ++ map shown r ≡ map shown t.values.entries) c.in-None.ensures.steps.0 c.loop-key.invariant.1 in
    (sym (append-nil rows) ∙ all) ∙ value_rows_are m ks t h has c.loop-key.invariant.0
