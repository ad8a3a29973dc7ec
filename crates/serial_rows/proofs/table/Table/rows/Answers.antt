use Rattle.std.proofs.Common.{◌≡◌, ◌∙◌, ap, map, rules}
use Rattle.std.specs.Map.Iter.{deref}
use Rattle.std.proofs.lemmas.Map.Iter.{iter_end}
use Rattle.serial_rows.proofs.TableLemmas.{value_row, are_values}
use Rattle.serial_rows.proofs.table.Table.rows.Goals as goal

pub returns : goal.returns
returns c = λ m is.
    let cells = c.args.self.now.cells in
    let keys = c.args.self.now.keys in
    let all : map deref c.loop-key.yielded ≡ keys.keys = search (rules, iter_end) in
    are_values m cells keys c.loop-key.rows is.same is.keys c.iter-key-items.ensures.ordered (c.loop-key.invariant ∙ ap (map (value_row cells)) all)
