-- One more Prepare.
use Rattle.std.proofs.Common.{◌∙◌, cond, Some, ap}
use Rattle.std.specs.BTreeMap.{get}
use Rattle.world_rows.specs.Orders.{exec_cmp}
use Rattle.world_rows.specs.Notes.{is_of}
use Rattle.world_rows.proofs.OrdersLemmas.{exec_eq}
use Rattle.world_rows.proofs.notes.Notes.note_prepare.Goals as goal

pub returns-in_ok-insert-clause-prepared : goal.returns-in_ok-insert-clause-prepared
returns-in_ok-insert-clause-prepared c = λ x.
    let old = get exec_cmp c.args.self.now.prepared x in
    c.in_ok-insert.ensures.updates.0 x
    ∙ (ap (λ b. cond b (Some c.args.number) old) (exec_eq c.in-Some.exec x) ∙ ap (λ o. cond (is_of x o) (Some c.args.number) old) c.in-Some.ensures)
