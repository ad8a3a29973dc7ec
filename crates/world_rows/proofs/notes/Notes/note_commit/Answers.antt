-- Commit of one more execution.
use Rattle.std.proofs.Common.{◌∙◌, cond, true, ap}
use Rattle.std.specs.BTreeSet.{contains}
use Rattle.world_rows.specs.Orders.{exec_cmp}
use Rattle.world_rows.specs.Notes.{is_of}
use Rattle.world_rows.proofs.OrdersLemmas.{exec_eq}
use Rattle.world_rows.proofs.notes.Notes.note_commit.Goals as goal

pub returns-in_ok-insert-clause-committed : goal.returns-in_ok-insert-clause-committed
returns-in_ok-insert-clause-committed c = λ x.
    let old = contains exec_cmp c.args.self.now.committed x in
    c.in_ok-insert.ensures.updates.0 x ∙ (ap (λ b. cond b true old) (exec_eq c.in-Some.exec x) ∙ ap (λ o. cond (is_of x o) true old) c.in-Some.ensures)
