use Rattle.std.proofs.Common.{◌∙◌, cond, Some, ap, sym}
use Rattle.std.specs.BTreeMap.{get}
use Rattle.mv_index.specs.Orders.{version_cmp}
use Rattle.mv_index.proofs.TableOrder.{version_eq, blocked_stays, blocked_more}
use Rattle.mv_index.proofs.abandon_table.AbandonTable.add.Goals as goal

pub returns-then-blocks : goal.returns-then-blocks
returns-then-blocks c = λ v n. blocked_stays v c.args.exec n (get version_cmp c.args.self.now.greatest) (sym c.if-blocks.ensures)

pub returns : goal.returns
returns c = λ v n.
    blocked_more v c.args.exec n (Some 0) _ (get version_cmp c.args.self.now.greatest)
    (c.in_ok-insert.ensures.updates.0 v ∙ ap (λ b. cond b (Some c.args.exec.eid) (get version_cmp c.args.self.now.greatest v)) (version_eq c.args.exec.ver v))
    (sym c.if-blocks.ensures)
