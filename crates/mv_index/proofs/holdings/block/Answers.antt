use Rattle.std.proofs.Common.{◌∙◌, cond, None, ap, sym, ◌&&◌, arith}
use Rattle.std.proofs.lemmas.Bool.Decides.{nat_tests}
use Rattle.protocol.specs.Words.{same_exec}
use Rattle.mv_index.specs.WriteIndex.{held_at}
use Rattle.protocol.specs.Replica.Votes.{writes_key}
use Rattle.mv_index.specs.PutTable.{put_of}
use Rattle.mv_index.proofs.AbandonTurn.{block_erased, block_kept, block_none}
use Rattle.mv_index.proofs.holdings.block.Goals as goal

pub returns-in-None : goal.returns-in-None
returns-in-None c = λ h s k x. block_none h k x c.args.exec _ (sym (c.in-None.ensures ∙ s.puts_are c.args.exec.ver)) (s.held_are k x)

pub returns-then-put-exec : goal.returns-then-put-exec
returns-then-put-exec c = λ h s k x.
    block_erased h k x c.args.exec (put_of c.in-Some.put.now) _ _ (sym (c.in-Some.ensures ∙ s.puts_are c.args.exec.ver)) (grind
    (arith, nat_tests)) (s.held_are k x)
    (c.erase.ensures k x ∙ ap (λ ws. cond (same_exec x c.in-Some.put.now.exec && writes_key k ws) None (held_at c.args.unsure.now k x)) c.as_slice.ensures)

pub returns-else-put-exec : goal.returns-else-put-exec
returns-else-put-exec c = λ h s k x.
    block_kept h k x c.args.exec (put_of c.in-Some.put.now) _ (sym (c.in-Some.ensures ∙ s.puts_are c.args.exec.ver)) (grind (arith, nat_tests)) (s.held_are k x)
