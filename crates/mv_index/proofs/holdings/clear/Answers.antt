use Rattle.std.proofs.Common.{◌∙◌, cond, None, ap, sym, ◌&&◌}
use Rattle.protocol.specs.Words.{same_exec}
use Rattle.mv_index.specs.WriteIndex.{held_at}
use Rattle.protocol.specs.Replica.Votes.{writes_key}
use Rattle.mv_index.specs.PutTable.{put_of}
use Rattle.mv_index.proofs.PutsTurn.{cleared, cleared_none}
use Rattle.mv_index.proofs.holdings.clear.Goals as goal

pub returns-in-None : goal.returns-in-None
returns-in-None c = λ h s k x. cleared_none h k x c.args.ver _ (sym (c.in-None.ensures ∙ s.puts_are c.args.ver)) (s.held_are k x)

pub returns-in-Some : goal.returns-in-Some
returns-in-Some c = λ h s k x.
    cleared h k x c.args.ver (put_of c.in-Some.put.now) _ _ (sym (c.in-Some.ensures ∙ s.puts_are c.args.ver)) (s.held_are k x)
    (c.erase.ensures k x ∙ ap (λ ws. cond (same_exec x c.in-Some.put.now.exec && writes_key k ws) None (held_at c.args.unsure.now k x)) c.as_slice.ensures)
