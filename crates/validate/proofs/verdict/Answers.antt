use Rattle.mv_index.specs.declared.clash.Clash.TheVariants.{Committed, Voted, Clear}
use Rattle.validate.proofs.Verdicts.{verdict_from}
use Rattle.validate.proofs.verdict.Goals as goal

pub returns-in-Committed : goal.returns-in-Committed
returns-in-Committed c = λ firsts h x s f v.
    verdict_from h x c.args.content.now c.args.ver c.args.fence Committed _ c.is_before.ensures c.if-not-is_before.false f v (c.in-Committed.ensures firsts h s)

pub returns-in-Voted : goal.returns-in-Voted
returns-in-Voted c = λ firsts h x s f v.
    verdict_from h x c.args.content.now c.args.ver c.args.fence Voted _ c.is_before.ensures c.if-not-is_before.false f v (c.in-Voted.ensures firsts h s)

pub returns-in-Clear : goal.returns-in-Clear
returns-in-Clear c = λ firsts h x s f v.
    verdict_from h x c.args.content.now c.args.ver c.args.fence Clear _ c.is_before.ensures c.if-not-is_before.false f v (c.in-Clear.ensures firsts h s)
