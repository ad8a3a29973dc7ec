use Rattle.mv_index.proofs.records.Records.committed_upto.Goals as goal

pub returns-clause-list : goal.returns-clause-list
returns-clause-list c = λ firsts h s. c.committed_upto.ensures firsts h s.holdings
