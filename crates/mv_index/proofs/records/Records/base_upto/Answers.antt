use Rattle.std.proofs.Common.{◌≡◌, ◌∙◌, List}
use Rattle.std.proofs.lemmas.Result.{IfOk-weaker}
use Rattle.protocol.specs.Words.{BaseEntry}
use Rattle.protocol.specs.Replica.Taken.{base}
use Rattle.mv_index.proofs.records.Records.base_upto.Goals as goal

pub returns-clause-list : goal.returns-clause-list
returns-clause-list c = λ firsts h s.
    IfOk-weaker c.from_slice.result (λ (l : List BaseEntry). l ≡ c.base.result.now) (λ (l : List BaseEntry). l ≡ base h) (λ l e. e
    ∙ c.base.ensures firsts h s.holdings) c.from_slice.ensures
