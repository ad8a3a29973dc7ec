-- The log's content is the one that the protocol prepares.
use Rattle.coordinator.proofs.ContentLemmas.{content_is}
use Rattle.coordinator.proofs.execution.Execution.content.Goals as goal

pub returns : goal.returns
returns c = λ l how s ends.
    content_is l c.args.self.now how c.in_ok-content.content s ends
    (c.in_ok-content.ensures.content l.code l.program s.follows.log) c.in_ok-content.ensures.labels
