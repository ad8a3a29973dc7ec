use Rattle.script.proofs.LastLine.{counted_from}
use Rattle.script.proofs.stages.last_line_from.Goals as goal

pub returns : goal.returns
returns c = counted_from c.args.text.now c.args.token.start c.args.token.line c.last_line.result c.requires.placed.line c.last_line.ensures
