-- What a promise leaves and tells is what an Ask does to a replica's list.
use Rattle.view_cell.proofs.CellLemmas.{ask_taken, ask_told, ask_unanswered}
use Rattle.view_cell.proofs.Cell.promise.Goals as goal

pub returns-then-view-self-clause-answer : goal.returns-then-view-self-clause-answer
returns-then-view-self-clause-answer c = λ firsts h x cell. ask_unanswered firsts h x c.args.self.now c.args.view c.if-view-self.true cell

pub returns-clause-next : goal.returns-clause-next
returns-clause-next c = λ h x from to cell. ask_taken h x from to c.args.self.now c.args.view c.if-view-self.false cell

pub returns-clause-answer : goal.returns-clause-answer
returns-clause-answer c = λ firsts h x cell. ask_told firsts h x c.args.self.now c.args.view c.if-view-self.false cell
