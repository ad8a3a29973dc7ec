-- What an acceptance leaves and tells is what a Finalize does to a replica's list.
use Rattle.view_cell.proofs.CellLemmas.{finalize_taken, finalize_answered, finalize_unanswered}
use Rattle.view_cell.proofs.Cell.accept.Goals as goal

pub returns-then-view-self-clause-answer : goal.returns-then-view-self-clause-answer
returns-then-view-self-clause-answer c = λ firsts h x k cell. finalize_unanswered firsts h x k c.args.self.now c.args.view c.args.choice c.if-view-self.true cell

pub returns-clause-next : goal.returns-clause-next
returns-clause-next c = λ h x k from to cell. finalize_taken h x k from to c.args.self.now c.args.view c.args.choice c.if-view-self.false cell

pub returns-clause-answer : goal.returns-clause-answer
returns-clause-answer c = λ firsts h x k cell. finalize_answered firsts h x k c.args.self.now c.args.view c.args.choice c.if-view-self.false cell
