-- Some value changes where there is a first one.
use Rattle.std.proofs.Common.{◌≡◌, ◌∙◌, sym, ap, Some, None}
use Rattle.std.specs.Prelude.{is_some}
use Rattle.coordinator.specs.Moving.{first_other}
use Rattle.coordinator.proofs.MovingLemmas.{other_found}
use Rattle.coordinator.proofs.execution.Execution.move_on.Goals as goal

pub returns-in_default-clause-other : goal.returns-in_default-clause-other
returns-in_default-clause-other c =
    let none : first_other c.args.self.now.log.reads c.args.self.now.nexts ≡ None = cc in
    sym (other_found c.args.self.now.log.reads c.args.self.now.nexts ∙ ap is_some none)

pub returns-clause-other : goal.returns-clause-other
returns-clause-other c =
    let some : first_other c.args.self.now.log.reads c.args.self.now.nexts ≡ Some c.in-Some.i = cc in
    sym (other_found c.args.self.now.log.reads c.args.self.now.nexts ∙ ap is_some some)
