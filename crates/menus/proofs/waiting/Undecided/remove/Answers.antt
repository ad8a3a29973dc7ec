-- The execution is no longer in the set.
use Rattle.std.specs.BTreeSet.{contains}
use Rattle.menus.specs.Waiting.{exec_cmp}
use Rattle.menus.proofs.WaitingLemmas.{one_fewer}
use Rattle.menus.proofs.waiting.Undecided.remove.Goals as goal

pub returns-clause-execs : goal.returns-clause-execs
returns-clause-execs c = λ x.
    one_fewer c.args.exec x (contains exec_cmp c.remove.new.self x) (contains exec_cmp c.args.self.now.execs x) (c.remove.ensures.updates.0 x)
