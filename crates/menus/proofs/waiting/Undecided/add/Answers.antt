-- The execution is one more in the set.
use Rattle.std.specs.BTreeSet.{contains}
use Rattle.menus.specs.Waiting.{exec_cmp}
use Rattle.menus.proofs.WaitingLemmas.{one_more}
use Rattle.menus.proofs.waiting.Undecided.add.Goals as goal

pub returns-clause-execs : goal.returns-clause-execs
returns-clause-execs c = λ x.
    one_more c.args.exec x (contains exec_cmp c.insert.new.self x) (contains exec_cmp c.args.self.now.execs x) (c.in_ok-insert.ensures.updates.0 x)
