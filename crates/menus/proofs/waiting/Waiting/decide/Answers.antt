-- An execution that is decided is noted, and is open no more.
use Rattle.std.proofs.Common.{sym, ◌∙◌}
use Rattle.std.specs.BTreeSet.{contains}
use Rattle.menus.specs.Waiting.{exec_cmp}
use Rattle.menus.proofs.WaitingLemmas.{one_more}
use Rattle.menus.proofs.WaitingTurns.{decided_by_none, decided_of_client}
use Rattle.menus.proofs.waiting.Waiting.decide.Goals as goal

pub returns-then-has_client : goal.returns-then-has_client
returns-then-has_client c = λ n mail stopped m are e.
    decided_of_client n mail stopped m c.args.self.now c.args.exec c.insert.new.self are e
    (λ x. one_more c.args.exec x (contains exec_cmp c.insert.new.self x) (contains exec_cmp c.args.self.now.decided x) (c.in_ok-insert.ensures.updates.0 x))
    c.remove.new.self (sym c.has_client.ensures
    ∙ c.if-has_client.true) c.index_mut.result.now c.index_mut.ensures.value c.remove.ensures.execs c.remove.ensures.same

pub returns-else-has_client : goal.returns-else-has_client
returns-else-has_client c = λ n mail stopped m are e.
    decided_by_none n mail stopped m c.args.self.now c.args.exec c.insert.new.self are e
    (λ x. one_more c.args.exec x (contains exec_cmp c.insert.new.self x) (contains exec_cmp c.args.self.now.decided x) (c.in_ok-insert.ensures.updates.0 x))
    (sym c.has_client.ensures ∙ c.if-has_client.false)
