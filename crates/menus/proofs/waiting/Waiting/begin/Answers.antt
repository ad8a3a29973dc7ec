-- An execution that is begun is open, unless it is decided or its client is none of those that there are.
use Rattle.std.proofs.Common.{sym, ◌∙◌}
use Rattle.std.proofs.lemmas.Result.{on_ok_weaker}
use Rattle.menus.proofs.WaitingTurns.{begun_late, begun_by_none, begun_anew}
use Rattle.menus.proofs.waiting.Waiting.begin.Goals as goal

pub returns-then-contains : goal.returns-then-contains
returns-then-contains c = λ n mail stopped m are e.
    begun_late n mail stopped m c.args.self.now c.args.exec are e (sym c.contains.ensures ∙ c.if-contains.true)

pub returns-then-not-has_client : goal.returns-then-not-has_client
returns-then-not-has_client c = λ n mail stopped m are e.
    begun_by_none n mail stopped m c.args.self.now c.args.exec are e (sym c.has_client.ensures ∙ c.if-not-has_client.true)

pub returns : goal.returns
returns c = on_ok_weaker c.add.result (λ execs. λ n mail stopped m are e.
    begun_anew n mail stopped m c.args.self.now c.args.exec are e c.add.new.self (sym c.has_client.ensures ∙ c.if-not-has_client.false)
    (sym c.contains.ensures ∙ c.if-contains.false) c.index_mut.result.now c.index_mut.ensures.value execs c.add.ensures.same) c.add.ensures.execs
