-- Only three kinds of bodies change what waits.
use Rattle.std.proofs.Common.{ap, ◌∙◌}
use Rattle.std.proofs.lemmas.Result.{on_ok_weaker}
use Rattle.menus.specs.Shown.{begun_by, decides_on}
use Rattle.menus.proofs.WaitingLemmas.{neither}
use Rattle.menus.proofs.WaitingTurns.{nothing_new}
use Rattle.menus.proofs.waiting.Waiting.sent.Goals as goal

pub returns-in-Puts : goal.returns-in-Puts
returns-in-Puts c = on_ok_weaker c.begin.result (λ f. λ n mail stopped m are same.
    f n mail stopped m are (ap begun_by (same ∙ c.in-Puts.is))) c.begin.ensures

pub returns-in-Prepare : goal.returns-in-Prepare
returns-in-Prepare c = on_ok_weaker c.begin-in-Prepare.result (λ f. λ n mail stopped m are same.
    f n mail stopped m are (ap begun_by (same ∙ c.in-Prepare.is))) c.begin-in-Prepare.ensures

pub returns-in-Decide : goal.returns-in-Decide
returns-in-Decide c = on_ok_weaker c.decide.result (λ f. λ n mail stopped m are same.
    f n mail stopped m are (λ x. ap (decides_on x) (same ∙ c.in-Decide.is))) c.decide.ensures

pub returns-in_default : goal.returns-in_default
returns-in_default c = λ n mail stopped m are same.
    let other = neither c.args.body.now c.in_default.not-Puts c.in_default.not-Prepare c.in_default.not-Decide in
    nothing_new n mail stopped m c.args.self.now are (ap begun_by same ∙ other.0) (λ x. ap (decides_on x) same ∙ other.1 x)
