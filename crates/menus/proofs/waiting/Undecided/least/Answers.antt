-- The first of a set's executions is the least.
use Rattle.std.proofs.Common.{◌∙◌, ap, sym}
use Rattle.std.specs.Prelude.{◌&&◌}
use Rattle.std.specs.BTreeSet.{contains}
use Rattle.std.proofs.lemmas.Bool.{and_parts}
use Rattle.menus.specs.Waiting.{exec_cmp}
use Rattle.menus.proofs.WaitingLemmas.{exec_gt}
use Rattle.menus.proofs.waiting.Undecided.least.Goals as goal

pub returns-in-Some : goal.returns-in-Some
returns-in-Some c =
    let u = c.args.self.now in
    let x = c.in-Some.exec.now in (
      ap (λ t. t && contains exec_cmp u.execs x) c.if-not-self.false ∙ c.in-Some.ensures.member,
      λ y e. sym (exec_gt x y) ∙ c.in-Some.ensures.least y (and_parts u.is_stopped (contains exec_cmp u.execs y) e).1,
    )
