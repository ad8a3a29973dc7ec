-- The items' versions differ just where the test says so.
use Rattle.std.proofs.Common.{sym, ◌∙◌, subst}
use Rattle.serial_ref.specs.SerialItem.{DifferInVersion}
use Rattle.script_cli.specs.Words.{items_said}
use Rattle.script_cli.proofs.DifferLemmas.{serial_where, none_where}
use Rattle.script_cli.proofs.CommandLemmas.{not_both}
use Rattle.script_cli.proofs.words.serial_of.Goals as goal

pub returns-then-branch-clause-command : goal.returns-then-branch-clause-command
returns-then-branch-clause-command c =
    serial_where (items_said c.args.rest.now) c.in-Some.items (sym c.in_ok-items.ensures ∙ c.in-Some.is)
    (subst DifferInVersion c.as_slice.ensures (c.in_ok-differ.ensures.0 c.if-branch.true))

pub returns-else-branch-clause-command : goal.returns-else-branch-clause-command
returns-else-branch-clause-command c =
    none_where (items_said c.args.rest.now) c.in-Some.items (sym c.in_ok-items.ensures ∙ c.in-Some.is) (λ apart.
    not_both c.in_ok-differ.field-0 (c.in_ok-differ.ensures.1 (subst DifferInVersion (sym c.as_slice.ensures) apart)) c.if-branch.false)
