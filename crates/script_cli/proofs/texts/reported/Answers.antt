-- The report is of the world that the events make.
use Rattle.std.proofs.Common.{reverse, ap, ◌∙◌}
use Rattle.hub.proofs.Results.{if_ok}
use Rattle.report.specs.Text.{report_of}
use Rattle.script_cli.proofs.RunTexts.{rows_are}
use Rattle.script_cli.proofs.texts.reported.Goals as goal

pub returns : goal.returns
returns c =
    if_ok c.report_text.result _ _ (λ text e. λ o journal own stands.
    e
    ∙ ap (λ tables. report_of tables c.in_ok-rows.rows c.args.ended) c.as_slice.ensures
    ∙ ap (λ rows. report_of c.args.setup.now.tables rows c.args.ended) (c.in_ok-rows.ensures o (reverse journal) stands ∙ rows_are o c.args.setup.now journal own))
    c.report_text.ensures
