-- The summary is of the world that the events make.
use Rattle.std.proofs.Common.{reverse, ap, ◌∙◌}
use Rattle.hub.proofs.Results.{if_ok}
use Rattle.report.specs.Text.{brief_of}
use Rattle.script_cli.proofs.RunTexts.{rows_are}
use Rattle.script_cli.proofs.texts.summed_up.Goals as goal

pub returns : goal.returns
returns c =
    if_ok c.brief_text.result _ _ (λ text e. λ o journal own stands.
    e ∙ ap (λ rows. brief_of rows c.args.ended) (c.in_ok-rows.ensures o (reverse journal) stands ∙ rows_are o c.args.setup.now journal own))
    c.brief_text.ensures
