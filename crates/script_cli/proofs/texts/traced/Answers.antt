-- The trace has the script, the events and the mail of the world that they make.
use Rattle.std.proofs.Common.{reverse, ap, ◌∙◌}
use Rattle.hub.proofs.Results.{if_ok}
use Rattle.run_trace.specs.Trace.{trace_bytes}
use Rattle.script.specs.Canonical.{canonical_script}
use Rattle.script_cli.proofs.RunTexts.{mail_is}
use Rattle.script_cli.proofs.texts.traced.Goals as goal

pub returns : goal.returns
returns c =
    let events = c.args.events.now in
    if_ok c.trace_bytes.result _ _ (λ text e. λ o journal own stands.
    e
    ∙ ap (λ script. trace_bytes script events c.mail-mail.result.now c.args.ended) (c.as_slice.ensures ∙ c.in_ok-script.ensures.text)
    ∙ ap (λ mail. trace_bytes (canonical_script c.args.setup.now) events mail c.args.ended)
    (c.mail-mail.ensures o (reverse journal) stands ∙ mail_is o c.args.setup.now journal own))
    c.trace_bytes.ensures
