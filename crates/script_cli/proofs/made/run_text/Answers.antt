-- What a command writes of a run is of the world that its events make.
use Rattle.std.proofs.Common.{reverse, sym, ap, ◌∙◌}
use Rattle.std.proofs.lemmas.List.Elements.{All-same}
use Rattle.msg.specs.Events.{node_of}
use Rattle.wire.specs.Sendable.{IsNumbered}
use Rattle.hub.proofs.Results.{if_ok}
use Rattle.run_trace.specs.Trace.{trace_bytes}
use Rattle.script.specs.Canonical.{canonical_script}
use Rattle.script_cli.specs.Runs.{world_for}
use Rattle.world.specs.MachineLaws.{in_use}
use Rattle.report.specs.Text.{report_of, brief_of}
use Rattle.script_cli.specs.Words.{is_shared}
use Rattle.script_cli.specs.Due.{rows_for, text_of_run}
use Rattle.script_cli.proofs.EventNodes.{events_are_numbered}
use Rattle.script_cli.proofs.RunTexts.{is_reported}
use Rattle.script_cli.proofs.made.run_text.Goals as goal

pub traced-requires : goal.traced-requires
traced-requires g c =
    let ran = c.requires in
    All-same (λ e. IsNumbered (node_of e)) c.as_slice.result.now c.args.run.now.journal.items c.as_slice.ensures.value
    (events_are_numbered ran.0 ran.2 ran.0.turns c.args.run.now.journal.items (ran.3.whole.rounds (ap is_shared c.in-Trace.is)).turn_by_turn)

pub returns-in-Trace : goal.returns-in-Trace
returns-in-Trace g c =
    let setup = c.args.run.now.setup in
    let journal = c.args.run.now.journal.items in
    let ended = c.args.run.now.ended in
    if_ok c.traced.result _ _ (λ text e. λ s handed ran.
    e ran.origin journal (ran.own ∙ sym ran.same) ran.stands
    ∙ ap (λ events. trace_bytes (canonical_script setup) events (world_for setup (reverse journal)).mail ended) c.as_slice.ensures.value
    ∙ ap (λ x. trace_bytes (canonical_script x) journal (world_for x (reverse journal)).mail ended) ran.same
    ∙ ap (λ k. text_of_run k s journal ended) (sym c.in-Trace.is))
    c.traced.ensures

pub summed_up-requires : goal.summed_up-requires
summed_up-requires g c = let ran = c.requires.3 in in_use c.args.run.now.world ran.origin _ ran.stands

pub reported-requires : goal.reported-requires
reported-requires g c = let ran = c.requires.3 in in_use c.args.run.now.world ran.origin _ ran.stands

pub returns-in-Big : goal.returns-in-Big
returns-in-Big g c =
    let journal = c.args.run.now.journal.items in
    let ended = c.args.run.now.ended in
    if_ok c.summed_up.result _ _ (λ text e. λ s handed ran.
    e ran.origin journal (ran.own ∙ sym ran.same) ran.stands
    ∙ ap (λ x. brief_of (rows_for x journal) ended) ran.same
    ∙ ap (λ k. text_of_run k s journal ended) (sym c.in-Big.is))
    c.summed_up.ensures

pub returns-in-Run : goal.returns-in-Run
returns-in-Run g c =
    let journal = c.args.run.now.journal.items in
    let ended = c.args.run.now.ended in
    if_ok c.reported.result _ _ (λ text e. λ s handed ran.
    e ran.origin journal (ran.own ∙ sym ran.same) ran.stands
    ∙ ap (λ x. report_of x.tables (rows_for x journal) ended) ran.same
    ∙ is_reported c.args.command.now c.in-Run.is s journal ended)
    c.reported.ensures
