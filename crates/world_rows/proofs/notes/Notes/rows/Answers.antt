-- The rows of the world.
use Rattle.std.proofs.Common.{◌≡◌, ◌∙◌, List, ap, subst}
use Rattle.std.specs.Prelude.{IfOk}
use Rattle.protocol.specs.Words.{Envelope}
use Rattle.protocol.specs.declared.First2.{First2}
use Rattle.protocol.specs.World.Committed.{CommittedExec, committed_executions}
use Rattle.protocol_plans.specs.Scripted.{plan_of}
use Rattle.report.specs.declared.rows.Rows.{Rows}
use Rattle.world_rows.specs.Outcome.{HasOutcome, rows_at}
use Rattle.world_rows.proofs.CommittedRows.{rows_are, rows_is}
use Rattle.world_rows.proofs.notes.Notes.rows.Goals as goal

pub returns : goal.returns
returns c = λ s w n m f p e t.
    let o = c.in_ok-outcome.outcome in
    let notes = c.args.self.now in
    let cs = committed_executions (plan_of s) w in
    let same : rows_at notes c.args.mail.now ≡ cs =
    ap (λ (mail : List Envelope). rows_at notes mail) m ∙ rows_are (plan_of s) w notes n t c.in_ok-outcome.ensures.ordered in
    let has : HasOutcome s.firsts cs o = subst (λ (fs : List First2). HasOutcome fs cs o) f
    (subst (λ (ds : List CommittedExec). HasOutcome c.args.firsts.now ds o) same c.in_ok-outcome.ensures.outcome) in
    subst (λ (r : Rows). IfOk c.rows.result (λ q. q ≡ r)) (rows_is s w c.args.events e) (c.rows.ensures s w cs has p)
