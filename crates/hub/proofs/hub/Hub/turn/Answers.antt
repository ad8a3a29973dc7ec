use Rattle.std.proofs.Common.{◌≡◌, false, is_some, reverse, sym, ◌∙◌, ap, subst}
use Rattle.hub.specs.Views.{HasPending, job_in}
use Rattle.hub.specs.Turns.{Does}
use Rattle.hub.specs.declared.turn_out.TurnOut.{TurnOut}
use Rattle.hub.proofs.Handing.{handed_out}
use Rattle.hub.proofs.Jobs.{job_of_slot}
use Rattle.hub.proofs.Results.{if_ok}
use Rattle.hub.proofs.hub.Hub.turn.Goals as goal

pub act-out-requires-clause-case : goal.act-out-requires-clause-case
act-out-requires-clause-case g c = λ s n is here.
    let whole : c.args.self.now.broken ≡ false = sym (ap (λ v. v.broken) c.self.view_is) ∙ c.self.invariant.4 c.if-self.false in
    c.in-Ok.ensures whole s n is here

pub returns-else-is_err-clause-ok : goal.returns-else-is_err-clause-ok
returns-else-is_err-clause-ok g c =
    let whole : c.args.self.now.broken ≡ false = sym (ap (λ v. v.broken) c.self.view_is) ∙ c.self.invariant.4 c.if-self.false in
    if_ok c.act-out.result _ _ (λ out does s is.
    let n = c.node-node.result in
    let here = c.node-node.ensures whole s is in
    let m = g.M.Machine.rules s.origin in
    let kept = c.self.invariant.3 (c.self.invariant.4 c.if-self.false) s is in
    let pending : HasPending m c.args.self.now =
    rw (← c.self.view_is) (λ slot k there.
    g.met.M.Machine.pending c.self.inside.machine s.origin (reverse c.self.inside.journal.items) k kept.run.replay
    ∙ ap is_some (sym (job_of_slot g.N.Named.start g.M.Machine.rules (g.M.Machine.jobs c.self.inside.machine) s slot k is there))) in (
      n,
      here,
      record { pending = pending; case = c.in-Ok.case; is_case = c.in-Ok.ensures whole s n is here; does = does s n is here },
    )) c.act-out.ensures.ok

pub returns-else-is_err-clause-fits : goal.returns-else-is_err-clause-fits
returns-else-is_err-clause-fits g c =
    let whole : c.args.self.now.broken ≡ false = sym (ap (λ v. v.broken) c.self.view_is) ∙ c.self.invariant.4 c.if-self.false in
    if_ok c.act-out.result _ _ (λ out does s j is job.
    let n = c.node-node.result in
    let here = c.node-node.ensures whole s is in
    let m = g.M.Machine.rules s.origin in
    let kept = c.self.invariant.3 (c.self.invariant.4 c.if-self.false) s is in
    let told = handed_out m s.turns c.args.slot n c.args.self.now c.act-out.new.self j c.in-Ok.case (c.in-Ok.ensures whole s n is here)
    (subst (λ (o : TurnOut g.row.M-Job.Denot). Does m n c.args.slot c.args.self.now c.act-out.new.self o c.in-Ok.case) job (does s n is here)) in
    let due = sym (job_of_slot g.N.Named.start g.M.Machine.rules (g.M.Machine.jobs c.self.inside.machine) s c.args.slot n is here)
    ∙ ap (λ v. job_in v.jobs c.args.slot) c.self.view_is ∙ told.due.job in
    g.met.M.Machine.jobs_fit c.self.inside.machine s.origin (reverse c.self.inside.journal.items) n j kept.run.replay due) c.act-out.ensures.ok
