use Rattle.std.proofs.Common.{◌≡◌, Option, Some, sym, ◌∙◌, subst}
use Rattle.morty_base.specs.declared.names.NodeId.{NodeId}
use Rattle.hub.specs.Starts.{Start}
use Rattle.hub.specs.Turns.{Gave}
use Rattle.runner.proofs.Counts.{turn_grows, give_grows, grown_on}
use Rattle.runner.proofs.TurnsFall.{turn_visited, not_ended, given_visited}
use Rattle.runner.proofs.TurnsKept.{turn_keeps, given_keeps}
use Rattle.runner.proofs.one.visit.Goals as goal

pub returns-in_default-clause-ok : goal.returns-in_default-clause-ok
returns-in_default-clause-ok g c = λ s is on.
    let t = c.in_ok-out.ensures.ok s is in
    turn_visited (g.M.Machine.rules s.origin) (g.met.M.Machine.lawful s.origin) s.turns c.args.slot t.0 t.1
    c.args.hub.now c.turn.new.self c.in_ok-out.out on c.in_default.not-Job t.2

pub returns-clause-ok : goal.returns-clause-ok
returns-clause-ok g c = λ s is on.
    let m = g.M.Machine.rules s.origin in
    let lawful = g.met.M.Machine.lawful s.origin in
    let of_job : g.row.M-Job.Denot → Type 0 = λ j. g.M.Machine.of_job s.origin j c.in-Ok.done in
    let old = c.args.hub.now in
    let mid = c.turn.new.self in
    let t = c.in_ok-out.ensures.ok s is in
    let turn = rw c.in-Job.is at t.2 in
    let both : ◌≡◌ {A = Option (Start g.row.M-Origin.Denot)} (Some c.requires.kit.0) (Some s) = sym c.requires.kit.1 ∙ is in
    let same : c.requires.kit.0 ≡ s = cc in
    let kit = subst (λ (z : Start g.row.M-Origin.Denot). g.M.Machine.kit_of z.origin c.args.kit.now) same c.requires.kit.2 in
    let fits = c.in_ok-out.ensures.fits s c.in-Job.job is c.in-Job.is in
    let given = c.in_ok-give.ensures.ok (not_ended m lawful s.turns c.args.slot t.0 t.1 old mid c.in-Job.job turn) s is in
    let nodes : ◌≡◌ {A = Option NodeId} (Some given.0) (Some t.0) = sym given.1 ∙ t.1 in
    let node : given.0 ≡ t.0 = cc in
    let gave = subst (λ (k : NodeId). Gave m of_job k c.args.slot mid c.give.new.self c.in_ok-give.field-0) node given.2 in
    given_visited m lawful s.turns c.args.slot t.0 t.1 of_job old mid c.give.new.self c.in-Job.job c.in_ok-give.field-0 on turn
    (c.in-Ok.ensures s.origin kit fits) gave

pub returns-in_default-clause-grown : goal.returns-in_default-clause-grown
returns-in_default-clause-grown g c = λ s is.
    let t = c.in_ok-out.ensures.ok s is in
    turn_grows (g.M.Machine.rules s.origin) t.0 c.args.slot c.args.hub.now c.turn.new.self s.turns c.in_ok-out.out t.2

pub returns-clause-grown : goal.returns-clause-grown
returns-clause-grown g c = λ s is.
    let m = g.M.Machine.rules s.origin in
    let old = c.args.hub.now in
    let mid = c.turn.new.self in
    let new = c.give.new.self in
    let t = c.in_ok-out.ensures.ok s is in
    let turn = rw c.in-Job.is at t.2 in
    let on = not_ended m (g.met.M.Machine.lawful s.origin) s.turns c.args.slot t.0 t.1 old mid c.in-Job.job turn in
    let given = c.in_ok-give.ensures.ok on s is in
    grown_on m old mid new (turn_grows m t.0 c.args.slot old mid s.turns c.in_ok-out.out t.2)
    (give_grows m given.0 c.args.slot mid new _ c.in_ok-give.field-0 given.2)

pub returns-in_default-clause-keeps : goal.returns-in_default-clause-keeps
returns-in_default-clause-keeps g c = λ s is on at.
    let t = c.in_ok-out.ensures.ok s is in
    turn_keeps (g.M.Machine.rules s.origin) (g.met.M.Machine.lawful s.origin) s.turns c.args.slot t.0 t.1
    c.args.hub.now c.turn.new.self c.in_ok-out.out on at c.in_default.not-Job t.2

pub returns-clause-keeps : goal.returns-clause-keeps
returns-clause-keeps g c = λ s is on at.
    let m = g.M.Machine.rules s.origin in
    let lawful = g.met.M.Machine.lawful s.origin in
    let of_job : g.row.M-Job.Denot → Type 0 = λ j. g.M.Machine.of_job s.origin j c.in-Ok.done in
    let old = c.args.hub.now in
    let mid = c.turn.new.self in
    let t = c.in_ok-out.ensures.ok s is in
    let turn = rw c.in-Job.is at t.2 in
    let both : ◌≡◌ {A = Option (Start g.row.M-Origin.Denot)} (Some c.requires.kit.0) (Some s) = sym c.requires.kit.1 ∙ is in
    let same : c.requires.kit.0 ≡ s = cc in
    let kit = subst (λ (z : Start g.row.M-Origin.Denot). g.M.Machine.kit_of z.origin c.args.kit.now) same c.requires.kit.2 in
    let fits = c.in_ok-out.ensures.fits s c.in-Job.job is c.in-Job.is in
    let given = c.in_ok-give.ensures.ok (not_ended m lawful s.turns c.args.slot t.0 t.1 old mid c.in-Job.job turn) s is in
    let nodes : ◌≡◌ {A = Option NodeId} (Some given.0) (Some t.0) = sym given.1 ∙ t.1 in
    let node : given.0 ≡ t.0 = cc in
    let gave = subst (λ (k : NodeId). Gave m of_job k c.args.slot mid c.give.new.self c.in_ok-give.field-0) node given.2 in
    given_keeps m lawful s.turns c.args.slot t.0 t.1 of_job old mid c.give.new.self c.in-Job.job c.in_ok-give.field-0 at turn
    (c.in-Ok.ensures s.origin kit fits) gave

pub give-requires-clause-made : goal.give-requires-clause-made
give-requires-clause-made g c =
    let s = c.requires.kit.0 in
    (s, c.requires.kit.1, c.in-Job.job, c.in-Ok.ensures s.origin c.requires.kit.2 (c.in_ok-out.ensures.fits s c.in-Job.job c.requires.kit.1 c.in-Job.is))
