use Rattle.std.proofs.Common.{◌≡◌, ◌-◌, ◌^◌, ◌<◌, false, None, Some, Option, length, map, refl, sym, ◌∙◌, ap, subst, arith}
use Rattle.std.specs.Prelude.{reverse}
use Rattle.std.proofs.lemmas.List.{length-reverse}
use Rattle.morty_base.specs.declared.names.NodeId.{NodeId}
use Rattle.net_core.specs.Replay.{IsGiven}
use Rattle.hub.specs.Views.{HubView, nodes_of}
use Rattle.hub.proofs.Jobs.{job_of_slot, same_jobs}
use Rattle.hub.proofs.Giving.{given_kept, given_noted, picks_given, gave, rans_in_le}
use Rattle.hub.proofs.hub.Hub.take_back.Goals as goal

pub invariant_of-self-2 : goal.invariant_of-self-2
invariant_of-self-2 g c =
    let rooms = c.self.invariant.0 in
    let whole : c.self.inside.broken ≡ false = ap (λ v. v.broken) c.self.view_is ∙ c.requires.whole in
    let running : c.self.inside.ended ≡ None = ap (λ v. v.ended) c.self.view_is ∙ c.requires.running in
    let events = c.self.inside.journal.items in
    let n = c.node-node.result in (
      record {
        few = rooms.few;
        nodes_are = c.in_ok-out.ensures.nodes ∙ rooms.nodes_are;
        handed_are = c.unhand.ensures.len ∙ rooms.handed_are;
        marks_fit = c.unmark.ensures.len ∙ rooms.marks_fit;
        made_fit = rooms.made_fit;
      },
      rw (c.note_ran.ensures, c.in_ok-reserve.ensures.items) (c.self.invariant.1 ∙ sym (picks_given c.in_ok-out.out c.client_of-client.result events)),
      λ s is.
          let m = g.M.Machine.rules s.origin in
          let kept = c.self.invariant.3 whole s is in
          let noted = rw running at c.self.invariant.2 s is in
          let given = c.in_ok-out.ensures.given s.origin (reverse events) n kept.run.replay (c.node-node.ensures c.requires.whole s is) in
          let room : c.self.inside.used < 2 ^ 64 - 1 =
          (let le = rans_in_le m (reverse events) in
          let len = length-reverse events in
          let was = noted.used_are in
          let small = c.self.inside.journal.small in
          let ok = c.self.inside.journal.ok in
          omega arith) in
          rw (c.note_ran.ensures, c.in_ok-reserve.ensures.items, c.used_after-self-inside.ensures, c.ended_given-self-inside.ensures)
          (given_noted m s.turns (g.M.Machine.jobs c.self.inside.machine n) (λ j. g.M.Machine.of_job s.origin j c.args.done.now)
          (g.M.Machine.stands c.give.new.self s.origin) events c.self.inside.used n c.client_of-client.result
          c.in_ok-out.out noted given c.client_of-client.ensures room),
      λ _ s is.
          let kept = rw running at c.self.invariant.3 whole s is in
          let given = c.in_ok-out.ensures.given s.origin (reverse events) n kept.run.replay (c.node-node.ensures c.requires.whole s is) in
          rw (c.note_ran.ensures, c.in_ok-reserve.ensures.items, c.unmark.ensures.marks, c.ended_given-self-inside.ensures)
          (given_kept g.M.Machine.rules (g.M.Machine.jobs c.self.inside.machine n) (λ j. g.M.Machine.of_job s.origin j c.args.done.now)
          (g.M.Machine.stands c.self.inside.machine) (g.M.Machine.stands c.give.new.self) s events _ _ _ _ n c.client_of-client.result c.in_ok-out.out
          kept given c.client_of-client.ensures),
      λ _. refl,
      c.self.invariant.5,
      c.in_ok-out.ensures.usable,
    )

pub returns-clause-ok : goal.returns-clause-ok
returns-clause-ok g c = λ _ s n is here.
    let whole : c.self.inside.broken ≡ false = ap (λ v. v.broken) c.self.view_is ∙ c.requires.whole in
    let running : c.self.inside.ended ≡ None = ap (λ v. v.ended) c.self.view_is ∙ c.requires.running in
    let found = c.node-node.ensures c.requires.whole s is in
    let both : ◌≡◌ {A = Option NodeId} (Some n) (Some c.node-node.result) = sym here ∙ found in
    let same : n ≡ c.node-node.result = cc in
    let kept = c.self.invariant.3 whole s is in
    let m = g.M.Machine.rules s.origin in
    let of_job : g.row.M-Job.Denot → Type 0 = λ j. g.M.Machine.of_job s.origin j c.args.done.now in
    let old = c.self.inside in
    let nodes = nodes_of g.N.Named.start g.M.Machine.rules in
    let pending = job_of_slot g.N.Named.start g.M.Machine.rules (g.M.Machine.jobs old.machine) s c.args.slot c.node-node.result is found in
    let given = subst (λ (p : Option g.row.M-Job.Denot).
    IsGiven m p of_job (reverse old.journal.items) c.node-node.result c.in_ok-out.out (g.M.Machine.stands c.give.new.self s.origin)) (sym pending)
    (c.in_ok-out.ensures.given s.origin (reverse old.journal.items) c.node-node.result kept.run.replay found) in
    let view : HubView g.row.M-Job.Denot = record {
      nodes = length old.links.items;
      journal = old.journal.items;
      jobs = map (g.M.Machine.jobs old.machine) nodes;
      handed = old.handed.items;
      ended = old.ended;
      spoiled = old.spoiled;
      broken = old.broken;
    } in
    rw (← c.self.view_is, c.note_ran.ensures, c.in_ok-reserve.ensures.items, c.unhand.ensures.handed, c.ended_given-self-inside.ensures, same)
    (gave m of_job (g.M.Machine.stands c.give.new.self s.origin) view (map (g.M.Machine.jobs c.give.new.self) nodes) c.node-node.result c.args.slot
    c.client_of-client.result c.in_ok-out.out running whole given
    (λ other. same_jobs nodes (g.M.Machine.jobs old.machine) (g.M.Machine.jobs c.give.new.self) (c.in_ok-out.ensures.still other)) c.client_of-client.ensures)

pub give-requires-clause-made : goal.give-requires-clause-made
give-requires-clause-made g c =
    let made = c.requires.made in
    let whole : c.self.inside.broken ≡ false = ap (λ v. v.broken) c.self.view_is ∙ c.requires.whole in
    let kept = c.self.invariant.3 whole made.0 made.1 in
    (made.0.origin, reverse c.self.inside.journal.items, kept.run.replay, made.2, made.3)
