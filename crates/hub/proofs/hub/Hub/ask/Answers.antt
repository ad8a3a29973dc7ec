use Rattle.std.proofs.Common.{◌≡◌, ◌∷◌, [], ◌++◌, ◌<◌, ◌+◌, ◌-◌, ◌^◌, ◌≤◌, false, map, Option, Some, refl, sym, ◌∙◌, ap, arith, rules}
use Rattle.std.specs.Prelude.{reverse}
use Rattle.std.proofs.lemmas.Bool.Decides.{nat_tests}
use Rattle.std.proofs.lemmas.List.{reverse-append, length-reverse}
use Rattle.morty_base.specs.declared.names.NodeId.{NodeId}
use Rattle.msg.specs.declared.Event.TheVariants.{Picked}
use Rattle.net_core.specs.Marks.{turns_made}
use Rattle.hub.specs.Turns.{marks_after, turns_after}
use Rattle.hub.specs.Views.{nodes_of}
use Rattle.hub.proofs.Jobs.{same_jobs}
use Rattle.hub.proofs.Linking.{links_pick}
use Rattle.hub.proofs.Ends.{marks_pick, turns_pick, picks_in_le, own_node, others_differ, ends_full, not_full_by, not_moved}
use Rattle.hub.proofs.hub.Hub.ask.Goals as goal

pub invariant_of-self-2 : goal.invariant_of-self-2
invariant_of-self-2 g c =
    let rooms = c.self.invariant.0 in
    let whole : c.self.inside.broken ≡ false = ap (λ v. v.broken) c.self.view_is ∙ c.requires.whole in
    let events = c.self.inside.journal.items in
    let h = reverse events in
    let n = c.node-node.result in
    let p = c.in_ok-pick.pick in
    let now : reverse (events ++ Picked n p ∷ []) ≡ Picked n p ∷ h = reverse-append events (Picked n p ∷ []) in (
      record {
        few = rw c.in_ok-pick.ensures.count rooms.few;
        nodes_are = c.in_ok-out.ensures.nodes ∙ rooms.nodes_are ∙ sym c.in_ok-pick.ensures.count;
        handed_are = rooms.handed_are ∙ sym c.in_ok-pick.ensures.count;
        marks_fit = c.mark.ensures.len ∙ rooms.marks_fit ∙ sym c.in_ok-pick.ensures.count;
        made_fit = c.count_turn.ensures.len ∙ rooms.made_fit ∙ sym c.in_ok-pick.ensures.count;
      },
      rw (c.note_pick.ensures, c.in_ok-reserve.ensures.items, now)
          (let le = picks_in_le h in
          let len = length-reverse events in
          let was = c.self.invariant.1 in
          let added = c.saturating_add-self-inside.ensures in
          let small = c.self.inside.journal.small in
          let ok = c.self.inside.journal.ok in
          omega arith),
      λ s is.
          let noted = c.self.invariant.2 s is in
          let kept = c.self.invariant.3 whole s is in
          let step = c.in_ok-out.ensures.taken s.origin h kept.run.replay in
          rw (c.note_pick.ensures, c.in_ok-reserve.ensures.items, now) (record {
            used_are = noted.used_are;
            ends = λ e same. ends_full (g.M.Machine.rules s.origin) s.turns h (Picked n p) _ refl e (sym (c.ended_by-self-inside.ensures _ step.1) ∙ same);
          }),
      λ _ s is.
          let kept = c.self.invariant.3 whole s is in
          let m = g.M.Machine.rules s.origin in
          let here = c.node-node.ensures c.requires.whole s is in
          let pick = c.in_ok-pick.ensures.ok s.origin h n kept.run.replay here in
          let step = c.in_ok-out.ensures.taken s.origin h kept.run.replay in
          let own = own_node n in
          let others = others_differ m.nodes c.args.slot n (g.met.M.Machine.lawful s.origin).apart here in
          let turns = rw (← c.self.view_is) at c.requires.turns whole s n is here in
          let room : turns_made n h + 1 ≤ 2 ^ 32 - 1 =
          (let lt : turns_made n h < s.turns = grind (arith, nat_tests) in let are = kept.turns_are in let fits = c.self.ranges in search rules) in
          rw (c.note_pick.ensures, c.in_ok-reserve.ensures.items, now) (record {
            run = record {
              replay = step.0;
              links = rw pick.4 (links_pick m h n p m.nodes s.links _ c.args.slot pick.0 pick.1 own here pick.2 others pick.3 kept.run.links);
            };
            turns_are = kept.turns_are;
            marks_are = c.mark.ensures.marks
                ∙ (λ i. marks_after c.args.slot (step.1 i) (kept.marks_are i)) ∙ marks_pick m h n p m.nodes c.args.slot _ refl own here others;
            made_are = c.count_turn.ensures.made
                ∙ ap (turns_after c.args.slot p) kept.made_are ∙ turns_pick h n p m.nodes c.args.slot own here others room;
            not_full = λ none. not_full_by m h (Picked n p) _ refl (sym (c.ended_by-self-inside.ensures _ step.1) ∙ none);
          }),
      λ _. refl,
      λ s is. c.in_ok-pick.ensures.count ∙ c.self.invariant.5 s is,
      c.in_ok-out.ensures.usable,
    )

pub returns-clause-ok : goal.returns-clause-ok
returns-clause-ok g c = λ _ s n is here.
    let whole : c.self.inside.broken ≡ false = ap (λ v. v.broken) c.self.view_is ∙ c.requires.whole in
    let sound : c.self.inside.spoiled ≡ false = ap (λ v. v.spoiled) c.self.view_is ∙ c.requires.sound in
    let kept = c.self.invariant.3 whole s is in
    let found = c.node-node.ensures c.requires.whole s is in
    let both : ◌≡◌ {A = Option NodeId} (Some n) (Some c.node-node.result) = sym here ∙ found in
    let same : n ≡ c.node-node.result = cc in
    let step = c.in_ok-out.ensures.taken s.origin (reverse c.self.inside.journal.items) kept.run.replay in
    let items = c.note_pick.ensures ∙ ap (λ xs. xs ++ Picked c.node-node.result c.in_ok-pick.pick ∷ []) c.in_ok-reserve.ensures.items in
    let ended = c.ended_by-self-inside.ensures _ step.1 in
    rw (← c.self.view_is, same) (
      c.in_ok-pick.pick,
      c.asked_out.ensures _ step.1,
      λ i. record {
        nodes = c.in_ok-pick.ensures.count i;
        journal = items i;
        jobs = map (g.M.Machine.jobs c.step.new.self) (nodes_of g.N.Named.start g.M.Machine.rules);
        handed = c.self.inside.handed.items;
        ended = ended i;
        spoiled = sym sound i;
        broken = sym whole i;
      },
      λ other. same_jobs (nodes_of g.N.Named.start g.M.Machine.rules) (g.M.Machine.jobs c.self.inside.machine) (g.M.Machine.jobs c.step.new.self)
          (c.in_ok-out.ensures.still (not_moved _ _ step.1 other)),
    )
