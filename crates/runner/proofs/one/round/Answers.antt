use Rattle.std.proofs.Common.{◌≡◌, suc, ◌+◌, false, length, is_some, inr, subst, ◌∙◌, arith, rules}
use Rattle.runner.specs.Progress.{IsRoundSoFar}
use Rattle.runner.specs.AtSlot.{IsAtSlot}
use Rattle.runner.proofs.Counts.{grown_on}
use Rattle.runner.proofs.Rounds.{one_more, next_slot, all_visited, turned_round}
use Rattle.runner.proofs.one.round.Goals as goal

pub loop-slot-preserved : goal.loop-slot-preserved
loop-slot-preserved g c =
    let slot = c.loop-slot.slot in
    let new = c.visit.new.hub in
    let goes_on : is_some new.ended ≡ false =
    (let told = c.ended.ensures.told in let sound = c.in_ok-visit.ensures.sound in let none = c.if-is_some.ensures in search rules) in
    record {
      nodes = c.in_ok-visit.ensures.nodes ∙ c.loop-slot.invariant.nodes;
      last = c.loop-slot.invariant.last;
      some = c.loop-slot.invariant.some;
      all = c.loop-slot.invariant.all;
      grown = λ s is.
          grown_on (g.M.Machine.rules s.origin) c.args.hub.now c.loop-slot.hub new (c.loop-slot.invariant.grown s is) (c.in_ok-visit.ensures.grown s is);
      so_far = λ s is on.
          let so = c.loop-slot.invariant.so_far s is on in
          one_more (g.M.Machine.rules s.origin) s.turns slot c.args.hub.now c.loop-slot.hub new so (c.in_ok-visit.ensures.ok s is so.0) goes_on;
      kept = λ s is on at.
          let so = c.loop-slot.invariant.so_far s is on in
          let keeps = c.in_ok-visit.ensures.keeps s is so.0 (c.loop-slot.invariant.kept s is on at) in
          let next : suc slot ≡ slot + 1 = omega arith in
          subst (λ k. IsAtSlot (g.M.Machine.rules s.origin) s.turns k new) next (next_slot (g.M.Machine.rules s.origin) s.turns slot new keeps goes_on);
    }

pub returns-clause-ok : goal.returns-clause-ok
returns-clause-ok g c = λ s is on.
    let m = g.M.Machine.rules s.origin in
    let all = c.loop-slot.invariant.all s is in
    let over : c.loop-slot.slot ≡ length m.nodes = omega (arith, all, c.loop-slot-test.false, c.loop-slot.auto) in
    let so = subst (λ k. IsRoundSoFar m s.turns k c.args.hub.now c.loop-slot.hub) over (c.loop-slot.invariant.so_far s is on) in
    inr (all_visited m s.turns c.args.hub.now c.loop-slot.hub (omega (arith, all, c.loop-slot.invariant.some)) so)

pub returns-clause-keeps : goal.returns-clause-keeps
returns-clause-keeps g c = λ s is on at.
    let m = g.M.Machine.rules s.origin in
    let all = c.loop-slot.invariant.all s is in
    let over : c.loop-slot.slot ≡ length m.nodes = omega (arith, all, c.loop-slot-test.false, c.loop-slot.auto) in
    inr (turned_round m s.turns c.loop-slot.slot c.loop-slot.hub over (c.loop-slot.invariant.kept s is on at))

pub returns-then-is_some-clause-grown : goal.returns-then-is_some-clause-grown
returns-then-is_some-clause-grown g c = λ s is.
    grown_on (g.M.Machine.rules s.origin) c.args.hub.now c.loop-slot.hub c.visit.new.hub (c.loop-slot.invariant.grown s is) (c.in_ok-visit.ensures.grown s is)
