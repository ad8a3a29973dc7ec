-- What was prepared stands at its origin, with the links that were chosen.
use Rattle.std.proofs.Common.{ℕ, ◌<◌, length, map, refl, sym, ◌∙◌, subst, arith}
use Rattle.std.proofs.lemmas.List.{length-map}
use Rattle.script_plans.specs.Plans.{link_kind}
use Rattle.net_core.specs.declared.plan.LinkKind.{LinkKind}
use Rattle.menus.specs.Slots.{count_of}
use Rattle.links.specs.Choosing.{AreChosen, IsMissing, IsChoice}
use Rattle.world.specs.MachineLaws.{counted, in_use}
use Rattle.script_cli.specs.Runs.{rules_for}
use Rattle.script_cli.proofs.run.prepare.Goals as goal

pub returns-in-Missing : goal.returns-in-Missing
unfolding rules_for
returns-in-Missing g c =
    let s = c.args.setup in
    let handed = map g.L.Link.state_of c.args.links.items in
    let slot = c.in-Missing.slot in
    let made = subst (IsChoice g.L.Link.state_of c.kind_of.result handed c.nodes.result) c.in-Missing.is c.in_ok-slot.ensures in
    let less = made.0 in
    let count = c.nodes.ensures.count in
    let all = counted c.in_ok-world.world _ _ c.in_ok-world.ensures in
    record {
      needed = (let few : slot < length (rules_for s).nodes = omega (arith, less, count, all) in few);
      missing = subst (λ (k : LinkKind). IsMissing k handed slot) c.kind_of.ensures made.1;
    }

pub returns-in_ok-links-in-All : goal.returns-in_ok-links-in-All
returns-in_ok-links-in-All g c =
    let handed = map g.L.Link.state_of c.args.links.items in
    let chosen = map g.L.Link.state_of c.in-All.chosen.items in
    let made = subst (IsChoice g.L.Link.state_of c.kind_of.result handed c.nodes.result) c.in-All.is c.in_ok-slot.ensures in
    let are : AreChosen (link_kind c.args.setup) handed (count_of c.in_ok-world.world.slots) chosen =
    subst (λ (k : LinkKind). AreChosen k handed (count_of c.in_ok-world.world.slots) chosen) c.kind_of.ensures
    (subst (λ (n : ℕ). AreChosen c.kind_of.result handed n chosen) c.nodes.ensures.count made) in
    record {
      own = refl;
      stands = c.in_ok-world.ensures;
      count = c.in_ok-links-in-All.ensures.count ∙ sym (length-map c.in-All.chosen.items g.L.Link.state_of) ∙ are.count;
      chosen = chosen;
      are_chosen = are;
      begun = c.in_ok-links-in-All.ensures.begun;
    }

pub nodes-requires : goal.nodes-requires
nodes-requires g c = in_use c.in_ok-world.world _ _ c.in_ok-world.ensures
