use Rattle.std.proofs.Common.{◌≡◌, ◌+◌, suc, Some, length, map, slice_get, refl, sym, ap, ◌∙◌, subst, arith}
use Rattle.std.specs.Prelude.{slice_set}
use Rattle.std.proofs.lemmas.List.{length-map}
use Rattle.net_core.specs.Ruled.{begun}
use Rattle.world.specs.MachineLaws.{counted, in_use}
use Rattle.script_cli.specs.Runs.{rules_for}
use Rattle.script_cli.proofs.Slots.{begun_upto, one_more_begun, all_begun}
use Rattle.script_cli.proofs.begin.begin_all.Goals as goal

pub loop-slot-init : goal.loop-slot-init
loop-slot-init g c = record { count = refl; begun = refl }

pub loop-slot-preserved : goal.loop-slot-preserved
unfolding rules_for
loop-slot-preserved g c =
    let s = c.args.setup.now in
    let nodes = (rules_for s).nodes in
    let slot = c.loop-slot.slot in
    let links = map g.L.Link.state_of c.args.links.items in
    let own = c.requires.world in
    let at = c.in_ok-begin_at.ensures.ok in
    let was = c.loop-slot.invariant.begun in
    let node = subst (λ x. slice_get (rules_for x).nodes slot ≡ Some c.node.result) own.1 (c.node.ensures own.0 _ own.2) in
    let one : suc slot ≡ slot + 1 = omega arith in
    record {
      count = c.in_ok-begin_at.ensures.count ∙ c.loop-slot.invariant.count;
      begun = at.2
          ∙ ap (λ xs. slice_set xs slot (begun c.in_ok-plan.plan at.0)) was
          ∙ ap (λ p. slice_set (begun_upto s slot nodes links) slot (begun p at.0)) c.in_ok-plan.ensures
          ∙ one_more_begun s slot nodes links c.node.result at.0 node (sym (ap (λ xs. slice_get xs slot) was) ∙ at.1)
          ∙ ap (λ k. begun_upto s k nodes links) one;
    }

pub returns-clause-begun : goal.returns-clause-begun
unfolding rules_for
returns-clause-begun g c =
    let s = c.args.setup.now in
    let links = map g.L.Link.state_of c.args.links.items in
    let own = c.requires.world in
    let ended = c.loop-slot-test.false in
    let within = c.loop-slot.auto.slot-end in
    let all = c.nodes-slot-end.ensures.count in
    let count = counted c.args.world.now own.0 _ own.2 in
    let nodes : length (rules_for s).nodes ≡ c.loop-slot.slot =
    (let same = ap (λ x. length (rules_for x).nodes) own.1 in omega (arith, sym count, same)) in
    let are : length links ≡ c.loop-slot.slot =
    (let same = length-map c.args.links.items g.L.Link.state_of in let given = c.requires.links in omega arith) in
    c.loop-slot.invariant.begun ∙ all_begun s c.loop-slot.slot (rules_for s).nodes links nodes are

pub nodes-slot-end-requires : goal.nodes-slot-end-requires
nodes-slot-end-requires g c = in_use c.args.world.now c.requires.world.0 _ c.requires.world.2
