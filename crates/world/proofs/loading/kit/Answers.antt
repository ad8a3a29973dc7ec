-- The code of one more program is there.
use Rattle.std.proofs.Common.{◌+◌, ◌<◌, List, length, take, sym, subst, ◌∙◌, arith}
use Rattle.std.proofs.lemmas.List.{take_all}
use Rattle.script.specs.declared.setup.NamedProg.{NamedProg}
use Rattle.world.proofs.LoadingLemmas.{AreLoaded, none_loaded, one_more}
use Rattle.world.proofs.loading.kit.Goals as goal

pub loop-named-init : goal.loop-named-init
loop-named-init c = subst (AreLoaded _) (sym c.new-codes.ensures) none_loaded

pub loop-named-preserved : goal.loop-named-preserved
loop-named-preserved c =
    let ps = c.as_slice-named-items.result.now in
    let i = c.loop-named.named-index in
    let less : i < length ps = omega arith in
    subst (AreLoaded (take (i + 1) ps)) (sym c.in_ok-push.ensures.ok)
    (one_more ps i c.named-item.result c.loop-named.codes c.in_ok-code.code less c.named-item.is c.in_ok-code.ensures c.loop-named.invariant)

pub returns : goal.returns
returns c =
    let all = take_all c.loop-named.named-index c.as_slice-named-items.result.now (omega arith) ∙ c.as_slice-named-items.ensures in
    let are = subst (λ (ps : List NamedProg). AreLoaded ps c.loop-named.codes) all c.loop-named.invariant in
    record { programs = are.programs; own = are.own; codes_are = are.codes_are }
