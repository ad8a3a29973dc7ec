use Rattle.std.proofs.Common.{◌≡◌, suc, ◌-◌, arith, rules}
use Rattle.txn_lang.specs.Tree.{commands}
use Rattle.flat_code.proofs.Whole.{is_short, few_first, few_second, few_turn, choice_emitted, loop_emitted}
use Rattle.flat_code.proofs.flattening.+flat.Goals as goal

pub flat_in-size-requires : goal.flat_in-size-requires
flat_in-size-requires t c =
    let few = few_first c.args.stmt.now c.in-If.e c.in-If.yes c.in-If.no c.in-If.is c.requires in
    omega (arith, is_short c.in_ok-yes-in-If.yes (commands c.in-If.yes) c.in_ok-yes-in-If.ensures few)

pub flat_in-overflow_add-size : goal.flat_in-overflow_add-size
flat_in-overflow_add-size t c =
    let few = few_first c.args.stmt.now c.in-If.e c.in-If.yes c.in-If.no c.in-If.is c.requires in
    omega (arith, is_short c.in_ok-yes-in-If.yes (commands c.in-If.yes) c.in_ok-yes-in-If.ensures few)

pub flat_in-size-requires-in-If : goal.flat_in-size-requires-in-If
flat_in-size-requires-in-If t c =
    let few = few_second c.args.stmt.now c.in-If.e c.in-If.yes c.in-If.no c.in-If.is c.requires in
    omega (arith, is_short c.in_ok-no-in-If.no (commands c.in-If.no) c.in_ok-no-in-If.ensures few)

pub flat_in-size-back-requires : goal.flat_in-size-back-requires
flat_in-size-back-requires t c =
    let some : c.in-Repeat.times ≡ suc (c.in-Repeat.times - 1) = omega arith in
    let few = few_turn c.args.stmt.now c.in-Repeat.body c.in-Repeat.times (c.in-Repeat.times - 1) c.in-Repeat.is some c.requires in
    omega (arith, is_short c.in_ok-body-in-Repeat.body (commands c.in-Repeat.body) c.in_ok-body-in-Repeat.ensures few)

pub flat_in-returns-in_ok-append-in-If-2 : goal.flat_in-returns-in_ok-append-in-If-2
flat_in-returns-in_ok-append-in-If-2 t c =
    choice_emitted c.in_ok-ops-in-If.ops c.append.new.self c.push.new.self c.append-in-If.new.self c.in_ok-yes-in-If.yes c.in_ok-no-in-If.no
    c.args.stmt.now c.in-If.e c.in_ok-copy-in-If.field-0 c.in-If.yes c.in-If.no c.size.result c.size-in-If.result c.in-If.is c.in_ok-copy-in-If.ensures
    c.in_ok-ops-in-If.ensures c.in_ok-append-in-If.ensures.ok c.in_ok-push-in-If.ensures.ok c.in_ok-append-in-If-2.ensures.ok
    c.size.ensures c.size-in-If.ensures c.in_ok-yes-in-If.ensures c.in_ok-no-in-If.ensures

pub flat_in-returns-in_ok-push-in-Repeat : goal.flat_in-returns-in_ok-push-in-Repeat
flat_in-returns-in_ok-push-in-Repeat t c =
    let some : c.in-Repeat.times ≡ suc (c.in-Repeat.times - 1) = omega arith in
    loop_emitted c.in_ok-ops-in-Repeat.ops c.append-in-Repeat.new.self c.push-in-Repeat.new.self c.in_ok-body-in-Repeat.body
    c.args.stmt.now c.in-Repeat.body c.in-Repeat.times (c.in-Repeat.times - 1) c.size-back.result c.in-Repeat.is some (λ e. search rules)
    c.in_ok-ops-in-Repeat.ensures c.in_ok-append-in-Repeat.ensures.ok c.in_ok-push-in-Repeat.ensures.ok c.size-back.ensures c.in_ok-body-in-Repeat.ensures
