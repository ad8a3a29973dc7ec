use Rattle.std.proofs.Common.{◌≡◌, sym, subst, refl, true, List, []}
use Rattle.std.specs.Prelude.{IfOk, OnOk}
use Rattle.std.specs.Option.{option_to_list}
use Rattle.protocol.specs.Words.{Get, Puts, Prepare, Finalize, Decide, Ask, Fence, Drops, Write}
use Rattle.protocol.specs.Replica.Taken.{takes}
use Rattle.protocol.specs.Replica.Says.{answer}
use Rattle.mv_index.proofs.VotesSame.{after_body}
use Rattle.protocol.specs.Replica.Limits.{IsWithinLimits}
use Rattle.replica.specs.Replica.{Keeps}
use Rattle.replica.proofs.ReplicaTurns.{taken_above, taken_content, unruled_untaken}
use Rattle.replica.proofs.replica.Replica.follow.Goals as goal

pub on_drop-requires : goal.on_drop-requires
on_drop-requires c = subst IsWithinLimits c.in-Drop.is c.requires

pub returns-in-Get-clause-answers : goal.returns-in-Get-clause-answers
returns-in-Get-clause-answers c = λ firsts number h k t.
    let g = Get c.in-Get.exec c.in-Get.key in
    subst (λ b. IfOk c.on_get.result (λ o. option_to_list o ≡ answer firsts h b)) (sym c.in-Get.is)
    (c.on_get.ensures.answers firsts number h k (taken_above h g c.in-Get.exec.ver refl (subst (λ b. takes h b ≡ true) c.in-Get.is t)))

pub returns-in-Get-clause-stands : goal.returns-in-Get-clause-stands
returns-in-Get-clause-stands c = λ firsts number h from to k t.
    let g = Get c.in-Get.exec c.in-Get.key in
    subst (λ b. OnOk c.on_get.result (Keeps firsts number h (after_body h from to b) c.on_get.new.self)) (sym c.in-Get.is)
    (c.on_get.ensures.stands firsts number h from to k (taken_above h g c.in-Get.exec.ver refl (subst (λ b. takes h b ≡ true) c.in-Get.is t)))

pub returns-in-Prepare-clause-answers : goal.returns-in-Prepare-clause-answers
returns-in-Prepare-clause-answers c = λ firsts number h k t.
    let g = Prepare c.in-Prepare.exec c.in-Prepare.content in
    subst (λ b. IfOk c.on_prepare.result (λ o. option_to_list o ≡ answer firsts h b)) (sym c.in-Prepare.is)
    (c.on_prepare.ensures.answers firsts number h k (taken_above h g c.in-Prepare.exec.ver refl (subst (λ b. takes h b ≡ true) c.in-Prepare.is t)))

pub returns-in-Prepare-clause-stands : goal.returns-in-Prepare-clause-stands
returns-in-Prepare-clause-stands c = λ firsts number h from to k t.
    let g = Prepare c.in-Prepare.exec c.in-Prepare.content in
    subst (λ b. OnOk c.on_prepare.result (Keeps firsts number h (after_body h from to b) c.on_prepare.new.self)) (sym c.in-Prepare.is)
    (c.on_prepare.ensures.stands firsts number h from to k (taken_above h g c.in-Prepare.exec.ver refl (subst (λ b. takes h b ≡ true) c.in-Prepare.is t)))

pub returns-in-Finalize-clause-answers : goal.returns-in-Finalize-clause-answers
returns-in-Finalize-clause-answers c = λ firsts number h k t.
    let g = Finalize c.in-Finalize.exec c.in-Finalize.view c.in-Finalize.choice c.in-Finalize.content in
    subst (λ b. IfOk c.on_finalize.result (λ o. option_to_list o ≡ answer firsts h b)) (sym c.in-Finalize.is)
    (c.on_finalize.ensures.answers firsts number h k (taken_above h g c.in-Finalize.exec.ver refl (subst (λ b. takes h b ≡ true) c.in-Finalize.is t)))

pub returns-in-Finalize-clause-stands : goal.returns-in-Finalize-clause-stands
returns-in-Finalize-clause-stands c = λ firsts number h from to k t.
    let g = Finalize c.in-Finalize.exec c.in-Finalize.view c.in-Finalize.choice c.in-Finalize.content in
    subst (λ b. OnOk c.on_finalize.result (Keeps firsts number h (after_body h from to b) c.on_finalize.new.self)) (sym c.in-Finalize.is)
    (c.on_finalize.ensures.stands firsts number h from to k (taken_above h g c.in-Finalize.exec.ver refl (subst (λ b. takes h b ≡ true) c.in-Finalize.is t)))

pub returns-in-Ask-clause-answers : goal.returns-in-Ask-clause-answers
returns-in-Ask-clause-answers c = λ firsts number h k t.
    let g = Ask c.in-Ask.exec c.in-Ask.view in
    subst (λ b. IfOk c.on_ask.result (λ o. option_to_list o ≡ answer firsts h b)) (sym c.in-Ask.is)
    (c.on_ask.ensures.answers firsts number h k (taken_above h g c.in-Ask.exec.ver refl (subst (λ b. takes h b ≡ true) c.in-Ask.is t)))

pub returns-in-Ask-clause-stands : goal.returns-in-Ask-clause-stands
returns-in-Ask-clause-stands c = λ firsts number h from to k t.
    let g = Ask c.in-Ask.exec c.in-Ask.view in
    subst (λ b. OnOk c.on_ask.result (Keeps firsts number h (after_body h from to b) c.on_ask.new.self)) (sym c.in-Ask.is)
    (c.on_ask.ensures.stands firsts number h from to k (taken_above h g c.in-Ask.exec.ver refl (subst (λ b. takes h b ≡ true) c.in-Ask.is t)))

pub returns-in-Fence-clause-answers : goal.returns-in-Fence-clause-answers
returns-in-Fence-clause-answers c = λ firsts number h k t.
    let g = Fence c.in-Fence.w in
    subst (λ b. IfOk c.on_fence.result (λ o. option_to_list o ≡ answer firsts h b)) (sym c.in-Fence.is)
    (c.on_fence.ensures.answers firsts number h k (taken_above h g c.in-Fence.w refl (subst (λ b. takes h b ≡ true) c.in-Fence.is t)))

pub returns-in-Fence-clause-stands : goal.returns-in-Fence-clause-stands
returns-in-Fence-clause-stands c = λ firsts number h from to k t.
    let g = Fence c.in-Fence.w in
    subst (λ b. OnOk c.on_fence.result (Keeps firsts number h (after_body h from to b) c.on_fence.new.self)) (sym c.in-Fence.is)
    (c.on_fence.ensures.stands firsts number h from to k (taken_above h g c.in-Fence.w refl (subst (λ b. takes h b ≡ true) c.in-Fence.is t)))

pub returns-in_ok-on_puts-in-Puts-clause-answers : goal.returns-in_ok-on_puts-in-Puts-clause-answers
unfolding answer
returns-in_ok-on_puts-in-Puts-clause-answers c = λ firsts number h k t. subst (λ b. [] ≡ answer firsts h b) (sym c.in-Puts.is) refl

pub returns-in_ok-on_puts-in-Puts-clause-stands : goal.returns-in_ok-on_puts-in-Puts-clause-stands
returns-in_ok-on_puts-in-Puts-clause-stands c = λ firsts number h from to k t.
    let g = Puts c.in-Puts.exec c.in-Puts.writes in
    let taken = subst (λ b. takes h b ≡ true) c.in-Puts.is t in
    let above = taken_above h g c.in-Puts.exec.ver refl taken in
    subst (λ b. Keeps firsts number h (after_body h from to b) c.on_puts.new.self) (sym c.in-Puts.is)
    (subst (λ (ws : List Write). Keeps firsts number h (after_body h from to (Puts c.in-Puts.exec ws)) c.on_puts.new.self) c.as_slice.ensures
    (c.in_ok-on_puts-in-Puts.ensures.stands firsts number h from to k above))

pub returns-in_ok-on_decide-in-Decide-clause-answers : goal.returns-in_ok-on_decide-in-Decide-clause-answers
unfolding answer
returns-in_ok-on_decide-in-Decide-clause-answers c = λ firsts number h k t. subst (λ b. [] ≡ answer firsts h b) (sym c.in-Decide.is) refl

pub returns-in_ok-on_decide-in-Decide-clause-stands : goal.returns-in_ok-on_decide-in-Decide-clause-stands
returns-in_ok-on_decide-in-Decide-clause-stands c = λ firsts number h from to k t.
    let g = Decide c.in-Decide.exec c.in-Decide.choice c.in-Decide.content in
    let taken = subst (λ b. takes h b ≡ true) c.in-Decide.is t in
    let above = taken_above h g c.in-Decide.exec.ver refl taken in
    subst (λ b. Keeps firsts number h (after_body h from to b) c.on_decide.new.self) (sym c.in-Decide.is)
    (c.in_ok-on_decide-in-Decide.ensures.stands firsts number h from to k above (taken_content h g taken))

pub returns-in_ok-on_drop-in-Drop-clause-answers : goal.returns-in_ok-on_drop-in-Drop-clause-answers
unfolding answer
returns-in_ok-on_drop-in-Drop-clause-answers c = λ firsts number h k t. subst (λ b. [] ≡ answer firsts h b) (sym c.in-Drop.is) refl

pub returns-in_ok-on_drop-in-Drop-clause-stands : goal.returns-in_ok-on_drop-in-Drop-clause-stands
returns-in_ok-on_drop-in-Drop-clause-stands c = λ firsts number h from to k t.
    let g = Drops c.in-Drop.w c.in-Drop.base in
    let taken = subst (λ b. takes h b ≡ true) c.in-Drop.is t in
    let above = taken_above h g c.in-Drop.w refl taken in
    subst (λ b. Keeps firsts number h (after_body h from to b) c.on_drop.new.self) (sym c.in-Drop.is)
    (c.in_ok-on_drop-in-Drop.ensures.stands firsts number h from to k above)

pub returns-in-Note-clause-answers : goal.returns-in-Note-clause-answers
returns-in-Note-clause-answers c = λ firsts number h k t. absurd (unruled_untaken h c.args.body.now c.in-Note.is t)

pub returns-in-Note-clause-stands : goal.returns-in-Note-clause-stands
returns-in-Note-clause-stands c = λ firsts number h from to k t. absurd (unruled_untaken h c.args.body.now c.in-Note.is t)
