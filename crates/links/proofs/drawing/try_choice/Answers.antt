use Rattle.std.proofs.Common.{◌≡◌, ◌+◌, cond, length, sym, ◌∙◌, ap}
use Rattle.net_core.specs.Replay.{shown}
use Rattle.net_core.specs.SeededRule.{choice_count, chosen, choose}
use Rattle.std.specs.List.{slice_get}
use Rattle.links.specs.Drawings.{drawing}
use Rattle.links.proofs.ChoiceLemmas.{chosen_so}
use Rattle.links.proofs.drawing.try_choice.Goals as goal

pub returns-clause-tried : goal.returns-clause-tried
returns-clause-tried c = λ times.
    let late_of_100 = c.args.mind.now.plan.late in
    let menu = shown c.args.menu.now in
    let d = drawing c.args.mind.now.late c.args.draws.now in
    let items = c.requires in
    let counts : c.count_choices-count.result ≡ choice_count menu d =
    c.count_choices-count.ensures ∙ ap (λ xs. length xs + cond menu.go 1 0) items in
    chosen_so times late_of_100 menu d c.count_choices-count.result c.draw-place.result c.draw-place.new.rng c.if-count-eq0.false counts c.draw-place.ensures.drawn
    ∙ ap (chosen (choose times late_of_100 menu) late_of_100 (record d { generator = c.draw-place.new.rng }))
    (sym (c.choice_at-chosen.ensures ∙ ap (λ xs. slice_get xs c.draw-place.result) items))
    ∙ c.in_ok-tried.ensures.tried c.args.mind.now.late (choose times late_of_100 menu)
