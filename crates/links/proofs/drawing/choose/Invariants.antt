use Rattle.std.proofs.Common.{◌≡◌, suc, length}
use Rattle.net_core.specs.Replay.{shown}
use Rattle.net_core.specs.SeededRule.{choose, timely}
use Rattle.links.specs.Drawings.{drawing}
use Rattle.links.proofs.drawing.choose.Given as goal

abbrev pub invariant-loop-choices : goal.invariant-loop-choices
invariant-loop-choices l =
    (choose (suc l.more) l.mind.plan.late (shown l.menu) (drawing l.mind.late l.draws)
    ≡ choose (suc (length l.menu.fresh.now)) l.mind.plan.late (shown l.menu) (drawing l.mind.late l.initial.draws))
    × (l.choices.items ≡ timely (drawing l.mind.late l.draws).late l.menu.fresh.now)

abbrev pub decreases-loop-choices : goal.decreases-loop-choices
decreases-loop-choices l = l.more
