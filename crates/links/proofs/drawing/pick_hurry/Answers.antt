use Rattle.std.proofs.Common.{cond, Some, None, sym, ◌∙◌, ap}
use Rattle.msg.specs.declared.Pick.TheVariants.{Hurry}
use Rattle.net_core.specs.SeededRule.{pick_hurry}
use Rattle.links.specs.Drawings.{drawing}
use Rattle.links.proofs.drawing.pick_hurry.Goals as goal

pub returns-then-is_drawn : goal.returns-then-is_drawn
returns-then-is_drawn c = λ before.
    (λ i. (cond (c.if-is_drawn.ensures.drawn i) (Some Hurry) None, drawing before (c.is_drawn.ensures.past i)))
    ∙ ap (λ h. pick_hurry c.args.hurry_of_100 h (drawing before c.args.draws.now)) (sym c.if-not-hurry.false)

pub returns : goal.returns
returns c = λ before.
    (λ i. (cond (c.if-is_drawn.ensures.drawn i) (Some Hurry) None, drawing before (c.is_drawn.ensures.past i)))
    ∙ ap (λ h. pick_hurry c.args.hurry_of_100 h (drawing before c.args.draws.now)) (sym c.if-not-hurry.false)
