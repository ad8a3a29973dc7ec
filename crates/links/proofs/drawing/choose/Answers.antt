use Rattle.links.proofs.ChoiceLemmas.{go_on}
use Rattle.links.proofs.drawing.choose.Goals as goal

pub loop-choices-preserved : goal.loop-choices-preserved
loop-choices-preserved c = (
  go_on c.loop-choices.more _ _ _ _ _ c.in_ok-pick.field-0 c.if-more-eq0.false c.in_default.is c.in_ok-pick.ensures.tried c.loop-choices.invariant.0,
  c.in_ok-pick.ensures.choices,
)
