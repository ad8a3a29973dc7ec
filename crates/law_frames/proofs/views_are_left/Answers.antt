use Rattle.law_frames.proofs.ViewsAreLeft as proved
use Rattle.law_frames.proofs.views_are_left.Goals as goal

pub returns : goal.returns
returns c = proved.views_are_left
