use Rattle.law_safety.proofs.ContentsReplayed as proved
use Rattle.law_safety.proofs.contents_replayed.Goals as goal

pub returns : goal.returns
returns c = proved.contents_replayed
