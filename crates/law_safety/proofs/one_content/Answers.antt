use Rattle.law_safety.proofs.OneContent as proved
use Rattle.law_safety.proofs.one_content.Goals as goal

pub returns : goal.returns
returns c = proved.one_content
