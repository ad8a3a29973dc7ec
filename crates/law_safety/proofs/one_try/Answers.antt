use Rattle.law_safety.proofs.OneTry as proved
use Rattle.law_safety.proofs.one_try.Goals as goal

pub returns : goal.returns
returns c = proved.one_try
