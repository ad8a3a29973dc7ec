use Rattle.law_safety.proofs.ViewsLaw as proved
use Rattle.law_safety.proofs.views.Goals as goal

pub returns : goal.returns
returns c = proved.views
