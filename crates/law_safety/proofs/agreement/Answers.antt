use Rattle.law_safety.proofs.AgreementLaw as proved
use Rattle.law_safety.proofs.agreement.Goals as goal

pub returns : goal.returns
returns c = proved.agreement
