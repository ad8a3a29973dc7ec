use Rattle.law_serial.proofs.SureNotes as proved
use Rattle.law_serial.proofs.sure_notes.Goals as goal

pub returns : goal.returns
returns c = proved.sure_notes
