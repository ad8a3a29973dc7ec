use Rattle.script.proofs.SaidIsSayable as lemmas
use Rattle.script.proofs.said_is_sayable.Goals as goal

pub returns : goal.returns
returns c = lemmas.said_is_sayable
