use Rattle.law_safety.proofs.AnswersTell as proved
use Rattle.law_safety.proofs.answers_tell.Goals as goal

pub returns : goal.returns
returns c = proved.answers_tell
