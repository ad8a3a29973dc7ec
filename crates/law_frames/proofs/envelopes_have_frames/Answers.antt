use Rattle.law_frames.proofs.EnvelopesHaveFrames as proved
use Rattle.law_frames.proofs.envelopes_have_frames.Goals as goal

pub returns : goal.returns
returns c = proved.envelopes_have_frames
