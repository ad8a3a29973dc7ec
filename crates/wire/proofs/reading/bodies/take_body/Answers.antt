-- Each kind has its own reader.
use Rattle.wire.proofs.reading.bodies.take_body.Goals as goal

pub returns-in-Get : goal.returns-in-Get
returns-in-Get c = rw c.in-Get.is c.take_get.ensures

pub returns-in-Note : goal.returns-in-Note
returns-in-Note c = rw c.in-Note.is c.take_note.ensures

pub returns-in-Puts : goal.returns-in-Puts
returns-in-Puts c = rw c.in-Puts.is c.take_puts.ensures

pub returns-in-Prepare : goal.returns-in-Prepare
returns-in-Prepare c = rw c.in-Prepare.is c.take_prepare.ensures

pub returns-in-Vote : goal.returns-in-Vote
returns-in-Vote c = rw c.in-Vote.is c.take_vote_body.ensures

pub returns-in-Finalize : goal.returns-in-Finalize
returns-in-Finalize c = rw c.in-Finalize.is c.take_finalize.ensures

pub returns-in-Accepted : goal.returns-in-Accepted
returns-in-Accepted c = rw c.in-Accepted.is c.take_accepted.ensures

pub returns-in-Decide : goal.returns-in-Decide
returns-in-Decide c = rw c.in-Decide.is c.take_decide.ensures

pub returns-in-Ask : goal.returns-in-Ask
returns-in-Ask c = rw c.in-Ask.is c.take_ask.ensures

pub returns-in-Told : goal.returns-in-Told
returns-in-Told c = rw c.in-Told.is c.take_told.ensures

pub returns-in-Fence : goal.returns-in-Fence
returns-in-Fence c = rw c.in-Fence.is c.take_fence.ensures

pub returns-in-Fenced : goal.returns-in-Fenced
returns-in-Fenced c = rw c.in-Fenced.is c.take_fenced.ensures

pub returns-in-Drop : goal.returns-in-Drop
returns-in-Drop c = rw c.in-Drop.is c.take_drop.ensures

pub returns-in-TooOld : goal.returns-in-TooOld
returns-in-TooOld c = rw c.in-TooOld.is c.take_too_old.ensures
