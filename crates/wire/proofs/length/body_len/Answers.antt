-- The length by kind.
use Rattle.std.proofs.Common.{ap, arith}
use Rattle.wire.proofs.Lengths.{body_size, body_length}
use Rattle.wire.proofs.length.body_len.Goals as goal

pub returns-in-Get-clause-value : goal.returns-in-Get-clause-value
returns-in-Get-clause-value c = omega (arith, body_length c.args.body.now, ap body_size c.in-Get.is)

pub returns-in-Note-clause-value : goal.returns-in-Note-clause-value
returns-in-Note-clause-value c = omega (arith, body_length c.args.body.now, ap body_size c.in-Note.is)

pub returns-in-Puts-clause-value : goal.returns-in-Puts-clause-value
returns-in-Puts-clause-value c = omega (arith, body_length c.args.body.now, ap body_size c.in-Puts.is)

pub returns-in-Prepare-clause-value : goal.returns-in-Prepare-clause-value
returns-in-Prepare-clause-value c = omega (arith, body_length c.args.body.now, ap body_size c.in-Prepare.is)

pub returns-in-Vote-clause-value : goal.returns-in-Vote-clause-value
returns-in-Vote-clause-value c = omega (arith, body_length c.args.body.now, ap body_size c.in-Vote.is)

pub returns-in-Finalize-clause-value : goal.returns-in-Finalize-clause-value
returns-in-Finalize-clause-value c = omega (arith, body_length c.args.body.now, ap body_size c.in-Finalize.is)

pub returns-in-Accepted-clause-value : goal.returns-in-Accepted-clause-value
returns-in-Accepted-clause-value c = omega (arith, body_length c.args.body.now, ap body_size c.in-Accepted.is)

pub returns-in-Decide-clause-value : goal.returns-in-Decide-clause-value
returns-in-Decide-clause-value c = omega (arith, body_length c.args.body.now, ap body_size c.in-Decide.is)

pub returns-in-Ask-clause-value : goal.returns-in-Ask-clause-value
returns-in-Ask-clause-value c = omega (arith, body_length c.args.body.now, ap body_size c.in-Ask.is)

pub returns-in-Told-clause-value : goal.returns-in-Told-clause-value
returns-in-Told-clause-value c = omega (arith, body_length c.args.body.now, ap body_size c.in-Told.is)

pub returns-in-Fence-clause-value : goal.returns-in-Fence-clause-value
returns-in-Fence-clause-value c = omega (arith, body_length c.args.body.now, ap body_size c.in-Fence.is)

pub returns-in-Fenced-clause-value : goal.returns-in-Fenced-clause-value
returns-in-Fenced-clause-value c = omega (arith, body_length c.args.body.now, ap body_size c.in-Fenced.is)

pub returns-in-Drop-clause-value : goal.returns-in-Drop-clause-value
returns-in-Drop-clause-value c = omega (arith, body_length c.args.body.now, ap body_size c.in-Drop.is)

pub returns-in-TooOld-clause-value : goal.returns-in-TooOld-clause-value
returns-in-TooOld-clause-value c = omega (arith, body_length c.args.body.now, ap body_size c.in-TooOld.is)
