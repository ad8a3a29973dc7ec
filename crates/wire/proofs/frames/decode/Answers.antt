-- What was read is the frame of what was given back, no other envelope begins the bytes, and a fault is that of the bytes.
use Rattle.std.proofs.Common.{arith}
use Rattle.std.proofs.lemmas.Result.{err_from_is_err_and}
use Rattle.wire.proofs.Bytes.{IsBytes}
use Rattle.wire.proofs.Decoding.{decoded_begins, rest_within, decoded_only, failed_only}
use Rattle.wire.proofs.frames.decode.Goals as goal

pub returns-in_err-envelope-clause-only : goal.returns-in_err-envelope-clause-only
returns-in_err-envelope-clause-only c =
    let p = err_from_is_err_and c.from_residual.result c.from_residual.ensures.1 in
    λ m rest may fits is. rw (p.1, p.2) (failed_only c.in_err-envelope.field-0.0 c.args.bytes.now m rest c.in_err-envelope.ensures may fits is)

pub overflow_sub-result : goal.overflow_sub-result
overflow_sub-result c =
    let read = c.in_ok-envelope in
    rest_within c.args.bytes.now read.envelope read.rest.now (λ i. omega (arith, c.type_inv.bytes i)) read.ensures

pub returns-clause-found : goal.returns-clause-found
returns-clause-found c =
    let read = c.in_ok-envelope in
    let are_bytes : IsBytes c.args.bytes.now = λ i. omega (arith, c.type_inv.bytes i) in
    let within = rest_within c.args.bytes.now read.envelope read.rest.now are_bytes read.ensures in
    decoded_begins c.args.bytes.now read.envelope read.rest.now _ are_bytes read.ensures (omega (arith, within))

pub returns-clause-only : goal.returns-clause-only
returns-clause-only c =
    let read = c.in_ok-envelope in
    let within = rest_within c.args.bytes.now read.envelope read.rest.now (λ i. omega (arith, c.type_inv.bytes i)) read.ensures in
    λ m rest may fits is. decoded_only c.args.bytes.now read.envelope m read.rest.now rest _ read.ensures (omega (arith, within)) may fits is
