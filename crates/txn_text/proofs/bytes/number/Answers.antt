use Rattle.std.proofs.Common.{arith}
use Rattle.txn_text.proofs.NumberLemmas.{front-le-number}
use Rattle.txn_text.proofs.bytes.number.Goals as goal

pub returns-then-value-digit : goal.returns-then-value-digit
returns-then-value-digit c =
    let grown = front-le-number c.args.digits.now c.loop-byte.byte-index c.loop-byte-test.true in
    λ h. omega (arith, grown, h)
