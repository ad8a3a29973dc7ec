-- What has a frame, a replica can handle.
use Rattle.std.proofs.Common.{Option, Some, None, arith}
use Rattle.std.specs.Prelude.{IfSome}
use Rattle.protocol.specs.Words.{Body, Content, BaseEntry, Puts, Prepare, Finalize, Decide, Drops, key_before}
use Rattle.protocol.proofs.NamesLemmas.{key_trans}
use Rattle.wire.specs.Sendable.{IsShort, IsFit}
use Rattle.protocol.specs.Replica.Limits.{HasFewWrites, IsWithinLimits}
use Rattle.law_frames.specs.Handling.{SendableIsWithinLimits}
use Rattle.law_frames.proofs.RisingLemmas.{rising_by}

few_writes : (o : Option Content) → IfSome o IsShort → HasFewWrites o
few_writes None s = tt
few_writes (Some k) s = let l = s.writes in omega (arith, l)

fit_within : (b : Body) → IsFit b → IsWithinLimits b
fit_within (Puts x ws) f = omega (arith, f)
fit_within (Prepare x k) f = let l = f.writes in omega (arith, l)
fit_within (Finalize x v d o) f = few_writes o f.1
fit_within (Decide x d o) f = few_writes o f.1
fit_within (Drops w bs) f = rising_by (λ (d e : BaseEntry). key_before d.key e.key) (λ d e g. key_trans d.key e.key g.key) bs f.rising
fit_within _ f = tt

pub sendable_is_within_limits : SendableIsWithinLimits
sendable_is_within_limits m s = fit_within m.body s.body
