-- So far the first executions are listed.
use Rattle.std.proofs.Common.{◌≡◌, ◌++◌, take}
use Rattle.std.specs.Prelude.{filter, not}
use Rattle.protocol.specs.Warden.Truncation.{named_committed}
use Rattle.truncation.proofs.NamedLemmas.{execs}
use Rattle.truncation.proofs.truncation.add_named.Given as goal

abbrev pub invariant-loop-kept : goal.invariant-loop-kept
invariant-loop-kept l = l.named ≡ l.fn.named ++ filter (λ x. not (named_committed l.answers x)) (execs (take l.kept-index l.kept-items))
