-- So far what the first answers name is listed.
use Rattle.std.proofs.Common.{◌≡◌, take}
use Rattle.std.specs.Prelude.{filter, flat_map, not}
use Rattle.protocol.specs.Warden.State.{FencedAnswer}
use Rattle.protocol.specs.Warden.Truncation.{named_committed}
use Rattle.truncation.proofs.NamedLemmas.{execs}
use Rattle.truncation.proofs.truncation.to_recover.Given as goal

abbrev pub invariant-loop-answer : goal.invariant-loop-answer
invariant-loop-answer l = l.named ≡ filter (λ x. not (named_committed l.answers x))
    (flat_map (λ (a : FencedAnswer). execs a.voted) (take l.answer-index l.answers))
