-- So far, of the first answers, the bases are put; then what they name as committed; then what was decided of what they
-- name as voted.
use Rattle.std.proofs.Common.{◌≡◌, [], take}
use Rattle.std.specs.Prelude.{flat_map}
use Rattle.protocol.specs.Warden.State.{FencedAnswer}
use Rattle.protocol.specs.Warden.Base.{put_entries, kept_entries, decided_entries}
use Rattle.truncation.proofs.base.base_of.Given as goal

abbrev pub invariant-loop-answer : goal.invariant-loop-answer
invariant-loop-answer l = l.base ≡ put_entries [] (flat_map (λ (a : FencedAnswer). a.base) (take l.answer-index l.answers))

abbrev pub invariant-loop-answer-2 : goal.invariant-loop-answer-2
invariant-loop-answer-2 l = l.base ≡ put_entries l.initial.base (flat_map (λ (a : FencedAnswer). kept_entries l.w a.committed) (take l.answer-index l.answers))

abbrev pub invariant-loop-answer-3 : goal.invariant-loop-answer-3
invariant-loop-answer-3 l = l.base ≡ put_entries l.initial.base
    (flat_map (λ (a : FencedAnswer). decided_entries l.w l.rec.state a.voted) (take l.answer-index l.answers))
