-- The segment of a job wrote something where the walk has more writes than the walk on fewer answers.
use Rattle.std.proofs.Common.{◌≡◌, ℕ, ◌+◌, ◌-◌, List, [], ◌∷◌, ◌++◌, length, take, Some, None, cond, ap, sym, ◌∙◌, ℤ, arith, length-append, ⊎_elim, Bool}
use Rattle.std.specs.Prelude.{nat_lt, ◌==◌}
use Rattle.std.proofs.lemmas.Bool.Decides.{nat_tests}
use Rattle.std.proofs.lemmas.List.{length-map}
use Rattle.std.proofs.Math.Seq.{take-append_seam}
use Rattle.txn_lang.specs.Program.{Program, replay_of}
use Rattle.continuation.specs.declared.segment.Seg.{Seg}
use Rattle.continuation.specs.Job.{IsJobRun}
use Rattle.continuation.specs.Segment.{IsFirst, IsSuffix}
use Rattle.exec_log.specs.Log.{answers_in}
use Rattle.exec_log.proofs.LastJobs.{last_run}
use Rattle.protocol.specs.Client.State.{values}
use Rattle.protocol.specs.Client.Attempts.{front}
use Rattle.protocol_plans.specs.Scripted.{write_of, program_walk}
use Rattle.coordinator.specs.Execution.{Loaded, StandsFor, answers_of}
use Rattle.coordinator.specs.declared.execution.Execution.{Execution}
use Rattle.coordinator.proofs.AnswersLemmas.{values_with}

-- the walk on these answers has writes beyond the walk without the last of them
abbrev pub has_more_writes : Program → List ℤ → Bool
has_more_writes p vs =
    cond (length vs == 0) (nat_lt 0 (length (program_walk p vs).writes)) (nat_lt (length (program_walk p (front vs)).writes) (length (program_walk p vs).writes))

front_of : (vs : List ℤ) (v : ℤ) → take (length (vs ++ v ∷ []) - 1) (vs ++ v ∷ []) ≡ vs
front_of vs v = rw (length-append vs (v ∷ [])) (let n : (length vs + 1) - 1 ≡ length vs = omega arith in rw n (take-append_seam vs (v ∷ [])))

count_writes : (p : Program) (vs : List ℤ) → length (program_walk p vs).writes ≡ length (replay_of p vs).writes
count_writes p vs = length-map (replay_of p vs).writes write_of

first_wrote : (l : Loaded) (seg : Seg) → IsFirst l.code l.program seg → has_more_writes l.program [] ≡ nat_lt 0 (length seg.wrote)
first_wrote l seg f = ap (nat_lt 0) (count_writes l.program [] ∙ ap length f.wrote)

longer : (a b w : ℕ) → b ≡ a + w → nat_lt a b ≡ nat_lt 0 w
longer a b w e = grind (arith, nat_tests)

some_length : (vs : List ℤ) (v : ℤ) (a b : Bool) → cond (length (vs ++ v ∷ []) == 0) a b ≡ b
some_length vs v a b = let n : length (vs ++ v ∷ []) ≡ length vs + 1 = length-append vs (v ∷ []) in grind (arith, nat_tests)

suffix_wrote : (l : Loaded) (vs : List ℤ) (v : ℤ) (seg : Seg) → IsSuffix l.code l.program vs v seg →
    has_more_writes l.program (vs ++ v ∷ []) ≡ nat_lt 0 (length seg.wrote)
suffix_wrote l vs v seg s =
    let p = l.program in
    let more : length (program_walk p (vs ++ v ∷ [])).writes ≡ length (program_walk p (front (vs ++ v ∷ []))).writes + length seg.wrote =
    count_writes p (vs ++ v ∷ []) ∙ ap length s.wrote ∙ length-append (replay_of p vs).writes seg.wrote
    ∙ ap (λ us. length (replay_of p us).writes + length seg.wrote) (sym (front_of vs v))
    ∙ ap (λ n. n + length seg.wrote) (sym (count_writes p (front (vs ++ v ∷ [])))) in
    some_length vs v _ _ ∙ longer _ _ (length seg.wrote) more

-- the segment of the pending job
pub segment_wrote : (l : Loaded) (e : Execution) (seg : Seg) → StandsFor (Some l) e → e.log.next ≡ None → IsJobRun l.code e.job seg →
    has_more_writes l.program (values (answers_of e)) ≡ nat_lt 0 (length seg.wrote)
segment_wrote l e seg s none run =
    ap (has_more_writes l.program) (values_with e.log.reads e.nexts)
    ∙ ⊎_elim
    (λ f. ap (λ reads. has_more_writes l.program (answers_in reads)) f.0 ∙ first_wrote l seg f.1)
    (λ g. ap (has_more_writes l.program) g.2 ∙ suffix_wrote l g.0 g.1 seg g.3)
    (last_run l.code l.program e.log e.job seg l.is_code (s.follows.job none) run)
