-- The next execution is that of the definitions.
use Rattle.std.proofs.Common.{◌≡◌, ◌∙◌, ◌++◌, sym, subst, ap, refl, true, false}
use Rattle.std.specs.Prelude.{is_none, ◌&&◌}
use Rattle.std.specs.List.{list_any}
use Rattle.exec_log.specs.Log.{ending_by}
use Rattle.protocol.specs.Words.{Puts}
use Rattle.protocol.specs.Lists.{one_when}
use Rattle.protocol.specs.Client.State.{may_put}
use Rattle.protocol.specs.Client.Attempts.{bumped, is_between}
use Rattle.protocol.specs.Client.Deciding.{cut, next_execution, other_value, relabelled}
use Rattle.coordinator.specs.Execution.{is_pending}
use Rattle.coordinator.specs.Memory.{StandsFor, Takes, current, rerun_memory}
use Rattle.coordinator.specs.declared.memory.Memory.{Memory}
use Rattle.coordinator.proofs.DecidingLemmas.{next_kept, next_rewound, prepared_so, stands_relabelled, stands_rewound}
use Rattle.coordinator.proofs.memory.Memory.next_execution.Goals as goal

pub returns-then-other : goal.returns-then-other
returns-then-other c = λ g k content votes proposal accepts s runs more.
    let o = current g.programs c.args.self.now.plan c.args.self.now.course.begun in
    let moved = c.in_ok-other.ensures in
    subst (λ (m : Memory). Takes g (next_execution g.rules k c.args.sent) m c.args.sent)
    (sym (c.bump.ensures ∙ ap (λ (x : Memory). record x { course = record x.course { serial = bumped x.course.serial } }) c.next_exec.ensures))
    (next_rewound g k _ c.args.sent (ap (list_any other_value) s.answers ∙ sym moved.other ∙ c.if-other.true)
    (stands_rewound g k c.args.self.now c.move_on.new.self (cut k.answers) s (ap is_between runs) more (moved.stands o s.execution)
    (ap cut s.answers ∙ sym (moved.back s.execution.whole c.if-other.true)) (moved.pending c.if-other.true) moved.nexts))

pub returns : goal.returns
unfolding relabelled
returns c = λ g k content votes proposal accepts s runs more.
    let o = current g.programs c.args.self.now.plan c.args.self.now.course.begun in
    let moved = c.in_ok-other.ensures in
    let e = c.move_on.new.self in
    let m = rerun_memory (record c.args.self.now { execution = e }) in
    let was = (prepared_so g k c.args.self.now content votes proposal accepts s runs).1.still in
    let still : is_pending e ≡ false = ap is_none (moved.next s.execution.whole c.if-other.false) ∙ was in
    let now = stands_relabelled g k c.args.self.now e s (ap is_between runs) more
    (moved.stands o s.execution) (moved.kept s.execution.whole c.if-other.false) still moved.nexts in
    next_kept g k m c.prepare_if_ready.new.self c.args.sent c.append.new.self c.in_ok-out.out
    (ap (list_any other_value) s.answers ∙ sym moved.other ∙ c.if-other.false) now still
    (c.in_ok-append.ensures.ok ∙ ap (λ ps. c.args.sent ++ ps) (c.in_ok-puts.ensures
    ∙ ap (λ (x : Memory). one_when (may_put (ending_by x.execution.log.next) && true) (Puts x.course.exec x.execution.log.writes)) c.next_exec-2.ensures))
    (c.in_ok-out.ensures g (relabelled k) false (subst (StandsFor g (relabelled k)) (sym c.next_exec-2.ensures) now) refl)
