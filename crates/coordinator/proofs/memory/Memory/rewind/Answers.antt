-- The next execution runs again from there, or the client gives up.
use Rattle.std.proofs.Common.{◌∙◌, ◌++◌, ◌∷◌, [], take, None, sym, subst, ap}
use Rattle.protocol.specs.Client.Attempts.{bumped, is_between}
use Rattle.protocol.specs.Client.Following.{rewind}
use Rattle.coordinator.specs.Memory.{Takes, current}
use Rattle.coordinator.specs.declared.memory.Memory.{Memory}
use Rattle.coordinator.proofs.SegmentLemmas.{runs_bare}
use Rattle.coordinator.proofs.DecidingLemmas.{stands_rewound}
use Rattle.coordinator.proofs.FollowingLemmas.{rewinds, rewinds_not}
use Rattle.coordinator.proofs.memory.Memory.rewind.Goals as goal

pub rewind-requires : goal.rewind-requires
rewind-requires c = λ whole. c.requires

pub returns-then-not-has_execution_left : goal.returns-then-not-has_execution_left
returns-then-not-has_execution_left c = λ g k pending given s runs.
    rewinds_not g k c.give_up.new.self c.args.i c.args.new c.in_ok-sent.sent (sym (c.has_execution_left.ensures g k s) ∙ c.if-not-has_execution_left.true)
    (c.in_ok-sent.ensures g k s (ap is_between runs))

pub returns : goal.returns
returns c = λ g k pending given s runs.
    let o = current g.programs c.args.self.now.plan c.args.self.now.course.begun in
    let done = c.in_ok-rewind.ensures in
    let more = sym (c.has_execution_left.ensures g k s) ∙ c.if-not-has_execution_left.false in
    let bare = runs_bare g k c.args.self.now pending given s runs in
    subst (λ (m : Memory). Takes g (rewind g.rules k c.args.i c.args.new) m c.new.result)
    (sym (c.bump.ensures ∙ ap (λ (x : Memory). record x { course = record x.course { serial = bumped x.course.serial } }) c.next_exec.ensures))
    (rewinds g k _ c.args.i c.args.new c.new.result more c.new.ensures
    (stands_rewound g k c.args.self.now c.rewind.new.self (take c.args.i k.answers ++ record { label = c.args.new; next = None } ∷ [])
    s (ap is_between runs) more (done.stands o s.execution)
    (ap (λ l. take c.args.i l ++ record { label = c.args.new; next = None } ∷ []) s.answers ∙ sym (done.answers s.execution.whole bare)) done.pending (done.nexts ∙ bare)))
