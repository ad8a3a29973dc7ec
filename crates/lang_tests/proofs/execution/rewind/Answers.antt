use Rattle.std.proofs.Common.{ℕ, ◌<◌, subst}
use Rattle.lang_tests.proofs.ExecutionLemmas.{pending_next}
use Rattle.lang_tests.proofs.execution.rewind.Goals as goal

pub rewind-requires : goal.rewind-requires
rewind-requires c = record { within = λ _. subst (λ (n : ℕ). c.args.i < n) c.reads.ensures c.if-i-reads.false }

pub run_last-requires : goal.run_last-requires
run_last-requires c =
    let e = c.in_ok-at.ensures in
    pending_next c.args.execution.code c.args.execution.log c.rewind.new.self c.in_ok-at.at c.requires e.stands e.last e.pending e.whole
