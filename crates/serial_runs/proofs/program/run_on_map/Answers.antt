use Rattle.std.proofs.Common.{length, ap, sym, subst, ◌∙◌}
use Rattle.std.specs.Prelude.{IsSome}
use Rattle.txn_lang.specs.Runs.{map_answer}
use Rattle.serial_runs.specs.Execution.{run_of}
use Rattle.serial_runs.proofs.program.run_on_map.Goals as goal

-- a serial run ends
pub into_serial-run-requires : goal.into_serial-run-requires
into_serial-run-requires c =
    let p = c.args.prog.now in
    subst (λ r. IsSome r.ending) (sym (c.in_ok-replay.ensures ∙ ap (run_of map_answer p) c.new.ensures))
    ((c.replay_is_serial.ensures p.body (length p.names)).ends c.args.cells)
