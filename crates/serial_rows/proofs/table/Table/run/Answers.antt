use Rattle.std.proofs.Common.{◌≡◌, ap, subst, ◌∙◌}
use Rattle.txn_lang.specs.Keys.{after_writes}
use Rattle.txn_lang.specs.Runs.{kept}
use Rattle.txn_lang.specs.Program.{serial_of, map_after}
use Rattle.txn_lang.proofs.SameMaps.{serial_of_same, map_after_same}
use Rattle.serial_runs.specs.Execution.{run_of_serial}
use Rattle.serial_rows.specs.Keys.{AreKeys}
use Rattle.serial_rows.proofs.TableLemmas.{same_through}
use Rattle.serial_rows.proofs.table.Table.run.Goals as goal

pub returns : goal.returns
returns c = λ m is.
    let p = c.args.prog.now in
    let cells = c.args.self.cells in
    let ran : run_of_serial c.in_ok-run.run' ≡ serial_of p m = c.in_ok-run.ensures.run ∙ serial_of_same cells m is.same p in
    let writes = c.kept.ensures ∙ ap kept ran in
    let keys = c.in_ok-add_keys.ensures m is.keys in (
      ran,
      record {
        same = same_through c.in_ok-run.cells (map_after cells p) (map_after m p) c.in_ok-run.ensures.written (map_after_same p cells m is.same);
        keys = subst (λ ws. AreKeys (after_writes ws m) c.add_keys.new.keys) writes keys;
      },
    )
