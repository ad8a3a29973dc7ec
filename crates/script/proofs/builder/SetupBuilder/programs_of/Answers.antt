-- Each turn finds a program behind those that are found.
use Rattle.std.proofs.lemmas.Result.{err_from_is_err_and}
use Rattle.script.specs.Meaning.{prog_names, said_by}
use Rattle.script.proofs.BuilderLemmas.{no_txn, program_fault, program_passes, program_placed}
use Rattle.script.proofs.builder.SetupBuilder.programs_of.Goals as goal

pub returns-in_err-place-clause-fault : goal.returns-in_err-place-clause-fault
returns-in_err-place-clause-fault c =
    let p = err_from_is_err_and c.from_residual.result c.from_residual.ensures.1 in
    let names = prog_names (said_by c.args.self.now.setup) in
    rw (p.1, p.2) (program_fault c.args.text.now names c.args.txns.now c.loop-txn.txn-index no_txn c.loop-txn-test.true c.in_err-place.field-0.0 c.loop-txn.invariant.checks c.in_err-place.ensures.fault)

pub loop-txn-preserved : goal.loop-txn-preserved
loop-txn-preserved c =
    let text = c.args.text.now in
    let names = prog_names (said_by c.args.self.now.setup) in
    let txns = c.args.txns.now in
    let i = c.loop-txn.txn-index in
    record {
      checks = program_passes text names txns i no_txn c.loop-txn-test.true c.loop-txn.invariant.checks c.in_ok-place.ensures.fault;
      placed = program_placed text names txns i no_txn c.loop-txn-test.true c.loop-txn.places _ c.push.new.self c.in_ok-place.place c.loop-txn.invariant.placed c.in_ok-place.ensures.place c.in_ok-push.ensures.ok;
    }
