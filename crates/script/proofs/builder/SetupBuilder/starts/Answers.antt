-- Each turn starts a transaction behind those that are there.
use Rattle.std.proofs.Common.{length, ap, arith}
use Rattle.std.proofs.lemmas.List.{length-map}
use Rattle.std.proofs.lemmas.Result.{err_from_is_err_and}
use Rattle.script.specs.Meaning.{prog_names, said_by}
use Rattle.script.specs.Building.{place_by}
use Rattle.script.proofs.BuilderLemmas.{no_txn, start_fault, start_passes, txn_started}
use Rattle.script.proofs.builder.SetupBuilder.starts.Goals as goal

pub returns-in_err-at-clause-fault : goal.returns-in_err-at-clause-fault
returns-in_err-at-clause-fault c =
    let p = err_from_is_err_and c.from_residual.result c.from_residual.ensures.1 in
    let names = prog_names (said_by c.args.self.now.setup) in
    rw (p.1, p.2) (start_fault c.args.text.now names c.args.txns.now c.loop-i.i no_txn c.loop-i-test.true c.in_err-at.field-0.0 c.loop-i.invariant.checks c.in_err-at.ensures.fault)

pub bounds-places-i : goal.bounds-places-i
bounds-places-i c =
    let e = ap length c.requires in
    let l = length-map c.args.txns.now (place_by c.args.text.now (prog_names (said_by c.args.self.now.setup))) in
    let w = c.loop-i-test.true in
    omega (arith, e, l, w)

pub loop-i-preserved : goal.loop-i-preserved
loop-i-preserved c =
    let text = c.args.text.now in
    let names = prog_names (said_by c.args.self.now.setup) in
    let txns = c.args.txns.now in
    let i = c.loop-i.i in
    record {
      checks = start_passes text names txns i no_txn c.loop-i-test.true c.loop-i.invariant.checks c.in_ok-at.ensures.fault;
      started = txn_started text names txns i no_txn c.loop-i-test.true c.loop-i.starts _ c.push.new.self c.args.places.now 0 c.in_ok-at.at c.loop-i.invariant.started c.requires c.in_ok-at.ensures.value c.in_ok-push.ensures.ok;
    }
