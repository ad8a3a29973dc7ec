-- Each turn plans an entry behind those that are there.
use Rattle.std.proofs.lemmas.Result.{err_from_is_err_and}
use Rattle.script.proofs.BuilderLemmas.{no_entry, entry_fault, entry_passes, entry_planned}
use Rattle.script.proofs.planning.entries.Goals as goal

pub returns-in_err-what-clause-fault : goal.returns-in_err-what-clause-fault
returns-in_err-what-clause-fault c =
    let p = err_from_is_err_and c.from_residual.result c.from_residual.ensures.1 in
    rw (p.1, p.2) (entry_fault c.args.text.now c.args.node c.args.raw.now c.loop-one.one-index no_entry c.loop-one-test.true c.in_err-what.field-0.0 c.loop-one.invariant.checks c.in_err-what.ensures.fault)

pub loop-one-preserved : goal.loop-one-preserved
loop-one-preserved c =
    let text = c.args.text.now in
    let raw = c.args.raw.now in
    let i = c.loop-one.one-index in
    record {
      checks = entry_passes text c.args.node raw i no_entry c.loop-one-test.true c.loop-one.invariant.checks c.in_ok-what.ensures.fault;
      planned = entry_planned text c.args.node raw i no_entry c.loop-one-test.true c.loop-one.plan _ c.push.new.self c.in_ok-what.what c.loop-one.invariant.planned c.in_ok-what.ensures.value c.in_ok-push.ensures.ok;
    }
