-- Each turn takes an item behind those that are taken.
use Rattle.std.proofs.lemmas.Result.{err_from_is_err_and}
use Rattle.script.specs.Building.{said_so_far}
use Rattle.script.proofs.ReadLemmas.{item_fault, item_passes, item_said}
use Rattle.script.proofs.read.setup_of.Goals as goal

pub returns-in_err-take-clause-fault : goal.returns-in_err-take-clause-fault
returns-in_err-take-clause-fault c =
    let p = err_from_is_err_and c.from_residual.result c.from_residual.ensures.1 in
    rw (p.1, p.2) (item_fault c.args.text.now c.args.list.now c.loop-raw.raw-index c.raw-item.result c.loop-raw-test.true c.raw-item.is (said_so_far c.loop-raw.builder) c.in_err-take.field-0.0
    c.loop-raw.invariant.checks c.in_err-take.ensures.fault)

pub loop-raw-preserved : goal.loop-raw-preserved
loop-raw-preserved c =
    let text = c.args.text.now in
    let list = c.args.list.now in
    let i = c.loop-raw.raw-index in
    let r = c.raw-item.result in
    let s = said_so_far c.loop-raw.builder in
    let t = said_so_far c.take.new.self in
    record {
      indexed = c.in_ok-take.ensures.indexed;
      checks = item_passes text list i r c.loop-raw-test.true c.raw-item.is s t c.in_ok-take.ensures.said c.loop-raw.invariant.checks c.in_ok-take.ensures.fault;
      said = item_said text list i r c.loop-raw-test.true c.raw-item.is s t c.in_ok-take.ensures.said c.loop-raw.invariant.said;
    }
