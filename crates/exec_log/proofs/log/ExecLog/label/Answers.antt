use Rattle.std.proofs.Common.{◌≡◌, w64, to_z, of_z, rules}
use Rattle.exec_log.proofs.Labelling.{labels, stands_labelled}
use Rattle.exec_log.proofs.log.ExecLog.label.Goals as goal

pub returns-clause-label : goal.returns-clause-label
returns-clause-label c = λ whole.
    let old = c.read-old.result in
    let same : to_z w64 (of_z w64 old.value) ≡ old.value = search rules in
    labels _ c.args.self.now c.args.i old c.args.wid _ c.args.sure c.self.view_is c.read-old.ensures same

pub returns-clause-stands : goal.returns-clause-stands
returns-clause-stands c = λ code p s.
    let old = c.read-old.result in
    let same : to_z w64 (of_z w64 old.value) ≡ old.value = search rules in
    stands_labelled code p _ c.args.self.now c.args.i old c.args.wid _ c.args.sure c.self.view_is c.read-old.ensures same s
