use Rattle.std.proofs.Common.{◌+◌, ◌-◌, ◌++◌, List, map, ap, ◌∙◌}
use Rattle.script.specs.declared.setup.NamedProg.{NamedProg}
use Rattle.script.specs.Meaning.{named_of}
use Rattle.lab.specs.Draws.{generator, transfers}
use Rattle.lab.specs.Generated.{transfer_progs}
use Rattle.lab.proofs.TransferLemmas.{progs_begun, one_prog}
use Rattle.lab.proofs.generated.progs.Goals as goal

pub loop-i-init : goal.loop-i-init
unfolding generator
loop-i-init c = progs_begun c.args.size c.new-rng.result (generator c.args.seed) c.new-progs.result c.new-progs.ensures c.new-rng.ensures

pub loop-i-preserved : goal.loop-i-preserved
loop-i-preserved c =
    let i = c.loop-i.i in
    let next = c.next_transfer-transfer.new.rng in
    ap (λ (ps : List NamedProg). map named_of ps ++ transfer_progs (i + 1 + 1) (transfers (c.args.size - (i + 1)) next)) c.in_ok-push.ensures.ok
    ∙ one_prog c.args.size i c.loop-i.rng next c.next_transfer-transfer.result c.loop-i.progs c.in_ok-transfer_prog.field-0 c.loop-i-test.true c.next_transfer-transfer.ensures c.in_ok-transfer_prog.ensures
    ∙ c.loop-i.invariant
