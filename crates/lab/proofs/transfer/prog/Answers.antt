use Rattle.txn_lang.specs.Tree.{commands}
use Rattle.lab.proofs.TransferLemmas.{formed_as}
use Rattle.lab.proofs.transfer.prog.Goals as goal

pub make_prog-requires : goal.make_prog-requires
make_prog-requires c = formed_as c.in_ok-names.names (commands c.in_ok-body.body) c.args.t c.in_ok-names.ensures c.in_ok-body.ensures
