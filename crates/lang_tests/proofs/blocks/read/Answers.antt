use Rattle.txn_parse.specs.Tree.{commands}
use Rattle.lang_tests.proofs.ReadLemmas.{is_parsed}
use Rattle.lang_tests.proofs.blocks.read.Goals as goal

pub returns : goal.returns
returns g c =
    is_parsed c.args.text.now c.in_ok-toks.toks c.as_slice.result.now c.in_ok-prog.next (commands c.in_ok-prog.prog.body)
    c.in_ok-toks.ensures.in_order c.as_slice.ensures c.in_ok-prog.ensures.found
