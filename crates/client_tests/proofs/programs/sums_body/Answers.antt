-- The program sums_body.
use Rattle.std.proofs.Common.{◌≡◌, ◌∙◌}
use Rattle.txn_lang.specs.declared.tree.BinOp.TheVariants.{Add}
use Rattle.txn_lang.specs.Tree.{Local, Bin, term}
use Rattle.txn_lang.proofs.Trees.{term-Local}
use Rattle.client_tests.proofs.ProgramLemmas.{is_sums}
use Rattle.client_tests.proofs.programs.sums_body.Goals as goal

pub returns : goal.returns
returns c =
    let summed : term c.in_ok-sum.sum ≡ Bin Add (Local 0) (Local 1) = c.in_ok-sum.ensures ∙ simp term-Local in
    is_sums c.in_ok-sum.sum c.block.result summed (c.block.ensures ∙ c.in_ok-vec.ensures.items)
