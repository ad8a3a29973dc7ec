-- The program raises_body.
use Rattle.std.proofs.Common.{◌≡◌, ◌∙◌, pos}
use Rattle.txn_lang.specs.declared.tree.BinOp.TheVariants.{Add}
use Rattle.txn_lang.specs.Tree.{Num, Local, Bin, term}
use Rattle.txn_lang.proofs.Trees.{term-Num, term-Local}
use Rattle.client_tests.proofs.ProgramLemmas.{is_raises}
use Rattle.client_tests.proofs.programs.raises_body.Goals as goal

pub returns : goal.returns
returns c =
    let mores : term c.in_ok-more.more ≡ Bin Add (Local 0) (Num (pos 1)) = c.in_ok-more.ensures ∙ simp (term-Local, term-Num) in
    is_raises c.in_ok-more.more c.block.result mores (c.block.ensures ∙ c.in_ok-vec.ensures.items)
