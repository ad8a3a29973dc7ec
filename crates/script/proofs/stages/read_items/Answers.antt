-- The tokens up to the first past a limit tell the fault of all.
use Rattle.std.proofs.Common.{subst, List, Result, Err}
use Rattle.txn_text.specs.declared.faults.TextFault.{TextFault}
use Rattle.txn_parse.specs.Symbols.{lexemes}
use Rattle.script.specs.Items.{Item}
use Rattle.script.specs.Rules.{Derives}
use Rattle.script.specs.Grammar.{script}
use Rattle.script.specs.Stages.{IsReadAs}
use Rattle.script.proofs.StageTwo.{read_past}
use Rattle.script.proofs.stages.read_items.Goals as goal

pub returns-in-Some : goal.returns-in-Some
returns-in-Some c =
    let cut = rw c.split_at.ensures.front at c.fault_of_cut.ensures in
    subst (λ n. IsReadAs (Derives script) n (lexemes c.args.text.now c.args.toks.now) (let r : Result (List Item) TextFault = Err c.fault_of_cut.result in r)) c.line_of_end-last.ensures
    (read_past c.args.text.now c.args.toks.now c.line_of_end-last.result c.in-Some.at c.in-Some.kind c.in-Some.ensures _ c.fault_of_cut.result cut)
