-- Where reading of cut tokens stopped tells the fault.
use Rattle.std.proofs.Common.{◌∙◌, ℕ, sym, subst, List, Bor}
use Rattle.txn_text.specs.declared.kinds.Token.{Token}
use Rattle.txn_parse.specs.Symbols.{Lexeme, lexemes}
use Rattle.script.specs.declared.items.RawItem.{RawItem}
use Rattle.script.specs.Items.{Item, items}
use Rattle.script.specs.Stages.{IsCutAs}
use Rattle.script.proofs.StageTwo.{cut_ok, cut_gave}
use Rattle.script.proofs.stages.fault_of_cut.Goals as goal
use Rattle.script.proofs.stages.fault_of_cut.Goals.{in-Err, in-Ok}

abbrev items_view : List ℕ → List RawItem × Bor (List Token) → List Item × List Lexeme
items_view text x = (items x.0, lexemes text x.1.now)

pub returns : goal.returns
returns c =
    let text = c.args.text.now in
    let cut = lexemes text c.args.cut.now in
    elim c.match-script.branch [
      | in-Err w ↦ subst (IsCutAs c.args.last cut c.args.limit) (sym (w.result-is ∙ w.or_limit.ensures)) (cut_gave (items_view text) c.args.last cut c.args.limit _ w.in-Err.ensures.found)
      | in-Ok w ↦ subst (IsCutAs c.args.last cut c.args.limit) (sym (w.result-is ∙ w.left_or_limit.ensures text)) (cut_ok c.args.last cut _ (lexemes text w.in-Ok.rest.now) c.args.limit w.in-Ok.ensures.found)
    ]
