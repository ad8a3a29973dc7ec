-- Each turn reads an item of the group behind those that are there.
use Rattle.std.proofs.Common.{◌∙◌, ℕ, sym, ap, List, Bor}
use Rattle.std.proofs.lemmas.List.{map_push}
use Rattle.std.proofs.lemmas.Result.{err_from_is_err_and}
use Rattle.txn_text.specs.declared.kinds.Token.{Token}
use Rattle.txn_parse.specs.Symbols.{Lexeme, lexemes}
use Rattle.txn_parse.proofs.ReadingLemmas.{gives_err}
use Rattle.script.specs.declared.items.RawItem.{RawItem}
use Rattle.script.specs.Items.{Item, item, items}
use Rattle.script.specs.Rules.{Many, read}
use Rattle.script.specs.Groups.{rule_of, joined}
use Rattle.script.proofs.GroupLemmas.{group_more, group_none, group_err}
use Rattle.script.proofs.reading.all_of.Goals as goal

abbrev item_view : List ℕ → RawItem × Bor (List Token) → Item × List Lexeme
item_view text x = (item x.0, lexemes text x.1.now)

abbrev items_view : List ℕ → List RawItem × Bor (List Token) → List Item × List Lexeme
items_view text x = (items x.0, lexemes text x.1.now)

pub returns-in_err-one : goal.returns-in_err-one
returns-in_err-one c =
    let text = c.args.text.now in
    let p = err_from_is_err_and c.from_residual.result c.from_residual.ensures.1 in
    record {
      found = rw (p.1, p.2) (gives_err (item_view text) (items_view text) _ _ _
          (λ f is. sym c.items.invariant ∙ group_err c.args.group c.args.last (items c.items.items) (lexemes text c.items.rest.now) f (sym c.begins.ensures ∙ c.items-test.true) is)
          c.in_err-one.ensures.found);
    }

pub items-preserved : goal.items-preserved
items-preserved c =
    let text = c.args.text.now in
    ap (λ (l : List Item). joined l (read (Many (rule_of c.args.group)) c.args.last (lexemes text c.in_ok-one.behind.now))) (ap items c.in_ok-push.ensures.ok ∙ map_push item c.items.items c.in_ok-one.one)
    ∙ sym (group_more c.args.group c.args.last (items c.items.items) (item c.in_ok-one.one) (lexemes text c.items.rest.now) (lexemes text c.in_ok-one.behind.now) (sym c.begins.ensures ∙ c.items-test.true) c.in_ok-one.ensures.found)
    ∙ c.items.invariant

pub returns : goal.returns
returns c =
    let text = c.args.text.now in
    record { found = sym c.items.invariant ∙ group_none c.args.group c.args.last (items c.items.items) (lexemes text c.items.rest.now) (sym c.begins.ensures ∙ c.items-test.false) }
