-- Where no token is past a limit, reading decides.
use Rattle.std.proofs.Common.{◌≡◌, ◌==◌, ◌∙◌, ℕ, true, false, sym, List, [], ◌∷◌, length, refl, arith, Bor}
use Rattle.std.proofs.lemmas.Result.{err_from_is_err_and}
use Rattle.std.proofs.lemmas.Bool.{eqb-true}
use Rattle.txn_text.specs.declared.kinds.Token.{Token}
use Rattle.txn_parse.specs.Symbols.{Lexeme, lexemes}
use Rattle.script.specs.declared.items.RawItem.{RawItem}
use Rattle.script.specs.Items.{Item, items}
use Rattle.script.proofs.StageTwo.{whole_ok, gave_fault, left_fault}
use Rattle.script.proofs.stages.read_within.Goals as goal

abbrev items_view : List ℕ → List RawItem × Bor (List Token) → List Item × List Lexeme
items_view text x = (items x.0, lexemes text x.1.now)

none_left : (text : List ℕ) (rest : List Token) → (length rest == 0) ≡ true → lexemes text rest ≡ []
none_left text [] none = refl
none_left text (t ∷ ts) none = let e = eqb-true (length (t ∷ ts)) 0 none in absurd (omega (arith, e))

some_left : (text : List ℕ) (rest : List Token) → (length rest == 0) ≡ false → lexemes text rest ≡ [] → ⊥
some_left text [] some none = cc
some_left text (t ∷ ts) some none = cc

pub returns-in_err-items : goal.returns-in_err-items
returns-in_err-items c =
    let text = c.args.text.now in
    let p = err_from_is_err_and c.from_residual.result c.from_residual.ensures.1 in
    rw (p.1, p.2) (gave_fault (items_view text) c.args.last (lexemes text c.args.toks.now) _ c.requires c.in_err-items.ensures.found)

pub returns-then-is_empty : goal.returns-then-is_empty
returns-then-is_empty c =
    let text = c.args.text.now in
    whole_ok c.args.last (lexemes text c.args.toks.now) (items c.in_ok-items.items) (lexemes text c.in_ok-items.rest.now) c.requires c.in_ok-items.ensures.found
    (none_left text c.in_ok-items.rest.now (sym c.is_empty.ensures ∙ c.if-is_empty.true))

pub returns-else-is_empty : goal.returns-else-is_empty
returns-else-is_empty c =
    let text = c.args.text.now in
    rw (c.syntax.ensures text) (left_fault c.args.last (lexemes text c.args.toks.now) (items c.in_ok-items.items) (lexemes text c.in_ok-items.rest.now) c.requires c.in_ok-items.ensures.found
    (some_left text c.in_ok-items.rest.now (sym c.is_empty.ensures ∙ c.if-is_empty.false)))
