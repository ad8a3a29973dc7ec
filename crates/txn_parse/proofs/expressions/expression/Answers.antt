use Rattle.std.proofs.Common.{◌≡◌, ℕ, List, Option, Some, None, Bor, sym, ap, ◌∙◌, arith, rules}
use Rattle.txn_text.specs.declared.kinds.Token.{Token}
use Rattle.txn_parse.specs.declared.tree.RawExpr.{RawExpr}
use Rattle.txn_parse.specs.Tree.{Term, term}
use Rattle.txn_parse.specs.Symbols.{Lexeme, lexeme, lexemes}
use Rattle.txn_parse.specs.Pending.{State, state_of, ended}
use Rattle.txn_parse.specs.Reading.{Found, ended_at, expr_from, EndsAt}
use Rattle.txn_parse.proofs.ExprLemmas.{expr_ends, expr_over, expr_goes_on, syntax_gives}
use Rattle.txn_parse.proofs.expressions.expression.Goals as goal

pub returns-then-left-eq0-clause-found : goal.returns-then-left-eq0-clause-found
returns-then-left-eq0-clause-found c =
    let text = c.args.text.now in
    sym c.loop-symbol.invariant.so_far ∙ expr_over c.args.last (lexemes text c.loop-symbol.rest.now) (lexemes text c.in-Some.behind.now) c.loop-symbol.left (state_of c.loop-symbol.at) (lexeme c.in-Some.symbol c.in-Some.token) c.if-left-eq0.true c.in-Some.ensures.found

pub loop-symbol-preserved : goal.loop-symbol-preserved
loop-symbol-preserved c =
    let text = c.args.text.now in
    record {
      no_longer = let less = c.in-Some.ensures.shorter in let so_far = c.loop-symbol.invariant.no_longer in omega (arith, less, so_far);
      so_far =
          expr_goes_on c.args.last (lexemes text c.loop-symbol.rest.now) (lexemes text c.in-Some.behind.now) c.loop-symbol.left (state_of c.loop-symbol.at) (state_of c.in_ok-at.at) (lexeme c.in-Some.symbol c.in-Some.token) c.if-left-eq0.false c.in-Some.ensures.found c.in_ok-at.ensures
          ∙ c.loop-symbol.invariant.so_far;
    }

abbrev expr_view : List ℕ → RawExpr × Bor (List Token) → Term × List Lexeme
expr_view text x = (term x.0, lexemes text x.1.now)

-- the whole expression, or the fault where it does not end
read_by : (last : ℕ) (ls : List Lexeme) (room : ℕ) (s : State) (r : Found Term) (e : Option Term) → EndsAt s ls → expr_from last ls room s ≡ r → ended s ≡ e → r ≡ ended_at last e ls
read_by last ls room s r e ends is same = sym is ∙ expr_ends last ls room s ends ∙ ap (λ x. ended_at last x ls) same

pub returns-in-Some-2-clause-found : goal.returns-in-Some-2-clause-found
returns-in-Some-2-clause-found c =
    let text = c.args.text.now in
    read_by c.args.last (lexemes text c.loop-symbol.rest.now) c.loop-symbol.left (state_of c.loop-symbol.at) _ (Some (term c.in-Some-2.e)) c.in_default.ensures.found c.loop-symbol.invariant.so_far (search rules)

pub returns-in-None-clause-found : goal.returns-in-None-clause-found
returns-in-None-clause-found c =
    let text = c.args.text.now in
    syntax_gives (expr_view text) c.args.last (lexemes text c.loop-symbol.rest.now) _ _ (c.syntax.ensures text)
    (read_by c.args.last (lexemes text c.loop-symbol.rest.now) c.loop-symbol.left (state_of c.loop-symbol.at) _ None c.in_default.ensures.found c.loop-symbol.invariant.so_far (search rules))
