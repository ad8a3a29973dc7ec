-- Each turn reads a transaction behind those that are there.
use Rattle.std.proofs.Common.{◌≡◌, ◌∙◌, ℕ, Bool, sym, ap, arith, Ok, List, false, true, Bor}
use Rattle.std.proofs.lemmas.Result.{err_from_is_err_and}
use Rattle.txn_text.specs.declared.kinds.Token.{Token}
use Rattle.txn_parse.specs.Symbols.{Lexeme, lexemes}
use Rattle.txn_parse.specs.Reading.{Found, separator_at}
use Rattle.txn_parse.proofs.ReadingLemmas.{gives_err}
use Rattle.script.specs.declared.items.RawTxn.{RawTxn}
use Rattle.script.specs.Rules.{Listed, read}
use Rattle.script.specs.Grammar.{txn}
use Rattle.script.proofs.ListedLemmas.{with_front, txn_is_item, listed_more, listed_last, listed_err, separator_err}
use Rattle.script.proofs.clients.some_txns.Goals as goal

abbrev bool_view : List ℕ → Bool × Bor (List Token) → Bool × List Lexeme
bool_view text x = (x.0, lexemes text x.1.now)

abbrev txn_view : List ℕ → RawTxn × Bor (List Token) → RawTxn × List Lexeme
txn_view text x = (x.0, lexemes text x.1.now)

abbrev txns_view : List ℕ → List RawTxn × Bor (List Token) → List RawTxn × List Lexeme
txns_view text x = (x.0, lexemes text x.1.now)

pub returns-in_err-one-clause-found : goal.returns-in_err-one-clause-found
returns-in_err-one-clause-found c =
    let text = c.args.text.now in
    let p = err_from_is_err_and c.from_residual.result c.from_residual.ensures.1 in
    rw (p.1, p.2) (gives_err (txn_view text) (txns_view text) _ _ _
    (λ f is. sym c.txns.invariant.so_far ∙ listed_err txn txn_is_item c.args.last c.txns.txns (lexemes text c.txns.rest.now) f is)
    c.in_err-one.ensures.found)

pub returns-in_err-more-clause-found : goal.returns-in_err-more-clause-found
returns-in_err-more-clause-found c =
    let text = c.args.text.now in
    let p = err_from_is_err_and c.from_residual-in_err-more.result c.from_residual-in_err-more.ensures.1 in
    rw (p.1, p.2) (gives_err (bool_view text) (txns_view text) _ _ _
    (λ f is. sym c.txns.invariant.so_far ∙ separator_err txn txn_is_item c.args.last c.txns.txns _ (lexemes text c.txns.rest.now) _ f c.in_ok-one.ensures.found is)
    c.in_err-more.ensures.found)

pub returns-then-not-more-clause-found : goal.returns-then-not-more-clause-found
returns-then-not-more-clause-found c =
    let text = c.args.text.now in
    let later = lexemes text c.in_ok-more.behind.now in
    let ends : separator_at c.args.last (lexemes text c.in_ok-one.behind.now) ≡ Ok (false, later) = c.in_ok-more.ensures.found ∙ ap (λ (b : Bool). let r : Found Bool = Ok (b, later) in r) c.if-not-more.true in
    sym c.txns.invariant.so_far
    ∙ listed_last txn txn_is_item c.args.last c.txns.txns c.in_ok-one.one (lexemes text c.txns.rest.now) (lexemes text c.in_ok-one.behind.now) later c.in_ok-one.ensures.found ends
    ∙ ap (λ (l : List RawTxn). let r : Found (List RawTxn) = Ok (l, later) in r) (sym c.in_ok-push.ensures.ok)

pub txns-preserved : goal.txns-preserved
txns-preserved c =
    let text = c.args.text.now in
    let later = lexemes text c.in_ok-more.behind.now in
    let goes : separator_at c.args.last (lexemes text c.in_ok-one.behind.now) ≡ Ok (true, later) = c.in_ok-more.ensures.found ∙ ap (λ (b : Bool). let r : Found Bool = Ok (b, later) in r) c.if-not-more.false in
    record {
      no_longer = omega (arith, c.txns.invariant.no_longer, c.in_ok-one.ensures.shorter, c.in_ok-more.ensures.no_longer);
      so_far =
          ap (λ (l : List RawTxn). with_front l (read (Listed txn) c.args.last later)) c.in_ok-push.ensures.ok
          ∙ sym (listed_more txn txn_is_item c.args.last c.txns.txns c.in_ok-one.one (lexemes text c.txns.rest.now) (lexemes text c.in_ok-one.behind.now) later c.in_ok-one.ensures.found goes)
          ∙ c.txns.invariant.so_far;
    }
