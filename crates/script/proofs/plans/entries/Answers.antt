-- Each turn reads an entry behind those that are there.
use Rattle.std.proofs.Common.{◌≡◌, ◌∙◌, ℕ, Bool, sym, ap, arith, Ok, List, false, true, Bor}
use Rattle.std.proofs.lemmas.Result.{err_from_is_err_and}
use Rattle.txn_text.specs.declared.kinds.Token.{Token}
use Rattle.txn_parse.specs.Symbols.{Lexeme, lexemes}
use Rattle.txn_parse.specs.Reading.{Found, separator_at}
use Rattle.txn_parse.proofs.ReadingLemmas.{gives_err}
use Rattle.script.specs.declared.items.RawEntry.{RawEntry}
use Rattle.script.specs.Rules.{Listed, read}
use Rattle.script.specs.Grammar.{entry}
use Rattle.script.proofs.ListedLemmas.{with_front, entry_is_item, listed_more, listed_last, listed_err, separator_err}
use Rattle.script.proofs.plans.entries.Goals as goal

abbrev bool_view : List ℕ → Bool × Bor (List Token) → Bool × List Lexeme
bool_view text x = (x.0, lexemes text x.1.now)

abbrev entry_view : List ℕ → RawEntry × Bor (List Token) → RawEntry × List Lexeme
entry_view text x = (x.0, lexemes text x.1.now)

abbrev entries_view : List ℕ → List RawEntry × Bor (List Token) → List RawEntry × List Lexeme
entries_view text x = (x.0, lexemes text x.1.now)

pub returns-in_err-one-clause-found : goal.returns-in_err-one-clause-found
returns-in_err-one-clause-found c =
    let text = c.args.text.now in
    let p = err_from_is_err_and c.from_residual.result c.from_residual.ensures.1 in
    rw (p.1, p.2) (gives_err (entry_view text) (entries_view text) _ _ _
    (λ f is. sym c.entries.invariant.so_far ∙ listed_err entry entry_is_item c.args.last c.entries.entries (lexemes text c.entries.rest.now) f is)
    c.in_err-one.ensures.found)

pub returns-in_err-more-clause-found : goal.returns-in_err-more-clause-found
returns-in_err-more-clause-found c =
    let text = c.args.text.now in
    let p = err_from_is_err_and c.from_residual-in_err-more.result c.from_residual-in_err-more.ensures.1 in
    rw (p.1, p.2) (gives_err (bool_view text) (entries_view text) _ _ _
    (λ f is. sym c.entries.invariant.so_far ∙ separator_err entry entry_is_item c.args.last c.entries.entries _ (lexemes text c.entries.rest.now) _ f c.in_ok-one.ensures.found is)
    c.in_err-more.ensures.found)

pub returns-then-not-more-clause-found : goal.returns-then-not-more-clause-found
returns-then-not-more-clause-found c =
    let text = c.args.text.now in
    let later = lexemes text c.in_ok-more.behind.now in
    let ends : separator_at c.args.last (lexemes text c.in_ok-one.behind.now) ≡ Ok (false, later) = c.in_ok-more.ensures.found ∙ ap (λ (b : Bool). let r : Found Bool = Ok (b, later) in r) c.if-not-more.true in
    sym c.entries.invariant.so_far
    ∙ listed_last entry entry_is_item c.args.last c.entries.entries c.in_ok-one.one (lexemes text c.entries.rest.now) (lexemes text c.in_ok-one.behind.now) later c.in_ok-one.ensures.found ends
    ∙ ap (λ (l : List RawEntry). let r : Found (List RawEntry) = Ok (l, later) in r) (sym c.in_ok-push.ensures.ok)

pub entries-preserved : goal.entries-preserved
entries-preserved c =
    let text = c.args.text.now in
    let later = lexemes text c.in_ok-more.behind.now in
    let goes : separator_at c.args.last (lexemes text c.in_ok-one.behind.now) ≡ Ok (true, later) = c.in_ok-more.ensures.found ∙ ap (λ (b : Bool). let r : Found Bool = Ok (b, later) in r) c.if-not-more.false in
    record {
      no_longer = omega (arith, c.entries.invariant.no_longer, c.in_ok-one.ensures.shorter, c.in_ok-more.ensures.no_longer);
      so_far =
          ap (λ (l : List RawEntry). with_front l (read (Listed entry) c.args.last later)) c.in_ok-push.ensures.ok
          ∙ sym (listed_more entry entry_is_item c.args.last c.entries.entries c.in_ok-one.one (lexemes text c.entries.rest.now) (lexemes text c.in_ok-one.behind.now) later c.in_ok-one.ensures.found goes)
          ∙ c.entries.invariant.so_far;
    }
