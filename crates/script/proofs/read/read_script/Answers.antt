-- The tokens, their items, and what they say; a setup is within the limits, and a canonical text says its setup alone.
use Rattle.std.proofs.Common.{◌≡◌, ℕ, List, All, Result, Ok, Err, sym, subst}
use Rattle.std.proofs.lemmas.Result.{err_from_is_err_and}
use Rattle.txn_text.specs.Tokens.{tokens_of}
use Rattle.txn_text.specs.declared.faults.TextFault.{TextFault}
use Rattle.txn_text.specs.declared.faults.TextFault.TheVariants.{At, NoMemory}
use Rattle.txn_parse.specs.Symbols.{lexemes}
use Rattle.script.specs.declared.setup.Setup.{Setup}
use Rattle.script.specs.Items.{item, items}
use Rattle.script.specs.Rules.{Derives}
use Rattle.script.specs.Grammar.{script}
use Rattle.script.specs.Stages.{IsWhole}
use Rattle.script.specs.Building.{IsReadable}
use Rattle.script.specs.Meaning.{said_by}
use Rattle.script.specs.Canonical.{canonical_script}
use Rattle.script.specs.Sayable.{IsSetup}
use Rattle.script.specs.Texts.{IsScriptOf, IsReadOf}
use Rattle.script.specs.ReadBack.{IsReadBack}
use Rattle.script.proofs.OneOutcome.{one_outcome}
use Rattle.script.proofs.CanonicalIsSaid.{canonical_is_said}
use Rattle.script.proofs.SaidIsSayable.{read_is_sayable}
use Rattle.script.proofs.ReadLemmas.{read_items_readable, read_of, badly_put_of, bad_token_of}
use Rattle.script.proofs.read.read_script.Goals as goal

-- what was read of the canonical text of a setup is that setup
read_back : (text : List ℕ) (r : Result Setup TextFault) → IsReadOf text r → (s : Setup) → IsSetup s → text ≡ canonical_script s → IsReadBack s r
read_back text r read s is same = by_result r read
  where
    said : IsScriptOf text (said_by s)
    said = subst (λ t. IsScriptOf t (said_by s)) (sym same) (canonical_is_said (said_by s) is)

    by_result : (x : Result Setup TextFault) → IsReadOf text x → IsReadBack s x
    by_result (Ok t) says = one_outcome.one_script text (said_by t) (said_by s) says said
    by_result (Err (At line kind)) found = one_outcome.not_both text (said_by s) (At line kind) said found
    by_result (Err NoMemory) none = tt

pub returns-in_err-toks-clause-says : goal.returns-in_err-toks-clause-says
returns-in_err-toks-clause-says c =
    let p = err_from_is_err_and c.from_residual.result c.from_residual.ensures.1 in
    rw (p.1, p.2) (bad_token_of c.args.bytes.now c.in_err-toks.field-0.0 c.in_err-toks.ensures.exact)

pub returns-in_err-toks-clause-back : goal.returns-in_err-toks-clause-back
returns-in_err-toks-clause-back c = read_back c.args.bytes.now _ (returns-in_err-toks-clause-says c)

pub returns-in_err-list-clause-says : goal.returns-in_err-list-clause-says
returns-in_err-list-clause-says c =
    let p = err_from_is_err_and c.from_residual-in_err-list.result c.from_residual-in_err-list.ensures.1 in
    let text = c.args.bytes.now in
    let are = subst (λ ts. tokens_of text ≡ Ok ts) (sym c.as_slice.ensures) c.in_ok-toks.ensures.exact in
    rw (p.1, p.2) (badly_put_of text c.as_slice.result.now are c.in_err-list.field-0.0 c.in_err-list.ensures)

pub returns-in_err-list-clause-back : goal.returns-in_err-list-clause-back
returns-in_err-list-clause-back c = read_back c.args.bytes.now _ (returns-in_err-list-clause-says c)

pub setup_of-requires : goal.setup_of-requires
setup_of-requires c =
    let text = c.args.bytes.now in
    let are = subst (λ ts. tokens_of text ≡ Ok ts) (sym c.as_slice.ensures) c.in_ok-toks.ensures.exact in
    subst (λ l. All (λ r. IsReadable text (item r)) l) (sym c.as_slice-2.ensures) (read_items_readable text c.as_slice.result.now are c.in_ok-list.list c.in_ok-list.ensures)

pub returns-clause-says : goal.returns-clause-says
returns-clause-says c =
    let text = c.args.bytes.now in
    let are = subst (λ ts. tokens_of text ≡ Ok ts) (sym c.as_slice.ensures) c.in_ok-toks.ensures.exact in
    read_of text c.as_slice.result.now are c.as_slice-2.result.now c.setup_of.result
    (subst (λ l. IsWhole (Derives script) (lexemes text c.as_slice.result.now) (items l)) (sym c.as_slice-2.ensures) c.in_ok-list.ensures)
    c.setup_of.ensures.fault c.setup_of.ensures.said

pub returns-clause-back : goal.returns-clause-back
returns-clause-back c = read_back c.args.bytes.now _ (returns-clause-says c)

pub returns-clause-within : goal.returns-clause-within
returns-clause-within c = read_is_sayable c.args.bytes.now _ (returns-clause-says c)
