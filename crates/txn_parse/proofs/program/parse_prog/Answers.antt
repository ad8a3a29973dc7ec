use Rattle.std.proofs.Common.{◌≡◌, ◌∙◌, ◌<◌, ◌+◌, ◌-◌, ℕ, refl, sym, ap, subst, length, take, drop, List, Option, Some, None, Ok, Err, Bor, arith}
use Rattle.std.proofs.lemmas.Option.{slice_get-get_or}
use Rattle.std.proofs.lemmas.List.{take_rest, take_at, take-map, length-map, length-append, length-drop}
use Rattle.txn_lang.specs.declared.limits.TheConstants.{DEEPEST_BLOCK, LONGEST_EXPRESSION}
use Rattle.txn_text.specs.declared.kinds.Token.{Token}
use Rattle.txn_text.specs.declared.faults.TextFault.{TextFault}
use Rattle.txn_text.specs.declared.faults.TextFault.TheVariants.{At, NoMemory}
use Rattle.txn_parse.specs.declared.tree.RawBlock.{RawBlock}
use Rattle.txn_parse.specs.Tree.{Commands, commands}
use Rattle.txn_parse.specs.Symbols.{Lexeme, lexemes}
use Rattle.txn_parse.specs.Grammar.{Within, IsBlock}
use Rattle.txn_parse.specs.Reading.{block_from}
use Rattle.txn_parse.specs.Faults.{IsRefused, IsCut, placed}
use Rattle.txn_parse.specs.Gives.{Gives, last_line, IsBlockFault}
use Rattle.txn_parse.proofs.FaultIsDecided.{cut_found, cut_refused}
use Rattle.txn_parse.proofs.program.parse_prog.Goals as goal

abbrev block_view : List ℕ → RawBlock × Bor (List Token) → Commands × List Lexeme
block_view text x = (commands x.0, lexemes text x.1.now)

-- the tokens from one on, as the call sees them
abbrev CutOf : List ℕ → List Token → ℕ → List Token → Option TextFault → Type 0
CutOf text toks from cut limit = IsCut (lexemes text (take (length toks - from) (drop from toks))) (lexemes text cut) limit

cut_of : (text : List ℕ) (toks : List Token) (from : ℕ) (cut : List Token) (limit : Option TextFault) → CutOf text toks from cut limit → IsCut (lexemes text (drop from toks)) (lexemes text cut) limit
cut_of text toks from cut limit is = subst (λ x. IsCut (lexemes text x) (lexemes text cut) limit) (take_rest toks from) is

found : (text : List ℕ) (toks cut behind : List Token) (from : ℕ) (limit : Option TextFault) (b : Commands) → CutOf text toks from cut limit → block_from 0 (lexemes text cut) ≡ Ok (b, lexemes text behind) →
    IsBlock (Within LONGEST_EXPRESSION DEEPEST_BLOCK) (lexemes text (take (from + (length cut - length behind) - from) (drop from toks))) b
found text toks cut behind from limit b is read =
    let one = cut_found (lexemes text (drop from toks)) (lexemes text cut) (lexemes text behind) limit b (cut_of text toks from cut limit is) read in
    let n = from + (length cut - length behind) - from in
    let len : length cut ≡ length one.front + length behind = sym (length-map cut _) ∙ ap length one.here ∙ length-append one.front (lexemes text behind) ∙ ap (λ n. length one.front + n) (length-map behind _) in
    let here : length one.front ≡ n = omega (arith, len) in
    let same : one.front ≡ lexemes text (take n (drop from toks)) = sym (take_at one.front one.behind n here) ∙ ap (take n) (sym one.split) ∙ take-map _ n (drop from toks) in
    subst (λ x. IsBlock (Within LONGEST_EXPRESSION DEEPEST_BLOCK) x b) same one.within

pub returns-in-Ok-clause-found : goal.returns-in-Ok-clause-found
returns-in-Ok-clause-found c =
    found c.args.text.now c.args.toks.now c.block_front-past.result.0.now c.in-Ok.behind.now c.args.from c.block_front-past.result.1 (commands c.in-Ok.body) c.block_front-past.ensures.cut c.in-Ok.ensures.exact

pub returns-in-Ok-clause-brace : goal.returns-in-Ok-clause-brace
returns-in-Ok-clause-brace c =
    let some = c.in-Ok.ensures.shorter in
    let few = c.block_front-past.ensures.no_longer in
    let rest = ap (λ x. length x) (take_rest c.args.toks.now c.args.from) ∙ length-drop c.args.from c.args.toks.now in
    let less : c.args.from < length c.args.toks.now = omega (arith, some, few, rest) in
    slice_get-get_or c.args.toks.now c.args.from _ less

refused : (text : List ℕ) (toks : List Token) (from : ℕ) (g : TextFault) → IsRefused (last_line text) (lexemes text (drop from toks)) g → IsBlockFault text toks from g
refused text toks from (At line kind) is = is
refused text toks from NoMemory is = tt

no_memory : (last : ℕ) (limit : Option TextFault) → placed last limit NoMemory ≡ NoMemory
no_memory last (Some f) = refl
no_memory last None = refl

failed : (text : List ℕ) (toks cut : List Token) (from : ℕ) (limit : Option TextFault) (f g : TextFault) → CutOf text toks from cut limit → Gives (block_view text) (Err f) (block_from 0 (lexemes text cut)) → g ≡ placed (last_line text) limit f → IsBlockFault text toks from g
failed text toks cut from limit (At line kind) g is read same =
    subst (IsBlockFault text toks from) (sym same) (refused text toks from _ (cut_refused (last_line text) (lexemes text (drop from toks)) (lexemes text cut) limit (At line kind) (cut_of text toks from cut limit is) read))
failed text toks cut from limit NoMemory g is read same = subst (IsBlockFault text toks from) (sym (same ∙ no_memory (last_line text) limit)) tt

pub returns-in-Err-clause-fault : goal.returns-in-Err-clause-fault
returns-in-Err-clause-fault c =
    failed c.args.text.now c.args.toks.now c.block_front-past.result.0.now c.args.from c.block_front-past.result.1 c.in-Err.fault c.placed.result c.block_front-past.ensures.cut c.in-Err.ensures.exact c.placed.ensures
