use Rattle.std.proofs.Common.{◌≡◌, ◌<◌, ℕ, ◌+◌, take, drop, length, List, get_or, Ok, Err, ap, ◌∙◌, arith}
use Rattle.std.proofs.lemmas.List.{length-map, length-take-le}
use Rattle.txn_text.specs.declared.kinds.Token.{Token}
use Rattle.txn_text.specs.declared.faults.FaultKind.{FaultKind}
use Rattle.txn_parse.specs.declared.symbols.Symbol.{Symbol}
use Rattle.txn_parse.specs.Symbols.{lexemes, symbol_of}
use Rattle.txn_parse.specs.Counts.{one_counted, counted}
use Rattle.txn_parse.specs.Faults.{IsFirstPast}
use Rattle.txn_parse.proofs.TokenCounts.{seen, one_more, more_of, split_of, whole}
use Rattle.txn_parse.proofs.limits.first_past.Goals as goal

past_at : (text : List ℕ) (toks : List Token) (i o n : ℕ) (t : Token) (s : Symbol) (e : FaultKind) → i < length toks → counted 0 0 (lexemes text (take i toks)) ≡ Ok (o, n) → s ≡ symbol_of text (get_or toks i t) →
    one_counted o n (seen text (get_or toks i t)) s ≡ Err (seen text (get_or toks i t), e) → IsFirstPast (lexemes text toks) i e
past_at text toks i o n t s e less so_far is one = record {
  front = lexemes text (take i toks);
  token = seen text (get_or toks i t);
  rest = lexemes text (drop (i + 1) toks);
  split = split_of text toks i t less;
  place = length-map (take i toks) _ ∙ length-take-le i toks (omega (arith, less));
  within = ((o, n), so_far);
  past = one_more text (take i toks) (get_or toks i t) o n s _ so_far is one;
}

pub returns-in-Err : goal.returns-in-Err
returns-in-Err c =
    past_at c.args.text.now c.args.toks.now c.loop-at.at c.loop-at.count.depth c.loop-at.count.run _ c.symbol_of.result c.in-Err.kind c.loop-at-test.true c.loop-at.invariant c.symbol_of.ensures (c.in-Err.ensures _)

pub loop-at-preserved : goal.loop-at-preserved
loop-at-preserved c =
    ap (counted 0 0) (more_of c.args.text.now c.args.toks.now c.loop-at.at _ c.loop-at-test.true)
    ∙ one_more c.args.text.now (take c.loop-at.at c.args.toks.now) _ c.loop-at.count.depth c.loop-at.count.run c.symbol_of.result _ c.loop-at.invariant c.symbol_of.ensures (c.in-Ok.ensures _)

pub returns : goal.returns
returns c = ((c.loop-at.count.depth, c.loop-at.count.run), ap (λ x. counted 0 0 (lexemes c.args.text.now x)) (whole c.args.toks.now c.loop-at.at c.loop-at-test.false) ∙ c.loop-at.invariant)
