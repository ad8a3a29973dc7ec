use Rattle.std.proofs.Common.{◌≡◌, ◌<◌, ℕ, ◌+◌, take, drop, length, List, get_or, None, Some, Ok, Err, refl, sym, ap, ◌∙◌, arith}
use Rattle.std.proofs.lemmas.List.{length-map, length-take-le, map-append, take-append-drop}
use Rattle.txn_text.specs.declared.kinds.Token.{Token}
use Rattle.txn_text.specs.declared.faults.FaultKind.{FaultKind}
use Rattle.txn_text.specs.declared.faults.TextFault.TheVariants.{At}
use Rattle.txn_parse.specs.declared.symbols.Symbol.{Symbol}
use Rattle.txn_parse.specs.Symbols.{lexemes, symbol_of}
use Rattle.txn_parse.specs.Counts.{Counts, one_counted, counted}
use Rattle.txn_parse.specs.Faults.{IsCut, closed, passed, all}
use Rattle.txn_parse.proofs.TokenCounts.{seen, one_more, more_of, split_of, whole}
use Rattle.txn_parse.proofs.limits.block_front.Goals as goal

-- the counts behind one more token
next : (text : List ℕ) (toks : List Token) (i o n : ℕ) (t : Token) (s : Symbol) (r : Counts) → i < length toks → counted 0 0 (lexemes text (take i toks)) ≡ Ok (o, n) → s ≡ symbol_of text (get_or toks i t) →
    one_counted o n (seen text (get_or toks i t)) s ≡ r → counted 0 0 (lexemes text (take (i + 1) toks)) ≡ r
next text toks i o n t s r less so_far is one = ap (counted 0 0) (more_of text toks i t less) ∙ one_more text (take i toks) (get_or toks i t) o n s r so_far is one

closed_at : (text : List ℕ) (toks : List Token) (i depth run : ℕ) → i < length toks → depth ≡ 0 → counted 0 0 (lexemes text (take (i + 1) toks)) ≡ Ok (depth, run) → IsCut (lexemes text toks) (lexemes text (take (i + 1) toks)) None
closed_at text toks i depth run less none is = closed (record {
  rest = lexemes text (drop (i + 1) toks);
  run = run;
  split = ap (lexemes text) (sym (take-append-drop (i + 1) toks)) ∙ map-append _ (take (i + 1) toks) (drop (i + 1) toks);
  some = let e = length-map (take (i + 1) toks) (seen text) ∙ length-take-le (i + 1) toks (omega (arith, less)) in omega (arith, e);
  counts = is ∙ ap (λ (d : ℕ). let r : Counts = Ok (d, run) in r) none;
})

pub returns-in-Ok-clause-cut : goal.returns-in-Ok-clause-cut
returns-in-Ok-clause-cut c =
    closed_at c.args.text.now c.args.toks.now c.loop-at.at c.in-Ok.next.depth c.in-Ok.next.run c.loop-at-test.true c.if-next-eq0.true
    (next c.args.text.now c.args.toks.now c.loop-at.at c.loop-at.count.depth c.loop-at.count.run _ c.symbol_of.result _ c.loop-at-test.true c.loop-at.invariant c.symbol_of.ensures (c.in-Ok.ensures _))

passed_at : (text : List ℕ) (toks : List Token) (i o n : ℕ) (t : Token) (s : Symbol) (e : FaultKind) → i < length toks → counted 0 0 (lexemes text (take i toks)) ≡ Ok (o, n) → s ≡ symbol_of text (get_or toks i t) →
    one_counted o n (seen text (get_or toks i t)) s ≡ Err (seen text (get_or toks i t), e) → IsCut (lexemes text toks) (lexemes text (take (i + 1) toks)) (Some (At (get_or toks i t).line e))
passed_at text toks i o n t s e less so_far is one = passed _ (record {
  front = lexemes text (take i toks);
  token = seen text (get_or toks i t);
  rest = lexemes text (drop (i + 1) toks);
  kind = e;
  split = split_of text toks i t less;
  whole = more_of text toks i t less;
  within = ((o, n), so_far);
  past = one_more text (take i toks) (get_or toks i t) o n s _ so_far is one;
  place = refl;
})

pub returns-in-Err-clause-cut : goal.returns-in-Err-clause-cut
returns-in-Err-clause-cut c =
    passed_at c.args.text.now c.args.toks.now c.loop-at.at c.loop-at.count.depth c.loop-at.count.run _ c.symbol_of.result c.in-Err.kind c.loop-at-test.true c.loop-at.invariant c.symbol_of.ensures (c.in-Err.ensures _)

pub loop-at-preserved : goal.loop-at-preserved
loop-at-preserved c =
    next c.args.text.now c.args.toks.now c.loop-at.at c.loop-at.count.depth c.loop-at.count.run _ c.symbol_of.result _ c.loop-at-test.true c.loop-at.invariant c.symbol_of.ensures (c.in-Ok.ensures _)

pub returns-clause-cut : goal.returns-clause-cut
returns-clause-cut c =
    all refl ((c.loop-at.count.depth, c.loop-at.count.run), ap (λ x. counted 0 0 (lexemes c.args.text.now x)) (whole c.args.toks.now c.loop-at.at c.loop-at-test.false) ∙ c.loop-at.invariant)
