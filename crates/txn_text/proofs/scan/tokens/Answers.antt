use Rattle.std.proofs.Common.{◌≡◌, ◌≤◌, ◌∙◌, sym, ap, cond, length, drop, arith, refl, ◌+◌, ◌<◌, ◌∷◌, [], ◌++◌, get_or, eqb, Ok, Err, add-zero}
use Rattle.std.proofs.lemmas.Bool.{cond-true, cond-false, eq-eqb, ne_eqb}
use Rattle.std.proofs.lemmas.List.{append-nil}
use Rattle.txn_text.specs.Tokens.{line_of, tokens_of}
use Rattle.txn_text.specs.declared.faults.TextFault.TheVariants.{At}
use Rattle.txn_text.proofs.FrontLemmas.{Lies, ends, gap_lies, lexeme_lies}
use Rattle.txn_text.proofs.TokensLemmas.{with_front, from_byte, with_front-nil, with_front_push, gap_step, lexeme_step, bad_step, at_end, line_of_more}
use Rattle.txn_text.proofs.TokensLieInOrder.{tokens_lie_in_order}
use Rattle.txn_text.proofs.scan.tokens.Goals as goal
use Rattle.txn_text.proofs.scan.tokens.Goals.{then-text-at-eq10, else-text-at-eq10}

pub loop-at-init : goal.loop-at-init
loop-at-init c = record {
  within = omega arith;
  in_line = refl;
  so_far = ap (λ l. with_front l (from_byte c.args.text.now 0)) c.new-toks.ensures ∙ with_front-nil (from_byte c.args.text.now 0);
}

gap : (c : goal.Joined-text-at-eq10) → Lies c.in-Gap.len (cond (eqb (get_or c.args.text.now c.loop-at.at 0) 10) 1 0) (drop c.loop-at.at c.args.text.now)
gap c = gap_lies c.args.text.now c.loop-at.at c.in-Gap.len c.loop-at-test.true (sym c.front_at.ensures ∙ c.in-Gap.is)

gap_ends : (c : goal.Joined-text-at-eq10) → (c.loop-at.at < c.loop-at.at + c.in-Gap.len) × (c.loop-at.at + c.in-Gap.len ≤ length c.args.text.now)
gap_ends c = ends c.args.text.now c.loop-at.at c.in-Gap.len _ c.loop-at-test.true (gap c)

-- a blank that is a line feed raises the line
gap_line : (c : goal.Joined-text-at-eq10) → c.if-text-at-eq10.line ≡ c.loop-at.line + cond (eqb (get_or c.args.text.now c.loop-at.at 0) 10) 1 0
gap_line c =
    let byte = get_or c.args.text.now c.loop-at.at 0 in
    elim c.if-text-at-eq10.branch [
      | then-text-at-eq10 w ↦ w.line-is ∙ ap (λ k. c.loop-at.line + k) (sym (cond-true (eqb byte 10) 1 0 (eq-eqb byte 10 w.if-text-at-eq10.true)))
      | else-text-at-eq10 w ↦ w.line-is ∙ sym (add-zero _) ∙ ap (λ k. c.loop-at.line + k) (sym (cond-false (eqb byte 10) 1 0 (ne_eqb byte 10 w.if-text-at-eq10.false)))
    ]

pub overflow_add-at : goal.overflow_add-at
overflow_add-at c = omega (arith, gap_ends c, c.requires)

pub loop-at-smaller-in-Gap : goal.loop-at-smaller-in-Gap
loop-at-smaller-in-Gap c = omega (arith, gap_ends c)

pub loop-at-preserved-in-Gap : goal.loop-at-preserved-in-Gap
loop-at-preserved-in-Gap c =
    let lies = gap c in
    record {
      within = (gap_ends c).1;
      in_line = gap_line c ∙ ap (λ n. n + cond (eqb (get_or c.args.text.now c.loop-at.at 0) 10) 1 0) c.loop-at.invariant.in_line ∙ ap (λ n. line_of c.args.text.now c.loop-at.at + n) (sym lies.lines) ∙ sym (line_of_more c.args.text.now c.loop-at.at c.in-Gap.len);
      so_far = sym (ap (with_front c.loop-at.toks) (gap_step c.args.text.now c.loop-at.at c.in-Gap.len c.loop-at-test.true (sym c.front_at.ensures ∙ c.in-Gap.is) lies.some)) ∙ c.loop-at.invariant.so_far;
    }

pub overflow_add-at-in-Lexeme : goal.overflow_add-at-in-Lexeme
overflow_add-at-in-Lexeme c =
    let lies = lexeme_lies c.args.text.now c.loop-at.at c.in-Lexeme.len c.in-Lexeme.kind c.loop-at-test.true (sym c.front_at.ensures ∙ c.in-Lexeme.is) in
    let e = ends _ _ _ _ c.loop-at-test.true lies in
    omega (arith, e, c.requires)

pub overflow_cast-at-in-Lexeme : goal.overflow_cast-at-in-Lexeme
overflow_cast-at-in-Lexeme c =
    let lies = lexeme_lies c.args.text.now c.loop-at.at c.in-Lexeme.len c.in-Lexeme.kind c.loop-at-test.true (sym c.front_at.ensures ∙ c.in-Lexeme.is) in
    let e = ends _ _ _ _ c.loop-at-test.true lies in
    omega (arith, e, c.requires)

lexeme : (c : goal.In_ok-push-in-Lexeme) → Lies c.in-Lexeme.len 0 (drop c.loop-at.at c.args.text.now)
lexeme c = lexeme_lies c.args.text.now c.loop-at.at c.in-Lexeme.len c.in-Lexeme.kind c.loop-at-test.true (sym c.front_at.ensures ∙ c.in-Lexeme.is)

lexeme_ends : (c : goal.In_ok-push-in-Lexeme) → (c.loop-at.at < c.loop-at.at + c.in-Lexeme.len) × (c.loop-at.at + c.in-Lexeme.len ≤ length c.args.text.now)
lexeme_ends c = ends c.args.text.now c.loop-at.at c.in-Lexeme.len _ c.loop-at-test.true (lexeme c)

pub overflow_add-at-in-Lexeme-2 : goal.overflow_add-at-in-Lexeme-2
overflow_add-at-in-Lexeme-2 c = omega (arith, lexeme_ends c, c.requires)

pub loop-at-smaller : goal.loop-at-smaller
loop-at-smaller c = omega (arith, lexeme_ends c)

pub loop-at-preserved : goal.loop-at-preserved
loop-at-preserved c =
    let text = c.args.text.now in
    let at = c.loop-at.at in
    let n = c.in-Lexeme.len in
    let lies = lexeme c in
    let step = lexeme_step text at n c.in-Lexeme.kind c.loop-at-test.true (sym c.front_at.ensures ∙ c.in-Lexeme.is) lies.some in
    record {
      within = (lexeme_ends c).1;
      in_line = c.loop-at.invariant.in_line ∙ sym (add-zero _) ∙ ap (λ k. line_of text at + k) (sym lies.lines) ∙ sym (line_of_more text at n);
      so_far =
          ap (λ l. with_front l (from_byte text (at + n))) c.in_ok-push-in-Lexeme.ensures.ok
          ∙ ap (λ k. with_front (c.loop-at.toks ++ record { kind = c.in-Lexeme.kind; start = at; end = at + n; line = k } ∷ []) (from_byte text (at + n))) c.loop-at.invariant.in_line
          ∙ sym (with_front_push c.loop-at.toks _ (from_byte text (at + n)))
          ∙ sym (ap (with_front c.loop-at.toks) step)
          ∙ c.loop-at.invariant.so_far;
    }

pub returns-in-Bad-clause-exact : goal.returns-in-Bad-clause-exact
returns-in-Bad-clause-exact c =
    let text = c.args.text.now in
    let bad = bad_step text c.loop-at.at c.in-Bad.kind c.loop-at-test.true (sym c.front_at.ensures ∙ c.in-Bad.is) in
    sym c.loop-at.invariant.so_far ∙ ap (with_front c.loop-at.toks) bad ∙ ap (λ k. Err (At k c.in-Bad.kind)) (sym c.loop-at.invariant.in_line)

whole : (c : goal.After-loop-at) → tokens_of c.args.text.now ≡ Ok c.loop-at.toks
whole c =
    sym c.loop-at.invariant.so_far
    ∙ ap (with_front c.loop-at.toks) (at_end c.args.text.now c.loop-at.at c.loop-at-test.false)
    ∙ ap (λ l. Ok l) (append-nil c.loop-at.toks)

pub returns-clause-exact : goal.returns-clause-exact
returns-clause-exact c = whole c

pub returns-clause-in_order : goal.returns-clause-in_order
returns-clause-in_order c = tokens_lie_in_order c.args.text.now c.loop-at.toks (whole c)
