use Rattle.std.proofs.Common.{◌≡◌, ◌∙◌, ◌≤◌, ◌+◌, ◌-◌, ℕ, suc, Bool, sym, ap, arith, length, map, Ok, List, [], ◌∷◌, ◌++◌, false, true, Bor}
use Rattle.std.proofs.lemmas.List.{length-map, map_push, length_push}
use Rattle.std.proofs.lemmas.Result.{err_from_is_err_and}
use Rattle.txn_text.specs.declared.kinds.Token.{Token}
use Rattle.txn_parse.specs.declared.tree.RawStmt.{RawStmt}
use Rattle.txn_parse.specs.declared.tree.RawBlock.{RawBlock}
use Rattle.txn_parse.specs.Tree.{Command, Commands, command, commands, commands_of, before, End, Then}
use Rattle.txn_parse.specs.Symbols.{Lexeme, lexemes}
use Rattle.txn_parse.specs.Reading.{Found, stmts_at, separator_at}
use Rattle.txn_parse.proofs.ReadingLemmas.{with_stmts, before_push, with_stmts_push, stmts_err, stmts_separator_err, stmts_more, stmts_last, gives_err, brace_err, brace_deep, inner, loop_state}
use Rattle.txn_parse.proofs.blocks.+blocks.Goals as goal

abbrev token_view : List ℕ → Token × Bor (List Token) → Token × List Lexeme
token_view text x = (x.0, lexemes text x.1.now)

abbrev bool_view : List ℕ → Bool × Bor (List Token) → Bool × List Lexeme
bool_view text x = (x.0, lexemes text x.1.now)

abbrev stmt_view : List ℕ → RawStmt × Bor (List Token) → Command × List Lexeme
stmt_view text x = (command x.0, lexemes text x.1.now)

abbrev block_view : List ℕ → RawBlock × Bor (List Token) → Commands × List Lexeme
block_view text x = (commands x.0, lexemes text x.1.now)

-- fewer statements were read than tokens
counted : (text : List ℕ) (rest behind : List Token) (k : ℕ) → length rest + k ≤ length behind → k ≤ length (lexemes text behind)
counted text rest behind k fewer = simp length-map (omega (arith, fewer))

pub block-returns-in_err-brace-clause-found : goal.block-returns-in_err-brace-clause-found
block-returns-in_err-brace-clause-found t c =
    let text = c.args.text.now in
    let p = err_from_is_err_and c.from_residual.result c.from_residual.ensures.1 in
    rw (p.1, p.2) (gives_err (token_view text) (block_view text) _ _ _ (λ f is. brace_err c.args.last c.args.room c.args.depth (lexemes text c.args.toks.now) f is) c.in_err-brace.ensures.found)

pub block-returns-then-depth-eq0-clause-found : goal.block-returns-then-depth-eq0-clause-found
block-returns-then-depth-eq0-clause-found t c =
    brace_deep c.args.last c.args.room c.args.depth (lexemes c.args.text.now c.args.toks.now) _ c.if-depth-eq0.true c.in_ok-brace.ensures.found

pub block-returns-in_err-stmt-clause-found : goal.block-returns-in_err-stmt-clause-found
block-returns-in_err-stmt-clause-found t c =
    let text = c.args.text.now in
    let fewer = counted text c.stmts.rest.now c.in_ok-brace.behind.now (length c.stmts.stmts) c.stmts.invariant.fewer in
    let state = loop_state c.args.last c.args.room c.args.depth (lexemes text c.args.toks.now) (lexemes text c.in_ok-brace.behind.now) (lexemes text c.stmts.rest.now) c.in_ok-brace.brace (map command c.stmts.stmts) (length c.stmts.stmts) c.if-depth-eq0.false c.in_ok-brace.ensures.found fewer c.stmts.invariant.so_far in
    let p = err_from_is_err_and c.from_residual-in_err-stmt.result c.from_residual-in_err-stmt.ensures.1 in
    rw (p.1, p.2) (gives_err (stmt_view text) (block_view text) _ _ _ (λ f is. state ∙ ap (with_stmts (map command c.stmts.stmts)) (stmts_err c.args.last (inner c.args.last c.args.room c.args.depth) _ (lexemes text c.stmts.rest.now) f is)) c.in_err-stmt.ensures.found)

pub block-returns-in_err-more-clause-found : goal.block-returns-in_err-more-clause-found
block-returns-in_err-more-clause-found t c =
    let text = c.args.text.now in
    let fewer = counted text c.stmts.rest.now c.in_ok-brace.behind.now (length c.stmts.stmts) c.stmts.invariant.fewer in
    let state = loop_state c.args.last c.args.room c.args.depth (lexemes text c.args.toks.now) (lexemes text c.in_ok-brace.behind.now) (lexemes text c.stmts.rest.now) c.in_ok-brace.brace (map command c.stmts.stmts) (length c.stmts.stmts) c.if-depth-eq0.false c.in_ok-brace.ensures.found fewer c.stmts.invariant.so_far in
    let p = err_from_is_err_and c.from_residual-in_err-more.result c.from_residual-in_err-more.ensures.1 in
    rw (p.1, p.2) (gives_err (bool_view text) (block_view text) _ _ _ (λ f is. state ∙ ap (with_stmts (map command c.stmts.stmts)) (stmts_separator_err c.args.last (inner c.args.last c.args.room c.args.depth) _ (lexemes text c.stmts.rest.now) _ f c.in_ok-stmt.ensures.found is)) c.in_err-more.ensures.found)

-- one more statement at the end
commands_push : (stmts new : List RawStmt) (s : RawStmt) → new ≡ stmts ++ s ∷ [] → before (map command stmts) (Then (command s) End) ≡ commands_of new
commands_push stmts new s is =
    sym (ap commands_of is ∙ ap (λ l. before l End) (map_push command stmts s) ∙ before_push (map command stmts) (command s) End)

pub block-returns-then-not-more-clause-found : goal.block-returns-then-not-more-clause-found
block-returns-then-not-more-clause-found t c =
    let text = c.args.text.now in
    let front = map command c.stmts.stmts in
    let fewer = counted text c.stmts.rest.now c.in_ok-brace.behind.now (length c.stmts.stmts) c.stmts.invariant.fewer in
    let state = loop_state c.args.last c.args.room c.args.depth (lexemes text c.args.toks.now) (lexemes text c.in_ok-brace.behind.now) (lexemes text c.stmts.rest.now) c.in_ok-brace.brace front (length c.stmts.stmts) c.if-depth-eq0.false c.in_ok-brace.ensures.found fewer c.stmts.invariant.so_far in
    let ends : separator_at c.args.last (lexemes text c.in_ok-stmt.behind.now) ≡ Ok (false, lexemes text c.in_ok-more.behind.now) = c.in_ok-more.ensures.found ∙ ap (λ (b : Bool). let r : Found Bool = Ok (b, lexemes text c.in_ok-more.behind.now) in r) c.if-not-more.true in
    state ∙ ap (with_stmts front) (stmts_last c.args.last (inner c.args.last c.args.room c.args.depth) _ (lexemes text c.stmts.rest.now) _ _ c.in_ok-stmt.ensures.found ends)
    ∙ ap (λ (b : Commands). let r : Found Commands = Ok (b, lexemes text c.in_ok-more.behind.now) in r) (commands_push c.stmts.stmts c.push.new.self c.in_ok-stmt.stmt c.in_ok-push.ensures.ok)

pub block-stmts-preserved : goal.block-stmts-preserved
block-stmts-preserved t c =
    let text = c.args.text.now in
    let front = map command c.stmts.stmts in
    let k = length c.stmts.stmts in
    let new = c.push.new.self in
    let is : new ≡ c.stmts.stmts ++ c.in_ok-stmt.stmt ∷ [] = c.in_ok-push.ensures.ok in
    let longer : length new ≡ k + 1 = ap length is ∙ length_push c.stmts.stmts c.in_ok-stmt.stmt in
    let all = lexemes text c.in_ok-brace.behind.now in
    let fewer = counted text c.stmts.rest.now c.in_ok-brace.behind.now k c.stmts.invariant.fewer in
    let S = inner c.args.last c.args.room c.args.depth in
    let now = lexemes text c.stmts.rest.now in
    let later = lexemes text c.in_ok-more.behind.now in
    let goes : separator_at c.args.last (lexemes text c.in_ok-stmt.behind.now) ≡ Ok (true, later) = c.in_ok-more.ensures.found ∙ ap (λ (b : Bool). let r : Found Bool = Ok (b, later) in r) c.if-not-more.false in
    let turn = stmts_more c.args.last S (length all - k) now later _ c.in_ok-stmt.ensures.found goes in
    record {
      fewer = omega (arith, longer, c.stmts.invariant.fewer, c.in_ok-stmt.ensures.shorter, c.in_ok-more.ensures.no_longer);
      so_far =
          ap (λ l. with_stmts l (stmts_at c.args.last S (length all + 1 - length new) later)) (ap (map command) is ∙ map_push command c.stmts.stmts c.in_ok-stmt.stmt)
          ∙ ap (λ n. with_stmts (front ++ command c.in_ok-stmt.stmt ∷ []) (stmts_at c.args.last S n later)) (let e : length all + 1 - length new ≡ length all - k = omega (arith, longer) in e)
          ∙ sym (with_stmts_push front (command c.in_ok-stmt.stmt) (stmts_at c.args.last S (length all - k) later))
          ∙ ap (with_stmts front) (sym turn)
          ∙ ap (λ n. with_stmts front (stmts_at c.args.last S n now)) (let e : suc (length all - k) ≡ length all + 1 - k = omega (arith, fewer) in e)
          ∙ c.stmts.invariant.so_far;
    }
