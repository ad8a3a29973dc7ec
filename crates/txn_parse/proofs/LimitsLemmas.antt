-- What is within limits is in the grammar without them, and all that is in it is within some.
use Rattle.std.proofs.Common.{ℕ, zero, suc, ◌<◌, ◌≤◌, List, [], ◌∷◌, ◌++◌, length, arith}
use Rattle.std.proofs.lemmas.List.{length-append}
use Rattle.txn_parse.specs.declared.symbols.Symbol.TheVariants as symbol
use Rattle.txn_parse.specs.Symbols.{Lexeme, lexeme}
use Rattle.txn_parse.specs.Tree.{Term, Command, Commands}
use Rattle.txn_parse.specs.Grammar.{Limits, Free, Within, IsOutermost, IsStmt, sets, reads, writes, prints, chooses, chooses_else, repeats, aborts, IsBlock, braced, IsStmts, last, last_ended, more}

free_expr : (lim : Limits) (es : List Lexeme) (e : Term) → IsOutermost lim es e → IsOutermost Free es e
free_expr lim es e d = record { short = tt; derived = d.derived }

mutual
  pub free_stmt : {lim : Limits} {ls : List Lexeme} {c : Command} → IsStmt lim ls c → IsStmt Free ls c
  free_stmt (sets lim w v s ls e d) = sets Free w v s ls e (free_expr lim ls e d)
  free_stmt (reads lim w v t x y ls i d) = reads Free w v t x y ls i (free_expr lim ls i d)
  free_stmt (writes lim w t x y ls ms i e d d') = writes Free w t x y ls ms i e (free_expr lim ls i d) (free_expr lim ms e d')
  free_stmt (prints lim w ls e d) = prints Free w ls e (free_expr lim ls e d)
  free_stmt (chooses lim w ls ms e a d b) = chooses Free w ls ms e a (free_expr lim ls e d) (free_block b)
  free_stmt (chooses_else lim w x ls ms ns e a b d f g) = chooses_else Free w x ls ms ns e a b (free_expr lim ls e d) (free_block f) (free_block g)
  free_stmt (repeats lim w n ls body b) = repeats Free w n ls body (free_block b)
  free_stmt (aborts lim w) = aborts Free w

  pub free_block : {lim : Limits} {ls : List Lexeme} {b : Commands} → IsBlock lim ls b → IsBlock Free ls b
  free_block (braced lim x y ls cs may d) = braced Free x y ls cs tt (free_stmts d)

  pub free_stmts : {lim : Limits} {ls : List Lexeme} {cs : Commands} → IsStmts lim ls cs → IsStmts Free ls cs
  free_stmts (last lim ls c d) = last Free ls c (free_stmt d)
  free_stmts (last_ended lim s ls c d) = last_ended Free s ls c (free_stmt d)
  free_stmts (more lim s ls ms c cs d e) = more Free s ls ms c cs (free_stmt d) (free_stmts e)

short_expr : (R d : ℕ) (es : List Lexeme) (e : Term) → length es ≤ R → IsOutermost Free es e → IsOutermost (Within R d) es e
short_expr R d es e short out = record { short = short; derived = out.derived }

-- limits as great as the number of tokens
mutual
  pub bound_stmt : {ls : List Lexeme} {c : Command} → IsStmt Free ls c → (R d : ℕ) → length ls ≤ R → length ls ≤ d → IsStmt (Within R d) ls c
  bound_stmt (sets lim w v s ls e out) R d short deep = sets (Within R d) w v s ls e (short_expr R d ls e (omega (arith, short)) out)
  bound_stmt (reads lim w v t x y ls i out) R d short deep =
      let len = length-append ls (lexeme symbol.CloseIndex y ∷ []) in
      reads (Within R d) w v t x y ls i (short_expr R d ls i (omega (arith, short, len)) out)
  bound_stmt (writes lim w t x y ls ms i e out out') R d short deep =
      let len = length-append ls (lexeme symbol.CloseIndex y ∷ ms) in
      writes (Within R d) w t x y ls ms i e (short_expr R d ls i (omega (arith, short, len)) out) (short_expr R d ms e (omega (arith, short, len)) out')
  bound_stmt (prints lim w ls e out) R d short deep = prints (Within R d) w ls e (short_expr R d ls e (omega (arith, short)) out)
  bound_stmt (chooses lim w ls ms e a out b) R d short deep =
      let len = length-append ls ms in
      chooses (Within R d) w ls ms e a (short_expr R d ls e (omega (arith, short, len)) out) (bound_block b R d (omega (arith, short, len)) (omega (arith, deep, len)))
  bound_stmt (chooses_else lim w x ls ms ns e a b out f g) R d short deep =
      let len = length-append ls (ms ++ lexeme symbol.Else x ∷ ns) in
      let len' = length-append ms (lexeme symbol.Else x ∷ ns) in
      chooses_else (Within R d) w x ls ms ns e a b (short_expr R d ls e (omega (arith, short, len, len')) out)
      (bound_block f R d (omega (arith, short, len, len')) (omega (arith, deep, len, len')))
      (bound_block g R d (omega (arith, short, len, len')) (omega (arith, deep, len, len')))
  bound_stmt (repeats lim w n ls body b) R d short deep = repeats (Within R d) w n ls body (bound_block b R d (omega (arith, short)) (omega (arith, deep)))
  bound_stmt (aborts lim w) R d short deep = aborts (Within R d) w

  pub bound_block : {ls : List Lexeme} {b : Commands} → IsBlock Free ls b → (R d : ℕ) → length ls ≤ R → length ls ≤ d → IsBlock (Within R d) ls b
  bound_block (braced lim x y ls cs may b) R zero short deep = absurd (omega (arith, deep))
  bound_block (braced lim x y ls cs may b) R (suc d) short deep =
      let len = length-append ls (lexeme symbol.CloseBlock y ∷ []) in
      braced (Within R (suc d)) x y ls cs tt (bound_stmts b R d (omega (arith, short, len)) (omega (arith, deep, len)))

  pub bound_stmts : {ls : List Lexeme} {cs : Commands} → IsStmts Free ls cs → (R d : ℕ) → length ls ≤ R → length ls ≤ d → IsStmts (Within R d) ls cs
  bound_stmts (last lim ls c b) R d short deep = last (Within R d) ls c (bound_stmt b R d short deep)
  bound_stmts (last_ended lim s ls c b) R d short deep =
      let len = length-append ls (lexeme symbol.Semicolon s ∷ []) in
      last_ended (Within R d) s ls c (bound_stmt b R d (omega (arith, short, len)) (omega (arith, deep, len)))
  bound_stmts (more lim s ls ms c cs b b') R d short deep =
      let len = length-append ls (lexeme symbol.Semicolon s ∷ ms) in
      more (Within R d) s ls ms c cs (bound_stmt b R d (omega (arith, short, len)) (omega (arith, deep, len))) (bound_stmts b' R d (omega (arith, short, len)) (omega (arith, deep, len)))

-- a statement has a token
pub some_stmt : {lim : Limits} {ls : List Lexeme} {c : Command} → IsStmt lim ls c → 0 < length ls
some_stmt (sets lim w v s ls e d) = omega arith
some_stmt (reads lim w v t x y ls i d) = omega arith
some_stmt (writes lim w t x y ls ms i e d d') = omega arith
some_stmt (prints lim w ls e d) = omega arith
some_stmt (chooses lim w ls ms e a d b) = omega arith
some_stmt (chooses_else lim w x ls ms ns e a b d f g) = omega arith
some_stmt (repeats lim w n ls body b) = omega arith
some_stmt (aborts lim w) = omega arith
