-- A block in the grammar is read, with its tree.
use Rattle.std.proofs.Common.{◌≡◌, ℕ, zero, suc, ◌+◌, ◌<◌, Bool, true, false, List, [], ◌∷◌, ◌++◌, length, Ok, refl, sym, ap, ◌∙◌, subst, arith}
use Rattle.std.proofs.lemmas.List.{append_assoc, length-append}
use Rattle.txn_text.specs.declared.kinds.Token.{Token}
use Rattle.txn_parse.specs.declared.symbols.Symbol.{Symbol}
use Rattle.txn_parse.specs.declared.symbols.Symbol.TheVariants.{Else, Semicolon, CloseBlock, CloseIndex}
use Rattle.txn_parse.specs.Symbols.{Lexeme, lexeme}
use Rattle.txn_parse.specs.Tree.{Term, Command, Let as SetTo, Read as ReadOf, Write as WriteOf, Print as PrintOf, If as Choice, Repeat as Loop, Commands, End}
use Rattle.txn_parse.specs.Grammar.{Limits, Within, MayOpen, inside, IsOutermost, IsStmt, sets, reads, writes, prints, chooses, chooses_else, repeats, aborts, IsBlock, braced, IsStmts, last as last_one, last_ended, more}
use Rattle.txn_parse.specs.Reading.{Found, Reader, ◌>>=◌, take_at, expr_at, let_at, read_at, write_at, print_at, else_at, if_at, repeat_at, stmt_at, separator_at, with_stmt, stmts_at, block_at}
use Rattle.txn_parse.proofs.ReadingLemmas.{stmts_more, stmts_last}
use Rattle.txn_parse.proofs.CompleteExpr.{next_level, reads_outermost}

-- what may follow a statement
abbrev pub Separates : Symbol → Type 0
Separates CloseBlock = Unit {0}
Separates Semicolon = Unit {0}
Separates s = ⊥

quiet : (x : Symbol) (t : Token) (ls : List Lexeme) → Separates x → next_level (lexeme x t ∷ ls) ≡ 0
quiet CloseBlock t ls sep = refl
quiet Semicolon t ls sep = refl
quiet x t ls sep = absurd sep

-- a block begins with its brace
brace_first : {lim : Limits} {bs : List Lexeme} {b : Commands} → IsBlock lim bs b → (rest : List Lexeme) → next_level (bs ++ rest) ≡ 0
brace_first (braced lim x y ls cs may d) rest = refl

outer : (last R d : ℕ) (es : List Lexeme) (e : Term) (rest : List Lexeme) → IsOutermost (Within R d) es e → next_level rest ≡ 0 → expr_at last R (es ++ rest) ≡ Ok (e, rest)
outer last R d es e rest out level = reads_outermost last R es e rest out.derived out.short level

-- a reader of the blocks within limits
abbrev BlocksRead : ℕ → ℕ → Reader Commands → Type 0
BlocksRead R d block = (bs : List Lexeme) (b : Commands) (rest : List Lexeme) → IsBlock (Within R d) bs b → block (bs ++ rest) ≡ Ok (b, rest)

no_else : (block : Reader Commands) (x : Symbol) (t : Token) (rest : List Lexeme) → Separates x → else_at block (lexeme x t ∷ rest) ≡ Ok (End, lexeme x t ∷ rest)
unfolding else_at
no_else block CloseBlock t rest sep = refl
no_else block Semicolon t rest sep = refl
no_else block x t rest sep = absurd sep

reads_stmt : {lim : Limits} {ls : List Lexeme} {c : Command} → IsStmt lim ls c → (last R d : ℕ) (block : Reader Commands) → lim ≡ Within R d → BlocksRead R d block → (x : Symbol) (t : Token) (rest : List Lexeme) → Separates x → stmt_at last R block (ls ++ lexeme x t ∷ rest) ≡ Ok (c, lexeme x t ∷ rest)
unfolding stmt_at let_at read_at write_at print_at if_at repeat_at else_at
reads_stmt (sets lim w v s ls e o) last R d block is ok x t rest sep =
    let out = subst (λ l. IsOutermost l ls e) is o in
    ap (λ r. r >>= (λ (e : Term × List Lexeme). let f : Found Command = Ok (SetTo v e.0, e.1) in f)) (outer last R d ls e (lexeme x t ∷ rest) out (quiet x t rest sep))
reads_stmt (reads lim w v tb a y ls i o) last R d block is ok x t rest sep =
    let out = subst (λ l. IsOutermost l ls i) is o in
    ap (λ l. expr_at last R l >>= (λ i. take_at last CloseIndex i.1 >>= (λ y. let f : Found Command = Ok (ReadOf v tb i.0, y.1) in f))) (append_assoc ls (lexeme CloseIndex y ∷ []) (lexeme x t ∷ rest))
    ∙ ap (λ r. r >>= (λ i. take_at last CloseIndex i.1 >>= (λ y. let f : Found Command = Ok (ReadOf v tb i.0, y.1) in f))) (outer last R d ls i (lexeme CloseIndex y ∷ (lexeme x t ∷ rest)) out refl)
reads_stmt (writes lim w tb a y ls ms i e o o') last R d block is ok x t rest sep =
    let out = subst (λ l. IsOutermost l ls i) is o in
    let out' = subst (λ l. IsOutermost l ms e) is o' in
    ap (λ l. expr_at last R l >>= (λ i. take_at last CloseIndex i.1 >>= (λ y. expr_at last R y.1 >>= (λ e. let f : Found Command = Ok (WriteOf tb i.0 e.0, e.1) in f)))) (append_assoc ls (lexeme CloseIndex y ∷ ms) (lexeme x t ∷ rest))
    ∙ ap (λ r. r >>= (λ i. take_at last CloseIndex i.1 >>= (λ y. expr_at last R y.1 >>= (λ e. let f : Found Command = Ok (WriteOf tb i.0 e.0, e.1) in f)))) (outer last R d ls i (lexeme CloseIndex y ∷ (ms ++ lexeme x t ∷ rest)) out refl)
    ∙ ap (λ r. r >>= (λ e. let f : Found Command = Ok (WriteOf tb i e.0, e.1) in f)) (outer last R d ms e (lexeme x t ∷ rest) out' (quiet x t rest sep))
reads_stmt (prints lim w ls e o) last R d block is ok x t rest sep =
    let out = subst (λ l. IsOutermost l ls e) is o in
    ap (λ r. r >>= (λ (e : Term × List Lexeme). let f : Found Command = Ok (PrintOf e.0, e.1) in f)) (outer last R d ls e (lexeme x t ∷ rest) out (quiet x t rest sep))
reads_stmt (chooses lim w ls ms e a o b) last R d block is ok x t rest sep =
    let out = subst (λ l. IsOutermost l ls e) is o in
    let blk = subst (λ l. IsBlock l ms a) is b in
    ap (λ l. expr_at last R l >>= (λ e. block e.1 >>= (λ a. else_at block a.1 >>= (λ b. let f : Found Command = Ok (Choice e.0 a.0 b.0, b.1) in f)))) (append_assoc ls ms (lexeme x t ∷ rest))
    ∙ ap (λ r. r >>= (λ e. block e.1 >>= (λ a. else_at block a.1 >>= (λ b. let f : Found Command = Ok (Choice e.0 a.0 b.0, b.1) in f)))) (outer last R d ls e (ms ++ lexeme x t ∷ rest) out (brace_first blk (lexeme x t ∷ rest)))
    ∙ ap (λ r. r >>= (λ a. else_at block a.1 >>= (λ b. let f : Found Command = Ok (Choice e a.0 b.0, b.1) in f))) (ok ms a (lexeme x t ∷ rest) blk)
    ∙ ap (λ r. r >>= (λ b. let f : Found Command = Ok (Choice e a b.0, b.1) in f)) (no_else block x t rest sep)
reads_stmt (chooses_else lim w z ls ms ns e a b o b1 b2) last R d block is ok x t rest sep =
    let out = subst (λ l. IsOutermost l ls e) is o in
    let blk1 = subst (λ l. IsBlock l ms a) is b1 in
    let blk2 = subst (λ l. IsBlock l ns b) is b2 in
    ap (λ l. expr_at last R l >>= (λ e. block e.1 >>= (λ a. else_at block a.1 >>= (λ b. let f : Found Command = Ok (Choice e.0 a.0 b.0, b.1) in f))))
    (append_assoc ls (ms ++ lexeme Else z ∷ ns) (lexeme x t ∷ rest) ∙ ap (λ l. ls ++ l) (append_assoc ms (lexeme Else z ∷ ns) (lexeme x t ∷ rest)))
    ∙ ap (λ r. r >>= (λ e. block e.1 >>= (λ a. else_at block a.1 >>= (λ b. let f : Found Command = Ok (Choice e.0 a.0 b.0, b.1) in f)))) (outer last R d ls e (ms ++ lexeme Else z ∷ (ns ++ lexeme x t ∷ rest)) out (brace_first blk1 (lexeme Else z ∷ (ns ++ lexeme x t ∷ rest))))
    ∙ ap (λ r. r >>= (λ a. else_at block a.1 >>= (λ b. let f : Found Command = Ok (Choice e a.0 b.0, b.1) in f))) (ok ms a (lexeme Else z ∷ (ns ++ lexeme x t ∷ rest)) blk1)
    ∙ ap (λ r. r >>= (λ b. let f : Found Command = Ok (Choice e a b.0, b.1) in f)) (ok ns b (lexeme x t ∷ rest) blk2)
reads_stmt (repeats lim w n ls body b) last R d block is ok x t rest sep =
    ap (λ r. r >>= (λ (b : Commands × List Lexeme). let f : Found Command = Ok (Loop n b.0, b.1) in f)) (ok ls body (lexeme x t ∷ rest) (subst (λ l. IsBlock l ls body) is b))
reads_stmt (aborts lim w) last R d block is ok x t rest sep = refl

one_ends : (last : ℕ) (y : Token) (rest : List Lexeme) → separator_at last (lexeme CloseBlock y ∷ rest) ≡ Ok (false, rest)
unfolding separator_at
one_ends last y rest = refl

one_ended : (last : ℕ) (s y : Token) (rest : List Lexeme) → separator_at last (lexeme Semicolon s ∷ lexeme CloseBlock y ∷ rest) ≡ Ok (false, rest)
unfolding separator_at
one_ended last s y rest = refl

-- behind a semicolon a statement does not begin with a brace
stmt_first : {lim : Limits} {ls : List Lexeme} {c : Command} → IsStmt lim ls c → (last : ℕ) (s : Token) (rest : List Lexeme) → separator_at last (lexeme Semicolon s ∷ (ls ++ rest)) ≡ Ok (true, ls ++ rest)
unfolding separator_at
stmt_first (sets lim w v x ls e d) last s rest = refl
stmt_first (reads lim w v t x y ls i d) last s rest = refl
stmt_first (writes lim w t x y ls ms i e d d') last s rest = refl
stmt_first (prints lim w ls e d) last s rest = refl
stmt_first (chooses lim w ls ms e a d b) last s rest = refl
stmt_first (chooses_else lim w x ls ms ns e a b d f g) last s rest = refl
stmt_first (repeats lim w n ls body b) last s rest = refl
stmt_first (aborts lim w) last s rest = refl

stmts_first : {lim : Limits} {ls : List Lexeme} {cs : Commands} → IsStmts lim ls cs → (last' : ℕ) (s : Token) (rest : List Lexeme) → separator_at last' (lexeme Semicolon s ∷ (ls ++ rest)) ≡ Ok (true, ls ++ rest)
stmts_first (last_one lim ls c d) last' s rest = stmt_first d last' s rest
stmts_first (last_ended lim x ls c d) last' s rest =
    ap (λ l. separator_at last' (lexeme Semicolon s ∷ l)) (append_assoc ls (lexeme Semicolon x ∷ []) rest) ∙ stmt_first d last' s (lexeme Semicolon x ∷ rest) ∙ ap (λ (l : List Lexeme). let f : Found Bool = Ok (true, l) in f) (sym (append_assoc ls (lexeme Semicolon x ∷ []) rest))
stmts_first (more lim x ls ms c cs d e) last' s rest =
    ap (λ l. separator_at last' (lexeme Semicolon s ∷ l)) (append_assoc ls (lexeme Semicolon x ∷ ms) rest) ∙ stmt_first d last' s (lexeme Semicolon x ∷ (ms ++ rest)) ∙ ap (λ (l : List Lexeme). let f : Found Bool = Ok (true, l) in f) (sym (append_assoc ls (lexeme Semicolon x ∷ ms) rest))

reads_stmts : {lim : Limits} {ls : List Lexeme} {cs : Commands} → IsStmts lim ls cs → (last' R d : ℕ) (block : Reader Commands) → lim ≡ Within R d → BlocksRead R d block → (n : ℕ) (y : Token) (rest : List Lexeme) → length ls < n → stmts_at last' (stmt_at last' R block) n (ls ++ lexeme CloseBlock y ∷ rest) ≡ Ok (cs, rest)
reads_stmts (last_one lim ls c s) last' R d block is ok zero y rest few = absurd (omega (arith, few))
reads_stmts (last_one lim ls c s) last' R d block is ok (suc n) y rest few =
    stmts_last last' (stmt_at last' R block) n (ls ++ lexeme CloseBlock y ∷ rest) rest _ (reads_stmt s last' R d block is ok CloseBlock y rest tt) (one_ends last' y rest)
reads_stmts (last_ended lim x ls c s) last' R d block is ok zero y rest few = absurd (omega (arith, few))
reads_stmts (last_ended lim x ls c s) last' R d block is ok (suc n) y rest few =
    ap (stmts_at last' (stmt_at last' R block) (suc n)) (append_assoc ls (lexeme Semicolon x ∷ []) (lexeme CloseBlock y ∷ rest))
    ∙ stmts_last last' (stmt_at last' R block) n (ls ++ lexeme Semicolon x ∷ (lexeme CloseBlock y ∷ rest)) rest _ (reads_stmt s last' R d block is ok Semicolon x (lexeme CloseBlock y ∷ rest) tt) (one_ended last' x y rest)
reads_stmts (more lim x ls ms c cs s ss) last' R d block is ok zero y rest few = absurd (omega (arith, few))
reads_stmts (more lim x ls ms c cs s ss) last' R d block is ok (suc n) y rest few =
    let len = length-append ls (lexeme Semicolon x ∷ ms) in
    ap (stmts_at last' (stmt_at last' R block) (suc n)) (append_assoc ls (lexeme Semicolon x ∷ ms) (lexeme CloseBlock y ∷ rest))
    ∙ stmts_more last' (stmt_at last' R block) n (ls ++ lexeme Semicolon x ∷ (ms ++ lexeme CloseBlock y ∷ rest)) (ms ++ lexeme CloseBlock y ∷ rest) _ (reads_stmt s last' R d block is ok Semicolon x (ms ++ lexeme CloseBlock y ∷ rest) tt) (stmts_first ss last' x (lexeme CloseBlock y ∷ rest))
    ∙ ap (with_stmt c) (reads_stmts ss last' R d block is ok n y rest (omega (arith, few, len)))

inside_block : {lim : Limits} {bs : List Lexeme} {b : Commands} → IsBlock lim bs b → (last' R d : ℕ) → lim ≡ Within R (suc d) → BlocksRead R d (block_at last' R d) → (rest : List Lexeme) → block_at last' R (suc d) (bs ++ rest) ≡ Ok (b, rest)
unfolding block_at
inside_block (braced lim x y ls cs may s) last' R d is ok rest =
    let len = length-append ls (lexeme CloseBlock y ∷ rest) in
    let inner = subst (λ l. IsStmts (inside l) ls cs) is s in
    ap (λ l. stmts_at last' (stmt_at last' R (block_at last' R d)) (length l + 1) l) (append_assoc ls (lexeme CloseBlock y ∷ []) rest)
    ∙ reads_stmts inner last' R d (block_at last' R d) refl ok (length (ls ++ lexeme CloseBlock y ∷ rest) + 1) y rest (omega (arith, len))

no_block : {lim : Limits} {bs : List Lexeme} {b : Commands} → IsBlock lim bs b → (R : ℕ) → lim ≡ Within R zero → ⊥
no_block (braced lim x y ls cs may s) R is = subst MayOpen is may

pub reads_block : (last' R d : ℕ) → BlocksRead R d (block_at last' R d)
reads_block last' R zero bs b rest d = absurd (no_block d R refl)
reads_block last' R (suc n) bs b rest d = inside_block d last' R n refl (reads_block last' R n) rest
