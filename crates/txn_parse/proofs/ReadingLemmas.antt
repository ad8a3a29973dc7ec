-- The statements of a block, one after another.
use Rattle.std.proofs.Common.{◌≡◌, ℕ, zero, suc, ◌+◌, ◌-◌, ◌≤◌, true, false, cond, List, [], ◌∷◌, ◌++◌, length, Result, Ok, Err, refl, sym, ap, ◌∙◌, arith}
use Rattle.txn_text.specs.declared.kinds.Token.{Token}
use Rattle.txn_text.specs.declared.faults.FaultKind.TheVariants as fault
use Rattle.txn_text.specs.declared.faults.TextFault.{TextFault}
use Rattle.txn_text.specs.declared.faults.TextFault.TheVariants.{At, NoMemory}
use Rattle.txn_parse.specs.declared.symbols.Symbol.TheVariants as symbol
use Rattle.txn_parse.specs.Gives.{Gives}
use Rattle.txn_parse.specs.Symbols.{Lexeme}
use Rattle.txn_parse.specs.Tree.{Command, Commands, End, Then, before}
use Rattle.txn_parse.specs.Reading.{Found, Reader, ◌>>=◌, separator_at, stmts_at, with_stmt, stmt_at, block_at, take_at}

-- statements in front of those that are read
abbrev pub with_stmts : List Command → Found Commands → Found Commands
with_stmts cs (Ok r) = Ok (before cs r.0, r.1)
with_stmts cs (Err e) = Err e

pub before_push : (cs : List Command) (c : Command) (rest : Commands) → before (cs ++ c ∷ []) rest ≡ before cs (Then c rest)
before_push [] c rest = refl
before_push (x ∷ cs) c rest = ap (Then x) (before_push cs c rest)

pub with_stmts_push : (cs : List Command) (c : Command) (r : Found Commands) → with_stmts cs (with_stmt c r) ≡ with_stmts (cs ++ c ∷ []) r
with_stmts_push cs c (Ok r) = ap (λ (b : Commands). let f : Found Commands = Ok (b, r.1) in f) (sym (before_push cs c r.0))
with_stmts_push cs c (Err e) = refl

pub stmts_err : (last : ℕ) (stmt : Reader Command) (n : ℕ) (ls : List Lexeme) (e : TextFault) → stmt ls ≡ Err e → stmts_at last stmt (suc n) ls ≡ Err e
unfolding stmts_at
stmts_err last stmt n ls e is = ap (λ r. r >>= (λ c. separator_at last c.1 >>= (λ m. cond m.0 (with_stmt c.0 (stmts_at last stmt n m.1)) (Ok (Then c.0 End, m.1))))) is

pub stmts_separator : (last : ℕ) (stmt : Reader Command) (n : ℕ) (ls : List Lexeme) (c : Command × List Lexeme) → stmt ls ≡ Ok c →
    stmts_at last stmt (suc n) ls ≡ (separator_at last c.1 >>= (λ m. cond m.0 (with_stmt c.0 (stmts_at last stmt n m.1)) (Ok (Then c.0 End, m.1))))
unfolding stmts_at
stmts_separator last stmt n ls c is = ap (λ r. r >>= (λ c. separator_at last c.1 >>= (λ m. cond m.0 (with_stmt c.0 (stmts_at last stmt n m.1)) (Ok (Then c.0 End, m.1))))) is

pub stmts_separator_err : (last : ℕ) (stmt : Reader Command) (n : ℕ) (ls : List Lexeme) (c : Command × List Lexeme) (e : TextFault) → stmt ls ≡ Ok c → separator_at last c.1 ≡ Err e → stmts_at last stmt (suc n) ls ≡ Err e
stmts_separator_err last stmt n ls c e is s =
    stmts_separator last stmt n ls c is ∙ ap (λ r. r >>= (λ m. cond m.0 (with_stmt c.0 (stmts_at last stmt n m.1)) (Ok (Then c.0 End, m.1)))) s

pub stmts_more : (last : ℕ) (stmt : Reader Command) (n : ℕ) (ls ms : List Lexeme) (c : Command × List Lexeme) → stmt ls ≡ Ok c → separator_at last c.1 ≡ Ok (true, ms) → stmts_at last stmt (suc n) ls ≡ with_stmt c.0 (stmts_at last stmt n ms)
stmts_more last stmt n ls ms c is s =
    stmts_separator last stmt n ls c is ∙ ap (λ r. r >>= (λ m. cond m.0 (with_stmt c.0 (stmts_at last stmt n m.1)) (Ok (Then c.0 End, m.1)))) s

pub stmts_last : (last : ℕ) (stmt : Reader Command) (n : ℕ) (ls ms : List Lexeme) (c : Command × List Lexeme) → stmt ls ≡ Ok c → separator_at last c.1 ≡ Ok (false, ms) → stmts_at last stmt (suc n) ls ≡ Ok (Then c.0 End, ms)
stmts_last last stmt n ls ms c is s =
    stmts_separator last stmt n ls c is ∙ ap (λ r. r >>= (λ m. cond m.0 (with_stmt c.0 (stmts_at last stmt n m.1)) (Ok (Then c.0 End, m.1)))) s

-- a fault that is handed on
pub gives_err : {X Y Z W : Type 0} (view : X → Y) (view' : Z → W) (e : TextFault) (r : Result Y TextFault) (r' : Result W TextFault) → ((f : TextFault) → r ≡ Err f → r' ≡ Err f) → Gives view (Err e) r → Gives view' (Err e) r'
gives_err view view' (At line kind) r r' passes g = passes (At line kind) g
gives_err view view' NoMemory r r' passes g = tt

pub brace_err : (last room depth : ℕ) (ls : List Lexeme) (e : TextFault) → take_at last symbol.OpenBlock ls ≡ Err e → block_at last room depth ls ≡ Err e
unfolding block_at
brace_err last room zero ls e is = ap (λ r. r >>= (λ x. let f : Found Commands = Err (At x.0.line fault.Deep) in f)) is
brace_err last room (suc depth) ls e is = ap (λ r. r >>= (λ x. stmts_at last (stmt_at last room (block_at last room depth)) (length x.1 + 1) x.1)) is

pub brace_deep : (last room depth : ℕ) (ls : List Lexeme) (x : Token × List Lexeme) → depth ≡ 0 → take_at last symbol.OpenBlock ls ≡ Ok x → block_at last room depth ls ≡ Err (At x.0.line fault.Deep)
unfolding block_at
brace_deep last room zero ls x none is = ap (λ r. r >>= (λ x. let f : Found Commands = Err (At x.0.line fault.Deep) in f)) is
brace_deep last room (suc depth) ls x none is = absurd (omega (arith, none))

pub brace_ok : (last room depth : ℕ) (ls : List Lexeme) (x : Token × List Lexeme) → (depth ≡ 0 → ⊥) → take_at last symbol.OpenBlock ls ≡ Ok x → block_at last room depth ls ≡ stmts_at last (stmt_at last room (block_at last room (depth - 1))) (length x.1 + 1) x.1
unfolding block_at
brace_ok last room zero ls x some is = absurd (some refl)
brace_ok last room (suc depth) ls x some is =
    ap (λ r. r >>= (λ x. stmts_at last (stmt_at last room (block_at last room depth)) (length x.1 + 1) x.1)) is
    ∙ ap (λ d. stmts_at last (stmt_at last room (block_at last room d)) (length x.1 + 1) x.1) (let e : depth ≡ suc depth - 1 = omega arith in e)

-- a statement of a block of this depth
abbrev pub inner : ℕ → ℕ → ℕ → Reader Command
inner last room depth = stmt_at last room (block_at last room (depth - 1))

-- what a turn of the loop begins with
pub loop_state : (last room depth : ℕ) (ls behind now : List Lexeme) (t : Token) (front : List Command) (k : ℕ) → (depth ≡ 0 → ⊥) → take_at last symbol.OpenBlock ls ≡ Ok (t, behind) → k ≤ length behind →
    with_stmts front (stmts_at last (inner last room depth) (length behind + 1 - k) now) ≡ stmts_at last (inner last room depth) (length behind + 1) behind →
    block_at last room depth ls ≡ with_stmts front (stmts_at last (inner last room depth) (suc (length behind - k)) now)
loop_state last room depth ls behind now t front k some taken fewer so_far =
    brace_ok last room depth ls (t, behind) some taken ∙ sym so_far
    ∙ ap (λ n. with_stmts front (stmts_at last (inner last room depth) n now)) (let e : length behind + 1 - k ≡ suc (length behind - k) = omega (arith, fewer) in e)
