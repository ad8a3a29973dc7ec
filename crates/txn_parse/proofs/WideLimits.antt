-- Where limits are as great as the number of tokens, no fault is one of a limit.
use Rattle.std.proofs.Common.{◌≡◌, ℕ, zero, suc, ◌+◌, ◌<◌, ◌≤◌, true, false, List, [], ◌∷◌, length, Option, Some, None, Ok, Err, refl, ap, subst, arith}
use Rattle.std.proofs.lemmas.Bool.{cond_both}
use Rattle.txn_text.specs.declared.kinds.Token.{Token}
use Rattle.txn_text.specs.declared.faults.FaultKind.TheVariants as fault
use Rattle.txn_text.specs.declared.faults.TextFault.{TextFault}
use Rattle.txn_text.specs.declared.faults.TextFault.TheVariants.{At}
use Rattle.txn_parse.specs.declared.symbols.Symbol.{Symbol}
use Rattle.txn_parse.specs.declared.symbols.Symbol.TheVariants as symbol
use Rattle.txn_parse.specs.Symbols.{Lexeme, is}
use Rattle.txn_parse.specs.Tree.{Term, Command, Let as SetTo, Read as ReadOf, Write as WriteOf, Print as PrintOf, If as Choice, Repeat as Loop, Commands, End, Then}
use Rattle.txn_parse.specs.Pending.{State, goes_on, step, ended}
use Rattle.txn_parse.specs.Reading.{Found, Reader, ◌>>=◌, syntax_at, take_at, ended_at, expr_from, expr_at, let_at, read_at, write_at, print_at, else_at, if_at, repeat_at, stmt_by, stmt_at, more_at, separator_by, separator_at, with_stmt, stmts_at, block_at}

-- no limit's fault
abbrev pub NoLimit : TextFault → Type 0
NoLimit f = (line : ℕ) → ((f ≡ At line fault.Deep) → ⊥) × ((f ≡ At line fault.LongExpression) → ⊥)

-- what is found is no longer, and a fault is none of a limit
pub record Plain {A : Type 0} (ls : List Lexeme) (r : Found A) : Type 0 where
  pub shorter : (x : A × List Lexeme) → r ≡ Ok x → length x.1 ≤ length ls
  pub plain : (f : TextFault) → r ≡ Err f → NoLimit f

plain_ok : {A : Type 0} (ls rest : List Lexeme) (a : A) → length rest ≤ length ls → Plain ls (let r : Found A = Ok (a, rest) in r)
plain_ok ls rest a less = record { shorter = λ x is. let e = ap length (rest_same a rest x is) in omega (arith, less, e); plain = λ f is. cc }
  where
    rest_same : {A : Type 0} (a : A) (rest : List Lexeme) (x : A × List Lexeme) → (let r : Found A = Ok (a, rest) in r) ≡ Ok x → rest ≡ x.1
    rest_same a rest x is = let e : (a, rest) ≡ x = cc in ap (λ y. y.1) e

no_limit_end : (last : ℕ) → NoLimit (At last fault.EndOfText)
no_limit_end last line = (λ is. cc, λ is. cc)

no_limit_syntax : (at : ℕ) → NoLimit (At at fault.Syntax)
no_limit_syntax at line = (λ is. cc, λ is. cc)

no_limit_program : (at : ℕ) → NoLimit (At at fault.ProgramLimit)
no_limit_program at line = (λ is. cc, λ is. cc)

plain_err : {A : Type 0} (ls : List Lexeme) (f : TextFault) → NoLimit f → Plain ls (let r : Found A = Err f in r)
plain_err ls f none = record { shorter = λ x is. cc; plain = λ g is. let e : f ≡ g = cc in subst NoLimit e none }

plain_syntax : {A : Type 0} (last : ℕ) (ls : List Lexeme) → Plain ls (let r : Found A = Err (syntax_at last ls) in r)
plain_syntax last [] = plain_err [] (At last fault.EndOfText) (no_limit_end last)
plain_syntax last (l ∷ ls) = plain_err (l ∷ ls) (At l.token.line fault.Syntax) (no_limit_syntax l.token.line)

plain_then : {A B : Type 0} (ls : List Lexeme) (r : Found A) (k : A × List Lexeme → Found B) → Plain ls r → ((x : A × List Lexeme) → length x.1 ≤ length ls → Plain x.1 (k x)) → Plain ls (r >>= k)
plain_then ls (Ok x) k one next =
    let less = one.shorter x refl in
    let two = next x less in
    record { shorter = λ y is. let b = two.shorter y is in omega (arith, less, b); plain = λ f is. two.plain f is }
plain_then ls (Err f) k one next = plain_err ls f (one.plain f refl)

-- fewer tokens
plain_in : {A : Type 0} (ls ms : List Lexeme) (r : Found A) → length ms ≤ length ls → Plain ms r → Plain ls r
plain_in ls ms r less one = record { shorter = λ x is. let b = one.shorter x is in omega (arith, less, b); plain = one.plain }

take_plain : (last : ℕ) (wanted : Symbol) (ls : List Lexeme) → Plain ls (take_at last wanted ls)
take_plain last wanted [] = plain_syntax last []
take_plain last wanted (l ∷ ls) =
    cond_both (is l.symbol wanted) (Ok (l.token, ls)) (Err (syntax_at last (l ∷ ls))) (Plain (l ∷ ls))
    (λ _. plain_ok (l ∷ ls) ls l.token (omega arith)) (λ _. plain_syntax last (l ∷ ls))

ended_plain : (last : ℕ) (e : Option Term) (ls : List Lexeme) → Plain ls (ended_at last e ls)
ended_plain last (Some e) ls = plain_ok ls ls e (omega arith)
ended_plain last None ls = plain_syntax last ls

expr_plain : (last : ℕ) (ls : List Lexeme) (room : ℕ) (s : State) → length ls ≤ room → Plain ls (expr_from last ls room s)
unfolding expr_from
expr_plain last [] room s few = ended_plain last (ended s) []
expr_plain last (l ∷ ls) zero s few = absurd (omega (arith, few))
expr_plain last (l ∷ ls) (suc room) s few =
    cond_both (goes_on s l.symbol) (expr_from last ls room (step s l)) (ended_at last (ended s) (l ∷ ls)) (Plain (l ∷ ls))
    (λ _. plain_in (l ∷ ls) ls _ (omega arith) (expr_plain last ls room (step s l) (omega (arith, few))))
    (λ _. ended_plain last (ended s) (l ∷ ls))

outer_plain : (last : ℕ) (ls : List Lexeme) (room : ℕ) → length ls ≤ room → Plain ls (expr_at last room ls)
outer_plain last ls room few = expr_plain last ls room _ few

-- a reader of blocks on lists of at most so many tokens
abbrev BlocksPlain : ℕ → Reader Commands → Type 0
BlocksPlain d block = (ls : List Lexeme) → length ls ≤ d → Plain ls (block ls)

else_plain : (d : ℕ) (block : Reader Commands) → BlocksPlain d block → (ls : List Lexeme) → length ls ≤ d → Plain ls (else_at block ls)
unfolding else_at
else_plain d block ok [] few = plain_ok [] [] End (omega arith)
else_plain d block ok (l ∷ ls) few =
    cond_both (is l.symbol symbol.Else) (block ls) (Ok (End, l ∷ ls)) (Plain (l ∷ ls))
    (λ _. plain_in (l ∷ ls) ls _ (omega arith) (ok ls (omega (arith, few)))) (λ _. plain_ok (l ∷ ls) (l ∷ ls) End (omega arith))

let_plain : (last R : ℕ) (ls : List Lexeme) → length ls ≤ R → Plain ls (let_at last R ls)
unfolding let_at
let_plain last R ls few =
    plain_then ls _ _ (take_plain last symbol.Name ls) (λ v a.
    plain_then v.1 _ _ (take_plain last symbol.Assign v.1) (λ s b.
    plain_then s.1 _ _ (outer_plain last s.1 R (omega (arith, few, a, b))) (λ e c. plain_ok e.1 e.1 (SetTo v.0 e.0) (omega arith))))

read_plain : (last R : ℕ) (ls : List Lexeme) → length ls ≤ R → Plain ls (read_at last R ls)
unfolding read_at
read_plain last R ls few =
    plain_then ls _ _ (take_plain last symbol.Name ls) (λ v a.
    plain_then v.1 _ _ (take_plain last symbol.Name v.1) (λ t b.
    plain_then t.1 _ _ (take_plain last symbol.OpenIndex t.1) (λ x c.
    plain_then x.1 _ _ (outer_plain last x.1 R (omega (arith, few, a, b, c))) (λ i d.
    plain_then i.1 _ _ (take_plain last symbol.CloseIndex i.1) (λ y e. plain_ok y.1 y.1 (ReadOf v.0 t.0 i.0) (omega arith))))))

write_plain : (last R : ℕ) (ls : List Lexeme) → length ls ≤ R → Plain ls (write_at last R ls)
unfolding write_at
write_plain last R ls few =
    plain_then ls _ _ (take_plain last symbol.Name ls) (λ t a.
    plain_then t.1 _ _ (take_plain last symbol.OpenIndex t.1) (λ x b.
    plain_then x.1 _ _ (outer_plain last x.1 R (omega (arith, few, a, b))) (λ i c.
    plain_then i.1 _ _ (take_plain last symbol.CloseIndex i.1) (λ y d.
    plain_then y.1 _ _ (outer_plain last y.1 R (omega (arith, few, a, b, c, d))) (λ e f. plain_ok e.1 e.1 (WriteOf t.0 i.0 e.0) (omega arith))))))

print_plain : (last R : ℕ) (ls : List Lexeme) → length ls ≤ R → Plain ls (print_at last R ls)
unfolding print_at
print_plain last R ls few = plain_then ls _ _ (outer_plain last ls R few) (λ e c. plain_ok e.1 e.1 (PrintOf e.0) (omega arith))

if_plain : (last R d : ℕ) (block : Reader Commands) → BlocksPlain d block → (ls : List Lexeme) → length ls ≤ R → length ls ≤ d → Plain ls (if_at last R block ls)
unfolding if_at
if_plain last R d block ok ls few deep =
    plain_then ls _ _ (outer_plain last ls R few) (λ e a.
    plain_then e.1 _ _ (ok e.1 (omega (arith, deep, a))) (λ x b.
    plain_then x.1 _ _ (else_plain d block ok x.1 (omega (arith, deep, a, b))) (λ y c. plain_ok y.1 y.1 (Choice e.0 x.0 y.0) (omega arith))))

repeat_plain : (last d : ℕ) (block : Reader Commands) → BlocksPlain d block → (ls : List Lexeme) → length ls ≤ d → Plain ls (repeat_at last block ls)
unfolding repeat_at
repeat_plain last d block ok ls deep =
    plain_then ls _ _ (take_plain last symbol.Number ls) (λ n a.
    plain_then n.1 _ _ (ok n.1 (omega (arith, deep, a))) (λ x b. plain_ok x.1 x.1 (Loop n.0 x.0) (omega arith)))

by_plain : (last R d : ℕ) (block : Reader Commands) → BlocksPlain d block → (l : Lexeme) (s : Symbol) (ls : List Lexeme) → length ls ≤ R → length ls ≤ d → Plain (l ∷ ls) (stmt_by last R block l s ls)
by_plain last R d block ok l symbol.Let ls few deep = plain_in (l ∷ ls) ls _ (omega arith) (let_plain last R ls few)
by_plain last R d block ok l symbol.Read ls few deep = plain_in (l ∷ ls) ls _ (omega arith) (read_plain last R ls few)
by_plain last R d block ok l symbol.Write ls few deep = plain_in (l ∷ ls) ls _ (omega arith) (write_plain last R ls few)
by_plain last R d block ok l symbol.Print ls few deep = plain_in (l ∷ ls) ls _ (omega arith) (print_plain last R ls few)
by_plain last R d block ok l symbol.If ls few deep = plain_in (l ∷ ls) ls _ (omega arith) (if_plain last R d block ok ls few deep)
by_plain last R d block ok l symbol.Repeat ls few deep = plain_in (l ∷ ls) ls _ (omega arith) (repeat_plain last d block ok ls deep)
by_plain last R d block ok l symbol.Abort ls few deep = plain_ok (l ∷ ls) ls _ (omega arith)
by_plain last R d block ok l s ls few deep = plain_syntax last (l ∷ ls)

stmt_plain : (last R d : ℕ) (block : Reader Commands) → BlocksPlain d block → (ls : List Lexeme) → length ls ≤ R → length ls ≤ d → Plain ls (stmt_at last R block ls)
unfolding stmt_at
stmt_plain last R d block ok [] few deep = plain_syntax last []
stmt_plain last R d block ok (l ∷ ls) few deep = by_plain last R d block ok l l.symbol ls (omega (arith, few)) (omega (arith, deep))

more_plain : (ls : List Lexeme) → Plain ls (more_at ls)
more_plain [] = plain_ok [] [] true (omega arith)
more_plain (l ∷ ls) =
    cond_both (is l.symbol symbol.CloseBlock) (Ok (false, ls)) (Ok (true, l ∷ ls)) (Plain (l ∷ ls))
    (λ _. plain_ok (l ∷ ls) ls false (omega arith)) (λ _. plain_ok (l ∷ ls) (l ∷ ls) true (omega arith))

separator_by_plain : (last : ℕ) (l : Lexeme) (s : Symbol) (ls : List Lexeme) → Plain (l ∷ ls) (separator_by last l s ls)
separator_by_plain last l symbol.CloseBlock ls = plain_ok (l ∷ ls) ls false (omega arith)
separator_by_plain last l symbol.Semicolon ls = plain_in (l ∷ ls) ls _ (omega arith) (more_plain ls)
separator_by_plain last l s ls = plain_syntax last (l ∷ ls)

separator_plain : (last : ℕ) (ls : List Lexeme) → Plain ls (separator_at last ls)
unfolding separator_at
separator_plain last [] = plain_syntax last []
separator_plain last (l ∷ ls) = separator_by_plain last l l.symbol ls

with_plain : (c : Command) (ls : List Lexeme) (r : Found Commands) → Plain ls r → Plain ls (with_stmt c r)
with_plain c ls (Ok x) one = plain_ok ls x.1 (Then c x.0) (one.shorter x refl)
with_plain c ls (Err f) one = plain_err ls f (one.plain f refl)

stmts_plain : (last R d : ℕ) (block : Reader Commands) → BlocksPlain d block → (n : ℕ) (ls : List Lexeme) → length ls ≤ R → length ls ≤ d → Plain ls (stmts_at last (stmt_at last R block) n ls)
unfolding stmts_at
stmts_plain last R d block ok zero ls few deep = plain_err ls (At last fault.ProgramLimit) (no_limit_program last)
stmts_plain last R d block ok (suc n) ls few deep =
    plain_then ls _ _ (stmt_plain last R d block ok ls few deep) (λ c a.
    plain_then c.1 _ _ (separator_plain last c.1) (λ m b.
    cond_both m.0 (with_stmt c.0 (stmts_at last (stmt_at last R block) n m.1)) (Ok (Then c.0 End, m.1)) (Plain m.1)
    (λ _. with_plain c.0 m.1 _ (stmts_plain last R d block ok n m.1 (omega (arith, few, a, b)) (omega (arith, deep, a, b))))
    (λ _. plain_ok m.1 m.1 (Then c.0 End) (omega arith))))

take_shrinks : (last : ℕ) (wanted : Symbol) (ls : List Lexeme) (x : Token × List Lexeme) → take_at last wanted ls ≡ Ok x → length x.1 < length ls
take_shrinks last wanted [] x same = cc
take_shrinks last wanted (l ∷ ls) x same =
    cond_both (is l.symbol wanted) (Ok (l.token, ls)) (Err (syntax_at last (l ∷ ls))) (λ r. r ≡ Ok x → length x.1 < length (l ∷ ls))
    (λ _ one. let e : (l.token, ls) ≡ x = cc in let b = ap (λ (y : Token × List Lexeme). length y.1) e in omega (arith, b))
    (λ _ one. cc)
    same

-- a token, and then what needs that it was taken
take_then_plain : {B : Type 0} (last : ℕ) (wanted : Symbol) (ls : List Lexeme) (r : Found Token) (k : Token × List Lexeme → Found B) → take_at last wanted ls ≡ r → ((x : Token × List Lexeme) → length x.1 < length ls → Plain x.1 (k x)) → Plain ls (r >>= k)
take_then_plain last wanted ls (Ok x) k is next =
    let less = take_shrinks last wanted ls x is in
    plain_in ls x.1 (k x) (omega (arith, less)) (next x less)
take_then_plain last wanted ls (Err f) k is next = plain_err ls f ((take_plain last wanted ls).plain f is)

pub block_plain : (last R d : ℕ) → d ≤ R → (ls : List Lexeme) → length ls ≤ d → Plain ls (block_at last R d ls)
unfolding block_at
block_plain last R zero within ls few = take_then_plain last symbol.OpenBlock ls (take_at last symbol.OpenBlock ls) _ refl (λ x less. absurd (omega (arith, few, less)))
block_plain last R (suc d) within ls few =
    take_then_plain last symbol.OpenBlock ls (take_at last symbol.OpenBlock ls) _ refl (λ x less.
    stmts_plain last R d (block_at last R d) (block_plain last R d (omega (arith, within))) (length x.1 + 1) x.1 (omega (arith, within, few, less)) (omega (arith, few, less)))
