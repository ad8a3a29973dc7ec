-- An expression in the grammar is read, with its tree.
use Rattle.std.proofs.Common.{◌≡◌, ℕ, zero, suc, ◌+◌, ◌-◌, ◌<◌, ◌≤◌, ◌==◌, ◌&&◌, ◌||◌, not, ltb, leb, Bool, true, false, cond, List, [], ◌∷◌, ◌++◌, length, Ok, Err, refl, sym, ap, ◌∙◌, arith, ⊎_elim}
use Rattle.std.proofs.lemmas.List.{append_assoc, length-append}
use Rattle.std.proofs.lemmas.Bool.{cond_both, cond-true, cond-false, le-leb, lt-leb, eqb-true, eqb-false, cases_Bool, and_left, ne_eqb, lt-ltb, le-ltb, and_right, false_from_ne_true, not_from_false}
use Rattle.txn_lang.specs.declared.tree.BinOp.{BinOp}
use Rattle.txn_lang.specs.declared.tree.BinOp.TheVariants as op
use Rattle.txn_lang.specs.Limits.{operator_level, left_level}
use Rattle.txn_text.specs.declared.faults.FaultKind.TheVariants as fault
use Rattle.txn_text.specs.declared.faults.TextFault.TheVariants.{At}
use Rattle.txn_parse.specs.declared.symbols.Symbol.{Symbol}
use Rattle.txn_parse.specs.declared.symbols.Symbol.TheVariants as symbol
use Rattle.txn_parse.specs.Symbols.{Lexeme, lexeme}
use Rattle.txn_parse.specs.Tree.{Term, Bin}
use Rattle.txn_parse.specs.Pending.{Opened, Nothing, Minus, Deny, Paren, Infix, State, Awaits, Has, give, joined, whole, compares, goes_on_behind, goes_on, operator_step, step}
use Rattle.txn_parse.specs.Grammar.{IsExpr, number, local, negative, denied, grouped, joined as between, tighter}
use Rattle.txn_parse.specs.Reading.{ended_at, expr_from, expr_at}
use Rattle.txn_parse.proofs.PendingLemmas.{top, Unsigned, unsigned_below, left_level_least, level_some, level_most}

abbrev pub symbol_level : Symbol → ℕ
symbol_level (symbol.Op o) = operator_level o
symbol_level s = 0

-- the level of an operator that follows
abbrev pub next_level : List Lexeme → ℕ
next_level [] = 0
next_level (l ∷ ls) = symbol_level l.symbol

-- the tightest operator that may follow an expression of a level, and does not belong to it
abbrev pub bound : ℕ → ℕ
bound n = cond (n == 3) 2 n

bound_most : (n : ℕ) → bound n ≤ n
bound_most n = cond_both (n == 3) 2 n (λ k. k ≤ n) (λ is. let e = eqb-true n 3 is in omega (arith, e)) (λ _. omega arith)

bound_more : (n : ℕ) → bound n ≤ bound (suc n)
bound_more n =
    cond_both (suc n == 3) 2 (suc n) (λ k. bound n ≤ k)
    (λ is. let e = eqb-true (suc n) 3 is in let most = bound_most n in omega (arith, e, most))
    (λ _. let most = bound_most n in omega (arith, most))

bound_left : (o : BinOp) → operator_level o ≤ bound (left_level o)
bound_left o =
    let n = operator_level o in
    cond_both (n == 3) 4 n (λ k. n ≤ bound k)
    (λ is. let e = eqb-true n 3 is in omega (arith, e))
    (λ no. cond_both (n == 3) 2 n (λ k. n ≤ k) (λ is. let e = eqb-true n 3 is in absurd (eqb-false n 3 no e)) (λ _. omega arith))

-- one token that goes on
pub one : (last r k : ℕ) (s : State) (l : Lexeme) (ls : List Lexeme) → k ≡ suc r → goes_on s l.symbol ≡ true → expr_from last (l ∷ ls) k s ≡ expr_from last ls r (step s l)
unfolding expr_from
one last r zero s l ls room goes = absurd (omega (arith, room))
one last r (suc k) s l ls room goes =
    cond-true (goes_on s l.symbol) _ _ goes ∙ ap (λ m. expr_from last ls m (step s l)) (let e : k ≡ r = omega (arith, room) in e)

give_has : (o : Opened) (e : Term) → Unsigned o → give o e ≡ Has e o
give_has Nothing e u = refl
give_has (Minus up) e u = absurd u
give_has (Deny up) e u = absurd u
give_has (Paren up) e u = refl
give_has (Infix a o up) e u = refl

joined_low : (o : Opened) (a : Term) (o' : BinOp) → top o < operator_level o' → joined o a o' ≡ Infix a o' o
joined_low Nothing a o' low = refl
joined_low (Minus up) a o' low = refl
joined_low (Deny up) a o' low = refl
joined_low (Paren up) a o' low = refl
joined_low (Infix x earlier up) a o' low = cond-false (leb (operator_level o') (operator_level earlier)) _ _ (lt-leb (operator_level o') (operator_level earlier) low)

-- no comparison is open where what is open binds looser
compares_low : (o : Opened) → top o < 3 → compares o ≡ false
compares_low Nothing low = refl
compares_low (Minus up) low = refl
compares_low (Deny up) low = refl
compares_low (Paren up) low = refl
compares_low (Infix x o up) low =
    let apart : (operator_level o == 3) ≡ false = ne_eqb (operator_level o) 3 (λ e. omega (arith, low, e)) in
    let loose : ltb 3 (operator_level o) ≡ false = le-ltb 3 (operator_level o) (omega (arith, low)) in
    ap (λ b. b || (ltb 3 (operator_level o) && compares up)) apart ∙ ap (λ b. b && compares up) loose

goes_low : (o : Opened) (n : ℕ) → top o < n → (n == 3 && compares o) ≡ false
goes_low o n low =
    ⊎_elim (λ is. let e = eqb-true n 3 is in ap (λ b. n == 3 && b) (compares_low o (omega (arith, low, e))) ∙ and_right (n == 3) false refl) (λ no. and_left (n == 3) (compares o) no) (cases_Bool (n == 3))

chain_same : (n m : ℕ) (c : Bool) → n ≤ bound m → (n == 3 && (m == 3 || (ltb 3 m && c))) ≡ (n == 3 && c)
chain_same n m c below =
    ⊎_elim
    (λ is.
    let e = eqb-true n 3 is in
    let apart : (m == 3) ≡ false = false_from_ne_true (m == 3) (λ t. let cut = cond-true (m == 3) 2 m t in omega (arith, below, cut, e)) in
    let most = bound_most m in
    let far = eqb-false m 3 apart in
    let tight : ltb 3 m ≡ true = lt-ltb 3 m (omega (arith, below, most, e, far)) in
    ap (λ b. n == 3 && b) (ap (λ b. b || (ltb 3 m && c)) apart ∙ ap (λ b. b && c) tight))
    (λ no. and_left (n == 3) _ no ∙ sym (and_left (n == 3) c no))
    (cases_Bool (n == 3))

same_goes : (a : Term) (o' : BinOp) (o : Opened) (x : Symbol) → symbol_level x ≤ bound (operator_level o') → goes_on_behind (Infix a o' o) x ≡ goes_on_behind o x
same_goes a o' o (symbol.Op o2) below = ap not (chain_same (operator_level o2) (operator_level o') (compares o) below)
same_goes a o' o symbol.CloseParen below = refl
same_goes a o' o x below = refl

same_step : (a b : Term) (o' : BinOp) (o : Opened) (x : Symbol) → symbol_level x ≤ bound (operator_level o') → operator_step (Infix a o' o) b x ≡ operator_step o (Bin o' a b) x
same_step a b o' o (symbol.Op o2) below =
    let most = bound_most (operator_level o') in
    ap Awaits (cond-true (leb (operator_level o2) (operator_level o')) _ _ (le-leb (operator_level o2) (operator_level o') (omega (arith, below, most))))
same_step a b o' o x below = refl

-- an operator may take its right operand before a looser one follows
absorb : (last r : ℕ) (a b : Term) (o' : BinOp) (o : Opened) (rest : List Lexeme) → next_level rest ≤ bound (operator_level o') → expr_from last rest r (Has b (Infix a o' o)) ≡ expr_from last rest r (Has (Bin o' a b) o)
unfolding expr_from
absorb last r a b o' o [] below = refl
absorb last zero a b o' o (l ∷ ls) below =
    ap (λ g. cond g (Err (At l.token.line fault.LongExpression)) (ended_at last (whole o (Bin o' a b)) (l ∷ ls))) (same_goes a o' o l.symbol below)
absorb last (suc r) a b o' o (l ∷ ls) below =
    ap (λ g. cond g (expr_from last ls r (operator_step (Infix a o' o) b l.symbol)) (ended_at last (whole o (Bin o' a b)) (l ∷ ls))) (same_goes a o' o l.symbol below)
    ∙ ap (λ s. cond (goes_on_behind o l.symbol) (expr_from last ls r s) (ended_at last (whole o (Bin o' a b)) (l ∷ ls))) (same_step a b o' o l.symbol below)

pub reads_expr : {n : ℕ} {ls : List Lexeme} {e : Term} → IsExpr n ls e → (last r : ℕ) (o : Opened) (rest : List Lexeme) (k : ℕ) → k ≡ length ls + r → top o < n → next_level rest ≤ bound n → expr_from last (ls ++ rest) k (Awaits o) ≡ expr_from last rest r (give o e)
reads_expr (number t) last r o rest k room low next = one last r k (Awaits o) (lexeme symbol.Number t) rest (omega (arith, room)) refl
reads_expr (local t) last r o rest k room low next = one last r k (Awaits o) (lexeme symbol.Name t) rest (omega (arith, room)) refl
reads_expr (negative t ls a d) last r o rest k room low next =
    one last (length ls + r) k (Awaits o) (lexeme (symbol.Op op.Sub) t) (ls ++ rest) (omega (arith, room)) refl
    ∙ reads_expr d last r (Minus o) rest (length ls + r) refl (omega arith) next
reads_expr (denied t ls a d) last r o rest k room low next =
    one last (length ls + r) k (Awaits o) (lexeme symbol.Not t) (ls ++ rest) (omega (arith, room)) refl
    ∙ reads_expr d last r (Deny o) rest (length ls + r) refl (omega arith) next
reads_expr (grouped t u ls e d) last r o rest k room low next =
    let len = length-append ls (lexeme symbol.CloseParen u ∷ []) in
    one last (length ls + suc r) k (Awaits o) (lexeme symbol.OpenParen t) ((ls ++ lexeme symbol.CloseParen u ∷ []) ++ rest) (omega (arith, room, len)) refl
    ∙ ap (λ l. expr_from last l (length ls + suc r) (Awaits (Paren o))) (append_assoc ls (lexeme symbol.CloseParen u ∷ []) rest)
    ∙ reads_expr d last (suc r) (Paren o) (lexeme symbol.CloseParen u ∷ rest) (length ls + suc r) refl (omega arith) (omega arith)
    ∙ one last r (suc r) (Has e (Paren o)) (lexeme symbol.CloseParen u) rest refl refl
reads_expr (between o' t ls ms a b d1 d2) last r o rest k room low next =
    let L = operator_level o' in
    let l = lexeme (symbol.Op o') t in
    let len = length-append ls (l ∷ ms) in
    let least = left_level_least o' in
    let most = level_most o' in
    let unsigned = unsigned_below o L low most in
    let more = bound_more L in
    ap (λ x. expr_from last x k (Awaits o)) (append_assoc ls (l ∷ ms) rest)
    ∙ reads_expr d1 last (suc (length ms + r)) o (l ∷ (ms ++ rest)) k (omega (arith, room, len)) (omega (arith, low, least)) (bound_left o')
    ∙ ap (expr_from last (l ∷ (ms ++ rest)) (suc (length ms + r))) (give_has o a unsigned)
    ∙ one last (length ms + r) (suc (length ms + r)) (Has a o) l (ms ++ rest) refl (not_from_false _ (goes_low o L low))
    ∙ ap (λ x. expr_from last (ms ++ rest) (length ms + r) (Awaits x)) (joined_low o a o' low)
    ∙ reads_expr d2 last r (Infix a o' o) rest (length ms + r) refl (omega arith) (omega (arith, next, more))
    ∙ absorb last r a b o' o rest next
    ∙ sym (ap (expr_from last rest r) (give_has o (Bin o' a b) unsigned))
reads_expr (tighter n ls e d) last r o rest k room low next =
    let more = bound_more n in
    reads_expr d last r o rest k room (omega (arith, low)) (omega (arith, next, more))

quiet : (x : Symbol) → symbol_level x ≡ 0 → goes_on_behind Nothing x ≡ false
quiet (symbol.Op o) level = let some = level_some o in absurd (omega (arith, level, some))
quiet x level = refl

ends : (last r : ℕ) (e : Term) (rest : List Lexeme) → next_level rest ≡ 0 → expr_from last rest r (Has e Nothing) ≡ Ok (e, rest)
unfolding expr_from
ends last r e [] level = refl
ends last zero e (l ∷ ls) level = cond-false (goes_on_behind Nothing l.symbol) _ _ (quiet l.symbol level)
ends last (suc r) e (l ∷ ls) level = cond-false (goes_on_behind Nothing l.symbol) _ _ (quiet l.symbol level)

-- an outermost expression before a token that is no operator
pub reads_outermost : (last room : ℕ) (ls : List Lexeme) (e : Term) (rest : List Lexeme) → IsExpr 1 ls e → length ls ≤ room → next_level rest ≡ 0 → expr_at last room (ls ++ rest) ≡ Ok (e, rest)
reads_outermost last room ls e rest d short level =
    reads_expr d last (room - length ls) Nothing rest room (omega (arith, short)) (omega arith) (omega (arith, level))
    ∙ ends last (room - length ls) e rest level
