-- What is open in an expression stands for the tokens that were read, and some expression begins with them.
use Rattle.std.proofs.Common.{◌≡◌, ℕ, zero, suc, ◌+◌, ◌-◌, ◌<◌, ◌≤◌, ◌==◌, ◌&&◌, ◌||◌, ltb, leb, Bool, true, false, List, [], ◌∷◌, ◌++◌, Some, refl, sym, ap, ◌∙◌, subst, arith, ⊎_elim}
use Rattle.std.proofs.lemmas.List.{append_assoc, append-nil}
use Rattle.std.proofs.lemmas.Bool.{cond_both, leb-true, leb-false, eqb-true, eqb-false, false≢true, cases_Bool, cases_lt, not-true, and_left, eq-eqb, ne_eqb, lt-ltb}
use Rattle.txn_lang.specs.declared.tree.BinOp.{BinOp}
use Rattle.txn_lang.specs.declared.tree.BinOp.TheVariants as op
use Rattle.txn_lang.specs.Limits.{operator_level, left_level}
use Rattle.txn_text.specs.declared.kinds.Token.{Token}
use Rattle.txn_text.specs.declared.kinds.TokenKind.TheVariants as kind
use Rattle.txn_parse.specs.declared.symbols.Symbol.{Symbol}
use Rattle.txn_parse.specs.declared.symbols.Symbol.TheVariants as symbol
use Rattle.txn_parse.specs.Symbols.{Lexeme, lexeme}
use Rattle.txn_parse.specs.Tree.{Term, Num, Local, Neg, Not, Bin}
use Rattle.txn_parse.specs.Pending.{Opened, Nothing, Minus, Deny, Paren, Infix, State, Awaits, Has, give, joined, closed, whole, has_paren, compares, starts_operand, goes_on_behind, goes_on, operand_step, operator_step, step, ended}
use Rattle.txn_parse.specs.Grammar.{IsExpr, number, local, negative, denied, grouped, joined as between, tighter}

-- the level of the innermost thing that is open
abbrev pub top : Opened → ℕ
top Nothing = 0
top (Minus up) = 5
top (Deny up) = 5
top (Paren up) = 0
top (Infix a o up) = operator_level o

-- no sign and no `not` awaits its operand
abbrev pub Unsigned : Opened → Type 0
Unsigned (Minus up) = ⊥
Unsigned (Deny up) = ⊥
Unsigned o = Unit {0}

abbrev pub Behind : List Lexeme → Symbol → (List Lexeme → Type 0) → Type 0
Behind pre s P = (q : List Lexeme) × (t : Token) × (pre ≡ q ++ lexeme s t ∷ []) × P q

-- what is open stands for these tokens
abbrev pub Stands : Opened → List Lexeme → Type 0
Stands Nothing pre = pre ≡ []
Stands (Minus up) pre = Behind pre (symbol.Op op.Sub) (Stands up)
Stands (Deny up) pre = Behind pre symbol.Not (Stands up)
Stands (Paren up) pre = Behind pre symbol.OpenParen (Stands up)
Stands (Infix a o up) pre =
    Behind pre (symbol.Op o) (λ r. (q : List Lexeme) × (ls : List Lexeme) × (r ≡ q ++ ls) × Stands up q × IsExpr (left_level o) ls a × (top up < operator_level o))

pub record Holds (e : Term) (o : Opened) (pre : List Lexeme) : Type 0 where
  pub front : List Lexeme
  pub operand : List Lexeme
  pub split : pre ≡ front ++ operand
  pub stands : Stands o front
  pub unsigned : Unsigned o
  pub derived : IsExpr 6 operand e

abbrev pub StandsState : State → List Lexeme → Type 0
StandsState (Awaits o) pre = Stands o pre
StandsState (Has e o) pre = Holds e o pre

-- an expression of a tighter level is one of a looser level
pub looser : (k n : ℕ) (ls : List Lexeme) (e : Term) → IsExpr (k + n) ls e → IsExpr n ls e
looser zero n ls e d = subst (λ m. IsExpr m ls e) (let z : 0 + n ≡ n = omega arith in z) d
looser (suc k) n ls e d = tighter n ls e (looser k (suc n) ls e (subst (λ m. IsExpr m ls e) (let z : suc k + n ≡ k + suc n = omega arith in z) d))

pub loosened : (m n : ℕ) (ls : List Lexeme) (e : Term) → n ≤ m → IsExpr m ls e → IsExpr n ls e
loosened m n ls e below d = looser (m - n) n ls e (subst (λ k. IsExpr k ls e) (let z : m ≡ m - n + n = omega arith in z) d)

pub level_some : (o : BinOp) → 0 < operator_level o
level_some op.Or = omega arith
level_some op.And = omega arith
level_some op.Eq = omega arith
level_some op.Ne = omega arith
level_some op.Lt = omega arith
level_some op.Le = omega arith
level_some op.Gt = omega arith
level_some op.Ge = omega arith
level_some op.Add = omega arith
level_some op.Sub = omega arith
level_some op.Mul = omega arith
level_some op.Div = omega arith
level_some op.Rem = omega arith

pub level_most : (o : BinOp) → operator_level o ≤ 5
level_most op.Or = omega arith
level_most op.And = omega arith
level_most op.Eq = omega arith
level_most op.Ne = omega arith
level_most op.Lt = omega arith
level_most op.Le = omega arith
level_most op.Gt = omega arith
level_most op.Ge = omega arith
level_most op.Add = omega arith
level_most op.Sub = omega arith
level_most op.Mul = omega arith
level_most op.Div = omega arith
level_most op.Rem = omega arith

-- what an operator's left operand asks for
pub left_level_most : (o : BinOp) (m : ℕ) → operator_level o ≤ m → ((operator_level o ≡ 3) → 4 ≤ m) → left_level o ≤ m
left_level_most o m below chained = cond_both (operator_level o == 3) 4 (operator_level o) (λ k. k ≤ m) (λ is. chained (eqb-true (operator_level o) 3 is)) (λ _. below)

pub left_level_least : (o : BinOp) → operator_level o ≤ left_level o
left_level_least o =
    let n = operator_level o in
    cond_both (n == 3) 4 n (λ k. n ≤ k) (λ is. let e = eqb-true n 3 is in omega (arith, e)) (λ _. omega arith)

pub top_below : (o : Opened) → top o < 6
top_below Nothing = omega arith
top_below (Minus up) = omega arith
top_below (Deny up) = omega arith
top_below (Paren up) = omega arith
top_below (Infix a o up) = let most = level_most o in omega (arith, most)

pub give_stands : (o : Opened) (q es : List Lexeme) (e : Term) → Stands o q → IsExpr 6 es e → StandsState (give o e) (q ++ es)
give_stands Nothing q es e s d = record { front = q; operand = es; split = refl; stands = s; unsigned = tt; derived = d }
give_stands (Minus up) q es e s d =
    subst (StandsState (give up (Neg e))) (sym (ap (λ x. x ++ es) s.2 ∙ append_assoc s.0 (lexeme (symbol.Op op.Sub) s.1 ∷ []) es))
    (give_stands up s.0 (lexeme (symbol.Op op.Sub) s.1 ∷ es) (Neg e) s.3 (negative s.1 es e d))
give_stands (Deny up) q es e s d =
    subst (StandsState (give up (Not e))) (sym (ap (λ x. x ++ es) s.2 ∙ append_assoc s.0 (lexeme symbol.Not s.1 ∷ []) es))
    (give_stands up s.0 (lexeme symbol.Not s.1 ∷ es) (Not e) s.3 (denied s.1 es e d))
give_stands (Paren up) q es e s d = record { front = q; operand = es; split = refl; stands = s; unsigned = tt; derived = d }
give_stands (Infix a o up) q es e s d = record { front = q; operand = es; split = refl; stands = s; unsigned = tt; derived = d }

-- the tokens of an operator that takes its right operand
infix_tokens : (q0 r q ls es : List Lexeme) (l : Lexeme) → q0 ≡ r ++ l ∷ [] → r ≡ q ++ ls → q0 ++ es ≡ q ++ (ls ++ l ∷ es)
infix_tokens q0 r q ls es l e f =
    ap (λ x. x ++ es) (e ∙ ap (λ x. x ++ l ∷ []) f) ∙ append_assoc (q ++ ls) (l ∷ []) es ∙ append_assoc q ls (l ∷ es)

-- nothing with a level below 5 awaits an operand
pub unsigned_below : (o : Opened) (n : ℕ) → top o < n → n ≤ 5 → Unsigned o
unsigned_below Nothing n below most = tt
unsigned_below (Minus up) n below most = absurd (omega (arith, below, most))
unsigned_below (Deny up) n below most = absurd (omega (arith, below, most))
unsigned_below (Paren up) n below most = tt
unsigned_below (Infix a o up) n below most = tt

four_from : (m n : ℕ) → n ≤ m → n ≡ 3 → (m ≡ 3 → ⊥) → 4 ≤ m
four_from m n below is far = ⊎_elim (λ lt. omega (arith, lt)) (λ ge. absurd (far (omega (arith, below, is, ge)))) (cases_lt 3 m)

-- where a comparison does not chain, an operator that is applied before it binds tighter
chains_not : (n m : ℕ) (c : Bool) → n ≤ m → (n == 3 && (m == 3 || (ltb 3 m && c))) ≡ false → (n ≡ 3) → 4 ≤ m
chains_not n m c below free is =
    ⊎_elim (λ eq. absurd (false≢true (sym free ∙ ap (λ x. x && (m == 3 || (ltb 3 m && c))) (eq-eqb n 3 is) ∙ ap (λ x. x || (ltb 3 m && c)) eq)))
    (λ ne. let apart = eqb-false m 3 ne in let far : (m ≡ 3 → ⊥) = apart in four_from m n below is far)
    (cases_Bool (m == 3))

rest_chains_not : (n m : ℕ) (c : Bool) → n ≤ m → (n == 3 && (m == 3 || (ltb 3 m && c))) ≡ false → (n == 3 && c) ≡ false
rest_chains_not n m c below free =
    ⊎_elim
    (λ is.
    let four = chains_not n m c below free (eqb-true n 3 is) in
    let apart : (m == 3) ≡ false = ne_eqb m 3 (λ e. omega (arith, four, e)) in
    let tight : ltb 3 m ≡ true = lt-ltb 3 m (omega (arith, four)) in
    let inner : (m == 3 || (ltb 3 m && c)) ≡ c = ap (λ x. x || (ltb 3 m && c)) apart ∙ ap (λ x. x && c) tight in
    ap (λ x. n == 3 && x) (sym inner) ∙ free)
    (λ no. and_left (n == 3) c no)
    (cases_Bool (n == 3))

pub joined_stands : (o : Opened) (q es : List Lexeme) (e : Term) (k : ℕ) (o' : BinOp) (t : Token) → Stands o q → Unsigned o → IsExpr k es e → top o < k → left_level o' ≤ k → (operator_level o' == 3 && compares o) ≡ false →
    Stands (joined o e o') ((q ++ es) ++ lexeme (symbol.Op o') t ∷ [])
joined_stands Nothing q es e k o' t s u d above left chained =
    (q ++ es, t, refl, (q, es, refl, s, loosened k _ es e left d, level_some o'))
joined_stands (Minus up) q es e k o' t s u d above left chained = absurd u
joined_stands (Deny up) q es e k o' t s u d above left chained = absurd u
joined_stands (Paren up) q es e k o' t s u d above left chained =
    (q ++ es, t, refl, (q, es, refl, s, loosened k _ es e left d, level_some o'))
joined_stands (Infix a earlier up) q es e k o' t s u d above left chained =
    cond_both (leb (operator_level o') (operator_level earlier)) (joined up (Bin earlier a e) o') (Infix e o' (Infix a earlier up)) (λ x. Stands x ((q ++ es) ++ lexeme (symbol.Op o') t ∷ []))
    (λ tight.
    let below = leb-true _ _ tight in
    let whole_d = between earlier s.1 s.3.1 es a e s.3.4 (loosened k (suc (operator_level earlier)) es e above d) in
    let tokens = infix_tokens q (s.0) (s.3.0) (s.3.1) es (lexeme (symbol.Op earlier) s.1) s.2 s.3.2 in
    let apart : (operator_level o' ≡ 3) → 4 ≤ operator_level earlier = chains_not (operator_level o') (operator_level earlier) (compares up) below chained in
    let rest_chained : (operator_level o' == 3 && compares up) ≡ false = rest_chains_not (operator_level o') (operator_level earlier) (compares up) below chained in
    subst (λ x. Stands (joined up (Bin earlier a e) o') (x ++ lexeme (symbol.Op o') t ∷ [])) (sym tokens)
    (joined_stands up s.3.0 (s.3.1 ++ lexeme (symbol.Op earlier) s.1 ∷ es) (Bin earlier a e) (operator_level earlier) o' t s.3.3 (unsigned_below up (operator_level earlier) s.3.5 (level_most earlier)) whole_d s.3.5 (left_level_most o' (operator_level earlier) below apart) rest_chained))
    (λ loose. (q ++ es, t, refl, (q, es, refl, s, loosened k _ es e left d, leb-false _ _ loose)))

closed_stands : (o : Opened) (q es : List Lexeme) (e : Term) (k : ℕ) (u : Token) → Stands o q → IsExpr k es e → top o < k → has_paren o ≡ true → StandsState (closed o e) (q ++ (es ++ lexeme symbol.CloseParen u ∷ []))
closed_stands Nothing q es e k u s d above paren = cc
closed_stands (Minus up) q es e k u s d above paren = cc
closed_stands (Deny up) q es e k u s d above paren = cc
closed_stands (Paren up) q es e k u s d above paren =
    subst (StandsState (give up e)) (sym (ap (λ x. x ++ (es ++ lexeme symbol.CloseParen u ∷ [])) s.2 ∙ append_assoc s.0 (lexeme symbol.OpenParen s.1 ∷ []) (es ++ lexeme symbol.CloseParen u ∷ [])))
    (give_stands up s.0 (lexeme symbol.OpenParen s.1 ∷ (es ++ lexeme symbol.CloseParen u ∷ [])) e s.3 (grouped s.1 u es e (loosened k 1 es e above d)))
closed_stands (Infix a o up) q es e k u s d above paren =
    let whole_d = between o s.1 s.3.1 es a e s.3.4 (loosened k (suc (operator_level o)) es e above d) in
    let tokens = infix_tokens q s.0 s.3.0 s.3.1 es (lexeme (symbol.Op o) s.1) s.2 s.3.2 in
    let close = lexeme symbol.CloseParen u ∷ [] in
    subst (StandsState (closed up (Bin o a e))) (sym (append_assoc s.3.0 (s.3.1 ++ lexeme (symbol.Op o) s.1 ∷ es) close) ∙ ap (λ x. x ++ close) (sym tokens) ∙ append_assoc q es close)
    (closed_stands up s.3.0 (s.3.1 ++ lexeme (symbol.Op o) s.1 ∷ es) (Bin o a e) (operator_level o) u s.3.3 whole_d s.3.5 paren)

-- the whole expression is in the grammar
pub whole_stands : (o : Opened) (q es : List Lexeme) (e : Term) (k : ℕ) (w : Term) → Stands o q → IsExpr k es e → top o < k → whole o e ≡ Some w → IsExpr 1 (q ++ es) w
whole_stands Nothing q es e k w s d above is =
    let same : e ≡ w = cc in
    subst (λ x. IsExpr 1 (x ++ es) w) (sym s) (subst (IsExpr 1 es) same (loosened k 1 es e above d))
whole_stands (Minus up) q es e k w s d above is = cc
whole_stands (Deny up) q es e k w s d above is = cc
whole_stands (Paren up) q es e k w s d above is = cc
whole_stands (Infix a o up) q es e k w s d above is =
    let whole_d = between o s.1 s.3.1 es a e s.3.4 (loosened k (suc (operator_level o)) es e above d) in
    let tokens = infix_tokens q s.0 s.3.0 s.3.1 es (lexeme (symbol.Op o) s.1) s.2 s.3.2 in
    subst (λ x. IsExpr 1 x w) (sym tokens)
    (whole_stands up s.3.0 (s.3.1 ++ lexeme (symbol.Op o) s.1 ∷ es) (Bin o a e) (operator_level o) w s.3.3 whole_d s.3.5 is)

-- some tokens complete an expression
abbrev pub Completes : List Lexeme → Type 0
Completes front = (more : List Lexeme) × (e : Term) × IsExpr 1 (front ++ more) e

some_token : Token
some_token = record { kind = kind.Sym; start = 0; end = 0; line = 0 }

completes : (o : Opened) (q es : List Lexeme) (e : Term) (k : ℕ) → Stands o q → IsExpr k es e → top o < k → Completes (q ++ es)
completes Nothing q es e k s d above =
    ([], e, subst (λ x. IsExpr 1 x e) (sym (ap (λ x. x ++ es) s) ∙ sym (append-nil (q ++ es))) (loosened k 1 es e above d))
completes (Minus up) q es e k s d above =
    let made = negative s.1 es e (loosened k 6 es e above d) in
    subst Completes (sym (ap (λ x. x ++ es) s.2 ∙ append_assoc s.0 (lexeme (symbol.Op op.Sub) s.1 ∷ []) es))
    (completes up s.0 (lexeme (symbol.Op op.Sub) s.1 ∷ es) (Neg e) 6 s.3 made (top_below up))
completes (Deny up) q es e k s d above =
    let made = denied s.1 es e (loosened k 6 es e above d) in
    subst Completes (sym (ap (λ x. x ++ es) s.2 ∙ append_assoc s.0 (lexeme symbol.Not s.1 ∷ []) es))
    (completes up s.0 (lexeme symbol.Not s.1 ∷ es) (Not e) 6 s.3 made (top_below up))
completes (Paren up) q es e k s d above =
    let close = lexeme symbol.CloseParen some_token ∷ [] in
    let made = grouped s.1 some_token es e (loosened k 1 es e above d) in
    let rest = completes up s.0 (lexeme symbol.OpenParen s.1 ∷ (es ++ close)) e 6 s.3 made (top_below up) in
    let tokens : s.0 ++ (lexeme symbol.OpenParen s.1 ∷ (es ++ close)) ≡ (q ++ es) ++ close = sym (append_assoc q es close ∙ ap (λ x. x ++ (es ++ close)) s.2 ∙ append_assoc s.0 (lexeme symbol.OpenParen s.1 ∷ []) (es ++ close)) in
    (close ++ rest.0, rest.1, subst (λ x. IsExpr 1 x rest.1) (ap (λ x. x ++ rest.0) tokens ∙ append_assoc (q ++ es) close rest.0) rest.2)
completes (Infix a o up) q es e k s d above =
    let whole_d = between o s.1 s.3.1 es a e s.3.4 (loosened k (suc (operator_level o)) es e above d) in
    let tokens = infix_tokens q s.0 s.3.0 s.3.1 es (lexeme (symbol.Op o) s.1) s.2 s.3.2 in
    subst Completes (sym tokens)
    (completes up s.3.0 (s.3.1 ++ lexeme (symbol.Op o) s.1 ∷ es) (Bin o a e) (operator_level o) s.3.3 whole_d s.3.5)

-- some expression begins with what was read
pub state_completes : (s : State) (pre : List Lexeme) → StandsState s pre → Completes pre
state_completes (Awaits o) pre s =
    let one = lexeme symbol.Number some_token ∷ [] in
    let rest = completes o pre one (Num some_token) 6 s (number some_token) (top_below o) in
    (one ++ rest.0, rest.1, subst (λ x. IsExpr 1 x rest.1) (append_assoc pre one rest.0) rest.2)
state_completes (Has e o) pre s =
    subst Completes (sym s.split) (completes o s.front s.operand e 6 s.stands s.derived (top_below o))

-- one more token that goes on with the expression
operand_stands : (o : Opened) (x : Symbol) (t : Token) (pre : List Lexeme) → Stands o pre → starts_operand x ≡ true → StandsState (operand_step o x t) (pre ++ lexeme x t ∷ [])
operand_stands o symbol.Number t pre s goes = give_stands o pre (lexeme symbol.Number t ∷ []) (Num t) s (number t)
operand_stands o symbol.Name t pre s goes = give_stands o pre (lexeme symbol.Name t ∷ []) (Local t) s (local t)
operand_stands o symbol.Not t pre s goes = (pre, t, refl, s)
operand_stands o symbol.OpenParen t pre s goes = (pre, t, refl, s)
operand_stands o (symbol.Op op.Sub) t pre s goes = (pre, t, refl, s)
operand_stands o x t pre s goes = absurd (false≢true goes)

operator_stands : (o : Opened) (e : Term) (x : Symbol) (t : Token) (pre : List Lexeme) → Holds e o pre → goes_on_behind o x ≡ true → StandsState (operator_step o e x) (pre ++ lexeme x t ∷ [])
operator_stands o e (symbol.Op o') t pre s goes =
    subst (λ x. Stands (joined o e o') (x ++ lexeme (symbol.Op o') t ∷ [])) (sym s.split)
    (joined_stands o s.front s.operand e 6 o' t s.stands s.unsigned s.derived (top_below o) (left_level_most o' 6 (let most = level_most o' in omega (arith, most)) (λ _. omega arith)) (not-true _ goes))
operator_stands o e symbol.CloseParen t pre s goes =
    subst (StandsState (closed o e)) (sym (append_assoc s.front s.operand (lexeme symbol.CloseParen t ∷ [])) ∙ ap (λ x. x ++ lexeme symbol.CloseParen t ∷ []) (sym s.split))
    (closed_stands o s.front s.operand e 6 t s.stands s.derived (top_below o) goes)
operator_stands o e x t pre s goes = absurd (false≢true goes)

pub step_stands : (s : State) (l : Lexeme) (pre : List Lexeme) → StandsState s pre → goes_on s l.symbol ≡ true → StandsState (step s l) (pre ++ l ∷ [])
step_stands (Awaits o) l pre s goes = operand_stands o l.symbol l.token pre s goes
step_stands (Has e o) l pre s goes = operator_stands o e l.symbol l.token pre s goes

pub ended_stands : (s : State) (pre : List Lexeme) (w : Term) → StandsState s pre → ended s ≡ Some w → IsExpr 1 pre w
ended_stands (Awaits o) pre w s is = cc
ended_stands (Has e o) pre w s is =
    subst (λ x. IsExpr 1 x w) (sym s.split) (whole_stands o s.front s.operand e 6 w s.stands s.derived (top_below o) is)
