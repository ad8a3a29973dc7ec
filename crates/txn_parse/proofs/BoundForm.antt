-- A block whose checks pass stands for a program that is well formed and, where no limit is passed, within the limits.
use Rattle.std.proofs.Common.{◌≡◌, ℕ, zero, suc, ◌+◌, ◌-◌, ◌<◌, ◌≤◌, true, ltb, List, [], ◌∷◌, ◌++◌, length, refl, ap, arith}
use Rattle.std.proofs.lemmas.Bool.{cond_both, cond-true, cond-false, lt-ltb, le-ltb, ltb-true}
use Rattle.std.proofs.lemmas.List.{length-append}
use Rattle.morty_base.specs.ScriptNames.{is_name}
use Rattle.txn_lang.specs.declared.limits.TheConstants.{LONGEST_EXPRESSION}
use Rattle.txn_lang.specs.Limits.{level, operator_level, in_parentheses, tokens, depth}
use Rattle.txn_text.specs.declared.kinds.Token.{Token}
use Rattle.txn_text.specs.Tokens.{token_bytes}
use Rattle.txn_parse.specs.declared.symbols.Symbol.TheVariants as symbol
use Rattle.txn_parse.specs.Symbols.{Lexeme, lexeme}
use Rattle.txn_parse.specs.Tree.{Term, Num, Local, Neg, Not, Bin, Command, Let, Read, Write, Print, If, Repeat, Abort, Commands, End, Then}
use Rattle.txn_parse.specs.Grammar.{Limits, Free, Within, inside, MayOpen, IsExpr, number, local, negative, denied, grouped, joined, tighter, IsOutermost, IsStmt, sets, reads, writes, prints, chooses, chooses_else, repeats, aborts, IsBlock, braced, IsStmts, last, last_ended, more}
use Rattle.txn_parse.specs.Binding.{Names, names_in, names_after, bound_term}
use Rattle.txn_parse.proofs.PendingLemmas.{level_some}
use Rattle.txn_parse.proofs.NamesLemmas.{Grows, grows_none, grows_twice, with_name_grows}

-- the canonical text of an expression has no more tokens than any text of it
level_least : (text : List ℕ) (names : Names) (e : Term) → 1 ≤ level (bound_term text names e)
level_least text names (Num x) = omega arith
level_least text names (Local v) = omega arith
level_least text names (Neg a) = omega arith
level_least text names (Not a) = omega arith
level_least text names (Bin o a b) = level_some o

module _ (text : List ℕ) (names : Names) where
  bare : (n : ℕ) (e : Term) (count : ℕ) → n ≤ level (bound_term text names e) → in_parentheses n (bound_term text names e) count ≡ count
  bare n e count above = cond-false (ltb (level (bound_term text names e)) n) _ _ (le-ltb (level (bound_term text names e)) n above)

  at_most : (n : ℕ) (e : Term) (count : ℕ) → in_parentheses n (bound_term text names e) count ≤ count + 2
  at_most n e count = cond_both (ltb (level (bound_term text names e)) n) (count + 2) count (λ m. m ≤ count + 2) (λ _. omega arith) (λ _. omega arith)

  -- fewer parentheses round an operand of a looser level
  fewer : (n : ℕ) (e : Term) (count : ℕ) → in_parentheses n (bound_term text names e) count ≤ in_parentheses (suc n) (bound_term text names e) count
  fewer n e count =
      cond_both (ltb (level (bound_term text names e)) n) (count + 2) count (λ m. m ≤ in_parentheses (suc n) (bound_term text names e) count)
      (λ low. let e' = cond-true (ltb (level (bound_term text names e)) (suc n)) (count + 2) count (lt-ltb (level (bound_term text names e)) (suc n) (let b = ltb-true (level (bound_term text names e)) n low in omega (arith, b))) in omega (arith, e'))
      (λ _. cond_both (ltb (level (bound_term text names e)) (suc n)) (count + 2) count (λ m. count ≤ m) (λ _. omega arith) (λ _. omega arith))

  shortest : {n : ℕ} {ls : List Lexeme} {e : Term} → IsExpr n ls e → in_parentheses n (bound_term text names e) (tokens (bound_term text names e)) ≤ length ls
  shortest (number t) = omega arith
  shortest (local t) = omega arith
  shortest (negative t ls a d) = let s = shortest d in omega (arith, s)
  shortest (denied t ls a d) = let s = shortest d in omega (arith, s)
  shortest (grouped t u ls e d) =
      let s = shortest d in
      let b = bare 1 e (tokens (bound_term text names e)) (level_least text names e) in
      let m = at_most 6 e (tokens (bound_term text names e)) in
      let len = length-append ls (lexeme symbol.CloseParen u ∷ []) in
      omega (arith, s, b, m, len)
  shortest (joined o t ls ms a b d f) =
      let s = shortest d in
      let r = shortest f in
      let same : in_parentheses (suc (operator_level o)) (bound_term text names b) (tokens (bound_term text names b)) ≡ in_parentheses (operator_level o + 1) (bound_term text names b) (tokens (bound_term text names b)) = ap (λ n. in_parentheses n (bound_term text names b) (tokens (bound_term text names b))) (let e : suc (operator_level o) ≡ operator_level o + 1 = omega arith in e) in
      let none = bare (operator_level o) (Bin o a b) (tokens (bound_term text names (Bin o a b))) (omega arith) in
      let len = length-append ls (lexeme (symbol.Op o) t ∷ ms) in
      omega (arith, s, r, same, none, len)
  shortest (tighter n ls e d) = let s = shortest d in let f = fewer n e (tokens (bound_term text names e)) in omega (arith, s, f)

-- an outermost expression stands for one of few tokens
abbrev pub ShortIn : List ℕ → Term → Type 0
ShortIn text e = (names : Names) → tokens (bound_term text names e) ≤ LONGEST_EXPRESSION

abbrev pub IsNamed : List ℕ → Token → Type 0
IsNamed text t = is_name (token_bytes text t) ≡ true

abbrev pub IsFilled : Commands → Type 0
IsFilled End = ⊥
IsFilled (Then c rest) = Unit {0}

-- what the grammar says of a statement in which so many blocks may stand in one another: each target is a name, each
-- expression is short, and each block has a statement
abbrev mutual
  pub KeepsIn : List ℕ → ℕ → Command → Type 0
  KeepsIn text d (Let v e) = IsNamed text v × ShortIn text e
  KeepsIn text d (Read v t i) = IsNamed text v × ShortIn text i
  KeepsIn text d (Write t i e) = ShortIn text i × ShortIn text e
  KeepsIn text d (Print e) = ShortIn text e
  KeepsIn text d (If e a b) = ShortIn text e × (0 < d) × IsFilled a × Keeps text (d - 1) a × Keeps text (d - 1) b
  KeepsIn text d (Repeat n body) = (0 < d) × IsFilled body × Keeps text (d - 1) body
  KeepsIn text d Abort = Unit {0}

  pub Keeps : List ℕ → ℕ → Commands → Type 0
  Keeps text d End = Unit {0}
  Keeps text d (Then c rest) = KeepsIn text d c × Keeps text d rest

-- a block with so many in one another, itself among them
pub record KeepsBlock (text : List ℕ) (d : ℕ) (b : Commands) : Type 0 where
  pub some : 0 < d
  pub filled : IsFilled b
  pub inner : Keeps text (d - 1) b

-- tokens that are names are names of scripts
abbrev pub NamesIn : List ℕ → List Lexeme → Type 0
NamesIn text [] = Unit {0}
NamesIn text (l ∷ ls) = ((l.symbol ≡ symbol.Name) → is_name (token_bytes text l.token) ≡ true) × NamesIn text ls

names_parts : (text : List ℕ) (xs ys : List Lexeme) → NamesIn text (xs ++ ys) → NamesIn text xs × NamesIn text ys
names_parts text [] ys n = (tt, n)
names_parts text (x ∷ xs) ys n = let p = names_parts text xs ys n.1 in ((n.0, p.0), p.1)

-- limits within those of programs, where so many blocks may be opened
abbrev pub Bounds : Limits → ℕ → Type 0
Bounds Free d = ⊥
Bounds (Within room depth) d = (room ≤ LONGEST_EXPRESSION) × (depth ≡ d)

opened : (lim : Limits) (d : ℕ) → MayOpen lim → Bounds lim d → (0 < d) × Bounds (inside lim) (d - 1)
opened Free d may b = absurd b
opened (Within room zero) d may b = absurd may
opened (Within room (suc n)) d may b = let same = b.1 in (omega (arith, same), (b.0, omega (arith, same)))

short_by : (text : List ℕ) (lim : Limits) (d : ℕ) (ls : List Lexeme) (e : Term) → Bounds lim d → IsOutermost lim ls e → ShortIn text e
short_by text Free d ls e b o names = absurd b
short_by text (Within room n) d ls e b o names =
    let s = shortest text names o.derived in
    let bare' = bare text names 1 e (tokens (bound_term text names e)) (level_least text names e) in
    let few = o.short in
    let room' = b.0 in
    omega (arith, s, bare', few, room')

mutual
  stmt_keeps : {lim : Limits} {ls : List Lexeme} {c : Command} → IsStmt lim ls c → (text : List ℕ) (d : ℕ) → Bounds lim d → NamesIn text ls → KeepsIn text d c
  stmt_keeps (sets lim w v s ls e o) text d b n = (n.1.0 refl, short_by text lim d ls e b o)
  stmt_keeps (reads lim w v t x y ls i o) text d b n = (n.1.0 refl, short_by text lim d ls i b o)
  stmt_keeps (writes lim w t x y ls ms i e o p) text d b n = (short_by text lim d ls i b o, short_by text lim d ms e b p)
  stmt_keeps (prints lim w ls e o) text d b n = short_by text lim d ls e b o
  stmt_keeps (chooses lim w ls ms e a o f) text d b n =
      let k = block_keeps f text d b (names_parts text ls ms n.1).1 in
      (short_by text lim d ls e b o, k.some, k.filled, k.inner, tt)
  stmt_keeps (chooses_else lim w x ls ms ns e a b' o f g) text d b n =
      let p = (names_parts text ls (ms ++ lexeme symbol.Else x ∷ ns) n.1).1 in
      let q = names_parts text ms (lexeme symbol.Else x ∷ ns) p in
      let k = block_keeps f text d b q.0 in
      let m = block_keeps g text d b q.1.1 in
      (short_by text lim d ls e b o, k.some, k.filled, k.inner, m.inner)
  stmt_keeps (repeats lim w m ls body f) text d b n = let k = block_keeps f text d b n.1.1 in (k.some, k.filled, k.inner)
  stmt_keeps (aborts lim w) text d b n = tt

  pub block_keeps : {lim : Limits} {ls : List Lexeme} {b : Commands} → IsBlock lim ls b → (text : List ℕ) (d : ℕ) → Bounds lim d → NamesIn text ls → KeepsBlock text d b
  block_keeps (braced lim x y ls cs may s) text d b n =
      let o = opened lim d may b in
      let k = stmts_keep s text (d - 1) o.1 (names_parts text ls (lexeme symbol.CloseBlock y ∷ []) n.1).0 in
      record { some = o.0; filled = k.0; inner = k.1 }

  stmts_keep : {lim : Limits} {ls : List Lexeme} {cs : Commands} → IsStmts lim ls cs → (text : List ℕ) (d : ℕ) → Bounds lim d → NamesIn text ls → IsFilled cs × Keeps text d cs
  stmts_keep (last lim ls c s) text d b n = (tt, (stmt_keeps s text d b n, tt))
  stmts_keep (last_ended lim x ls c s) text d b n = (tt, (stmt_keeps s text d b (names_parts text ls (lexeme symbol.Semicolon x ∷ []) n).0, tt))
  stmts_keep (more lim x ls ms c cs s ss) text d b n =
      let p = names_parts text ls (lexeme symbol.Semicolon x ∷ ms) n in
      (tt, (stmt_keeps s text d b p.0, (stmts_keep ss text d b p.1.1).1))

-- names only grow
mutual
  pub grows_in : (text : List ℕ) (c : Command) (names : Names) → Grows names (names_in text c names)
  grows_in text (Let v e) names = with_name_grows (token_bytes text v) names
  grows_in text (Read v t i) names = with_name_grows (token_bytes text v) names
  grows_in text (Write t i e) names = grows_none names
  grows_in text (Print e) names = grows_none names
  grows_in text (If e a b) names = grows_twice (grows_after text a names) (grows_after text b (names_after text a names))
  grows_in text (Repeat n body) names = grows_after text body names
  grows_in text Abort names = grows_none names

  pub grows_after : (text : List ℕ) (cs : Commands) (names : Names) → Grows names (names_after text cs names)
  grows_after text End names = grows_none names
  grows_after text (Then c rest) names = grows_twice (grows_in text c names) (grows_after text rest (names_in text c names))
