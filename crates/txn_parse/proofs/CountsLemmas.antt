-- A block is within the limits just where its counts are.
use Rattle.std.proofs.Common.{◌≡◌, ℕ, zero, suc, ◌+◌, ◌-◌, ◌<◌, ◌≤◌, ltb, true, cond, List, [], ◌∷◌, ◌++◌, length, Ok, Err, refl, sym, ap, ◌∙◌, subst, arith}
use Rattle.std.proofs.lemmas.Bool.{cond_both, cond-true, false≢true, lt-ltb, ltb-true}
use Rattle.txn_lang.specs.declared.limits.TheConstants.{DEEPEST_BLOCK, LONGEST_EXPRESSION}
use Rattle.txn_text.specs.declared.faults.FaultKind.TheVariants.{Deep, LongExpression}
use Rattle.txn_parse.specs.declared.symbols.Symbol.{Symbol}
use Rattle.txn_parse.specs.declared.symbols.Symbol.TheVariants as symbol
use Rattle.txn_parse.specs.Symbols.{Lexeme, lexeme}
use Rattle.txn_parse.specs.Tree.{Term, Command, Commands}
use Rattle.txn_parse.specs.Grammar.{Limits, Within, inside, MayOpen, IsExpr, number, local, negative, denied, grouped, joined, tighter, IsOutermost, IsStmt, sets, reads, writes, prints, chooses, chooses_else, repeats, aborts, IsBlock, braced, IsStmts, last, last_ended, more}
use Rattle.txn_parse.specs.Counts.{in_expression, Counts, one_counted, and_then, counted, LimitsAreCounts}

then_append : (r : Counts) (xs ys : List Lexeme) → ((o n : ℕ) → counted o n (xs ++ ys) ≡ and_then (counted o n xs) (λ c. counted c.0 c.1 ys)) →
    and_then r (λ c. counted c.0 c.1 (xs ++ ys)) ≡ and_then (and_then r (λ c. counted c.0 c.1 xs)) (λ c. counted c.0 c.1 ys)
then_append (Ok c) xs ys each = each c.0 c.1
then_append (Err past) xs ys each = refl

pub counted-append : (xs ys : List Lexeme) (o n : ℕ) → counted o n (xs ++ ys) ≡ and_then (counted o n xs) (λ c. counted c.0 c.1 ys)
counted-append [] ys o n = refl
counted-append (l ∷ xs) ys o n = then_append (one_counted o n l l.symbol) xs ys (counted-append xs ys)

-- one part, and then the other
after : (xs ys : List Lexeme) (o n p m : ℕ) → counted o n xs ≡ Ok (p, m) → counted o n (xs ++ ys) ≡ counted p m ys
after xs ys o n p m is = counted-append xs ys o n ∙ ap (λ r. and_then r (λ c. counted c.0 c.1 ys)) is

-- all of these tokens may stand in an expression
abbrev pub AllIn : List Lexeme → Type 0
AllIn [] = Unit {0}
AllIn (l ∷ ls) = (in_expression l.symbol ≡ true) × AllIn ls

all_append : (xs ys : List Lexeme) → AllIn xs → AllIn ys → AllIn (xs ++ ys)
all_append [] ys a b = b
all_append (x ∷ xs) ys a b = (a.0, all_append xs ys a.1 b)

pub all_in : {n : ℕ} {ls : List Lexeme} {e : Term} → IsExpr n ls e → AllIn ls
all_in (number t) = (refl, tt)
all_in (local t) = (refl, tt)
all_in (negative t ls a d) = (refl, all_in d)
all_in (denied t ls a d) = (refl, all_in d)
all_in (grouped t u ls e d) = (refl, all_append ls _ (all_in d) (refl, tt))
all_in (joined o t ls ms a b d f) = all_append ls _ (all_in d) (refl, all_in f)
all_in (tighter n ls e d) = all_in d

one_on : (o n : ℕ) (l : Lexeme) (s : Symbol) → in_expression s ≡ true → one_counted o n l s ≡ cond (ltb n LONGEST_EXPRESSION) (Ok (o, n + 1)) (Err (l, LongExpression))
one_on o n l symbol.Name is = refl
one_on o n l symbol.Number is = refl
one_on o n l symbol.Not is = refl
one_on o n l (symbol.Op p) is = refl
one_on o n l symbol.OpenParen is = refl
one_on o n l symbol.CloseParen is = refl
one_on o n l s is = absurd (false≢true is)

one_more : (o n : ℕ) (l : Lexeme) → in_expression l.symbol ≡ true → n < LONGEST_EXPRESSION → one_counted o n l l.symbol ≡ Ok (o, n + 1)
one_more o n l is few = one_on o n l l.symbol is ∙ cond-true (ltb n LONGEST_EXPRESSION) _ _ (lt-ltb n LONGEST_EXPRESSION few)

run_counted : (ls : List Lexeme) (o n : ℕ) → AllIn ls → n + length ls ≤ LONGEST_EXPRESSION → counted o n ls ≡ Ok (o, n + length ls)
run_counted [] o n all few = ap (λ m. Ok (o, m)) (let e : n ≡ n + 0 = omega arith in e)
run_counted (l ∷ ls) o n all few =
    ap (λ r. and_then r (λ c. counted c.0 c.1 ls)) (one_more o n l all.0 (omega (arith, few)))
    ∙ run_counted ls o (n + 1) all.1 (omega (arith, few))
    ∙ ap (λ m. Ok (o, m)) (let e : n + 1 + length ls ≡ n + suc (length ls) = omega arith in e)

-- an outermost expression behind a token that is none of it
outer_counted : (k : ℕ) (es : List Lexeme) (e : Term) (o : ℕ) → IsOutermost (Within LONGEST_EXPRESSION k) es e → counted o 0 es ≡ Ok (o, 0 + length es)
outer_counted k es e o d = run_counted es o 0 (all_in d.derived) (let s = d.short in omega (arith, s))

abbrev Ends : List Lexeme → ℕ → ℕ → Type 0
Ends ls o n = (m : ℕ) × (counted o n ls ≡ Ok (o, m))

abbrev limited : ℕ → Limits
limited k = Within LONGEST_EXPRESSION k

open_one : (o k n : ℕ) (t : Lexeme) → o + suc k ≡ DEEPEST_BLOCK → one_counted o n t symbol.OpenBlock ≡ Ok (o + 1, 0)
open_one o k n t deep = cond-true (ltb o DEEPEST_BLOCK) _ _ (lt-ltb o DEEPEST_BLOCK (omega (arith, deep)))

mutual
  stmt_counted : {lim : Limits} {ls : List Lexeme} {c : Command} → IsStmt lim ls c → (k o n : ℕ) → lim ≡ limited k → o + k ≡ DEEPEST_BLOCK → Ends ls o n
  stmt_counted (sets lim w v s ls e d) k o n is deep = (_, outer_counted k ls e o (subst (λ l. IsOutermost l ls e) is d))
  stmt_counted (reads lim w v t x y ls i d) k o n is deep =
      (_, after ls (lexeme symbol.CloseIndex y ∷ []) o 0 o _ (outer_counted k ls i o (subst (λ l. IsOutermost l ls i) is d)))
  stmt_counted (writes lim w t x y ls ms i e d f) k o n is deep =
      (_, after ls (lexeme symbol.CloseIndex y ∷ ms) o 0 o _ (outer_counted k ls i o (subst (λ l. IsOutermost l ls i) is d)) ∙ outer_counted k ms e o (subst (λ l. IsOutermost l ms e) is f))
  stmt_counted (prints lim w ls e d) k o n is deep = (_, outer_counted k ls e o (subst (λ l. IsOutermost l ls e) is d))
  stmt_counted (chooses lim w ls ms e a d b) k o n is deep =
      let body = block_counted b k o (0 + length ls) is deep in
      (_, after ls ms o 0 o _ (outer_counted k ls e o (subst (λ l. IsOutermost l ls e) is d)) ∙ body)
  stmt_counted (chooses_else lim w x ls ms ns e a b d f g) k o n is deep =
      let body = block_counted f k o (0 + length ls) is deep in
      let other = block_counted g k o 0 is deep in
      (_, after ls (ms ++ lexeme symbol.Else x ∷ ns) o 0 o _ (outer_counted k ls e o (subst (λ l. IsOutermost l ls e) is d)) ∙ after ms (lexeme symbol.Else x ∷ ns) o _ o 0 body ∙ other)
  stmt_counted (repeats lim w t ls body b) k o n is deep = (_, block_counted b k o 1 is deep)
  stmt_counted (aborts lim w) k o n is deep = (_, refl)

  block_counted : {lim : Limits} {ls : List Lexeme} {b : Commands} → IsBlock lim ls b → (k o n : ℕ) → lim ≡ limited k → o + k ≡ DEEPEST_BLOCK → counted o n ls ≡ Ok (o, 0)
  block_counted (braced lim x y ls cs may d) zero o n is deep = absurd (subst MayOpen is may)
  block_counted (braced lim x y ls cs may d) (suc k) o n is deep =
      let body = stmts_counted d k (o + 1) 0 (ap inside is) (omega (arith, deep)) in
      ap (λ r. and_then r (λ c. counted c.0 c.1 (ls ++ lexeme symbol.CloseBlock y ∷ []))) (open_one o k n (lexeme symbol.OpenBlock x) deep)
      ∙ after ls (lexeme symbol.CloseBlock y ∷ []) (o + 1) 0 (o + 1) body.0 body.1
      ∙ ap (λ m. Ok (m, 0)) (let e : o + 1 - 1 ≡ o = omega arith in e)

  stmts_counted : {lim : Limits} {ls : List Lexeme} {cs : Commands} → IsStmts lim ls cs → (k o n : ℕ) → lim ≡ limited k → o + k ≡ DEEPEST_BLOCK → Ends ls o n
  stmts_counted (last lim ls c d) k o n is deep = stmt_counted d k o n is deep
  stmts_counted (last_ended lim s ls c d) k o n is deep =
      let one = stmt_counted d k o n is deep in
      (_, after ls (lexeme symbol.Semicolon s ∷ []) o n o one.0 one.1)
  stmts_counted (more lim s ls ms c cs d f) k o n is deep =
      let one = stmt_counted d k o n is deep in
      let others = stmts_counted f k o 0 is deep in
      (others.0, after ls (lexeme symbol.Semicolon s ∷ ms) o n o one.0 one.1 ∙ others.1)

pub then_ok : (r : Counts) (f : ℕ × ℕ → Counts) (x : ℕ × ℕ) → and_then r f ≡ Ok x → (c : ℕ × ℕ) × (r ≡ Ok c) × (f c ≡ Ok x)
then_ok (Ok c) f x is = (c, refl, is)
then_ok (Err past) f x is = cc

pub parts : (xs ys : List Lexeme) (o n : ℕ) (x : ℕ × ℕ) → counted o n (xs ++ ys) ≡ Ok x → (c : ℕ × ℕ) × (counted o n xs ≡ Ok c) × (counted c.0 c.1 ys ≡ Ok x)
parts xs ys o n x is = then_ok (counted o n xs) (λ c. counted c.0 c.1 ys) x (sym (counted-append xs ys o n) ∙ is)

pub same_ok : (c x : ℕ × ℕ) → (let r : Counts = Ok c in r) ≡ Ok x → c ≡ x
same_ok c x is = cc

run_within : (ls : List Lexeme) (o n : ℕ) (x : ℕ × ℕ) → AllIn ls → n ≤ LONGEST_EXPRESSION → counted o n ls ≡ Ok x → (n + length ls ≤ LONGEST_EXPRESSION) × (x.0 ≡ o)
run_within [] o n x all few is = (omega (arith, few), sym (ap (λ (c : ℕ × ℕ). c.0) (same_ok (o, n) x is)))
run_within (l ∷ ls) o n x all few is =
    cond_both (ltb n LONGEST_EXPRESSION) (Ok (o, n + 1)) (Err (l, LongExpression)) (λ r. one_counted o n l l.symbol ≡ r → (n + length (l ∷ ls) ≤ LONGEST_EXPRESSION) × (x.0 ≡ o))
    (λ less one.
    let rest = run_within ls o (n + 1) x all.1 (let b = ltb-true n LONGEST_EXPRESSION less in omega (arith, b)) (sym (ap (λ r. and_then r (λ c. counted c.0 c.1 ls)) one) ∙ is) in
    (let b = rest.0 in omega (arith, b), rest.1))
    (λ full one. absurd (let clash : Err (l, LongExpression) ≡ Ok x = sym (ap (λ r. and_then r (λ c. counted c.0 c.1 ls)) one) ∙ is in cc))
    (one_on o n l l.symbol all.0)

outer_within : {lim : Limits} {es : List Lexeme} {e : Term} → IsOutermost lim es e → (k o : ℕ) (x : ℕ × ℕ) → counted o 0 es ≡ Ok x → IsOutermost (Within LONGEST_EXPRESSION k) es e × (x.0 ≡ o)
outer_within {es = es} d k o x is =
    let w = run_within es o 0 x (all_in d.derived) (omega arith) is in
    (record { short = let b = w.0 in omega (arith, b); derived = d.derived }, w.1)

-- a brace that may be opened
pub opened : (o k n : ℕ) (t : Lexeme) (c : ℕ × ℕ) → o + k ≡ DEEPEST_BLOCK → one_counted o n t symbol.OpenBlock ≡ Ok c → (o < DEEPEST_BLOCK) × (c ≡ (o + 1, 0))
opened o k n t c deep =
    cond_both (ltb o DEEPEST_BLOCK) (Ok (o + 1, 0)) (Err (t, Deep)) (λ r. r ≡ Ok c → (o < DEEPEST_BLOCK) × (c ≡ (o + 1, 0)))
    (λ less is. (ltb-true o DEEPEST_BLOCK less, sym (same_ok (o + 1, 0) c is)))
    (λ full is. cc)

mutual
  stmt_within : {lim : Limits} {ls : List Lexeme} {c : Command} → IsStmt lim ls c → (k o n : ℕ) (x : ℕ × ℕ) → o + k ≡ DEEPEST_BLOCK → counted o n ls ≡ Ok x → IsStmt (Within LONGEST_EXPRESSION k) ls c × (x.0 ≡ o)
  stmt_within (sets lim w v s ls e d) k o n x deep is = let q = outer_within d k o x is in (sets (Within LONGEST_EXPRESSION k) w v s ls e q.0, q.1)
  stmt_within (reads lim w v t y z ls i d) k o n x deep is =
      let p = parts ls (lexeme symbol.CloseIndex z ∷ []) o 0 x is in
      let q = outer_within d k o p.0 p.1 in
      (reads (Within LONGEST_EXPRESSION k) w v t y z ls i q.0, sym (ap (λ (c : ℕ × ℕ). c.0) (same_ok (p.0.0, 0) x p.2)) ∙ q.1)
  stmt_within (writes lim w t y z ls ms i e d f) k o n x deep is =
      let p = parts ls (lexeme symbol.CloseIndex z ∷ ms) o 0 x is in
      let q = outer_within d k o p.0 p.1 in
      let r = outer_within f k p.0.0 x p.2 in
      (writes (Within LONGEST_EXPRESSION k) w t y z ls ms i e q.0 r.0, r.1 ∙ q.1)
  stmt_within (prints lim w ls e d) k o n x deep is = let q = outer_within d k o x is in (prints (Within LONGEST_EXPRESSION k) w ls e q.0, q.1)
  stmt_within (chooses lim w ls ms e a d b) k o n x deep is =
      let p = parts ls ms o 0 x is in
      let q = outer_within d k o p.0 p.1 in
      let r = block_within b k p.0.0 p.0.1 x (ap (λ m. m + k) q.1 ∙ deep) p.2 in
      (chooses (Within LONGEST_EXPRESSION k) w ls ms e a q.0 r.0, r.1 ∙ q.1)
  stmt_within (chooses_else lim w y ls ms ns e a b d f g) k o n x deep is =
      let p = parts ls (ms ++ lexeme symbol.Else y ∷ ns) o 0 x is in
      let q = outer_within d k o p.0 p.1 in
      let p' = parts ms (lexeme symbol.Else y ∷ ns) p.0.0 p.0.1 x p.2 in
      let r = block_within f k p.0.0 p.0.1 p'.0 (ap (λ m. m + k) q.1 ∙ deep) p'.1 in
      let u = block_within g k p'.0.0 0 x (ap (λ m. m + k) (r.1 ∙ q.1) ∙ deep) p'.2 in
      (chooses_else (Within LONGEST_EXPRESSION k) w y ls ms ns e a b q.0 r.0 u.0, u.1 ∙ r.1 ∙ q.1)
  stmt_within (repeats lim w t ls body b) k o n x deep is = let r = block_within b k o 1 x deep is in (repeats (Within LONGEST_EXPRESSION k) w t ls body r.0, r.1)
  stmt_within (aborts lim w) k o n x deep is = (aborts (Within LONGEST_EXPRESSION k) w, sym (ap (λ (c : ℕ × ℕ). c.0) (same_ok (o, 0) x is)))

  block_within : {lim : Limits} {ls : List Lexeme} {b : Commands} → IsBlock lim ls b → (k o n : ℕ) (x : ℕ × ℕ) → o + k ≡ DEEPEST_BLOCK → counted o n ls ≡ Ok x → IsBlock (Within LONGEST_EXPRESSION k) ls b × (x.0 ≡ o)
  block_within (braced lim y z ls cs may d) zero o n x deep is =
      let q = then_ok (one_counted o n (lexeme symbol.OpenBlock y) symbol.OpenBlock) (λ c. counted c.0 c.1 (ls ++ lexeme symbol.CloseBlock z ∷ [])) x is in
      let p = opened o zero n (lexeme symbol.OpenBlock y) q.0 deep q.1 in
      absurd (let b = p.0 in omega (arith, b, deep))
  block_within (braced lim y z ls cs may d) (suc k) o n x deep is =
      let q = then_ok (one_counted o n (lexeme symbol.OpenBlock y) symbol.OpenBlock) (λ c. counted c.0 c.1 (ls ++ lexeme symbol.CloseBlock z ∷ [])) x is in
      let p = opened o (suc k) n (lexeme symbol.OpenBlock y) q.0 deep q.1 in
      let inner : counted (o + 1) 0 (ls ++ lexeme symbol.CloseBlock z ∷ []) ≡ Ok x = sym (ap (λ (c : ℕ × ℕ). counted c.0 c.1 (ls ++ lexeme symbol.CloseBlock z ∷ [])) p.1) ∙ q.2 in
      let u = parts ls (lexeme symbol.CloseBlock z ∷ []) (o + 1) 0 x inner in
      let v = stmts_within d k (o + 1) 0 u.0 (omega (arith, deep)) u.1 in
      (braced (Within LONGEST_EXPRESSION (suc k)) y z ls cs tt v.0, sym (ap (λ (c : ℕ × ℕ). c.0) (same_ok (u.0.0 - 1, 0) x u.2)) ∙ ap (λ m. m - 1) v.1 ∙ (let e : o + 1 - 1 ≡ o = omega arith in e))

  stmts_within : {lim : Limits} {ls : List Lexeme} {cs : Commands} → IsStmts lim ls cs → (k o n : ℕ) (x : ℕ × ℕ) → o + k ≡ DEEPEST_BLOCK → counted o n ls ≡ Ok x → IsStmts (Within LONGEST_EXPRESSION k) ls cs × (x.0 ≡ o)
  stmts_within (last lim ls c d) k o n x deep is = let q = stmt_within d k o n x deep is in (last (Within LONGEST_EXPRESSION k) ls c q.0, q.1)
  stmts_within (last_ended lim s ls c d) k o n x deep is =
      let p = parts ls (lexeme symbol.Semicolon s ∷ []) o n x is in
      let q = stmt_within d k o n p.0 deep p.1 in
      (last_ended (Within LONGEST_EXPRESSION k) s ls c q.0, sym (ap (λ (c : ℕ × ℕ). c.0) (same_ok (p.0.0, 0) x p.2)) ∙ q.1)
  stmts_within (more lim s ls ms c cs d f) k o n x deep is =
      let p = parts ls (lexeme symbol.Semicolon s ∷ ms) o n x is in
      let q = stmt_within d k o n p.0 deep p.1 in
      let r = stmts_within f k p.0.0 0 x (ap (λ m. m + k) q.1 ∙ deep) p.2 in
      (more (Within LONGEST_EXPRESSION k) s ls ms c cs q.0 r.0, r.1 ∙ q.1)

pub limits_are_counts : LimitsAreCounts
limits_are_counts = record {
  counts = λ ls b d. block_counted d DEEPEST_BLOCK 0 0 refl (omega arith);
  within = λ ls b c d is. (block_within d DEEPEST_BLOCK 0 0 c (omega arith) is).0;
}
