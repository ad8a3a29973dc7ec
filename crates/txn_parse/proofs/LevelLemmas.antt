-- Behind each token of a block but its last, a block is open.
use Rattle.std.proofs.Common.{◌≡◌, ◌⊎◌, ℕ, ◌+◌, ◌-◌, ◌<◌, ◌≤◌, Bool, true, false, ltb, cond, List, [], ◌∷◌, ◌++◌, length, Ok, Err, refl, sym, ap, ◌∙◌, arith, inl, inr, ⊎_elim}
use Rattle.std.proofs.lemmas.List.{append_assoc, append-nil, append_cancel_left}
use Rattle.std.proofs.lemmas.Bool.{cond_both}
use Rattle.txn_lang.specs.declared.limits.TheConstants.{DEEPEST_BLOCK, LONGEST_EXPRESSION}
use Rattle.txn_text.specs.declared.faults.FaultKind.TheVariants.{Deep, LongExpression}
use Rattle.txn_parse.specs.declared.symbols.Symbol.{Symbol}
use Rattle.txn_parse.specs.declared.symbols.Symbol.TheVariants as symbol
use Rattle.txn_parse.specs.Symbols.{Lexeme, lexeme}
use Rattle.txn_parse.specs.Tree.{Term, Command, Commands}
use Rattle.txn_parse.specs.Grammar.{Limits, IsOutermost, IsStmt, sets, reads, writes, prints, chooses, chooses_else, repeats, aborts, IsBlock, braced, IsStmts, last, last_ended, more}
use Rattle.txn_parse.specs.Counts.{in_expression, one_counted, and_then, counted}
use Rattle.txn_parse.proofs.CountsLemmas.{AllIn, all_in, then_ok, parts, same_ok}

tail_of : List Lexeme → List Lexeme
tail_of [] = []
tail_of (l ∷ ls) = ls

-- of two fronts of a list, one is a front of the other
abbrev pub Fronts : List Lexeme → List Lexeme → Type 0
Fronts a b = ((q : List Lexeme) × (a ≡ b ++ q)) ⊎ ((l : Lexeme) × (q : List Lexeme) × (b ≡ a ++ l ∷ q))

fronts_behind : (h k : Lexeme) (a b : List Lexeme) → h ≡ k → Fronts a b → Fronts (h ∷ a) (k ∷ b)
fronts_behind h k a b same (inl q) = inl (q.0, ap (λ x. h ∷ x) q.1 ∙ ap (λ z. z ∷ (b ++ q.0)) same)
fronts_behind h k a b same (inr q) = inr (q.0, q.1, ap (λ x. k ∷ x) q.2 ∙ ap (λ z. z ∷ (a ++ q.0 ∷ q.1)) (sym same))

pub fronts : (a b x y : List Lexeme) → a ++ x ≡ b ++ y → Fronts a b
unfolding tail_of
fronts a [] x y is = inl (a, refl)
fronts [] (k ∷ b) x y is = inr (k, b, refl)
fronts (h ∷ a) (k ∷ b) x y is = let e : h ≡ k = cc in fronts_behind h k a b e (fronts a b x y (ap tail_of is))

abbrev is_brace : Symbol → Bool
is_brace symbol.OpenBlock = true
is_brace symbol.CloseBlock = true
is_brace s = false

no_brace : (s : Symbol) → in_expression s ≡ true → is_brace s ≡ false
no_brace symbol.OpenBlock is = cc
no_brace symbol.CloseBlock is = cc
no_brace s is = refl

-- such a token opens and closes no block
stays : (s : Symbol) → is_brace s ≡ false → (o n : ℕ) (l : Lexeme) (c : ℕ × ℕ) → one_counted o n l s ≡ Ok c → c.0 ≡ o
stays symbol.OpenBlock plain o n l c = cc
stays symbol.CloseBlock plain o n l c = cc
stays s plain o n l c =
    cond_both (in_expression s) (cond (ltb n LONGEST_EXPRESSION) (Ok (o, n + 1)) (Err (l, LongExpression))) (Ok (o, 0)) (λ r. r ≡ Ok c → c.0 ≡ o)
    (λ _. cond_both (ltb n LONGEST_EXPRESSION) (Ok (o, n + 1)) (Err (l, LongExpression)) (λ r. r ≡ Ok c → c.0 ≡ o)
    (λ _ is. sym (ap (λ (x : ℕ × ℕ). x.0) (same_ok (o, n + 1) c is))) (λ _ is. cc))
    (λ _ is. sym (ap (λ (x : ℕ × ℕ). x.0) (same_ok (o, 0) c is)))

-- as many blocks are open behind these tokens as before them, and no fewer in between
record Level (ls : List Lexeme) : Type 0 where
  ends : (o n : ℕ) (c : ℕ × ℕ) → counted o n ls ≡ Ok c → c.0 ≡ o
  above : (p q : List Lexeme) → ls ≡ p ++ q → (o n : ℕ) (c : ℕ × ℕ) → counted o n p ≡ Ok c → o ≤ c.0

counted_none : (o n : ℕ) (c : ℕ × ℕ) → counted o n [] ≡ Ok c → c.0 ≡ o
counted_none o n c is = sym (ap (λ (x : ℕ × ℕ). x.0) (same_ok (o, n) c is))

above_none : (p q : List Lexeme) → [] ≡ p ++ q → (o n : ℕ) (c : ℕ × ℕ) → counted o n p ≡ Ok c → o ≤ c.0
above_none [] q split o n c is = let e = counted_none o n c is in omega (arith, e)
above_none (k ∷ p) q split o n c is = cc

none_level : Level []
none_level = record { ends = counted_none; above = above_none }

module _ (l : Lexeme) (ls : List Lexeme) (plain : is_brace l.symbol ≡ false) (one : Level ls) where
  cons_ends : (o n : ℕ) (c : ℕ × ℕ) → counted o n (l ∷ ls) ≡ Ok c → c.0 ≡ o
  cons_ends o n c is =
      let p = then_ok (one_counted o n l l.symbol) (λ c. counted c.0 c.1 ls) c is in
      one.ends p.0.0 p.0.1 c p.2 ∙ stays l.symbol plain o n l p.0 p.1

  cons_above : (p q : List Lexeme) → l ∷ ls ≡ p ++ q → (o n : ℕ) (c : ℕ × ℕ) → counted o n p ≡ Ok c → o ≤ c.0
  unfolding tail_of
  cons_above [] q split o n c is = let e = counted_none o n c is in omega (arith, e)
  cons_above (k ∷ p) q split o n c is =
      let same : k ≡ l = cc in
      let here : counted o n (l ∷ p) ≡ Ok c = ap (λ x. counted o n (x ∷ p)) (sym same) ∙ is in
      let x = then_ok (one_counted o n l l.symbol) (λ c. counted c.0 c.1 p) c here in
      let e = stays l.symbol plain o n l x.0 x.1 in
      let b = one.above p q (ap tail_of split) x.0.0 x.0.1 c x.2 in
      omega (arith, e, b)

  cons_level : Level (l ∷ ls)
  cons_level = record { ends = cons_ends; above = cons_above }

module _ (xs ys : List Lexeme) (a : Level xs) (b : Level ys) where
  both_end : (o n : ℕ) (c : ℕ × ℕ) → counted o n (xs ++ ys) ≡ Ok c → c.0 ≡ o
  both_end o n c is = let p = parts xs ys o n c is in b.ends p.0.0 p.0.1 c p.2 ∙ a.ends o n p.0 p.1

  both_above : (p q : List Lexeme) → xs ++ ys ≡ p ++ q → (o n : ℕ) (c : ℕ × ℕ) → counted o n p ≡ Ok c → o ≤ c.0
  both_above p q split o n c is =
      ⊎_elim (λ r.
      let rest : ys ≡ r.0 ++ q = append_cancel_left xs ys (r.0 ++ q) (split ∙ ap (λ x. x ++ q) r.1 ∙ append_assoc xs r.0 q) in
      let x = parts xs r.0 o n c (ap (counted o n) (sym r.1) ∙ is) in
      let e = a.ends o n x.0 x.1 in
      let m = b.above r.0 q rest x.0.0 x.0.1 c x.2 in
      omega (arith, e, m))
      (λ r. a.above p (r.0 ∷ r.1) r.2 o n c is)
      (fronts p xs q ys (sym split))

  append_level : Level (xs ++ ys)
  append_level = record { ends = both_end; above = both_above }

expr_level : (ls : List Lexeme) → AllIn ls → Level ls
expr_level [] all = none_level
expr_level (l ∷ ls) all = cons_level l ls (no_brace l.symbol all.0) (expr_level ls all.1)

outer_level : {lim : Limits} {es : List Lexeme} {e : Term} → IsOutermost lim es e → Level es
outer_level {es = es} d = expr_level es (all_in d.derived)

-- the last brace, and what may stand of it
close_above : (t : Lexeme) (r q : List Lexeme) → t.symbol ≡ symbol.CloseBlock → t ∷ [] ≡ r ++ q → (o n : ℕ) (c : ℕ × ℕ) → counted (o + 1) n r ≡ Ok c → o ≤ c.0
close_above t [] q closes split o n c is = let e = counted_none (o + 1) n c is in omega (arith, e)
close_above t (k ∷ []) q closes split o n c is =
    let same : k ≡ t = cc in
    let here : and_then (one_counted (o + 1) n t symbol.CloseBlock) (λ c. counted c.0 c.1 []) ≡ Ok c = ap (λ s. and_then (one_counted (o + 1) n t s) (λ c. counted c.0 c.1 [])) (sym closes) ∙ ap (λ x. counted (o + 1) n (x ∷ [])) (sym same) ∙ is in
    let e = ap (λ (x : ℕ × ℕ). x.0) (same_ok (o + 1 - 1, 0) c here) in
    omega (arith, e)
close_above t (k ∷ (m ∷ r)) q closes split o n c is = cc

module _ (x y : Lexeme) (ls : List Lexeme) (opens : x.symbol ≡ symbol.OpenBlock) (closes : y.symbol ≡ symbol.CloseBlock) (inner : Level ls) where
  open_counts : (o n : ℕ) (p : List Lexeme) (c : ℕ × ℕ) → counted o n (x ∷ p) ≡ Ok c → counted (o + 1) 0 p ≡ Ok c
  open_counts o n p c is =
      let here = then_ok (one_counted o n x symbol.OpenBlock) (λ c. counted c.0 c.1 p) c (ap (λ s. and_then (one_counted o n x s) (λ c. counted c.0 c.1 p)) (sym opens) ∙ is) in
      let e = opened_counts o n here.0 here.1 in
      ap (λ (z : ℕ × ℕ). counted z.0 z.1 p) (sym e) ∙ here.2
    where
      opened_counts : (o n : ℕ) (c : ℕ × ℕ) → one_counted o n x symbol.OpenBlock ≡ Ok c → c ≡ (o + 1, 0)
      opened_counts o n c is = cond_both (ltb o DEEPEST_BLOCK) (Ok (o + 1, 0)) (Err (x, Deep)) (λ r. r ≡ Ok c → c ≡ (o + 1, 0)) (λ _ same. sym (same_ok (o + 1, 0) c same)) (λ _ same. cc) is

  -- a front of what is behind the first brace
  inner_above : (p q : List Lexeme) → ls ++ y ∷ [] ≡ p ++ q → (o n : ℕ) (c : ℕ × ℕ) → counted (o + 1) n p ≡ Ok c → o ≤ c.0
  inner_above p q split o n c is =
      ⊎_elim (λ r.
      let rest : y ∷ [] ≡ r.0 ++ q = append_cancel_left ls (y ∷ []) (r.0 ++ q) (split ∙ ap (λ x. x ++ q) r.1 ∙ append_assoc ls r.0 q) in
      let z = parts ls r.0 (o + 1) n c (ap (counted (o + 1) n) (sym r.1) ∙ is) in
      let e = inner.ends (o + 1) n z.0 z.1 in
      close_above y r.0 q closes rest o z.0.1 c (ap (λ m. counted m z.0.1 r.0) (sym e) ∙ z.2))
      (λ r. let b = inner.above p (r.0 ∷ r.1) r.2 (o + 1) n c is in omega (arith, b))
      (fronts p ls q (y ∷ []) (sym split))

  block_ends : (o n : ℕ) (c : ℕ × ℕ) → counted o n (x ∷ (ls ++ y ∷ [])) ≡ Ok c → c.0 ≡ o
  block_ends o n c is =
      let z = parts ls (y ∷ []) (o + 1) 0 c (open_counts o n (ls ++ y ∷ []) c is) in
      let e = inner.ends (o + 1) 0 z.0 z.1 in
      let here : and_then (one_counted z.0.0 z.0.1 y symbol.CloseBlock) (λ c. counted c.0 c.1 []) ≡ Ok c = ap (λ s. and_then (one_counted z.0.0 z.0.1 y s) (λ c. counted c.0 c.1 [])) (sym closes) ∙ z.2 in
      let m = ap (λ (w : ℕ × ℕ). w.0) (same_ok (z.0.0 - 1, 0) c here) in
      omega (arith, e, m)

  block_above : (p q : List Lexeme) → x ∷ (ls ++ y ∷ []) ≡ p ++ q → (o n : ℕ) (c : ℕ × ℕ) → counted o n p ≡ Ok c → o ≤ c.0
  unfolding tail_of
  block_above [] q split o n c is = let e = counted_none o n c is in omega (arith, e)
  block_above (k ∷ p) q split o n c is =
      let same : k ≡ x = cc in
      inner_above p q (ap tail_of split) o 0 c (open_counts o n p c (ap (λ z. counted o n (z ∷ p)) (sym same) ∙ is))

  braced_level : Level (x ∷ (ls ++ y ∷ []))
  braced_level = record { ends = block_ends; above = block_above }

  stays_open : (r : List Lexeme) (run : ℕ) → r ≡ [] → counted 1 0 (ls ++ r) ≡ Ok (0, run) → ⊥
  stays_open r run none is = let b = inner.ends 1 0 (0, run) (ap (λ z. counted 1 0 z) (sym (append-nil ls) ∙ ap (λ z. ls ++ z) (sym none)) ∙ is) in omega (arith, b)

  -- where no block is open behind some of the tokens, these are all
  braced_closes : (cut rest : List Lexeme) (run : ℕ) → x ∷ (ls ++ y ∷ []) ≡ cut ++ rest → 0 < length cut → counted 0 0 cut ≡ Ok (0, run) → rest ≡ []
  unfolding tail_of
  braced_closes [] rest run split some is = absurd (omega (arith, some))
  braced_closes (k ∷ p) rest run split some is =
      let same : k ≡ x = cc in
      let here = open_counts 0 0 p (0, run) (ap (λ z. counted 0 0 (z ∷ p)) (sym same) ∙ is) in
      let tokens : ls ++ y ∷ [] ≡ p ++ rest = ap tail_of split in
      ⊎_elim (λ r.
      let behind : y ∷ [] ≡ r.0 ++ rest = append_cancel_left ls (y ∷ []) (r.0 ++ rest) (tokens ∙ ap (λ z. z ++ rest) r.1 ∙ append_assoc ls r.0 rest) in
      last_of r.0 rest behind (λ none. stays_open r.0 run none (ap (counted 1 0) (sym r.1) ∙ here)))
      (λ r. let b = inner.above p (r.0 ∷ r.1) r.2 1 0 (0, run) here in absurd (omega (arith, b)))
      (fronts p ls rest (y ∷ []) (sym tokens))
    where
      last_of : (r rest : List Lexeme) → y ∷ [] ≡ r ++ rest → ((r ≡ []) → ⊥) → rest ≡ []
      last_of [] rest is some = absurd (some refl)
      last_of (k ∷ []) [] is some = refl
      last_of (k ∷ []) (m ∷ rest) is some = cc
      last_of (k ∷ (m ∷ r)) rest is some = cc

mutual
  stmt_level : {lim : Limits} {ls : List Lexeme} {c : Command} → IsStmt lim ls c → Level ls
  stmt_level (sets lim w v s ls e d) = cons_level _ _ refl (cons_level _ _ refl (cons_level _ _ refl (outer_level d)))
  stmt_level (reads lim w v t x y ls i d) =
      cons_level _ _ refl (cons_level _ _ refl (cons_level _ _ refl (cons_level _ _ refl (append_level ls _ (outer_level d) (cons_level _ _ refl none_level)))))
  stmt_level (writes lim w t x y ls ms i e d f) =
      cons_level _ _ refl (cons_level _ _ refl (cons_level _ _ refl (append_level ls _ (outer_level d) (cons_level _ _ refl (outer_level f)))))
  stmt_level (prints lim w ls e d) = cons_level _ _ refl (outer_level d)
  stmt_level (chooses lim w ls ms e a d b) = cons_level _ _ refl (append_level ls ms (outer_level d) (block_level b))
  stmt_level (chooses_else lim w x ls ms ns e a b d f g) =
      cons_level _ _ refl (append_level ls _ (outer_level d) (append_level ms _ (block_level f) (cons_level _ _ refl (block_level g))))
  stmt_level (repeats lim w n ls body b) = cons_level _ _ refl (cons_level _ _ refl (block_level b))
  stmt_level (aborts lim w) = cons_level _ _ refl none_level

  block_level : {lim : Limits} {ls : List Lexeme} {b : Commands} → IsBlock lim ls b → Level ls
  block_level (braced lim x y ls cs may d) = braced_level (lexeme symbol.OpenBlock x) (lexeme symbol.CloseBlock y) ls refl refl (stmts_level d)

  stmts_level : {lim : Limits} {ls : List Lexeme} {cs : Commands} → IsStmts lim ls cs → Level ls
  stmts_level (last lim ls c d) = stmt_level d
  stmts_level (last_ended lim s ls c d) = append_level ls _ (stmt_level d) (cons_level _ _ refl none_level)
  stmts_level (more lim s ls ms c cs d f) = append_level ls _ (stmt_level d) (cons_level _ _ refl (stmts_level f))

-- where no block is open behind some tokens of a block, these are all of it
pub closes : {lim : Limits} {ls : List Lexeme} {b : Commands} → IsBlock lim ls b → (cut rest : List Lexeme) (run : ℕ) → ls ≡ cut ++ rest → 0 < length cut → counted 0 0 cut ≡ Ok (0, run) → rest ≡ []
closes (braced lim x y ls cs may d) = braced_closes (lexeme symbol.OpenBlock x) (lexeme symbol.CloseBlock y) ls refl refl (stmts_level d)
