-- What is found of a block.
use Rattle.std.proofs.Common.{◌≡◌, ℕ, zero, suc, ◌+◌, ◌-◌, ◌<◌, ◌≤◌, Bool, cond, List, [], ◌∷◌, ◌++◌, length, Ok, Err, refl, sym, ap, ◌∙◌, subst, arith, inl, inr}
use Rattle.std.proofs.lemmas.List.{append_assoc, length-append}
use Rattle.std.proofs.lemmas.Bool.{cond_both, cond-false}
use Rattle.txn_text.specs.declared.kinds.Token.{Token}
use Rattle.txn_text.specs.declared.faults.FaultKind.TheVariants as fault
use Rattle.txn_text.specs.declared.faults.TextFault.{TextFault}
use Rattle.txn_text.specs.declared.faults.TextFault.TheVariants.{At}
use Rattle.txn_parse.specs.declared.symbols.Symbol.TheVariants.{Abort, Semicolon, OpenBlock, CloseBlock}
use Rattle.txn_parse.specs.Symbols.{Lexeme, lexeme, is}
use Rattle.txn_parse.specs.Tree.{Command, Abort as Stop, Commands, End, Then}
use Rattle.txn_parse.specs.Grammar.{Limits, Free, Within, IsStmt, aborts, IsBlock, braced, IsStmts, last as last_one, last_ended, more as goes_on}
use Rattle.txn_parse.specs.Reading.{Found, Reader, ◌>>=◌, syntax_at, take_at, stmt_at, separator_at, with_stmt, stmts_at, block_at}
use Rattle.txn_parse.specs.Laws.{Begins}
use Rattle.txn_parse.proofs.ReadingLemmas.{brace_err}
use Rattle.txn_parse.proofs.LimitsLemmas.{free_stmt, free_block}
use Rattle.txn_parse.proofs.Sound.{Answers, found_here, bad_here, some_token, then_answers, take_then, answers_as, begins_same, ends_same}
use Rattle.txn_parse.proofs.SoundStmts.{plain_open_block, some_block, ReadsBlocks, stmt_answers}
use Rattle.txn_parse.proofs.Separators.{IsSep, separator_answers, Shrinks, shrinks, all_stmts, behind_stmt, unfold_stmts, closes, closes_behind, parts}

-- statements and the closing brace
abbrev pub Closed : Limits → List Lexeme → Commands → Type 0
Closed lim ls cs = (ms : List Lexeme) × (y : Token) × (ls ≡ ms ++ lexeme CloseBlock y ∷ []) × IsStmts lim ms cs

closed_by : (lim : Limits) (front : List Lexeme) (c : Command) (y : Token) → IsStmt lim front c → Closed lim (front ++ lexeme CloseBlock y ∷ []) (Then c End)
closed_by lim front c y d = (front, y, refl, last_one lim front c d)

closed_behind : (lim : Limits) (front : List Lexeme) (c : Command) (s y : Token) → IsStmt lim front c → Closed lim (front ++ lexeme Semicolon s ∷ lexeme CloseBlock y ∷ []) (Then c End)
closed_behind lim front c s y d =
    (front ++ lexeme Semicolon s ∷ [], y, sym (append_assoc front (lexeme Semicolon s ∷ []) (lexeme CloseBlock y ∷ [])), last_ended lim s front c d)

closed_more : (lim : Limits) (front : List Lexeme) (c : Command) (s : Token) → IsStmt lim front c → (ms : List Lexeme) (cs : Commands) → Closed lim ms cs → Closed lim (front ++ lexeme Semicolon s ∷ ms) (Then c cs)
closed_more lim front c s d ms cs rest = (
  front ++ lexeme Semicolon s ∷ rest.0,
  rest.1,
  ap (λ x. front ++ lexeme Semicolon s ∷ x) rest.2 ∙ sym (append_assoc front (lexeme Semicolon s ∷ rest.0) (lexeme CloseBlock rest.1 ∷ [])),
  goes_on lim s front rest.0 c cs d rest.3,
)

with_stmt_answers : {J : Type 0} (last : ℕ) (c : Command) (Q : J → Reader Commands) (G G1 H H1 : List Lexeme → Commands → Type 0) (ls : List Lexeme) (r : Found Commands) →
    ((ms : List Lexeme) (cs : Commands) → G1 ms cs → G ms (Then c cs)) → ((ms : List Lexeme) (cs : Commands) → H1 ms cs → H ms (Then c cs)) →
    Answers last Q G1 H1 ls r → Answers last (λ j ms. with_stmt c (Q j ms)) G H ls (with_stmt c r)
with_stmt_answers last c Q G G1 H H1 ls (Ok r) g h one = record {
  front = one.front;
  split = one.split;
  derived = g one.front r.0 one.derived;
  again = λ j more same. ap (with_stmt c) (one.again j more same);
}
with_stmt_answers last c Q G G1 H H1 ls (Err f) g h (inl one) = inl (record {
  front = one.front;
  rest = one.rest;
  split = one.split;
  place = one.place;
  begun = (one.begun.0, Then c one.begun.1, h (one.front ++ one.begun.0) one.begun.1 one.begun.2);
  again = λ j more same. ap (with_stmt c) (one.again j more same);
})
with_stmt_answers last c Q G G1 H H1 ls (Err f) g h (inr one) = inr (record {
  front = one.front;
  l = one.l;
  rest = one.rest;
  split = one.split;
  place = one.place;
  begun = (one.begun.0, Then c one.begun.1, h ((one.front ++ one.l ∷ []) ++ one.begun.0) one.begun.1 one.begun.2);
})

separator_sample : (front : List Lexeme) (c : Command) → IsStmt Free front c → (b : Bool) (sep : List Lexeme) → IsSep sep b → (ms : List Lexeme) × (cs : Commands) × Closed Free (front ++ (sep ++ ms)) cs
separator_sample front c h b sep (closes y) = ([], Then c End, closed_by Free front c y h)
separator_sample front c h b sep (closes_behind s y) = ([], Then c End, closed_behind Free front c s y h)
separator_sample front c h b sep (parts s) = (
  lexeme Abort some_token ∷ lexeme CloseBlock some_token ∷ [],
  Then c (Then Stop End),
  closed_more Free front c s h (lexeme Abort some_token ∷ lexeme CloseBlock some_token ∷ []) (Then Stop End) (closed_by Free (lexeme Abort some_token ∷ []) Stop some_token (aborts Free some_token)),
)

-- what is found behind a statement and what separates it
after_separator : {J : Type 0} (last n : ℕ) (lim : Limits) (stmt : Reader Command) (stmt' : J → Reader Command) (front : List Lexeme) (c : Command) → IsStmt lim front c → (b : Bool) (sep rest : List Lexeme) → IsSep sep b →
    Answers last (λ j. all_stmts last (stmt' j)) (Closed lim) (Closed Free) rest (stmts_at last stmt n rest) →
    Answers last (λ j ms. cond b (with_stmt c (all_stmts last (stmt' j) ms)) (Ok (Then c End, ms))) (λ ms. Closed lim (front ++ (sep ++ ms))) (λ ms. Closed Free (front ++ (sep ++ ms))) rest (cond b (with_stmt c (stmts_at last stmt n rest)) (Ok (Then c End, rest)))
after_separator last n lim stmt stmt' front c d b sep rest (closes y) more = found_here (λ ms. Closed lim (front ++ (lexeme CloseBlock y ∷ ms))) (Then c End) rest (closed_by lim front c y d)
after_separator last n lim stmt stmt' front c d b sep rest (closes_behind s y) more = found_here (λ ms. Closed lim (front ++ (lexeme Semicolon s ∷ lexeme CloseBlock y ∷ ms))) (Then c End) rest (closed_behind lim front c s y d)
after_separator last n lim stmt stmt' front c d b sep rest (parts s) more =
    with_stmt_answers last c (λ j. all_stmts last (stmt' j)) (λ ms. Closed lim (front ++ lexeme Semicolon s ∷ ms)) (Closed lim) (λ ms. Closed Free (front ++ lexeme Semicolon s ∷ ms)) (Closed Free) rest (stmts_at last stmt n rest)
    (λ ms cs g. closed_more lim front c s d ms cs g) (λ ms cs h. closed_more Free front c s (free_stmt d) ms cs h) more

abbrev StmtsOk : {J : Type 0} → ℕ → Limits → Reader Command → (J → Reader Command) → ℕ → Type 0
StmtsOk last lim stmt stmt' n = (ls : List Lexeme) → length ls < n → Answers last (λ j. all_stmts last (stmt' j)) (Closed lim) (Closed Free) ls (stmts_at last stmt n ls)

behind_shorter : (front rest ls : List Lexeme) (n : ℕ) → length ls < suc n → ls ≡ front ++ rest → length rest < suc n
behind_shorter front rest ls n few split =
    let whole = ap length split in
    let len = length-append front rest in
    omega (arith, few, whole, len)

some_sep : (sep : List Lexeme) (b : Bool) → IsSep sep b → 0 < length sep
some_sep sep b (closes y) = omega arith
some_sep sep b (closes_behind s y) = omega arith
some_sep sep b (parts s) = omega arith

shorter_by : (sep rest rest2 : List Lexeme) (b : Bool) (n : ℕ) → length rest < suc n → IsSep sep b → rest ≡ sep ++ rest2 → length rest2 < n
shorter_by sep rest rest2 b n few s split =
    let whole = ap length split in
    let len = length-append sep rest2 in
    let some = some_sep sep b s in
    omega (arith, few, whole, len, some)

behind_answers : {J : Type 0} (last n : ℕ) (lim : Limits) (stmt : Reader Command) (stmt' : J → Reader Command) → StmtsOk last lim stmt stmt' n → (c : Command) (front rest : List Lexeme) → length rest < suc n → IsStmt lim front c →
    Answers last (λ j ms. behind_stmt last (stmt' j) (c, ms)) (λ ms. Closed lim (front ++ ms)) (λ ms. Closed Free (front ++ ms)) rest
    (separator_at last rest >>= (λ m. cond m.0 (with_stmt c (stmts_at last stmt n m.1)) (Ok (Then c End, m.1))))
behind_answers {J} last n lim stmt stmt' ok c front rest few d =
    then_answers last (λ j. separator_at last) IsSep IsSep (λ m. cond m.0 (with_stmt c (stmts_at last stmt n m.1)) (Ok (Then c End, m.1))) (λ j m. cond m.0 (with_stmt c (all_stmts last (stmt' j) m.1)) (Ok (Then c End, m.1)))
    (λ ms. Closed lim (front ++ ms)) (λ ms. Closed Free (front ++ ms)) rest (separator_at last rest) (separator_answers J last rest)
    (λ b sep s. separator_sample front c (free_stmt d) b sep s)
    (λ b sep rest2 split s. after_separator last n lim stmt stmt' front c d b sep rest2 s (ok rest2 (shorter_by sep rest rest2 b n few s split)))

pub stmts_answers : {J : Type 0} (last : ℕ) (lim : Limits) (stmt : Reader Command) (stmt' : J → Reader Command) → ((ls : List Lexeme) → Answers last stmt' (IsStmt lim) (IsStmt Free) ls (stmt ls)) → ((j : J) → Shrinks (stmt' j)) → (n : ℕ) → StmtsOk last lim stmt stmt' n
unfolding stmts_at
stmts_answers last lim stmt stmt' ok shrink zero ls few = absurd (omega (arith, few))
stmts_answers last lim stmt stmt' ok shrink (suc n) ls few =
    answers_as last (λ j. all_stmts last (stmt' j)) (λ j ms. stmt' j ms >>= behind_stmt last (stmt' j)) (Closed lim) (Closed lim) (Closed Free) (Closed Free) ls
    (stmt ls >>= (λ c. separator_at last c.1 >>= (λ m. cond m.0 (with_stmt c.0 (stmts_at last stmt n m.1)) (Ok (Then c.0 End, m.1)))))
    (λ j. unfold_stmts last (stmt' j) (shrink j)) (λ ms cs g. g) (λ ms cs h. h)
    (then_answers last stmt' (IsStmt lim) (IsStmt Free) (λ c. separator_at last c.1 >>= (λ m. cond m.0 (with_stmt c.0 (stmts_at last stmt n m.1)) (Ok (Then c.0 End, m.1)))) (λ j. behind_stmt last (stmt' j)) (Closed lim) (Closed Free) ls (stmt ls) (ok ls)
    (λ c front h. (lexeme CloseBlock some_token ∷ [], Then c End, closed_by Free front c some_token h))
    (λ c front rest split d. behind_answers last n lim stmt stmt' (stmts_answers last lim stmt stmt' ok shrink n) c front rest (behind_shorter front rest ls n few split) d))

deep_answers : {J : Type 0} (last R d : ℕ) (ls : List Lexeme) → (Q : J → Reader Commands) → ((j : J) (ms : List Lexeme) (e : TextFault) → take_at last OpenBlock ms ≡ Err e → Q j ms ≡ Err e) →
    Answers last Q (IsBlock (Within R d)) (IsBlock Free) ls (block_at last R zero ls)
unfolding block_at
deep_answers last R d [] Q faults =
    bad_here last Q (IsBlock (Within R d)) (IsBlock Free) [] (lexeme OpenBlock some_token ∷ (lexeme Abort some_token ∷ [] ++ lexeme CloseBlock some_token ∷ []), Then Stop End, some_block)
    (λ j more same. ends_same (λ ms. Q j ms ≡ Err (syntax_at last ms)) more same (faults j [] (syntax_at last []) refl))
deep_answers last R d (l ∷ ls) Q faults =
    cond_both (is l.symbol OpenBlock) (Ok (l.token, ls)) (Err (syntax_at last (l ∷ ls))) (λ r. Answers last Q (IsBlock (Within R d)) (IsBlock Free) (l ∷ ls) (r >>= (λ x. Err (At x.0.line fault.Deep))))
    (λ here. inr (record {
      front = [];
      l = l;
      rest = ls;
      split = refl;
      place = inl refl;
      begun = subst (λ s. Begins (IsBlock Free) (lexeme s l.token ∷ [])) (sym (plain_open_block l.symbol here)) (
        lexeme Abort some_token ∷ [] ++ lexeme CloseBlock some_token ∷ [],
        Then Stop End,
        braced Free l.token some_token (lexeme Abort some_token ∷ []) (Then Stop End) tt (last_one Free (lexeme Abort some_token ∷ []) Stop (aborts Free some_token)),
      );
    }))
    (λ other. bad_here last Q (IsBlock (Within R d)) (IsBlock Free) (l ∷ ls) (lexeme OpenBlock some_token ∷ (lexeme Abort some_token ∷ [] ++ lexeme CloseBlock some_token ∷ []), Then Stop End, some_block)
    (λ j more same. begins_same (λ ms. Q j ms ≡ Err (syntax_at last ms)) l ls more same (λ ms. faults j (l ∷ ms) (syntax_at last (l ∷ ms)) (cond-false (is l.symbol OpenBlock) _ _ other))))

deeper : (last R d : ℕ) (ls : List Lexeme) → 0 < d → block_at last R d ls ≡ (take_at last OpenBlock ls >>= (λ x. all_stmts last (stmt_at last R (block_at last R (d - 1))) x.1))
unfolding block_at
deeper last R zero ls some = absurd (omega (arith, some))
deeper last R (suc d) ls some =
    ap (λ n. take_at last OpenBlock ls >>= (λ x. all_stmts last (stmt_at last R (block_at last R n)) x.1)) (let e : d ≡ suc d - 1 = omega arith in e)

-- each reader of statements takes a token: by the same facts at its own limits
own_shrinks : (last R d : ℕ) → ReadsBlocks last (Within R d) (block_at last R d) (λ (j : Unit {0}). block_at last R d) → Shrinks (stmt_at last R (block_at last R d))
own_shrinks last R d ok =
    shrinks last (Within R d) (stmt_at last R (block_at last R d)) (stmt_answers last R d (λ (j : Unit {0}). R) (block_at last R d) (λ j. block_at last R d) (λ j. omega arith) ok (λ ms b g. free_block g))

block_step : {J : Type 0} (last R : ℕ) (R' : J → ℕ) → ((j : J) → R ≤ R' j) → (d : ℕ) (d' : J → ℕ) → ((j : J) → suc d ≤ d' j) →
    ReadsBlocks last (Within R d) (block_at last R d) (λ j. block_at last (R' j) (d' j - 1)) → ((j : J) → Shrinks (stmt_at last (R' j) (block_at last (R' j) (d' j - 1)))) →
    ReadsBlocks last (Within R (suc d)) (block_at last R (suc d)) (λ j. block_at last (R' j) (d' j))
unfolding block_at
block_step {J} last R R' rooms d d' deep inner shrink ls =
    let stmt = stmt_at last R (block_at last R d) in
    let stmt' : J → Reader Command = λ j. stmt_at last (R' j) (block_at last (R' j) (d' j - 1)) in
    let ok = stmt_answers last R d R' (block_at last R d) (λ j. block_at last (R' j) (d' j - 1)) rooms inner (λ ms b g. free_block g) in
    answers_as last (λ j. block_at last (R' j) (d' j)) (λ j ms. take_at last OpenBlock ms >>= (λ x. all_stmts last (stmt' j) x.1)) (IsBlock (Within R (suc d))) (IsBlock (Within R (suc d))) (IsBlock Free) (IsBlock Free) ls (block_at last R (suc d) ls)
    (λ j ms. let b = deep j in deeper last (R' j) (d' j) ms (omega (arith, b)))
    (λ ms b g. g) (λ ms b h. h)
    (take_then last OpenBlock (λ x. stmts_at last stmt (length x.1 + 1) x.1) (λ j x. all_stmts last (stmt' j) x.1) (IsBlock (Within R (suc d))) (IsBlock Free) ls plain_open_block
    (λ t. (lexeme Abort some_token ∷ [] ++ lexeme CloseBlock some_token ∷ [], Then Stop End, braced Free t some_token (lexeme Abort some_token ∷ []) (Then Stop End) tt (last_one Free (lexeme Abort some_token ∷ []) Stop (aborts Free some_token))))
    (λ t rest.
    answers_as last (λ j. all_stmts last (stmt' j)) (λ j. all_stmts last (stmt' j)) (λ ms. IsBlock (Within R (suc d)) (lexeme OpenBlock t ∷ ms)) (Closed (Within R d)) (λ ms. IsBlock Free (lexeme OpenBlock t ∷ ms)) (Closed Free) rest (stmts_at last stmt (length rest + 1) rest)
    (λ j ms. refl)
    (λ ms cs g. subst (λ x. IsBlock (Within R (suc d)) (lexeme OpenBlock t ∷ x) cs) (sym g.2) (braced (Within R (suc d)) t g.1 g.0 cs tt g.3))
    (λ ms cs h. subst (λ x. IsBlock Free (lexeme OpenBlock t ∷ x) cs) (sym h.2) (braced Free t h.1 h.0 cs tt h.3))
    (stmts_answers last (Within R d) stmt stmt' ok shrink (length rest + 1) rest (omega arith))))

abbrev Own : ℕ → ℕ → ℕ → ℕ → Type 0
Own last R d n = ReadsBlocks last (Within R d) (block_at last R d) (λ (j : Unit {0}). block_at last R n)

own : (last R d : ℕ) → Own last R d d
own last R zero ls = deep_answers last R zero ls (λ (j : Unit {0}). block_at last R zero) (λ j ms e is. brace_err last R zero ms e is)
own last R (suc d) ls =
    let same : d ≡ suc d - 1 = omega arith in
    let smaller = own last R d in
    block_step last R (λ (j : Unit {0}). R) (λ j. omega arith) d (λ j. suc d) (λ j. omega arith) (subst (Own last R d) same smaller) (λ j. subst (λ n. Shrinks (stmt_at last R (block_at last R n))) same (own_shrinks last R d smaller)) ls

pub block_answers : {J : Type 0} (last R : ℕ) (R' : J → ℕ) → ((j : J) → R ≤ R' j) → (d : ℕ) (d' : J → ℕ) → ((j : J) → d ≤ d' j) → ReadsBlocks last (Within R d) (block_at last R d) (λ j. block_at last (R' j) (d' j))
block_answers last R R' rooms zero d' deep ls = deep_answers last R zero ls (λ j. block_at last (R' j) (d' j)) (λ j ms e is. brace_err last (R' j) (d' j) ms e is)
block_answers {J} last R R' rooms (suc d) d' deep ls =
    block_step last R R' rooms d d' deep (block_answers last R R' rooms d (λ j. d' j - 1) (λ j. let b = deep j in omega (arith, b))) (λ j. own_shrinks last (R' j) (d' j - 1) (own last (R' j) (d' j - 1))) ls
