-- What stands between statements is found, and how many statements may follow does not matter where there are fewer tokens.
use Rattle.std.proofs.Common.{◌≡◌, ℕ, zero, suc, ◌+◌, ◌<◌, ◌≤◌, Bool, true, false, cond, List, [], ◌∷◌, length, Ok, Err, refl, sym, ap, ◌∙◌, subst, arith}
use Rattle.std.proofs.lemmas.List.{length-append}
use Rattle.std.proofs.lemmas.Bool.{cond_both, cond-true, cond-false}
use Rattle.txn_text.specs.declared.kinds.Token.{Token}
use Rattle.txn_parse.specs.declared.symbols.Symbol.{Symbol}
use Rattle.txn_parse.specs.declared.symbols.Symbol.TheVariants.{Semicolon, CloseBlock}
use Rattle.txn_parse.specs.Symbols.{Lexeme, lexeme, is}
use Rattle.txn_parse.specs.Tree.{Command, Commands, End, Then}
use Rattle.txn_parse.specs.Grammar.{Limits, Free, IsStmt}
use Rattle.txn_parse.specs.Reading.{Found, Reader, ◌>>=◌, syntax_at, more_at, separator_by, separator_at, with_stmt, stmts_at}
use Rattle.txn_parse.proofs.ReadingLemmas.{stmts_err, stmts_separator_err, stmts_more, stmts_last}
use Rattle.txn_parse.proofs.LimitsLemmas.{some_stmt}
use Rattle.txn_parse.proofs.Sound.{Answers, bad_here, some_token, begins_same, ends_same}
use Rattle.txn_parse.proofs.SoundStmts.{plain_close_block}

-- what stands behind a statement, and whether one more follows
pub data IsSep : List Lexeme → Bool → Type 0 where
  closes : (y : Token) → IsSep (lexeme CloseBlock y ∷ []) false
  closes_behind : (s y : Token) → IsSep (lexeme Semicolon s ∷ lexeme CloseBlock y ∷ []) false
  parts : (s : Token) → IsSep (lexeme Semicolon s ∷ []) true

semicolon_answers : (J : Type 0) (last : ℕ) (t : Token) (ls : List Lexeme) → Answers last (λ (j : J). separator_at last) IsSep IsSep (lexeme Semicolon t ∷ ls) (more_at ls)
unfolding separator_at
semicolon_answers J last t [] = record { front = lexeme Semicolon t ∷ []; split = refl; derived = parts t; again = λ j more same. ends_same (λ ms. separator_at last (lexeme Semicolon t ∷ ms) ≡ Ok (true, ms)) more same refl }
semicolon_answers J last t (m ∷ ms) =
    cond_both (is m.symbol CloseBlock) (Ok (false, ms)) (Ok (true, m ∷ ms)) (Answers last (λ (j : J). separator_at last) IsSep IsSep (lexeme Semicolon t ∷ m ∷ ms))
    (λ here. record {
      front = lexeme Semicolon t ∷ m ∷ [];
      split = refl;
      derived = subst (λ s. IsSep (lexeme Semicolon t ∷ lexeme s m.token ∷ []) false) (sym (plain_close_block m.symbol here)) (closes_behind t m.token);
      again = λ j more same. cond-true (is m.symbol CloseBlock) _ _ here;
    })
    (λ absent. record {
      front = lexeme Semicolon t ∷ [];
      split = refl;
      derived = parts t;
      again = λ j more same. begins_same (λ ns. separator_at last (lexeme Semicolon t ∷ ns) ≡ Ok (true, ns)) m ms more same (λ ns. cond-false (is m.symbol CloseBlock) _ _ absent);
    })

separator_answers_by : (J : Type 0) (last : ℕ) (x : Symbol) (t : Token) (ls : List Lexeme) → Answers last (λ (j : J). separator_at last) IsSep IsSep (lexeme x t ∷ ls) (separator_by last (lexeme x t) x ls)
unfolding separator_at
separator_answers_by J last CloseBlock t ls = record { front = lexeme CloseBlock t ∷ []; split = refl; derived = closes t; again = λ j more same. refl }
separator_answers_by J last Semicolon t ls = semicolon_answers J last t ls
separator_answers_by J last x t ls =
    bad_here last (λ (j : J). separator_at last) IsSep IsSep (lexeme x t ∷ ls) (lexeme CloseBlock some_token ∷ [], false, closes some_token)
    (λ j more same. begins_same (λ ms. separator_at last ms ≡ Err (syntax_at last ms)) (lexeme x t) ls more same (λ ms. refl))

pub separator_answers : (J : Type 0) (last : ℕ) (ls : List Lexeme) → Answers last (λ (j : J). separator_at last) IsSep IsSep ls (separator_at last ls)
unfolding separator_at
separator_answers J last [] =
    bad_here last (λ (j : J). separator_at last) IsSep IsSep [] (lexeme CloseBlock some_token ∷ [], false, closes some_token)
    (λ j more same. ends_same (λ ms. separator_at last ms ≡ Err (syntax_at last ms)) more same refl)
separator_answers J last (l ∷ ls) = separator_answers_by J last l.symbol l.token ls

separator_shrinks_by : (last : ℕ) (ls : List Lexeme) (m : Bool × List Lexeme) (r : Found Bool) → r ≡ Ok m → Answers last (λ (j : Unit {0}). separator_at last) IsSep IsSep ls r → length m.1 ≤ length ls
separator_shrinks_by last ls m (Ok r) is found =
    let same : r ≡ m = cc in
    let len = length-append found.front r.1 in
    let whole = ap length found.split in
    let rest = ap (λ (x : Bool × List Lexeme). length x.1) same in
    omega (arith, len, whole, rest)
separator_shrinks_by last ls m (Err f) is found = cc

separator_shrinks : (last : ℕ) (ls : List Lexeme) (m : Bool × List Lexeme) → separator_at last ls ≡ Ok m → length m.1 ≤ length ls
separator_shrinks last ls m is = separator_shrinks_by last ls m (separator_at last ls) is (separator_answers (Unit {0}) last ls)

-- a reader of statements that takes a token at least
abbrev pub Shrinks : Reader Command → Type 0
Shrinks stmt = (ls : List Lexeme) (c : Command × List Lexeme) → stmt ls ≡ Ok c → length c.1 < length ls

shrinks_by : (last : ℕ) (lim : Limits) (stmt : Reader Command) (ls : List Lexeme) (c : Command × List Lexeme) (r : Found Command) → r ≡ Ok c → Answers last (λ (j : Unit {0}). stmt) (IsStmt lim) (IsStmt Free) ls r → length c.1 < length ls
shrinks_by last lim stmt ls c (Ok r) is found =
    let same : r ≡ c = cc in
    let len = length-append found.front r.1 in
    let whole = ap length found.split in
    let some = some_stmt found.derived in
    let rest = ap (λ (x : Command × List Lexeme). length x.1) same in
    omega (arith, len, whole, some, rest)
shrinks_by last lim stmt ls c (Err f) is found = cc

pub shrinks : (last : ℕ) (lim : Limits) (stmt : Reader Command) → ((ls : List Lexeme) → Answers last (λ (j : Unit {0}). stmt) (IsStmt lim) (IsStmt Free) ls (stmt ls)) → Shrinks stmt
shrinks last lim stmt ok ls c is = shrinks_by last lim stmt ls c (stmt ls) is (ok ls)

-- the count does not matter where there are fewer tokens
abbrev pub Alike : ℕ → Reader Command → ℕ → ℕ → Type 0
Alike last stmt n m = (ls : List Lexeme) → length ls < n → length ls < m → stmts_at last stmt n ls ≡ stmts_at last stmt m ls

count_separator : (last : ℕ) (stmt : Reader Command) (n m : ℕ) (ls : List Lexeme) (c : Command × List Lexeme) (q : Found Bool) → Shrinks stmt → Alike last stmt n m → length ls < suc n → length ls < suc m → stmt ls ≡ Ok c → separator_at last c.1 ≡ q → stmts_at last stmt (suc n) ls ≡ stmts_at last stmt (suc m) ls
count_separator last stmt n m ls c (Err f) shrink alike a b is sep =
    stmts_separator_err last stmt n ls c f is sep ∙ sym (stmts_separator_err last stmt m ls c f is sep)
count_separator last stmt n m ls c (Ok (true, ms)) shrink alike a b is sep =
    let less = shrink ls c is in
    let most = separator_shrinks last c.1 (true, ms) sep in
    stmts_more last stmt n ls ms c is sep ∙ ap (with_stmt c.0) (alike ms (omega (arith, less, most, a)) (omega (arith, less, most, b))) ∙ sym (stmts_more last stmt m ls ms c is sep)
count_separator last stmt n m ls c (Ok (false, ms)) shrink alike a b is sep =
    stmts_last last stmt n ls ms c is sep ∙ sym (stmts_last last stmt m ls ms c is sep)

count_stmt : (last : ℕ) (stmt : Reader Command) (n m : ℕ) (ls : List Lexeme) (r : Found Command) → Shrinks stmt → Alike last stmt n m → length ls < suc n → length ls < suc m → stmt ls ≡ r → stmts_at last stmt (suc n) ls ≡ stmts_at last stmt (suc m) ls
count_stmt last stmt n m ls (Err f) shrink alike a b is = stmts_err last stmt n ls f is ∙ sym (stmts_err last stmt m ls f is)
count_stmt last stmt n m ls (Ok c) shrink alike a b is = count_separator last stmt n m ls c (separator_at last c.1) shrink alike a b is refl

pub count : (last : ℕ) (stmt : Reader Command) → Shrinks stmt → (n m : ℕ) → Alike last stmt n m
count last stmt shrink zero m ls a b = absurd (omega (arith, a))
count last stmt shrink (suc n) zero ls a b = absurd (omega (arith, b))
count last stmt shrink (suc n) (suc m) ls a b = count_stmt last stmt n m ls (stmt ls) shrink (count last stmt shrink n m) a b refl

-- the statements, whatever their number
abbrev pub all_stmts : ℕ → Reader Command → Reader Commands
all_stmts last stmt ls = stmts_at last stmt (length ls + 1) ls

abbrev pub behind_stmt : ℕ → Reader Command → Command × List Lexeme → Found Commands
behind_stmt last stmt c = separator_at last c.1 >>= (λ m. cond m.0 (with_stmt c.0 (all_stmts last stmt m.1)) (Ok (Then c.0 End, m.1)))

all_separator : (last : ℕ) (stmt : Reader Command) (ls : List Lexeme) (c : Command × List Lexeme) (q : Found Bool) → Shrinks stmt → stmt ls ≡ Ok c → separator_at last c.1 ≡ q → stmts_at last stmt (suc (length ls)) ls ≡ behind_stmt last stmt c
all_separator last stmt ls c (Err f) shrink is sep =
    stmts_separator_err last stmt (length ls) ls c f is sep ∙ sym (ap (λ r. r >>= (λ m. cond m.0 (with_stmt c.0 (all_stmts last stmt m.1)) (Ok (Then c.0 End, m.1)))) sep)
all_separator last stmt ls c (Ok (true, ms)) shrink is sep =
    let less = shrink ls c is in
    let most = separator_shrinks last c.1 (true, ms) sep in
    stmts_more last stmt (length ls) ls ms c is sep
    ∙ ap (with_stmt c.0) (count last stmt shrink (length ls) (length ms + 1) ms (omega (arith, less, most)) (omega arith))
    ∙ sym (ap (λ r. r >>= (λ m. cond m.0 (with_stmt c.0 (all_stmts last stmt m.1)) (Ok (Then c.0 End, m.1)))) sep)
all_separator last stmt ls c (Ok (false, ms)) shrink is sep =
    stmts_last last stmt (length ls) ls ms c is sep ∙ sym (ap (λ r. r >>= (λ m. cond m.0 (with_stmt c.0 (all_stmts last stmt m.1)) (Ok (Then c.0 End, m.1)))) sep)

all_stmt : (last : ℕ) (stmt : Reader Command) (ls : List Lexeme) (r : Found Command) → Shrinks stmt → stmt ls ≡ r → stmts_at last stmt (suc (length ls)) ls ≡ (r >>= behind_stmt last stmt)
all_stmt last stmt ls (Err f) shrink is = stmts_err last stmt (length ls) ls f is
all_stmt last stmt ls (Ok c) shrink is = all_separator last stmt ls c (separator_at last c.1) shrink is refl

pub unfold_stmts : (last : ℕ) (stmt : Reader Command) → Shrinks stmt → (ls : List Lexeme) → all_stmts last stmt ls ≡ (stmt ls >>= behind_stmt last stmt)
unfold_stmts last stmt shrink ls =
    ap (λ n. stmts_at last stmt n ls) (let e : length ls + 1 ≡ suc (length ls) = omega arith in e) ∙ all_stmt last stmt ls (stmt ls) shrink refl
