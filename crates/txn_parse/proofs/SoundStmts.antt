-- What is found of a statement.
use Rattle.std.proofs.Common.{◌≡◌, ℕ, ◌≤◌, ◌⊎◌, List, [], ◌∷◌, ◌++◌, Ok, Err, refl, sym, ap, subst, arith, inl, inr}
use Rattle.std.proofs.lemmas.List.{append-nil}
use Rattle.std.proofs.lemmas.Bool.{cond_both, cond-true, cond-false}
use Rattle.txn_text.specs.declared.kinds.Token.{Token}
use Rattle.txn_parse.specs.declared.symbols.Symbol.{Symbol}
use Rattle.txn_parse.specs.declared.symbols.Symbol.TheVariants.{Name, Number, Let, Read, Write, Print, If, Else, Repeat, Abort, Assign, OpenBlock, CloseBlock, OpenIndex, CloseIndex}
use Rattle.txn_parse.specs.Symbols.{Lexeme, lexeme, is}
use Rattle.txn_parse.specs.Tree.{Term, Num, Command, Let as SetTo, Read as ReadOf, Write as WriteOf, Print as PrintOf, If as Choice, Repeat as Loop, Abort as Stop, Commands, End, Then}
use Rattle.txn_parse.specs.Grammar.{Limits, Free, Within, number, IsOutermost, IsStmt, sets, reads, writes, prints, chooses, chooses_else, repeats, aborts, IsBlock, braced, last as last_one}
use Rattle.txn_parse.specs.Reading.{Reader, syntax_at, expr_at, let_at, read_at, write_at, print_at, else_at, if_at, repeat_at, stmt_by, stmt_at}
use Rattle.txn_parse.proofs.PendingLemmas.{loosened}
use Rattle.txn_parse.proofs.Sound.{Answers, found_here, bad_here, Plain, some_token, then_answers, take_then, cons_answers, begins_same, ends_same}
use Rattle.txn_parse.proofs.SoundExpr.{expr_answers}

pub plain_name : Plain Name
plain_name Name e = refl
plain_name x e = cc

pub plain_number : Plain Number
plain_number Number e = refl
plain_number x e = cc

pub plain_else : Plain Else
plain_else Else e = refl
plain_else x e = cc

pub plain_assign : Plain Assign
plain_assign Assign e = refl
plain_assign x e = cc

pub plain_open_block : Plain OpenBlock
plain_open_block OpenBlock e = refl
plain_open_block x e = cc

pub plain_close_block : Plain CloseBlock
plain_close_block CloseBlock e = refl
plain_close_block x e = cc

pub plain_open_index : Plain OpenIndex
plain_open_index OpenIndex e = refl
plain_open_index x e = cc

pub plain_close_index : Plain CloseIndex
plain_close_index CloseIndex e = refl
plain_close_index x e = cc

-- one of each kind
some_outer : IsOutermost Free (lexeme Number some_token ∷ []) (Num some_token)
some_outer = record { short = tt; derived = loosened 6 1 (lexeme Number some_token ∷ []) (Num some_token) (omega arith) (number some_token) }

abbrev one_number : List Lexeme
one_number = lexeme Number some_token ∷ []

abbrev one_block : List Lexeme
one_block = lexeme OpenBlock some_token ∷ (lexeme Abort some_token ∷ [] ++ lexeme CloseBlock some_token ∷ [])

pub some_block : IsBlock Free (lexeme OpenBlock some_token ∷ (lexeme Abort some_token ∷ [] ++ lexeme CloseBlock some_token ∷ [])) (Then Stop End)
some_block = braced Free some_token some_token (lexeme Abort some_token ∷ []) (Then Stop End) tt (last_one Free (lexeme Abort some_token ∷ []) Stop (aborts Free some_token))

-- without limits
freed : (lim : Limits) (es : List Lexeme) (e : Term) → IsOutermost lim es e → IsOutermost Free es e
freed lim es e d = record { short = tt; derived = d.derived }

-- an expression that ends what is read
at_end : (lim : Limits) (es : List Lexeme) (e : Term) → IsOutermost lim es e → IsOutermost lim (es ++ []) e
at_end lim es e d = subst (λ x. IsOutermost lim x e) (sym (append-nil es)) d

let_answers : {J : Type 0} (last R d : ℕ) (room' : J → ℕ) → ((j : J) → R ≤ room' j) → (w : Token) (ls : List Lexeme) → Answers last (λ j. let_at last (room' j)) (λ ms. IsStmt (Within R d) (lexeme Let w ∷ ms)) (λ ms. IsStmt Free (lexeme Let w ∷ ms)) ls (let_at last R ls)
unfolding let_at
let_answers last R d room' below w ls =
    let G : Limits → List Lexeme → Command → Type 0 = λ lim ms. IsStmt lim (lexeme Let w ∷ ms) in
    take_then last Name _ _ (G (Within R d)) (G Free) ls plain_name
    (λ v. (lexeme Assign some_token ∷ one_number, SetTo v (Num some_token), sets Free w v some_token one_number (Num some_token) some_outer))
    (λ v r1. take_then last Assign _ _ (λ ms. G (Within R d) (lexeme Name v ∷ ms)) (λ ms. G Free (lexeme Name v ∷ ms)) r1 plain_assign
    (λ s. (one_number, SetTo v (Num some_token), sets Free w v s one_number (Num some_token) some_outer))
    (λ s r2. then_answers last (λ j. expr_at last (room' j)) (IsOutermost (Within R d)) (IsOutermost Free) _ _ (λ ms. G (Within R d) (lexeme Name v ∷ lexeme Assign s ∷ ms)) (λ ms. G Free (lexeme Name v ∷ lexeme Assign s ∷ ms)) r2 (expr_at last R r2) (expr_answers last R d room' below r2)
    (λ e es out. ([], SetTo v e, sets Free w v s (es ++ []) e (at_end Free es e out)))
    (λ e es r3 split out. found_here _ (SetTo v e) r3 (sets (Within R d) w v s (es ++ []) e (at_end (Within R d) es e out)))))

read_answers : {J : Type 0} (last R d : ℕ) (room' : J → ℕ) → ((j : J) → R ≤ room' j) → (w : Token) (ls : List Lexeme) → Answers last (λ j. read_at last (room' j)) (λ ms. IsStmt (Within R d) (lexeme Read w ∷ ms)) (λ ms. IsStmt Free (lexeme Read w ∷ ms)) ls (read_at last R ls)
unfolding read_at
read_answers last R d room' below w ls =
    let G : Limits → List Lexeme → Command → Type 0 = λ lim ms. IsStmt lim (lexeme Read w ∷ ms) in
    let close : List Lexeme = lexeme CloseIndex some_token ∷ [] in
    take_then last Name _ _ (G (Within R d)) (G Free) ls plain_name
    (λ v. (lexeme Name some_token ∷ lexeme OpenIndex some_token ∷ (one_number ++ close), ReadOf v some_token (Num some_token), reads Free w v some_token some_token some_token one_number (Num some_token) some_outer))
    (λ v r1. take_then last Name _ _ (λ ms. G (Within R d) (lexeme Name v ∷ ms)) (λ ms. G Free (lexeme Name v ∷ ms)) r1 plain_name
    (λ t. (lexeme OpenIndex some_token ∷ (one_number ++ close), ReadOf v t (Num some_token), reads Free w v t some_token some_token one_number (Num some_token) some_outer))
    (λ t r2. take_then last OpenIndex _ _ (λ ms. G (Within R d) (lexeme Name v ∷ lexeme Name t ∷ ms)) (λ ms. G Free (lexeme Name v ∷ lexeme Name t ∷ ms)) r2 plain_open_index
    (λ x. (one_number ++ close, ReadOf v t (Num some_token), reads Free w v t x some_token one_number (Num some_token) some_outer))
    (λ x r3. then_answers last (λ j. expr_at last (room' j)) (IsOutermost (Within R d)) (IsOutermost Free) _ _ (λ ms. G (Within R d) (lexeme Name v ∷ lexeme Name t ∷ lexeme OpenIndex x ∷ ms)) (λ ms. G Free (lexeme Name v ∷ lexeme Name t ∷ lexeme OpenIndex x ∷ ms)) r3 (expr_at last R r3) (expr_answers last R d room' below r3)
    (λ i is out. (close, ReadOf v t i, reads Free w v t x some_token is i out))
    (λ i is r4 split out. take_then last CloseIndex _ _ (λ ms. G (Within R d) (lexeme Name v ∷ lexeme Name t ∷ lexeme OpenIndex x ∷ (is ++ ms))) (λ ms. G Free (lexeme Name v ∷ lexeme Name t ∷ lexeme OpenIndex x ∷ (is ++ ms))) r4 plain_close_index
    (λ y. ([], ReadOf v t i, reads Free w v t x y is i (freed (Within R d) is i out)))
    (λ y r5. found_here _ (ReadOf v t i) r5 (reads (Within R d) w v t x y is i out))))))

write_answers : {J : Type 0} (last R d : ℕ) (room' : J → ℕ) → ((j : J) → R ≤ room' j) → (w : Token) (ls : List Lexeme) → Answers last (λ j. write_at last (room' j)) (λ ms. IsStmt (Within R d) (lexeme Write w ∷ ms)) (λ ms. IsStmt Free (lexeme Write w ∷ ms)) ls (write_at last R ls)
unfolding write_at
write_answers last R d room' below w ls =
    let G : Limits → List Lexeme → Command → Type 0 = λ lim ms. IsStmt lim (lexeme Write w ∷ ms) in
    let behind : List Lexeme = lexeme CloseIndex some_token ∷ one_number in
    take_then last Name _ _ (G (Within R d)) (G Free) ls plain_name
    (λ t. (lexeme OpenIndex some_token ∷ (one_number ++ behind), WriteOf t (Num some_token) (Num some_token), writes Free w t some_token some_token one_number one_number (Num some_token) (Num some_token) some_outer some_outer))
    (λ t r1. take_then last OpenIndex _ _ (λ ms. G (Within R d) (lexeme Name t ∷ ms)) (λ ms. G Free (lexeme Name t ∷ ms)) r1 plain_open_index
    (λ x. (one_number ++ behind, WriteOf t (Num some_token) (Num some_token), writes Free w t x some_token one_number one_number (Num some_token) (Num some_token) some_outer some_outer))
    (λ x r2. then_answers last (λ j. expr_at last (room' j)) (IsOutermost (Within R d)) (IsOutermost Free) _ _ (λ ms. G (Within R d) (lexeme Name t ∷ lexeme OpenIndex x ∷ ms)) (λ ms. G Free (lexeme Name t ∷ lexeme OpenIndex x ∷ ms)) r2 (expr_at last R r2) (expr_answers last R d room' below r2)
    (λ i is out. (behind, WriteOf t i (Num some_token), writes Free w t x some_token is one_number i (Num some_token) out some_outer))
    (λ i is r3 split out. take_then last CloseIndex _ _ (λ ms. G (Within R d) (lexeme Name t ∷ lexeme OpenIndex x ∷ (is ++ ms))) (λ ms. G Free (lexeme Name t ∷ lexeme OpenIndex x ∷ (is ++ ms))) r3 plain_close_index
    (λ y. (one_number, WriteOf t i (Num some_token), writes Free w t x y is one_number i (Num some_token) (freed (Within R d) is i out) some_outer))
    (λ y r4. then_answers last (λ j. expr_at last (room' j)) (IsOutermost (Within R d)) (IsOutermost Free) _ _ (λ ms. G (Within R d) (lexeme Name t ∷ lexeme OpenIndex x ∷ (is ++ lexeme CloseIndex y ∷ ms))) (λ ms. G Free (lexeme Name t ∷ lexeme OpenIndex x ∷ (is ++ lexeme CloseIndex y ∷ ms))) r4 (expr_at last R r4) (expr_answers last R d room' below r4)
    (λ e es out2. ([], WriteOf t i e, writes Free w t x y is (es ++ []) i e (freed (Within R d) is i out) (at_end Free es e out2)))
    (λ e es r5 split2 out2. found_here _ (WriteOf t i e) r5 (writes (Within R d) w t x y is (es ++ []) i e out (at_end (Within R d) es e out2)))))))

print_answers : {J : Type 0} (last R d : ℕ) (room' : J → ℕ) → ((j : J) → R ≤ room' j) → (w : Token) (ls : List Lexeme) → Answers last (λ j. print_at last (room' j)) (λ ms. IsStmt (Within R d) (lexeme Print w ∷ ms)) (λ ms. IsStmt Free (lexeme Print w ∷ ms)) ls (print_at last R ls)
unfolding print_at
print_answers last R d room' below w ls =
    then_answers last (λ j. expr_at last (room' j)) (IsOutermost (Within R d)) (IsOutermost Free) _ _ (λ ms. IsStmt (Within R d) (lexeme Print w ∷ ms)) (λ ms. IsStmt Free (lexeme Print w ∷ ms)) ls (expr_at last R ls) (expr_answers last R d room' below ls)
    (λ e es out. ([], PrintOf e, prints Free w (es ++ []) e (at_end Free es e out)))
    (λ e es r split out. found_here _ (PrintOf e) r (prints (Within R d) w (es ++ []) e (at_end (Within R d) es e out)))

-- a reader of blocks
abbrev pub ReadsBlocks : {J : Type 0} → ℕ → Limits → Reader Commands → (J → Reader Commands) → Type 0
ReadsBlocks last lim block block' = (ls : List Lexeme) → Answers last block' (IsBlock lim) (IsBlock Free) ls (block ls)

-- an else with its block, or nothing
abbrev pub IsElse : Limits → List Lexeme → Commands → Type 0
IsElse lim ls b = ((ls ≡ []) × (b ≡ End)) ⊎ ((x : Token) × (ms : List Lexeme) × (ls ≡ lexeme Else x ∷ ms) × IsBlock lim ms b)

else_answers : {J : Type 0} (last : ℕ) (lim : Limits) (block : Reader Commands) (block' : J → Reader Commands) → ReadsBlocks last lim block block' → (ls : List Lexeme) → Answers last (λ j. else_at (block' j)) (IsElse lim) (IsElse Free) ls (else_at block ls)
unfolding else_at
else_answers last lim block block' ok [] =
    record { front = []; split = refl; derived = inl (refl, refl); again = λ j more same. ends_same (λ ms. else_at (block' j) ms ≡ Ok (End, ms)) more same refl }
else_answers last lim block block' ok (l ∷ ls) =
    cond_both (is l.symbol Else) (block ls) (Ok (End, l ∷ ls)) (Answers last (λ j. else_at (block' j)) (IsElse lim) (IsElse Free) (l ∷ ls))
    (λ here. cons_answers last (λ j. else_at (block' j)) block' (IsElse lim) (IsBlock lim) (IsElse Free) (IsBlock Free) l ls (block ls)
    (λ j ms. cond-true (is l.symbol Else) _ _ here)
    (λ ms b g. inr (l.token, ms, ap (λ s. lexeme s l.token ∷ ms) (plain_else l.symbol here), g))
    (λ ms b h. inr (l.token, ms, ap (λ s. lexeme s l.token ∷ ms) (plain_else l.symbol here), h))
    (ok ls))
    (λ absent. record { front = []; split = refl; derived = inl (refl, refl); again = λ j more same. begins_same (λ ms. else_at (block' j) ms ≡ Ok (End, ms)) l ls more same (λ ms. cond-false (is l.symbol Else) _ _ absent) })

-- a choice, by its else
chosen : (lim : Limits) (w : Token) (es asl ms : List Lexeme) (e : Term) (a b : Commands) → IsOutermost lim es e → IsBlock lim asl a → IsElse lim ms b → IsStmt lim (lexeme If w ∷ (es ++ (asl ++ ms))) (Choice e a b)
chosen lim w es asl ms e a b out block (inl none) =
    subst (λ x. IsStmt lim (lexeme If w ∷ (es ++ (asl ++ x))) (Choice e a b)) (sym none.0)
    (subst (λ x. IsStmt lim (lexeme If w ∷ (es ++ x)) (Choice e a b)) (sym (append-nil asl))
    (subst (λ x. IsStmt lim (lexeme If w ∷ (es ++ asl)) (Choice e a x)) (sym none.1) (chooses lim w es asl e a out block)))
chosen lim w es asl ms e a b out block (inr some) =
    subst (λ x. IsStmt lim (lexeme If w ∷ (es ++ (asl ++ x))) (Choice e a b)) (sym some.2) (chooses_else lim w some.0 es asl some.1 e a b out block some.3)

if_answers : {J : Type 0} (last R d : ℕ) (room' : J → ℕ) (block : Reader Commands) (block' : J → Reader Commands) → ((j : J) → R ≤ room' j) → ReadsBlocks last (Within R d) block block' → ((ls : List Lexeme) (b : Commands) → IsBlock (Within R d) ls b → IsBlock Free ls b) → (w : Token) (ls : List Lexeme) →
    Answers last (λ j. if_at last (room' j) (block' j)) (λ ms. IsStmt (Within R d) (lexeme If w ∷ ms)) (λ ms. IsStmt Free (lexeme If w ∷ ms)) ls (if_at last R block ls)
unfolding if_at
if_answers last R d room' block block' below ok free w ls =
    let G : Limits → List Lexeme → Command → Type 0 = λ lim ms. IsStmt lim (lexeme If w ∷ ms) in
    then_answers last (λ j. expr_at last (room' j)) (IsOutermost (Within R d)) (IsOutermost Free) _ _ (G (Within R d)) (G Free) ls (expr_at last R ls) (expr_answers last R d room' below ls)
    (λ e es out. (one_block, Choice e (Then Stop End) End, chooses Free w es one_block e (Then Stop End) out some_block))
    (λ e es r1 split out. then_answers last block' (IsBlock (Within R d)) (IsBlock Free) _ _ (λ ms. G (Within R d) (es ++ ms)) (λ ms. G Free (es ++ ms)) r1 (block r1) (ok r1)
    (λ a asl g. ([], Choice e a End, subst (λ x. G Free (es ++ x) (Choice e a End)) (sym (append-nil asl)) (chooses Free w es asl e a (freed (Within R d) es e out) g)))
    (λ a asl r2 split2 g. then_answers last (λ j. else_at (block' j)) (IsElse (Within R d)) (IsElse Free) _ _ (λ ms. G (Within R d) (es ++ (asl ++ ms))) (λ ms. G Free (es ++ (asl ++ ms))) r2 (else_at block r2) (else_answers last (Within R d) block block' ok r2)
    (λ b bs h. ([], Choice e a b, chosen Free w es asl (bs ++ []) e a b (freed (Within R d) es e out) (free asl a g) (subst (λ x. IsElse Free x b) (sym (append-nil bs)) h)))
    (λ b bs r3 split3 h. found_here _ (Choice e a b) r3 (chosen (Within R d) w es asl (bs ++ []) e a b out g (subst (λ x. IsElse (Within R d) x b) (sym (append-nil bs)) h)))))

repeat_answers : {J : Type 0} (last R d : ℕ) (block : Reader Commands) (block' : J → Reader Commands) → ReadsBlocks last (Within R d) block block' → (w : Token) (ls : List Lexeme) →
    Answers last (λ j. repeat_at last (block' j)) (λ ms. IsStmt (Within R d) (lexeme Repeat w ∷ ms)) (λ ms. IsStmt Free (lexeme Repeat w ∷ ms)) ls (repeat_at last block ls)
unfolding repeat_at
repeat_answers last R d block block' ok w ls =
    let G : Limits → List Lexeme → Command → Type 0 = λ lim ms. IsStmt lim (lexeme Repeat w ∷ ms) in
    take_then last Number _ _ (G (Within R d)) (G Free) ls plain_number
    (λ n. (one_block, Loop n (Then Stop End), repeats Free w n one_block (Then Stop End) some_block))
    (λ n r1. then_answers last block' (IsBlock (Within R d)) (IsBlock Free) _ _ (λ ms. G (Within R d) (lexeme Number n ∷ ms)) (λ ms. G Free (lexeme Number n ∷ ms)) r1 (block r1) (ok r1)
    (λ b bs g. ([], Loop n b, repeats Free w n (bs ++ []) b (subst (λ x. IsBlock Free x b) (sym (append-nil bs)) g)))
    (λ b bs r2 split g. found_here _ (Loop n b) r2 (repeats (Within R d) w n (bs ++ []) b (subst (λ x. IsBlock (Within R d) x b) (sym (append-nil bs)) g))))

stmt_answers_by : {J : Type 0} (last R d : ℕ) (room' : J → ℕ) (block : Reader Commands) (block' : J → Reader Commands) → ((j : J) → R ≤ room' j) → ReadsBlocks last (Within R d) block block' → ((ls : List Lexeme) (b : Commands) → IsBlock (Within R d) ls b → IsBlock Free ls b) → (x : Symbol) (t : Token) (ls : List Lexeme) →
    Answers last (λ j. stmt_at last (room' j) (block' j)) (IsStmt (Within R d)) (IsStmt Free) (lexeme x t ∷ ls) (stmt_by last R block (lexeme x t) x ls)
unfolding stmt_at
stmt_answers_by last R d room' block block' below ok free Let t ls =
    cons_answers last (λ j. stmt_at last (room' j) (block' j)) (λ j. let_at last (room' j)) (IsStmt (Within R d)) (λ ms. IsStmt (Within R d) (lexeme Let t ∷ ms)) (IsStmt Free) (λ ms. IsStmt Free (lexeme Let t ∷ ms)) (lexeme Let t) ls (let_at last R ls) (λ j ms. refl) (λ ms c g. g) (λ ms c h. h) (let_answers last R d room' below t ls)
stmt_answers_by last R d room' block block' below ok free Read t ls =
    cons_answers last (λ j. stmt_at last (room' j) (block' j)) (λ j. read_at last (room' j)) (IsStmt (Within R d)) (λ ms. IsStmt (Within R d) (lexeme Read t ∷ ms)) (IsStmt Free) (λ ms. IsStmt Free (lexeme Read t ∷ ms)) (lexeme Read t) ls (read_at last R ls) (λ j ms. refl) (λ ms c g. g) (λ ms c h. h) (read_answers last R d room' below t ls)
stmt_answers_by last R d room' block block' below ok free Write t ls =
    cons_answers last (λ j. stmt_at last (room' j) (block' j)) (λ j. write_at last (room' j)) (IsStmt (Within R d)) (λ ms. IsStmt (Within R d) (lexeme Write t ∷ ms)) (IsStmt Free) (λ ms. IsStmt Free (lexeme Write t ∷ ms)) (lexeme Write t) ls (write_at last R ls) (λ j ms. refl) (λ ms c g. g) (λ ms c h. h) (write_answers last R d room' below t ls)
stmt_answers_by last R d room' block block' below ok free Print t ls =
    cons_answers last (λ j. stmt_at last (room' j) (block' j)) (λ j. print_at last (room' j)) (IsStmt (Within R d)) (λ ms. IsStmt (Within R d) (lexeme Print t ∷ ms)) (IsStmt Free) (λ ms. IsStmt Free (lexeme Print t ∷ ms)) (lexeme Print t) ls (print_at last R ls) (λ j ms. refl) (λ ms c g. g) (λ ms c h. h) (print_answers last R d room' below t ls)
stmt_answers_by last R d room' block block' below ok free If t ls =
    cons_answers last (λ j. stmt_at last (room' j) (block' j)) (λ j. if_at last (room' j) (block' j)) (IsStmt (Within R d)) (λ ms. IsStmt (Within R d) (lexeme If t ∷ ms)) (IsStmt Free) (λ ms. IsStmt Free (lexeme If t ∷ ms)) (lexeme If t) ls (if_at last R block ls) (λ j ms. refl) (λ ms c g. g) (λ ms c h. h) (if_answers last R d room' block block' below ok free t ls)
stmt_answers_by last R d room' block block' below ok free Repeat t ls =
    cons_answers last (λ j. stmt_at last (room' j) (block' j)) (λ j. repeat_at last (block' j)) (IsStmt (Within R d)) (λ ms. IsStmt (Within R d) (lexeme Repeat t ∷ ms)) (IsStmt Free) (λ ms. IsStmt Free (lexeme Repeat t ∷ ms)) (lexeme Repeat t) ls (repeat_at last block ls) (λ j ms. refl) (λ ms c g. g) (λ ms c h. h) (repeat_answers last R d block block' ok t ls)
stmt_answers_by last R d room' block block' below ok free Abort t ls =
    record { front = lexeme Abort t ∷ []; split = refl; derived = aborts (Within R d) t; again = λ j more same. refl }
stmt_answers_by last R d room' block block' below ok free x t ls =
    bad_here last (λ j. stmt_at last (room' j) (block' j)) (IsStmt (Within R d)) (IsStmt Free) (lexeme x t ∷ ls) (lexeme Abort some_token ∷ [], Stop, aborts Free some_token)
    (λ j more same. begins_same (λ ms. stmt_at last (room' j) (block' j) ms ≡ Err (syntax_at last ms)) (lexeme x t) ls more same (λ ms. refl))

pub stmt_answers : {J : Type 0} (last R d : ℕ) (room' : J → ℕ) (block : Reader Commands) (block' : J → Reader Commands) → ((j : J) → R ≤ room' j) → ReadsBlocks last (Within R d) block block' → ((ls : List Lexeme) (b : Commands) → IsBlock (Within R d) ls b → IsBlock Free ls b) → (ls : List Lexeme) →
    Answers last (λ j. stmt_at last (room' j) (block' j)) (IsStmt (Within R d)) (IsStmt Free) ls (stmt_at last R block ls)
unfolding stmt_at
stmt_answers last R d room' block block' below ok free [] =
    bad_here last (λ j. stmt_at last (room' j) (block' j)) (IsStmt (Within R d)) (IsStmt Free) [] (lexeme Abort some_token ∷ [], Stop, aborts Free some_token)
    (λ j more same. ends_same (λ ms. stmt_at last (room' j) (block' j) ms ≡ Err (syntax_at last ms)) more same refl)
stmt_answers last R d room' block block' below ok free (l ∷ ls) =
    stmt_answers_by last R d room' block block' below ok free l.symbol l.token ls
