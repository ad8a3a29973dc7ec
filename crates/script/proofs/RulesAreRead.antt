-- What is read by a rule that fits: what it found is derived, and its fault is the first.
use Rattle.std.proofs.Common.{◌≡◌, ℕ, ◌<◌, Bool, true, false, List, [], ◌∷◌, ◌++◌, length, Option, Some, None, is_some, Ok, Err, refl, sym, ap, ◌∙◌, subst, inl, arith}
use Rattle.std.proofs.lemmas.List.{length-append}
use Rattle.std.proofs.lemmas.Bool.{cond_both, cond-true, cond-false}
use Rattle.txn_text.specs.declared.kinds.Token.{Token}
use Rattle.txn_parse.specs.declared.symbols.Symbol.{Symbol}
use Rattle.txn_parse.specs.declared.symbols.Symbol.TheVariants as symbol
use Rattle.txn_parse.specs.Symbols.{Lexeme, lexeme, is}
use Rattle.txn_parse.specs.Grammar.{Free, IsBlock}
use Rattle.txn_parse.specs.Reading.{Found, Reader, syntax_at, more_at, separator_by, separator_at}
use Rattle.txn_parse.specs.Laws.{Begins}
use Rattle.txn_parse.proofs.Sound.{some_token, begins_same, ends_same}
use Rattle.script.specs.Rules.{Rule, One, Block, Nothing, Both, Into, Either, Many, Listed, IsOne, no_item, last_one, Derives, empty, one_by, one_at, read}
use Rattle.script.specs.Fits.{fits}
use Rattle.script.proofs.Starts.{starts_with, starts, fits_both, fits_either, fits_listed}
use Rattle.script.proofs.Found.{Answers, bad_here}
use Rattle.script.proofs.ReadingRules.{Shortens, NeverLengthens}

-- each rule derives something
some_by : {A : Type 0} (choose : Symbol → Option A) (s : Symbol) (o : Option A) → choose s ≡ o → is_some o ≡ true → Begins (IsOne choose) []
some_by choose s None is some = cc
some_by choose s (Some a) is some = (lexeme s some_token ∷ [], (a, some_token), record { symbol = s; alone = refl; chosen = is })

pub sample : {A : Type 0} (r : Rule A) → fits r ≡ true → Begins (IsBlock Free) [] → Begins (Derives r) []
sample (One choose s) f b = some_by choose s (choose s) refl f
sample Block f b = b
sample (Nothing a) f b = ([], a, (refl, refl))
sample (Both r q) f b =
    let p = fits_both r q f in
    let x = sample r p.first b in
    let y = sample q p.second b in
    (x.0 ++ y.0, (x.1, y.1), record { front = x.0; back = y.0; split = refl; first = x.2; second = y.2 })
sample (Into make r) f b = let x = sample r f b in (x.0, make x.1, record { of = x.1; derived = x.2; made = refl })
sample (Either r q) f b = let p = fits_either r q f in let x = sample r p.first b in (x.0, x.1, inl x.2)
sample (Many r) f b = ([], [], no_item)
sample (Listed r) f b =
    let p = fits_listed r f in
    let x = sample r p.item b in
    (x.0 ++ lexeme symbol.CloseBlock some_token ∷ [], x.1 ∷ [], last_one some_token x.0 x.1 x.2)

one_answers : {A : Type 0} (last : ℕ) (choose : Symbol → Option A) (l : Lexeme) (ls : List Lexeme) (o : Option A) → choose l.symbol ≡ o → Begins (IsOne choose) [] → Answers last (one_at last choose) (IsOne choose) (l ∷ ls) (one_by last l ls o)
one_answers last choose l ls (Some a) is begun = record {
  front = l ∷ [];
  split = refl;
  derived = record { symbol = l.symbol; alone = refl; chosen = is };
  again = λ more same. ap (one_by last l more) is;
}
one_answers last choose l ls None is begun =
    bad_here last (one_at last choose) (IsOne choose) (l ∷ ls) begun
    (λ more same. begins_same (λ ms. one_at last choose ms ≡ Err (syntax_at last ms)) l ls more same (λ ms. ap (one_by last l ms) is))

pub one_reads : {A : Type 0} (last : ℕ) (choose : Symbol → Option A) (ls : List Lexeme) → Begins (IsOne choose) [] → Answers last (one_at last choose) (IsOne choose) ls (one_at last choose ls)
one_reads last choose [] begun = bad_here last (one_at last choose) (IsOne choose) [] begun (λ more same. ends_same (λ ms. one_at last choose ms ≡ Err (syntax_at last ms)) more same refl)
one_reads last choose (l ∷ ls) begun = one_answers last choose l ls (choose l.symbol) refl begun

-- what stands behind an item of a list: the end, or a semicolon before a further one
pub data IsSep : List Lexeme → Bool → Type 0 where
  closes : (y : Token) → IsSep (lexeme symbol.CloseBlock y ∷ []) false
  ended : (s y : Token) → IsSep (lexeme symbol.Semicolon s ∷ lexeme symbol.CloseBlock y ∷ []) false
  parts : (s : Token) → IsSep (lexeme symbol.Semicolon s ∷ []) true

is_close : (x : Symbol) → is x symbol.CloseBlock ≡ true → x ≡ symbol.CloseBlock
is_close symbol.CloseBlock e = refl
is_close x e = cc

semicolon_answers : (last : ℕ) (t : Token) (ls : List Lexeme) → Answers last (separator_at last) IsSep (lexeme symbol.Semicolon t ∷ ls) (more_at ls)
unfolding separator_at
semicolon_answers last t [] = record { front = lexeme symbol.Semicolon t ∷ []; split = refl; derived = parts t; again = λ more same. ends_same (λ ms. separator_at last (lexeme symbol.Semicolon t ∷ ms) ≡ Ok (true, ms)) more same refl }
semicolon_answers last t (m ∷ ms) =
    cond_both (is m.symbol symbol.CloseBlock) (Ok (false, ms)) (Ok (true, m ∷ ms)) (Answers last (separator_at last) IsSep (lexeme symbol.Semicolon t ∷ m ∷ ms))
    (λ closing. record {
      front = lexeme symbol.Semicolon t ∷ m ∷ [];
      split = refl;
      derived = subst (λ x. IsSep (lexeme symbol.Semicolon t ∷ lexeme x m.token ∷ []) false) (sym (is_close m.symbol closing)) (ended t m.token);
      again = λ more same. cond-true (is m.symbol symbol.CloseBlock) _ _ closing;
    })
    (λ absent. record {
      front = lexeme symbol.Semicolon t ∷ [];
      split = refl;
      derived = parts t;
      again = λ more same. begins_same (λ ns. separator_at last (lexeme symbol.Semicolon t ∷ ns) ≡ Ok (true, ns)) m ms more same (λ ns. cond-false (is m.symbol symbol.CloseBlock) _ _ absent);
    })

separator_answers_by : (last : ℕ) (x : Symbol) (t : Token) (ls : List Lexeme) → Answers last (separator_at last) IsSep (lexeme x t ∷ ls) (separator_by last (lexeme x t) x ls)
unfolding separator_at
separator_answers_by last symbol.CloseBlock t ls = record { front = lexeme symbol.CloseBlock t ∷ []; split = refl; derived = closes t; again = λ more same. refl }
separator_answers_by last symbol.Semicolon t ls = semicolon_answers last t ls
separator_answers_by last x t ls =
    bad_here last (separator_at last) IsSep (lexeme x t ∷ ls) (lexeme symbol.CloseBlock some_token ∷ [], false, closes some_token)
    (λ more same. begins_same (λ ms. separator_at last ms ≡ Err (syntax_at last ms)) (lexeme x t) ls more same (λ ms. refl))

pub separator_answers : (last : ℕ) (ls : List Lexeme) → Answers last (separator_at last) IsSep ls (separator_at last ls)
unfolding separator_at
separator_answers last [] =
    bad_here last (separator_at last) IsSep [] (lexeme symbol.CloseBlock some_token ∷ [], false, closes some_token)
    (λ more same. ends_same (λ ms. separator_at last ms ≡ Err (syntax_at last ms)) more same refl)
separator_answers last (l ∷ ls) = separator_answers_by last l.symbol l.token ls

-- what was found is shorter where it has a token, and never longer
found_length : {A : Type 0} (last : ℕ) (Q : Reader A) (G : List Lexeme → A → Type 0) (ls : List Lexeme) (r : Found A) (a : A × List Lexeme) → r ≡ Ok a → Answers last Q G ls r → (front : List Lexeme) × (ls ≡ front ++ a.1) × G front a.0
found_length last Q G ls (Ok r) a is one = let e : r ≡ a = cc in subst (λ (x : _ × List Lexeme). (front : List Lexeme) × (ls ≡ front ++ x.1) × G front x.0) e (one.front, one.split, one.derived)
found_length last Q G ls (Err f) a is one = cc

pub separator_shortens : (last : ℕ) → NeverLengthens (separator_at last)
separator_shortens last ls a is =
    let x = found_length last (separator_at last) IsSep ls (separator_at last ls) a is (separator_answers last ls) in
    let e = ap length x.1 in
    let f = length-append x.0 a.1 in
    omega (arith, e, f)

-- an item that has a token shortens
pub shortens_by : {A : Type 0} (last : ℕ) (r : Rule A) → fits r ≡ true → empty r ≡ false → ((ls : List Lexeme) → Answers last (read r last) (Derives r) ls (read r last ls)) → Shortens (read r last)
shortens_by last r f some item ls a is =
    let x = found_length last (read r last) (Derives r) ls (read r last ls) a is (item ls) in
    some_front x.0 x.1 (starts r f x.0 a.0 x.2)
  where
    some_front : (front : List Lexeme) → ls ≡ front ++ a.1 → starts_with r front ≡ true → length a.1 < length ls
    some_front [] split s = let clash : true ≡ false = sym s ∙ some in cc
    some_front (l ∷ front) split s = let e = ap length split in let g = length-append front a.1 in omega (arith, e, g)

pub some_tokens : {A : Type 0} (r : Rule A) → fits r ≡ true → empty r ≡ false → (ls : List Lexeme) (a : A) → Derives r ls a → 0 < length ls
some_tokens r f some ls a d = by_list ls (starts r f ls a d)
  where
    by_list : (ls : List Lexeme) → starts_with r ls ≡ true → 0 < length ls
    by_list [] s = let clash : true ≡ false = sym s ∙ some in cc
    by_list (l ∷ ls) s = omega arith
