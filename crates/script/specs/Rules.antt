-- Grammars as data: what a rule derives from tokens, and how it is read from left to right.
use Rattle.std.specs.Prelude.{◌≡◌, ◌⊎◌, ℕ, zero, suc, Bool, true, false, ◌&&◌, ◌||◌, List, [], ◌∷◌, ◌++◌, length, Option, Some, None, is_some, Ok, Err, if◌then◌else◌}
use Rattle.txn_text.specs.declared.kinds.Token.{Token}
use Rattle.txn_parse.specs.declared.symbols.Symbol.{Symbol}
use Rattle.txn_parse.specs.declared.symbols.Symbol.TheVariants as symbol
use Rattle.txn_parse.specs.Symbols.{Lexeme, lexeme}
use Rattle.txn_parse.specs.Tree.{Commands}
use Rattle.txn_parse.specs.Grammar.{Free, IsBlock}
use Rattle.txn_parse.specs.Reading.{Found, Reader, ◌>>=◌, syntax_at, separator_at, block_from}

-- a grammar of what is told by a value of A
pub data Rule : Type 0 → Type 1 where
  One : {A : Type 0} (choose : Symbol → Option A) (sample : Symbol) → Rule (A × Token)  -- a token whose symbol is among these
  Block : Rule Commands  -- a block of a program
  Nothing : {A : Type 0} (a : A) → Rule A  -- no token
  Both : {A B : Type 0} → Rule A → Rule B → Rule (A × B)  -- one, and the other behind it
  Into : {A B : Type 0} (make : A → B) → Rule A → Rule B  -- and what is made of it
  Either : {A : Type 0} → Rule A → Rule A → Rule A  -- the one or the other
  Many : {A : Type 0} → Rule A → Rule (List A)  -- any number of them
  Listed : {A : Type 0} → Rule A → Rule (List A)  -- one or more between semicolons, one may stand behind the last, and a closing brace

-- a token whose symbol is chosen
pub record IsOne {A : Type 0} (choose : Symbol → Option A) (ls : List Lexeme) (a : A × Token) : Type 0 where
  pub symbol : Symbol
  pub alone : ls ≡ lexeme symbol a.1 ∷ []
  pub chosen : choose symbol ≡ Some a.0

-- one behind the other
pub record IsBoth {A B : Type 0} (G : List Lexeme → A → Type 0) (H : List Lexeme → B → Type 0) (ls : List Lexeme) (a : A) (b : B) : Type 0 where
  pub front : List Lexeme
  pub back : List Lexeme
  pub split : ls ≡ front ++ back
  pub first : G front a
  pub second : H back b

-- what is made of it
pub record IsMade {A B : Type 0} (make : A → B) (G : List Lexeme → A → Type 0) (ls : List Lexeme) (b : B) : Type 0 where
  pub of : A
  pub derived : G ls of
  pub made : b ≡ make of

pub data IsMany {A : Type 0} (G : List Lexeme → A → Type 0) : List Lexeme → List A → Type 0 where
  no_item : IsMany G [] []
  one_more : (ls ms : List Lexeme) (a : A) (rest : List A) → G ls a → IsMany G ms rest → IsMany G (ls ++ ms) (a ∷ rest)

pub data IsListed {A : Type 0} (G : List Lexeme → A → Type 0) : List Lexeme → List A → Type 0 where
  last_one : (y : Token) (ls : List Lexeme) (a : A) → G ls a → IsListed G (ls ++ lexeme symbol.CloseBlock y ∷ []) (a ∷ [])
  last_ended : (s y : Token) (ls : List Lexeme) (a : A) → G ls a → IsListed G (ls ++ lexeme symbol.Semicolon s ∷ lexeme symbol.CloseBlock y ∷ []) (a ∷ [])
  listed_more : (s : Token) (ls ms : List Lexeme) (a : A) (rest : List A) → G ls a → IsListed G ms rest → IsListed G (ls ++ lexeme symbol.Semicolon s ∷ ms) (a ∷ rest)

-- a rule derives these tokens, which tell this value
abbrev pub Derives : {A : Type 0} → Rule A → List Lexeme → A → Type 0
Derives (One choose sample) ls a = IsOne choose ls a
Derives Block ls b = IsBlock Free ls b
Derives (Nothing a) ls b = (ls ≡ []) × (b ≡ a)
Derives (Both r q) ls c = IsBoth (Derives r) (Derives q) ls c.0 c.1
Derives (Into make r) ls b = IsMade make (Derives r) ls b
Derives (Either r q) ls a = Derives r ls a ⊎ Derives q ls a
Derives (Many r) ls xs = IsMany (Derives r) ls xs
Derives (Listed r) ls xs = IsListed (Derives r) ls xs

-- it derives no tokens at all
abbrev pub empty : {A : Type 0} → Rule A → Bool
empty (One choose sample) = false
empty Block = false
empty (Nothing a) = true
empty (Both r q) = empty r && empty q
empty (Into make r) = empty r
empty (Either r q) = empty q
empty (Many r) = true
empty (Listed r) = false

abbrev pub opens_block : Symbol → Bool
opens_block symbol.OpenBlock = true
opens_block s = false

-- the symbols that it may begin with
abbrev pub begins : {A : Type 0} → Rule A → Symbol → Bool
begins (One choose sample) s = is_some (choose s)
begins Block s = opens_block s
begins (Nothing a) s = false
begins (Both r q) s = begins r s || (empty r && begins q s)
begins (Into make r) s = begins r s
begins (Either r q) s = begins r s || begins q s
begins (Many r) s = begins r s
begins (Listed r) s = begins r s

-- the symbols that it may go on with behind what is whole already
abbrev pub goes_on : {A : Type 0} → Rule A → Symbol → Bool
goes_on (One choose sample) s = false
goes_on Block s = false
goes_on (Nothing a) s = false
goes_on (Both r q) s = goes_on q s || (empty q && goes_on r s)
goes_on (Into make r) s = goes_on r s
goes_on (Either r q) s = goes_on r s || (goes_on q s || (empty q && begins r s))
goes_on (Many r) s = begins r s || goes_on r s
goes_on (Listed r) s = false

-- the next token has a symbol of these
abbrev pub next_is : (Symbol → Bool) → List Lexeme → Bool
next_is among [] = false
next_is among (l ∷ ls) = among l.symbol

-- the symbol of the next token
abbrev pub next_symbol : List Lexeme → Option Symbol
next_symbol [] = None
next_symbol (l ∷ ls) = Some l.symbol

abbrev pub one_by : {A : Type 0} → ℕ → Lexeme → List Lexeme → Option A → Found (A × Token)
one_by last l ls (Some a) = Ok ((a, l.token), ls)
one_by last l ls None = Err (syntax_at last (l ∷ ls))

-- a token whose symbol is chosen
abbrev pub one_at : {A : Type 0} → ℕ → (Symbol → Option A) → Reader (A × Token)
one_at last choose [] = Err (syntax_at last [])
one_at last choose (l ∷ ls) = one_by last l ls (choose l.symbol)

-- as many as begin one behind the other, of which there are fewer than so many
unfoldable pub many_at : {A : Type 0} → (Symbol → Bool) → Reader A → ℕ → Reader (List A)
many_at begun item zero ls = Ok ([], ls)
many_at begun item (suc most) ls =
    if next_is begun ls then (item ls >>= (λ a. many_at begun item most a.1 >>= (λ r. Ok (a.0 ∷ r.0, r.1)))) else Ok ([], ls)

-- those between semicolons up to the closing brace, of which there are fewer than so many
unfoldable pub listed_at : {A : Type 0} → ℕ → Reader A → ℕ → Reader (List A)
listed_at last item zero ls = Err (syntax_at last ls)
listed_at last item (suc most) ls =
    item ls >>= (λ a. separator_at last a.1 >>= (λ m. if m.0 then (listed_at last item most m.1 >>= (λ r. Ok (a.0 ∷ r.0, r.1))) else Ok (a.0 ∷ [], m.1)))

-- reading what a rule derives from the front of a list: the next token decides
abbrev pub read : {A : Type 0} → Rule A → ℕ → Reader A
read (One choose sample) last ls = one_at last choose ls
read Block last ls = block_from last ls
read (Nothing a) last ls = Ok (a, ls)
read (Both r q) last ls = read r last ls >>= (λ a. read q last a.1 >>= (λ b. Ok ((a.0, b.0), b.1)))
read (Into make r) last ls = read r last ls >>= (λ a. Ok (make a.0, a.1))
read (Either r q) last ls = if next_is (begins r) ls then read r last ls else read q last ls
read (Many r) last ls = many_at (begins r) (read r last) (suc (length ls)) ls
read (Listed r) last ls = listed_at last (read r last) (suc (length ls)) ls
