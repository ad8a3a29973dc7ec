-- What is true of the reading of a block without limits: its tree is in the grammar, what is in the grammar is read,
-- and a fault is at the first token with which nothing in the grammar begins.
use Rattle.std.specs.Prelude.{◌≡◌, ℕ, List, [], ◌∷◌, ◌++◌, Ok, Err}
use Rattle.txn_text.specs.declared.faults.TextFault.{TextFault}
use Rattle.txn_parse.specs.Symbols.{Lexeme}
use Rattle.txn_parse.specs.Tree.{Commands}
use Rattle.txn_parse.specs.Grammar.{Limits, Free, IsBlock}
use Rattle.txn_parse.specs.Reading.{syntax_at, block_from}

-- something in a grammar begins with these tokens
abbrev pub Begins : {A : Type 0} → (List Lexeme → A → Type 0) → List Lexeme → Type 0
Begins {A} G front = (more : List Lexeme) × (a : A) × G (front ++ more) a

-- a fault at the first token such that nothing in the grammar begins with the tokens up to it; or at the end of the
-- text, where something begins with all of them
pub record IsFirstBad {A : Type 0} (G : List Lexeme → A → Type 0) (last : ℕ) (ls : List Lexeme) (f : TextFault) : Type 0 where
  pub front : List Lexeme
  pub rest : List Lexeme
  pub split : ls ≡ front ++ rest
  pub place : f ≡ syntax_at last rest
  pub begun : Begins G front
  pub bad : (l : Lexeme) (more : List Lexeme) → rest ≡ l ∷ more → Begins G (front ++ l ∷ []) → ⊥

-- what is found is in the grammar
abbrev pub FoundIsDerived : Type 0
FoundIsDerived = (last : ℕ) (ls : List Lexeme) (b : Commands) (rest : List Lexeme) → block_from last ls ≡ Ok (b, rest) → (front : List Lexeme) × (ls ≡ front ++ rest) × IsBlock Free front b

-- what is in the grammar is found, whatever follows it
abbrev pub DerivedIsFound : Type 0
DerivedIsFound = (last : ℕ) (front rest : List Lexeme) (b : Commands) → IsBlock Free front b → block_from last (front ++ rest) ≡ Ok (b, rest)

-- no tokens stand for two blocks
abbrev pub HasOneTree : Type 0
HasOneTree = (lim lim' : Limits) (ls : List Lexeme) (b b' : Commands) → IsBlock lim ls b → IsBlock lim' ls b' → b ≡ b'

-- each fault is the first one
abbrev pub FaultIsFirst : Type 0
FaultIsFirst = (last : ℕ) (ls : List Lexeme) (f : TextFault) → block_from last ls ≡ Err f → IsFirstBad (IsBlock Free) last ls f
