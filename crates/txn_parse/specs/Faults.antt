-- The fault of a list of tokens, for any grammar: the first token that is bad or past a limit, or the end of the text.
use Rattle.std.specs.Prelude.{◌≡◌, ◌⊎◌, ℕ, ◌<◌, List, [], ◌∷◌, ◌++◌, length, Option, Some, None, Ok, Err}
use Rattle.txn_text.specs.declared.faults.FaultKind.{FaultKind}
use Rattle.txn_text.specs.declared.faults.FaultKind.TheVariants as fault
use Rattle.txn_text.specs.declared.faults.TextFault.{TextFault}
use Rattle.txn_text.specs.declared.faults.TextFault.TheVariants.{At}
use Rattle.txn_parse.specs.Symbols.{Lexeme}
use Rattle.txn_parse.specs.Tree.{Commands}
use Rattle.txn_parse.specs.Grammar.{Free, IsBlock}
use Rattle.txn_parse.specs.Laws.{Begins}
use Rattle.txn_parse.specs.Counts.{counted}

-- none of these tokens is past a limit
abbrev pub IsWithinLimits : List Lexeme → Type 0
IsWithinLimits ls = (c : ℕ × ℕ) × (counted 0 0 ls ≡ Ok c)

-- the first token past a limit stands at this place
pub record IsFirstPast (ls : List Lexeme) (at : ℕ) (kind : FaultKind) : Type 0 where
  pub front : List Lexeme
  pub token : Lexeme
  pub rest : List Lexeme
  pub split : ls ≡ front ++ token ∷ rest
  pub place : length front ≡ at
  pub within : IsWithinLimits front
  pub past : counted 0 0 (front ++ token ∷ []) ≡ Err (token, kind)

-- nothing begins with the tokens up to this one
pub record IsBadToken {A : Type 0} (G : List Lexeme → A → Type 0) (ls : List Lexeme) (f : TextFault) : Type 0 where
  pub front : List Lexeme
  pub token : Lexeme
  pub rest : List Lexeme
  pub split : ls ≡ front ++ token ∷ rest
  pub within : IsWithinLimits front
  pub bad : Begins G (front ++ token ∷ []) → ⊥
  pub begun : Begins G front
  pub place : f ≡ At token.token.line fault.Syntax

-- something begins so, and this token is the first past a limit
pub record IsPastLimit {A : Type 0} (G : List Lexeme → A → Type 0) (ls : List Lexeme) (f : TextFault) : Type 0 where
  pub front : List Lexeme
  pub token : Lexeme
  pub rest : List Lexeme
  pub kind : FaultKind
  pub split : ls ≡ front ++ token ∷ rest
  pub within : IsWithinLimits front
  pub past : counted 0 0 (front ++ token ∷ []) ≡ Err (token, kind)
  pub begun : Begins G (front ++ token ∷ [])
  pub place : f ≡ At token.token.line kind

-- all tokens are a proper front of something
pub record IsEnded {A : Type 0} (G : List Lexeme → A → Type 0) (last : ℕ) (ls : List Lexeme) (f : TextFault) : Type 0 where
  pub within : IsWithinLimits ls
  pub proper : (a : A) → G ls a → ⊥
  pub begun : Begins G ls
  pub place : f ≡ At last fault.EndOfText

-- the one fault
pub data IsTheFault {A : Type 0} (G : List Lexeme → A → Type 0) (last : ℕ) (ls : List Lexeme) (f : TextFault) : Type 0 where
  bad : IsBadToken G ls f → IsTheFault G last ls f
  past : IsPastLimit G ls f → IsTheFault G last ls f
  ended : IsEnded G last ls f → IsTheFault G last ls f

-- a list of tokens has at most one such fault, and none where all of it is in the grammar and within the limits
pub record OneFault : Type 0 where
  pub one : (last : ℕ) (ls : List Lexeme) (f g : TextFault) → IsTheFault (IsBlock Free) last ls f → IsTheFault (IsBlock Free) last ls g → f ≡ g
  pub none : (last : ℕ) (ls : List Lexeme) (f : TextFault) (b : Commands) → IsBlock Free ls b → IsWithinLimits ls → IsTheFault (IsBlock Free) last ls f → ⊥

-- a block within the limits stands in front
pub record BeginsWithBlock (ls : List Lexeme) : Type 0 where
  pub front : List Lexeme
  pub rest : List Lexeme
  pub block : Commands
  pub split : ls ≡ front ++ rest
  pub derived : IsBlock Free front block
  pub within : IsWithinLimits front

-- no block within the limits stands in front, and this is the one fault
pub record IsRefused (last : ℕ) (ls : List Lexeme) (f : TextFault) : Type 0 where
  pub none : BeginsWithBlock ls → ⊥
  pub fault : IsTheFault (IsBlock Free) last ls f

-- each list of tokens begins with a block within the limits, or is refused for its one fault
abbrev pub FaultIsDecided : Type 0
FaultIsDecided = (last : ℕ) (ls : List Lexeme) → BeginsWithBlock ls ⊎ ((f : TextFault) × IsRefused last ls f)

-- tokens in front behind which no block is open
pub record IsClosed (ls cut : List Lexeme) : Type 0 where
  pub rest : List Lexeme
  pub run : ℕ
  pub split : ls ≡ cut ++ rest
  pub some : 0 < length cut
  pub counts : counted 0 0 cut ≡ Ok (0, run)

-- tokens in front that end with the first past a limit
pub record IsPassed (ls cut : List Lexeme) (limit : TextFault) : Type 0 where
  pub front : List Lexeme
  pub token : Lexeme
  pub rest : List Lexeme
  pub kind : FaultKind
  pub split : ls ≡ front ++ token ∷ rest
  pub whole : cut ≡ front ++ token ∷ []
  pub within : IsWithinLimits front
  pub past : counted 0 0 (front ++ token ∷ []) ≡ Err (token, kind)
  pub place : limit ≡ At token.token.line kind

-- the tokens that tell what block stands in front: up to the one that leaves no block open, or up to the first past a
-- limit, with its fault, or all of them
pub data IsCut (ls cut : List Lexeme) : Option TextFault → Type 0 where
  closed : IsClosed ls cut → IsCut ls cut None
  passed : (limit : TextFault) → IsPassed ls cut limit → IsCut ls cut (Some limit)
  all : ls ≡ cut → IsWithinLimits ls → IsCut ls cut None

-- the limit's fault, or that of the text's end in its last line, where reading came to the end of such tokens
abbrev pub placed : ℕ → Option TextFault → TextFault → TextFault
placed last (Some limit) (At line fault.EndOfText) = limit
placed last None (At line fault.EndOfText) = At last fault.EndOfText
placed last limit f = f
