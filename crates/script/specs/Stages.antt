-- What the second stage decides of tokens, for any grammar.
use Rattle.std.specs.Prelude.{◌≡◌, ℕ, List, [], ◌∷◌, ◌++◌, Result, Ok, Err}
use Rattle.txn_text.specs.declared.faults.TextFault.{TextFault}
use Rattle.txn_text.specs.declared.faults.TextFault.TheVariants.{At, NoMemory}
use Rattle.txn_text.specs.declared.faults.FaultKind.TheVariants.{Syntax, EndOfText}
use Rattle.txn_parse.specs.Symbols.{Lexeme}
use Rattle.txn_parse.specs.Laws.{Begins}
use Rattle.txn_parse.specs.Faults.{IsWithinLimits, IsTheFault}
use Rattle.script.specs.declared.items.RawItem.{RawItem}
use Rattle.script.specs.Items.{Item, items}
use Rattle.script.specs.Rules.{Derives}
use Rattle.script.specs.Grammar.{script}

-- all of the tokens are in the grammar, and none is past a limit
pub record IsWhole {A : Type 0} (G : List Lexeme → A → Type 0) (ls : List Lexeme) (a : A) : Type 0 where
  pub derived : G ls a
  pub within : IsWithinLimits ls

-- what a call gave: what the tokens tell, or their one fault
abbrev pub IsReadAs : {A : Type 0} → (List Lexeme → A → Type 0) → ℕ → List Lexeme → Result A TextFault → Type 0
IsReadAs G last ls (Ok a) = IsWhole G ls a
IsReadAs G last ls (Err (At line kind)) = IsTheFault G last ls (At line kind)
IsReadAs G last ls (Err NoMemory) = Unit {0}

-- the tokens before the rest are begun, and none goes on with the first of the rest
pub record Stopped {A : Type 0} (G : List Lexeme → A → Type 0) (ls rest : List Lexeme) : Type 0 where
  pub front : List Lexeme
  pub split : ls ≡ front ++ rest
  pub begun : Begins G front
  pub bad : (l : Lexeme) (more : List Lexeme) → rest ≡ l ∷ more → Begins G (front ++ l ∷ []) → ⊥

-- the fault where reading stopped short of a limit's fault, or at it
abbrev pub cut_fault : List Lexeme → TextFault → TextFault
cut_fault [] limit = limit
cut_fault (l ∷ ls) limit = At l.token.line Syntax

-- a limit's fault in place of the end of the text
abbrev pub or_limit : TextFault → TextFault → TextFault
or_limit (At line EndOfText) limit = limit
or_limit f limit = f

-- the items of what a call gave
abbrev pub items_of : Result (List RawItem) TextFault → Result (List Item) TextFault
items_of (Ok is) = Ok (items is)
items_of (Err f) = Err f

-- the fault of tokens that end with the first past a limit: that of the limit, where something begins with all of them;
-- else that of the first bad one
abbrev pub IsCutAs : ℕ → List Lexeme → TextFault → TextFault → Type 0
IsCutAs last cut limit NoMemory = Unit {0}
IsCutAs last cut limit (At line kind) =
    (rest : List Lexeme) × Stopped (Derives script) cut rest × ((At line kind) ≡ cut_fault rest limit)
