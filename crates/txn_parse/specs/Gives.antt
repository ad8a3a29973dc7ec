-- What a call gave, against what is to be read.
use Rattle.std.specs.Prelude.{◌≡◌, ℕ, ◌+◌, ◌==◌, List, count_by, drop, Result, Ok, Err}
use Rattle.txn_text.specs.declared.kinds.Token.{Token}
use Rattle.txn_text.specs.declared.faults.TextFault.{TextFault}
use Rattle.txn_text.specs.declared.faults.TextFault.TheVariants.{At, NoMemory}
use Rattle.txn_parse.specs.Symbols.{lexemes}
use Rattle.txn_parse.specs.Faults.{IsRefused}

-- what a call gave, seen by view, is what is read, unless memory ran out
abbrev pub Gives : {X Y : Type 0} → (X → Y) → Result X TextFault → Result Y TextFault → Type 0
Gives view (Ok x) read = read ≡ Ok (view x)
Gives view (Err (At line kind)) read = read ≡ Err (At line kind)
Gives view (Err NoMemory) read = Unit {0}

-- the line in which a text ends
abbrev pub last_line : List ℕ → ℕ
last_line text = count_by (λ b. b == 10) text + 1

-- the one fault of a text's tokens from one on, where no block within the limits stands in front of them; or want of
-- memory
abbrev pub IsBlockFault : List ℕ → List Token → ℕ → TextFault → Type 0
IsBlockFault text tokens from (At line kind) = IsRefused (last_line text) (lexemes text (drop from tokens)) (At line kind)
IsBlockFault text tokens from NoMemory = Unit {0}
