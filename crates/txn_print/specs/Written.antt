-- The programs that can be written: their numbers are ones that a text can have, and their tables have names.
use Rattle.std.specs.Prelude.{ℕ, ◌<◌, ◌≤◌, ℤ, unsigned_abs, ⊤}
use Rattle.txn_lang.specs.Tree.{Term, Num, Local, Neg, Not, Bin, Command, Let, Read, Write, Print, If, Repeat, Abort, Commands, End, Then}
use Rattle.txn_text.specs.declared.bytes.TheConstants.{GREATEST_NUMBER}

-- a number, without its sign, that a text can have
abbrev pub IsWritten : ℤ → Type 0
IsWritten x = unsigned_abs x ≤ GREATEST_NUMBER

-- all numbers are such
abbrev pub HasNumbers : Term → Type 0
HasNumbers (Num x) = IsWritten x
HasNumbers (Local v) = ⊤
HasNumbers (Neg a) = HasNumbers a
HasNumbers (Not a) = HasNumbers a
HasNumbers (Bin op a b) = HasNumbers a × HasNumbers b

-- such numbers, and keys of so many tables
abbrev mutual
  pub IsWrittenIn : ℕ → Command → Type 0
  IsWrittenIn tables (Let v e) = HasNumbers e
  IsWrittenIn tables (Read v t i) = (t < tables) × HasNumbers i
  IsWrittenIn tables (Write t i e) = (t < tables) × HasNumbers i × HasNumbers e
  IsWrittenIn tables (Print e) = HasNumbers e
  IsWrittenIn tables (If e a b) = HasNumbers e × AreWritten tables a × AreWritten tables b
  IsWrittenIn tables (Repeat n body) = AreWritten tables body
  IsWrittenIn tables Abort = ⊤

  pub AreWritten : ℕ → Commands → Type 0
  AreWritten tables End = ⊤
  AreWritten tables (Then c rest) = IsWrittenIn tables c × AreWritten tables rest
