-- The canonical text of a program: its pieces, with the needed parentheses and no others.
use Rattle.std.specs.Prelude.{ℕ, ◌+◌, nat_lt, List, [], ◌∷◌, ◌++◌, codes, unwrap_or, slice_get, unsigned_abs, if◌then◌else◌}
use Rattle.txn_lang.specs.declared.tree.BinOp.{BinOp}
use Rattle.txn_lang.specs.declared.tree.BinOp.TheVariants.{Add, Sub, Mul, Div, Rem, Eq, Ne, Lt, Le, Gt, Ge, And, Or}
use Rattle.txn_lang.specs.Tree.{Term, Num, Local, Neg, Not, Bin, Command, Let, Read, Write, Print, If, Repeat, Abort, Commands, End, Then, commands}
use Rattle.txn_lang.specs.Limits.{operator_level, left_level, level}
use Rattle.txn_lang.specs.Program.{Program}
use Rattle.txn_print.specs.Piece.{Piece, Word, Name, Number, Symbol, Sign, line_text}

-- the names of locals or of tables, by number
abbrev pub Names : Type 0
Names = List (List ℕ)

-- what has no name is printed as nothing
abbrev pub name_at : Names → ℕ → Piece
name_at names at = Name (unwrap_or (slice_get names at) [])

abbrev pub operator_piece : BinOp → Piece
operator_piece Add = Symbol (codes "+")
operator_piece Sub = Symbol (codes "-")
operator_piece Mul = Symbol (codes "*")
operator_piece Div = Symbol (codes "/")
operator_piece Rem = Symbol (codes "%")
operator_piece Eq = Symbol (codes "==")
operator_piece Ne = Symbol (codes "!=")
operator_piece Lt = Symbol (codes "<")
operator_piece Le = Symbol (codes "<=")
operator_piece Gt = Symbol (codes ">")
operator_piece Ge = Symbol (codes ">=")
operator_piece And = Word (codes "and")
operator_piece Or = Word (codes "or")

-- an operand stands in parentheses just where it binds looser than this
abbrev pub operand : ℕ → Term → List Piece → List Piece
operand least e pieces = if nat_lt (level e) least then Symbol (codes "(") ∷ (pieces ++ Symbol (codes ")") ∷ []) else pieces

abbrev pub term_pieces : Names → Term → List Piece
term_pieces locals (Num x) = Number (unsigned_abs x) ∷ []
term_pieces locals (Local v) = name_at locals v ∷ []
term_pieces locals (Neg a) = Sign ∷ operand 6 a (term_pieces locals a)
term_pieces locals (Not a) = Word (codes "not") ∷ operand 6 a (term_pieces locals a)
term_pieces locals (Bin op a b) =
    operand (left_level op) a (term_pieces locals a) ++ operator_piece op ∷ operand (operator_level op + 1) b (term_pieces locals b)

-- a key's index, in its brackets
abbrev pub index_pieces : Names → Term → List Piece
index_pieces locals i = Symbol (codes "[") ∷ (term_pieces locals i ++ Symbol (codes "]") ∷ [])

-- statements in their braces
abbrev pub in_braces : List Piece → List Piece
in_braces pieces = Symbol (codes "{") ∷ (pieces ++ Symbol (codes "}") ∷ [])

abbrev mutual
  pub command_pieces : Names → Names → Command → List Piece
  command_pieces tables locals (Let v e) = Word (codes "let") ∷ name_at locals v ∷ Symbol (codes "=") ∷ term_pieces locals e
  command_pieces tables locals (Read v t i) = Word (codes "read") ∷ name_at locals v ∷ name_at tables t ∷ index_pieces locals i
  command_pieces tables locals (Write t i e) = Word (codes "write") ∷ name_at tables t ∷ (index_pieces locals i ++ term_pieces locals e)
  command_pieces tables locals (Print e) = Word (codes "print") ∷ term_pieces locals e
  command_pieces tables locals (If e a b) =
      Word (codes "if") ∷ (term_pieces locals e ++ in_braces (first_pieces tables locals a) ++ else_pieces tables locals b)
  command_pieces tables locals (Repeat n body) = Word (codes "repeat") ∷ Number n ∷ in_braces (first_pieces tables locals body)
  command_pieces tables locals Abort = Word (codes "abort") ∷ []

  -- a semicolon stands between two statements
  pub first_pieces : Names → Names → Commands → List Piece
  first_pieces tables locals End = []
  first_pieces tables locals (Then c cs) = command_pieces tables locals c ++ more_pieces tables locals cs

  pub more_pieces : Names → Names → Commands → List Piece
  more_pieces tables locals End = []
  more_pieces tables locals (Then c cs) = Symbol (codes ";") ∷ (command_pieces tables locals c ++ more_pieces tables locals cs)

  -- an else block is printed where it has statements
  pub else_pieces : Names → Names → Commands → List Piece
  else_pieces tables locals End = []
  else_pieces tables locals (Then c cs) = Word (codes "else") ∷ in_braces (command_pieces tables locals c ++ more_pieces tables locals cs)

abbrev pub block_pieces : Names → Names → Commands → List Piece
block_pieces tables locals cs = in_braces (first_pieces tables locals cs)

-- the pieces of a program's block
abbrev pub program_pieces : Names → Program → List Piece
program_pieces tables p = block_pieces tables p.names (commands p.body)

-- the canonical text of a program
abbrev pub canonical : Names → Program → List ℕ
canonical tables p = line_text (program_pieces tables p)
