-- Which tokens of a text are those of pieces.
use Rattle.std.specs.Prelude.{◌≡◌, ℕ, ◌≤◌, true, List, [], ◌∷◌}
use Rattle.morty_base.specs.ScriptNames.{is_name, is_reserved}
use Rattle.txn_text.specs.declared.bytes.TheConstants.{GREATEST_NUMBER}
use Rattle.txn_text.specs.declared.kinds.Token.{Token}
use Rattle.txn_text.specs.declared.kinds.TokenKind.{TokenKind}
use Rattle.txn_text.specs.declared.kinds.TokenKind.TheVariants as kind
use Rattle.txn_text.specs.Tokens.{token_bytes}
use Rattle.txn_text.specs.Kinds.{IsSymbol}
use Rattle.txn_print.specs.Piece.{Piece, Word, Name, Number, Symbol, Sign, bytes_of}

abbrev pub kind_of : Piece → TokenKind
kind_of (Word word) = kind.Word
kind_of (Name name) = kind.Name
kind_of (Number number) = kind.Number
kind_of (Symbol symbol) = kind.Sym
kind_of Sign = kind.Sym

-- the token has the piece's kind and bytes
pub record Spells (text : List ℕ) (piece : Piece) (token : Token) : Type 0 where
  pub kind : token.kind ≡ kind_of piece
  pub bytes : token_bytes text token ≡ bytes_of piece

-- the tokens are those of the pieces, one for one
abbrev pub SpellAll : List ℕ → List Piece → List Token → Type 0
SpellAll text [] [] = Unit {0}
SpellAll text [] (token ∷ tokens) = ⊥
SpellAll text (piece ∷ pieces) [] = ⊥
SpellAll text (piece ∷ pieces) (token ∷ tokens) = Spells text piece token × SpellAll text pieces tokens

-- a piece that has the bytes of its kind
abbrev pub IsPiece : Piece → Type 0
IsPiece (Word word) = is_reserved word ≡ true
IsPiece (Name name) = is_name name ≡ true
IsPiece (Number number) = number ≤ GREATEST_NUMBER
IsPiece (Symbol symbol) = IsSymbol symbol
IsPiece Sign = Unit {0}

abbrev pub ArePieces : List Piece → Type 0
ArePieces [] = Unit {0}
ArePieces (piece ∷ pieces) = IsPiece piece × ArePieces pieces
