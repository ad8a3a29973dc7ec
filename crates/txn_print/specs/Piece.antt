-- The pieces of canonical text, and the rule of blanks between them.
use Rattle.std.specs.Prelude.{ℕ, Bool, true, false, ◌||◌, List, [], ◌∷◌, ◌++◌, flat_map, codes, decimal, if◌then◌else◌}
use Rattle.morty_base.specs.ScriptNames.{is_one_of}

-- a reserved word, a name, a number, a symbol, or the sign of what is negated
pub data Piece : Type 0 where
  Word : (word : List ℕ) → Piece
  Name : (name : List ℕ) → Piece
  Number : (number : ℕ) → Piece
  Symbol : (symbol : List ℕ) → Piece
  Sign : Piece

abbrev pub bytes_of : Piece → List ℕ
bytes_of (Word word) = word
bytes_of (Name name) = name
bytes_of (Number number) = decimal number
bytes_of (Symbol symbol) = symbol
bytes_of Sign = codes "-"

-- the symbols before which no blank stands: `;`, the brackets of a key, `)` and `.`
abbrev pub is_close_symbol : List ℕ → Bool
is_close_symbol = is_one_of (codes ";" ∷ codes "[" ∷ codes "]" ∷ codes ")" ∷ codes "." ∷ [])

-- the symbols after which none stands: `(`, a key's `[` and `.`
abbrev pub is_open_symbol : List ℕ → Bool
is_open_symbol = is_one_of (codes "(" ∷ codes "[" ∷ codes "." ∷ [])

-- no blank stands before it
abbrev pub is_close : Piece → Bool
is_close (Symbol symbol) = is_close_symbol symbol
is_close _ = false

-- no blank stands after it
abbrev pub is_open : Piece → Bool
is_open (Symbol symbol) = is_open_symbol symbol
is_open Sign = true
is_open _ = false

-- what stands between two pieces
abbrev pub gap : Bool → List ℕ
gap joined = if joined then [] else codes " "

-- the text of pieces, where it is known whether the first is joined to what stands before it
unfoldable pub text_of : Bool → List Piece → List ℕ
text_of joined [] = []
text_of joined (piece ∷ pieces) = gap (joined || is_close piece) ++ bytes_of piece ++ text_of (is_open piece) pieces

-- the text of pieces that begin a line
abbrev pub line_text : List Piece → List ℕ
line_text pieces = text_of true pieces

-- the text of lines, each ended by a line feed
abbrev pub lines_text : List (List Piece) → List ℕ
lines_text lines = flat_map (λ pieces. line_text pieces ++ 10 ∷ []) lines
