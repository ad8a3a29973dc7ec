-- What the bytes of a token say of its kind.
use Rattle.std.specs.Prelude.{◌≡◌, ℕ, ◌<◌, ◌≤◌, true, List, [], ◌∷◌, length, Ok}
use Rattle.std.specs.List.{list_all}
use Rattle.morty_base.specs.ScriptNames.{is_digit, is_reserved, is_name}
use Rattle.txn_text.specs.declared.bytes.TheConstants.{GREATEST_NUMBER}
use Rattle.txn_text.specs.Bytes.{is_symbol, is_pair, number_of}
use Rattle.txn_text.specs.Tokens.{token_bytes, line_of, tokens_of}
use Rattle.txn_text.specs.declared.kinds.Token.{Token}
use Rattle.txn_text.specs.declared.kinds.TokenKind.{TokenKind}
use Rattle.txn_text.specs.declared.kinds.TokenKind.TheVariants.{Name, Word, Number, Sym}

-- digits, of a number that is not too great
pub record IsNumber (bytes : List ℕ) : Type 0 where
  pub all : list_all is_digit bytes ≡ true
  pub small : number_of bytes ≤ GREATEST_NUMBER

-- a symbol of one byte or of two
abbrev pub IsSymbol : List ℕ → Type 0
IsSymbol [] = ⊥
IsSymbol (b ∷ []) = is_symbol b ≡ true
IsSymbol (b ∷ c ∷ []) = is_pair b c ≡ true
IsSymbol (b ∷ c ∷ d ∷ bs) = ⊥

abbrev pub IsOfKind : TokenKind → List ℕ → Type 0
IsOfKind Name bytes = is_name bytes ≡ true
IsOfKind Word bytes = is_reserved bytes ≡ true
IsOfKind Number bytes = IsNumber bytes
IsOfKind Sym bytes = IsSymbol bytes

-- a token lies in the text, in its line, and its bytes are of its kind
pub record IsToken (text : List ℕ) (token : Token) : Type 0 where
  pub some : token.start < token.end
  pub within : token.end ≤ length text
  pub line : token.line ≡ line_of text token.start
  pub kind : IsOfKind token.kind (token_bytes text token)

-- the tokens stand one behind the other from byte `from` on
abbrev pub AreTokens : List ℕ → ℕ → List Token → Type 0
AreTokens text from [] = Unit {0}
AreTokens text from (token ∷ tokens) =
    (from ≤ token.start) × IsToken text token × AreTokens text token.end tokens

-- what is true of the tokens of each text
abbrev pub TokensLieInOrder : Type 0
TokensLieInOrder = (text : List ℕ) (tokens : List Token) → tokens_of text ≡ Ok tokens → AreTokens text 0 tokens
