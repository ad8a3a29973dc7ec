-- How tokens lie in a text: blanks, comments and pieces, one behind the other.
use Rattle.std.specs.Prelude.{◌≡◌, ℕ, ◌+◌, ◌<◌, ◌≤◌, true, false, List, [], ◌∷◌, ◌++◌, length, drop, Ok}
use Rattle.std.specs.List.{list_all}
use Rattle.morty_base.specs.ScriptNames.{is_digit, is_name_byte}
use Rattle.txn_text.specs.Bytes.{is_blank, is_pair, in_comment}
use Rattle.txn_text.specs.Tokens.{line_of, tokens_of}
use Rattle.txn_text.specs.Kinds.{IsOfKind}
use Rattle.txn_text.specs.declared.kinds.Token.{Token}
use Rattle.txn_text.specs.declared.kinds.TokenKind.{TokenKind}
use Rattle.txn_text.specs.declared.kinds.TokenKind.TheVariants.{Name, Word, Number, Sym}

-- a piece of this kind does not run on into the bytes behind it: no name byte stands behind a name or a word, no digit
-- behind a number, and a symbol of one byte makes no symbol of two with the byte behind it
abbrev pub StopsAt : TokenKind → List ℕ → List ℕ → Type 0
StopsAt kind piece [] = Unit {0}
StopsAt Name piece (c ∷ cs) = is_name_byte c ≡ false
StopsAt Word piece (c ∷ cs) = is_name_byte c ≡ false
StopsAt Number piece (c ∷ cs) = is_digit c ≡ false
StopsAt Sym (b ∷ []) (c ∷ cs) = is_pair b c ≡ false
StopsAt Sym piece (c ∷ cs) = Unit {0}

-- a comment ends here: at a line feed, or at the end of the text
abbrev pub EndsComment : List ℕ → Type 0
EndsComment [] = Unit {0}
EndsComment (c ∷ cs) = in_comment c ≡ false

-- from byte `at` on the text is blanks, comments and the pieces of these tokens
pub data IsLaidOutFrom (text : List ℕ) : ℕ → List Token → Type 0 where
  ended : (at : ℕ) → length text ≤ at → IsLaidOutFrom text at []
  blank : (at b : ℕ) (behind : List ℕ) (tokens : List Token) → drop at text ≡ b ∷ behind → is_blank b ≡ true → IsLaidOutFrom text (at + 1) tokens → IsLaidOutFrom text at tokens
  comment : (at : ℕ) (words behind : List ℕ) (tokens : List Token) → drop at text ≡ 35 ∷ (words ++ behind) → list_all in_comment words ≡ true → EndsComment behind →
      IsLaidOutFrom text (at + (length words + 1)) tokens → IsLaidOutFrom text at tokens
  piece : (at : ℕ) (kind : TokenKind) (bytes behind : List ℕ) (tokens : List Token) → drop at text ≡ bytes ++ behind → 0 < length bytes → IsOfKind kind bytes → StopsAt kind bytes behind →
      IsLaidOutFrom text (at + length bytes) tokens →
      IsLaidOutFrom text at (record { kind = kind; start = at; end = at + length bytes; line = line_of text at } ∷ tokens)

abbrev pub IsLaidOut : List ℕ → List Token → Type 0
IsLaidOut text tokens = IsLaidOutFrom text 0 tokens

-- tokens that lie in a text so are its tokens
abbrev pub LaidOutIsRead : Type 0
LaidOutIsRead = (text : List ℕ) (tokens : List Token) → IsLaidOut text tokens → tokens_of text ≡ Ok tokens
