-- Pieces as a grammar sees their tokens.
use Rattle.std.proofs.Common.{◌≡◌, ℕ, List, [], ◌∷◌, ◌++◌, length, refl, sym, ap, ◌∙◌, subst, arith}
use Rattle.txn_lang.specs.declared.tree.BinOp.{BinOp}
use Rattle.txn_lang.specs.declared.tree.BinOp.TheVariants as op
use Rattle.txn_text.specs.declared.kinds.Token.{Token}
use Rattle.txn_text.specs.declared.kinds.TokenKind.{TokenKind}
use Rattle.txn_text.specs.Tokens.{token_bytes}
use Rattle.txn_parse.specs.declared.symbols.Symbol.{Symbol}
use Rattle.txn_parse.specs.declared.symbols.Symbol.TheVariants as symbol
use Rattle.txn_parse.specs.Symbols.{words, marks, symbol_by, symbol_of, Lexeme, lexeme, lexemes}
use Rattle.txn_print.specs.Piece.{Piece, bytes_of}
use Rattle.txn_print.specs.Canonical.{operator_piece}
use Rattle.txn_print.specs.Spelling.{kind_of, Spells, SpellAll}

-- the symbol of a piece
abbrev pub symbol_at : Piece → Symbol
symbol_at x = symbol_by (kind_of x) (bytes_of x)

-- the tokens have the bytes of the pieces, and are seen as their symbols
pub data Lexed (text : List ℕ) : List Piece → List Lexeme → Type 0 where
  none : Lexed text [] []
  one : (x : Piece) (t : Token) (xs : List Piece) (ls : List Lexeme) → token_bytes text t ≡ bytes_of x → Lexed text xs ls → Lexed text (x ∷ xs) (lexeme (symbol_at x) t ∷ ls)

module _ (text : List ℕ) where
  symbol_spelled : (x : Piece) (t : Token) → Spells text x t → symbol_of text t ≡ symbol_at x
  symbol_spelled x t s = ap (λ (k : TokenKind). symbol_by k (token_bytes text t)) s.kind ∙ ap (symbol_by (kind_of x)) s.bytes

  pub lexed : (xs : List Piece) (ts : List Token) → SpellAll text xs ts → Lexed text xs (lexemes text ts)
  lexed [] [] s = none
  lexed [] (t ∷ ts) s = absurd s
  lexed (x ∷ xs) [] s = absurd s
  lexed (x ∷ xs) (t ∷ ts) s =
      subst (λ (y : Symbol). Lexed text (x ∷ xs) (lexeme y t ∷ lexemes text ts)) (sym (symbol_spelled x t s.0)) (one x t xs (lexemes text ts) s.0.bytes (lexed xs ts s.1))

  pub length-lexed : (xs : List Piece) {ls : List Lexeme} → Lexed text xs ls → length ls ≡ length xs
  length-lexed [] none = refl
  length-lexed (x ∷ xs) (one y t ys ls b rest) = let e = length-lexed xs rest in omega (arith, e)

  -- the tokens of some pieces, and those of the pieces behind them
  pub record Parts (xs ys : List Piece) (ls : List Lexeme) : Type 0 where
    pub front : List Lexeme
    pub back : List Lexeme
    pub split : ls ≡ front ++ back
    pub first : Lexed text xs front
    pub second : Lexed text ys back

  pub parts : (xs ys : List Piece) {ls : List Lexeme} → Lexed text (xs ++ ys) ls → Parts xs ys ls
  parts [] ys {ls} l = record { front = []; back = ls; split = refl; first = none; second = l }
  parts (x ∷ xs) ys (one z t zs ls b rest) =
      let p = parts xs ys rest in
      record {
        front = lexeme (symbol_at x) t ∷ p.front;
        back = p.back;
        split = ap (λ (ms : List Lexeme). lexeme (symbol_at x) t ∷ ms) p.split;
        first = one x t xs p.front b p.first;
        second = p.second;
      }

-- the symbols of operators
pub operator_symbol : (o : BinOp) → symbol_at (operator_piece o) ≡ symbol.Op o
unfolding words marks
operator_symbol op.Add = refl
operator_symbol op.Sub = refl
operator_symbol op.Mul = refl
operator_symbol op.Div = refl
operator_symbol op.Rem = refl
operator_symbol op.Eq = refl
operator_symbol op.Ne = refl
operator_symbol op.Lt = refl
operator_symbol op.Le = refl
operator_symbol op.Gt = refl
operator_symbol op.Ge = refl
operator_symbol op.And = refl
operator_symbol op.Or = refl
