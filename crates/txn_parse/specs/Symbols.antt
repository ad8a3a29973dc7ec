-- What the grammars see of a text's tokens.
use Rattle.std.specs.Prelude.{ℕ, Bool, ◌==◌, List, [], ◌∷◌, codes, map, if◌then◌else◌}
use Rattle.std.specs.Str.{bytes_eq}
use Rattle.txn_lang.specs.declared.tree.BinOp.TheVariants as op
use Rattle.txn_text.specs.declared.kinds.Token.{Token}
use Rattle.txn_text.specs.declared.kinds.TokenKind.{TokenKind}
use Rattle.txn_text.specs.declared.kinds.TokenKind.TheVariants as kind
use Rattle.txn_text.specs.Tokens.{token_bytes}
use Rattle.txn_parse.specs.declared.symbols.Entry.{Entry}
use Rattle.txn_parse.specs.declared.symbols.Symbol.{Symbol}
use Rattle.txn_parse.specs.declared.symbols.Symbol.TheVariants as symbol

-- the bytes of a word or mark, with its symbol
pub record Sign : Type 0 where
  pub bytes : List ℕ
  pub symbol : Symbol

abbrev pub sign : List ℕ → Symbol → Sign
sign bytes symbol = record { bytes = bytes; symbol = symbol }

-- the reserved words but `sum`
unfoldable pub words : List Sign
words =
    sign (codes "let") symbol.Let ∷
    sign (codes "read") symbol.Read ∷
    sign (codes "write") symbol.Write ∷
    sign (codes "print") symbol.Print ∷
    sign (codes "if") symbol.If ∷
    sign (codes "else") symbol.Else ∷
    sign (codes "repeat") symbol.Repeat ∷
    sign (codes "abort") symbol.Abort ∷
    sign (codes "not") symbol.Not ∷
    sign (codes "and") (symbol.Op op.And) ∷
    sign (codes "or") (symbol.Op op.Or) ∷
    sign (codes "at") symbol.At ∷
    sign (codes "client") symbol.Client ∷
    sign (codes "program") symbol.Program ∷
    sign (codes "first") symbol.First ∷
    sign (codes "table") symbol.Table ∷
    sign (codes "end") symbol.End ∷
    sign (codes "morty") symbol.Morty ∷
    sign (codes "replicas") symbol.Replicas ∷
    sign (codes "wardens") symbol.Wardens ∷
    sign (codes "tries") symbol.Tries ∷
    sign (codes "execs") symbol.Execs ∷
    sign (codes "gap") symbol.Gap ∷
    sign (codes "turns") symbol.Turns ∷
    sign (codes "policy") symbol.Policy ∷
    sign (codes "rewind") symbol.Rewind ∷
    sign (codes "net") symbol.Net ∷
    sign (codes "fair") symbol.Fair ∷
    sign (codes "seeded") symbol.Seeded ∷
    sign (codes "listed") symbol.Listed ∷
    sign (codes "late") symbol.Late ∷
    sign (codes "hurry") symbol.Hurry ∷
    sign (codes "list") symbol.List ∷
    sign (codes "go") symbol.Go ∷
    sign (codes "stop") symbol.Stop ∷
    sign (codes "deliver") symbol.Deliver ∷
    sign (codes "recover") symbol.Recover ∷
    sign (codes "truncate") symbol.Truncate ∷
    sign (codes "wait") symbol.Wait ∷
    sign (codes "next") symbol.Next ∷
    sign (codes "newest") symbol.Newest ∷
    sign (codes "replica") symbol.Replica ∷
    sign (codes "warden") symbol.Warden ∷
    []

-- the marks, those of two bytes last
unfoldable pub marks : List Sign
marks =
    sign (codes ";") symbol.Semicolon ∷
    sign (codes "[") symbol.OpenIndex ∷
    sign (codes "]") symbol.CloseIndex ∷
    sign (codes "{") symbol.OpenBlock ∷
    sign (codes "}") symbol.CloseBlock ∷
    sign (codes "=") symbol.Assign ∷
    sign (codes "(") symbol.OpenParen ∷
    sign (codes ")") symbol.CloseParen ∷
    sign (codes "+") (symbol.Op op.Add) ∷
    sign (codes "-") (symbol.Op op.Sub) ∷
    sign (codes "*") (symbol.Op op.Mul) ∷
    sign (codes "/") (symbol.Op op.Div) ∷
    sign (codes "%") (symbol.Op op.Rem) ∷
    sign (codes "<") (symbol.Op op.Lt) ∷
    sign (codes ">") (symbol.Op op.Gt) ∷
    sign (codes ".") symbol.Dot ∷
    sign (codes "==") (symbol.Op op.Eq) ∷
    sign (codes "!=") (symbol.Op op.Ne) ∷
    sign (codes "<=") (symbol.Op op.Le) ∷
    sign (codes ">=") (symbol.Op op.Ge) ∷
    []

-- the symbol of the first that has these bytes
abbrev pub symbol_in : List Sign → List ℕ → Symbol
symbol_in [] bytes = symbol.Other
symbol_in (s ∷ signs) bytes = if bytes_eq s.bytes bytes then s.symbol else symbol_in signs bytes

-- what the program's table says
abbrev pub entries_of : List Entry → List Sign
entries_of entries = map (λ e. sign e.text.now e.symbol) entries

abbrev pub symbol_by : TokenKind → List ℕ → Symbol
symbol_by kind.Name bytes = symbol.Name
symbol_by kind.Number bytes = symbol.Number
symbol_by kind.Word bytes = symbol_in words bytes
symbol_by kind.Sym bytes = symbol_in marks bytes

-- the symbol of a token
abbrev pub symbol_of : List ℕ → Token → Symbol
symbol_of text token = symbol_by token.kind (token_bytes text token)

-- a token with its symbol
pub record Lexeme : Type 0 where
  pub symbol : Symbol
  pub token : Token

abbrev pub lexeme : Symbol → Token → Lexeme
lexeme s t = record { symbol = s; token = t }

-- the tokens with their symbols
abbrev pub lexemes : List ℕ → List Token → List Lexeme
lexemes text tokens = map (λ t. lexeme (symbol_of text t) t) tokens

-- symbols by number; all operators have one
abbrev pub code : Symbol → ℕ
code symbol.Name = 0
code symbol.Number = 1
code symbol.Let = 2
code symbol.Read = 3
code symbol.Write = 4
code symbol.Print = 5
code symbol.If = 6
code symbol.Else = 7
code symbol.Repeat = 8
code symbol.Abort = 9
code symbol.Not = 10
code (symbol.Op o) = 11
code symbol.Assign = 12
code symbol.Semicolon = 13
code symbol.OpenBlock = 14
code symbol.CloseBlock = 15
code symbol.OpenIndex = 16
code symbol.CloseIndex = 17
code symbol.OpenParen = 18
code symbol.CloseParen = 19
code symbol.Dot = 20
code symbol.Morty = 21
code symbol.Replicas = 22
code symbol.Wardens = 23
code symbol.Tries = 24
code symbol.Execs = 25
code symbol.Gap = 26
code symbol.Turns = 27
code symbol.Policy = 28
code symbol.Rewind = 29
code symbol.Table = 30
code symbol.First = 31
code symbol.Program = 32
code symbol.Client = 33
code symbol.At = 34
code symbol.Net = 35
code symbol.Fair = 36
code symbol.Seeded = 37
code symbol.Listed = 38
code symbol.Late = 39
code symbol.Hurry = 40
code symbol.List = 41
code symbol.Go = 42
code symbol.Stop = 43
code symbol.Deliver = 44
code symbol.Recover = 45
code symbol.Truncate = 46
code symbol.Wait = 47
code symbol.Next = 48
code symbol.Newest = 49
code symbol.Replica = 50
code symbol.Warden = 51
code symbol.End = 52
code symbol.Other = 53

-- whether a symbol is the wanted one, which is no operator
abbrev pub is : Symbol → Symbol → Bool
is symbol wanted = code symbol == code wanted
