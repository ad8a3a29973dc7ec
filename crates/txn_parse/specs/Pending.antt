-- An expression while it is read from left to right: what is open in it, and the operand that is there.
use Rattle.std.specs.Prelude.{Bool, true, false, not, ◌&&◌, ◌||◌, ◌==◌, nat_lt, nat_le, Option, Some, None, if◌then◌else◌}
use Rattle.txn_lang.specs.declared.tree.BinOp.{BinOp}
use Rattle.txn_lang.specs.declared.tree.BinOp.TheVariants.{Sub}
use Rattle.txn_lang.specs.Limits.{operator_level}
use Rattle.txn_text.specs.declared.kinds.Token.{Token}
use Rattle.txn_parse.specs.declared.symbols.Symbol.{Symbol}
use Rattle.txn_parse.specs.declared.symbols.Symbol.TheVariants as symbol
use Rattle.txn_parse.specs.declared.pending.Open.{Open}
use Rattle.txn_parse.specs.declared.pending.Open.TheOpen.{Open-F}
use Rattle.txn_parse.specs.declared.pending.Open.TheFolds.{fold-Open}
use Rattle.txn_parse.specs.declared.pending.Reading.{Reading}
use Rattle.txn_parse.specs.declared.pending.Reading.TheVariants as reading
use Rattle.txn_parse.specs.Symbols.{Lexeme}
use Rattle.txn_parse.specs.Tree.{Term, Num, Local, Neg, Not, Bin, term}

-- what is open, the innermost first: a sign, a `not`, a parenthesis, or an operator behind its left operand
pub data Opened : Type 0 where
  Nothing : Opened
  Minus : (up : Opened) → Opened
  Deny : (up : Opened) → Opened
  Paren : (up : Opened) → Opened
  Infix : (a : Term) (op : BinOp) (up : Opened) → Opened

-- an operand is awaited, or is there
pub data State : Type 0 where
  Awaits : (held : Opened) → State
  Has : (e : Term) (held : Opened) → State

abbrev pub opened_step : Open-F Opened → Opened
opened_step Open-F.Nothing = Nothing
opened_step (Open-F.Minus up) = Minus up
opened_step (Open-F.Deny up) = Deny up
opened_step (Open-F.Paren up) = Paren up
opened_step (Open-F.Infix a op up) = Infix (term a) op up
opened_step Open-F.OneParen = Paren Nothing
opened_step (Open-F.OneInfix a op) = Infix (term a) op Nothing

abbrev pub opened : Open → Opened
opened = fold-Open Opened opened_step

abbrev pub state_of : Reading → State
state_of (reading.Awaits o) = Awaits (opened o)
state_of (reading.Has e o) = Has (term e) (opened o)

-- signs and `not`s take the operand behind them
abbrev pub give : Opened → Term → State
give (Minus up) e = give up (Neg e)
give (Deny up) e = give up (Not e)
give held e = Has e held

-- operators that bind at least as tight take the operand, and the new one follows
abbrev pub joined : Opened → Term → BinOp → Opened
joined (Infix a earlier up) e op =
    if nat_le (operator_level op) (operator_level earlier) then joined up (Bin earlier a e) op
    else Infix e op (Infix a earlier up)
joined held e op = Infix e op held

-- all operators up to the parenthesis take the operand, which is then whole
abbrev pub closed : Opened → Term → State
closed (Infix a op up) e = closed up (Bin op a e)
closed (Paren up) e = give up e
closed held e = Has e held

-- the whole expression, unless a parenthesis is open
abbrev pub whole : Opened → Term → Option Term
whole Nothing e = Some e
whole (Infix a op up) e = whole up (Bin op a e)
whole held e = None

-- a parenthesis is open
abbrev pub has_paren : Opened → Bool
has_paren (Paren up) = true
has_paren (Infix a op up) = has_paren up
has_paren held = false

-- a comparison is open that no weaker operator ends
abbrev pub compares : Opened → Bool
compares (Infix a op up) = operator_level op == 3 || (nat_lt 3 (operator_level op) && compares up)
compares held = false

abbrev pub is_minus : BinOp → Bool
is_minus Sub = true
is_minus op = false

abbrev pub starts_operand : Symbol → Bool
starts_operand symbol.Number = true
starts_operand symbol.Name = true
starts_operand symbol.Not = true
starts_operand symbol.OpenParen = true
starts_operand (symbol.Op op) = is_minus op
starts_operand s = false

-- behind an operand: an operator, where comparisons do not chain, or the end of a parenthesis
abbrev pub goes_on_behind : Opened → Symbol → Bool
goes_on_behind held (symbol.Op op) = not (operator_level op == 3 && compares held)
goes_on_behind held symbol.CloseParen = has_paren held
goes_on_behind held s = false

-- whether a token goes on with the expression
abbrev pub goes_on : State → Symbol → Bool
goes_on (Awaits held) s = starts_operand s
goes_on (Has e held) s = goes_on_behind held s

abbrev pub operand_step : Opened → Symbol → Token → State
operand_step held symbol.Number t = give held (Num t)
operand_step held symbol.Name t = give held (Local t)
operand_step held symbol.Not t = Awaits (Deny held)
operand_step held symbol.OpenParen t = Awaits (Paren held)
operand_step held s t = Awaits (Minus held)

abbrev pub operator_step : Opened → Term → Symbol → State
operator_step held e (symbol.Op op) = Awaits (joined held e op)
operator_step held e s = closed held e

-- one more token, which goes on with the expression
abbrev pub step : State → Lexeme → State
step (Awaits held) l = operand_step held l.symbol l.token
step (Has e held) l = operator_step held e l.symbol

-- the expression, if it may end here
abbrev pub ended : State → Option Term
ended (Awaits held) = None
ended (Has e held) = whole held e
