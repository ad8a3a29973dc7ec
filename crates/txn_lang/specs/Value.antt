-- What an expression gives: 64-bit numbers, computed exactly or not at all.
use Rattle.std.specs.Prelude.{ℕ, zero, suc, ◌^◌, ◌<◌, List, Bool, true, false, not, ◌&&◌, ◌||◌, nat_lt, if◌then◌else◌, get_or, Result, Ok, Err, ℤ, pos, negsuc, ◌+ℤ◌, ◌-ℤ◌, ◌*ℤ◌, neg_ℤ, int_lt, int_le, int_div, ⊤}
use Rattle.std.specs.Ordering.{int_eq}
use Rattle.txn_lang.specs.declared.tree.BinOp.{BinOp}
use Rattle.txn_lang.specs.declared.tree.BinOp.TheVariants.{Add, Sub, Mul, Div, Rem, Eq, Ne, Lt, Le, Gt, Ge, And, Or}
use Rattle.txn_lang.specs.declared.tree.Expr.{Expr}
use Rattle.txn_lang.specs.declared.evaluation.EvalFault.{EvalFault}
use Rattle.txn_lang.specs.declared.evaluation.EvalFault.TheVariants.{Overflow, ZeroDivisor}
use Rattle.txn_lang.specs.Tree.{Term, Num, Local, Neg, Not, Bin, term}

-- a value, or why there is none
abbrev pub Value : Type 0
Value = Result ℤ EvalFault

-- goes on with a value; a fault stays
abbrev pub then_value : Value → (ℤ → Value) → Value
then_value (Ok x) next = next x
then_value (Err fault) next = Err fault

-- from -2 ^ 63 to 2 ^ 63 - 1
abbrev pub fits_word : ℤ → Bool
fits_word (pos n) = nat_lt n (2 ^ 63)
fits_word (negsuc n) = nat_lt n (2 ^ 63)

-- a number of 64 bits, or Overflow
abbrev pub in_word : ℤ → Value
in_word z = if fits_word z then Ok z else Err Overflow

-- x / y: no divisor is 0, and it truncates toward zero
abbrev pub quotient : ℤ → ℤ → Value
quotient x (pos zero) = Err ZeroDivisor
quotient x (pos (suc n)) = in_word (int_div x (pos (suc n)))
quotient x (negsuc n) = in_word (int_div x (negsuc n))

-- x - y * (x / y), and no value where x / y has none
abbrev pub remainder : ℤ → ℤ → Value
remainder x y = then_value (quotient x y) (λ q. Ok (x -ℤ y *ℤ q))

-- a number other than 0 is true
abbrev pub is_true : ℤ → Bool
is_true (pos zero) = false
is_true (pos (suc n)) = true
is_true (negsuc n) = true

abbrev pub truth : Bool → ℤ
truth true = pos 1
truth false = pos 0

-- an operator between two values
abbrev pub operator : BinOp → ℤ → ℤ → Value
operator Add x y = in_word (x +ℤ y)
operator Sub x y = in_word (x -ℤ y)
operator Mul x y = in_word (x *ℤ y)
operator Div x y = quotient x y
operator Rem x y = remainder x y
operator Eq x y = Ok (truth (int_eq x y))
operator Ne x y = Ok (truth (not (int_eq x y)))
operator Lt x y = Ok (truth (int_lt x y))
operator Le x y = Ok (truth (int_le x y))
operator Gt x y = Ok (truth (int_lt y x))
operator Ge x y = Ok (truth (int_le y x))
operator And x y = Ok (truth (is_true x && is_true y))
operator Or x y = Ok (truth (is_true x || is_true y))

-- both operands are evaluated, left first
abbrev pub value : Term → List ℤ → Value
value (Num n) locals = Ok n
value (Local v) locals = Ok (get_or locals v (pos 0))
value (Neg a) locals = then_value (value a locals) (λ x. in_word (neg_ℤ x))
value (Not a) locals = then_value (value a locals) (λ x. Ok (truth (not (is_true x))))
value (Bin op a b) locals = then_value (value a locals) (λ x. then_value (value b locals) (λ y. operator op x y))

-- the value of an expression, where the locals hold these numbers
abbrev pub value_of : Expr → List ℤ → Value
value_of e locals = value (term e) locals

-- each local in it is below n
abbrev pub UsesBelow : Term → ℕ → Type 0
UsesBelow (Num x) n = ⊤
UsesBelow (Local v) n = v < n
UsesBelow (Neg a) n = UsesBelow a n
UsesBelow (Not a) n = UsesBelow a n
UsesBelow (Bin op a b) n = UsesBelow a n × UsesBelow b n
