-- The limits of a program.
use Rattle.std.specs.Prelude.{ℕ, ◌+◌, ◌*◌, ◌<◌, ◌≤◌, ◌==◌, max, nat_lt, if◌then◌else◌, ⊤}
use Rattle.txn_lang.specs.declared.tree.BinOp.{BinOp}
use Rattle.txn_lang.specs.declared.tree.BinOp.TheVariants.{Add, Sub, Mul, Div, Rem, And, Or}
use Rattle.txn_lang.specs.declared.limits.TheConstants.{DEEPEST_BLOCK, LONGEST_EXPRESSION, MOST_LOCALS, MOST_OF_A_KIND, MOST_STEPS, MOST_TIMES}
use Rattle.txn_lang.specs.declared.limits.Kind.{Kind}
use Rattle.txn_lang.specs.declared.limits.Kind.TheVariants as kind
use Rattle.txn_lang.specs.Tree.{Term, Num, Local, Neg, Not, Bin, Command, Let, Read, Write, Print, If, Repeat, Abort, Commands, End, Then}
use Rattle.txn_lang.specs.Value.{UsesBelow}

-- how tight an operator binds
abbrev pub operator_level : BinOp → ℕ
operator_level Or = 1
operator_level And = 2
operator_level Add = 4
operator_level Sub = 4
operator_level Mul = 5
operator_level Div = 5
operator_level Rem = 5
operator_level _ = 3

abbrev pub level : Term → ℕ
level (Num x) = 7
level (Local v) = 7
level (Neg a) = 6
level (Not a) = 6
level (Bin op a b) = operator_level op

-- the least level that a left operand has without parentheses; comparisons do not chain
abbrev pub left_level : BinOp → ℕ
left_level op = if operator_level op == 3 then 4 else operator_level op

-- with two parentheses round an operand below that level
abbrev pub in_parentheses : ℕ → Term → ℕ → ℕ
in_parentheses least a count = if nat_lt (level a) least then count + 2 else count

-- how many tokens the canonical text of an expression has
abbrev pub tokens : Term → ℕ
tokens (Num x) = 1
tokens (Local v) = 1
tokens (Neg a) = 1 + in_parentheses 6 a (tokens a)
tokens (Not a) = 1 + in_parentheses 6 a (tokens a)
tokens (Bin op a b) = in_parentheses (left_level op) a (tokens a) + 1 + in_parentheses (operator_level op + 1) b (tokens b)

-- how many statements are begun at most, where the counts of both branches are added
abbrev mutual
  pub steps_in : Command → ℕ
  steps_in (If e a b) = 1 + (steps a + steps b)
  steps_in (Repeat n body) = 1 + n * steps body
  steps_in _ = 1

  pub steps : Commands → ℕ
  steps End = 0
  steps (Then c rest) = steps_in c + steps rest

abbrev pub is_of : Kind → Command → ℕ
is_of kind.Read (Read v table i) = 1
is_of kind.Write (Write table i e) = 1
is_of kind.Print (Print e) = 1
is_of _ _ = 0

-- how many statements of a kind are run at most: the greater count of two branches, with repeats multiplied out
abbrev mutual
  pub most_in : Kind → Command → ℕ
  most_in k (If e a b) = max (most k a) (most k b)
  most_in k (Repeat n body) = n * most k body
  most_in k c = is_of k c

  pub most : Kind → Commands → ℕ
  most k End = 0
  most k (Then c rest) = most_in k c + most k rest

-- how many blocks stand in one another, with the outermost
abbrev mutual
  pub depth_in : Command → ℕ
  depth_in (If e a b) = max (depth a) (depth b)
  depth_in (Repeat n body) = depth body
  depth_in _ = 0

  pub depth : Commands → ℕ
  depth End = 1
  depth (Then c rest) = max (1 + depth_in c) (depth rest)

-- an outermost expression, among n locals
abbrev pub IsShort : ℕ → Term → Type 0
IsShort n e = UsesBelow e n × (tokens e ≤ LONGEST_EXPRESSION)

-- the numbers of locals, the lengths of expressions and the repeat numbers, among n locals
abbrev mutual
  pub FitsIn : ℕ → Command → Type 0
  FitsIn n (Let v e) = (v < n) × IsShort n e
  FitsIn n (Read v table i) = (v < n) × IsShort n i
  FitsIn n (Write table i e) = IsShort n i × IsShort n e
  FitsIn n (Print e) = IsShort n e
  FitsIn n (If e a b) = IsShort n e × Fits n a × Fits n b
  FitsIn n (Repeat times body) = (times ≤ MOST_TIMES) × Fits n body
  FitsIn n Abort = ⊤

  pub Fits : ℕ → Commands → Type 0
  Fits n End = ⊤
  Fits n (Then c rest) = FitsIn n c × Fits n rest

-- a program with n locals is within the limits
pub record IsWithin (n : ℕ) (body : Commands) : Type 0 where
  pub locals : n ≤ MOST_LOCALS
  pub steps_within : steps body ≤ MOST_STEPS
  pub reads_within : most kind.Read body ≤ MOST_OF_A_KIND
  pub writes_within : most kind.Write body ≤ MOST_OF_A_KIND
  pub prints_within : most kind.Print body ≤ MOST_OF_A_KIND
  pub depth_within : depth body ≤ DEEPEST_BLOCK
  pub each : Fits n body
