-- The names of a block: which program stands for it, and the checks that it passes, in the order in which they are made.
use Rattle.std.specs.Prelude.{◌≡◌, ℕ, ◌||◌, Bool, not, max, nat_lt, List, [], ◌∷◌, ◌++◌, length, map, if◌then◌else◌, Option, Some, None, Result, Ok, Err, pos, All}
use Rattle.std.specs.List.{list_any, position_or_len}
use Rattle.std.specs.Str.{bytes_eq}
use Rattle.txn_lang.specs.declared.limits.TheConstants.{DEEPEST_BLOCK, LONGEST_EXPRESSION, MOST_LOCALS, MOST_OF_A_KIND, MOST_STEPS, MOST_TIMES}
use Rattle.txn_lang.specs.declared.limits.Kind.TheVariants as kind
use Rattle.txn_lang.specs.Tree as lang
use Rattle.txn_lang.specs.Limits.{steps, most}
use Rattle.txn_text.specs.Bytes.{number_value_of}
use Rattle.txn_text.specs.Kinds.{IsOfKind}
use Rattle.txn_text.specs.Tokens.{token_bytes}
use Rattle.txn_text.specs.declared.kinds.Token.{Token}
use Rattle.txn_text.specs.declared.faults.FaultKind.{FaultKind}
use Rattle.txn_text.specs.declared.faults.FaultKind.TheVariants.{UnknownTable, UnknownLocal, ProgramLimit}
use Rattle.txn_text.specs.declared.faults.TextFault.{TextFault}
use Rattle.txn_text.specs.declared.faults.TextFault.TheVariants.{At, NoMemory}
use Rattle.txn_parse.specs.Symbols.{lexemes}
use Rattle.txn_parse.specs.Grammar.{Within, IsBlock}
use Rattle.txn_parse.specs.Tree.{Term, Num, Local, Neg, Not, Bin, Command, Let, Read, Write, Print, If, Repeat, Abort, Commands, End, Then}

-- a check, and the fault where it fails
pub record Check : Type 0 where
  pub fails : Bool
  pub line : ℕ
  pub kind : FaultKind

-- the fault of the first check that fails
abbrev pub first_failing : List Check → Option TextFault
first_failing [] = None
first_failing (c ∷ cs) = if c.fails then Some (At c.line c.kind) else first_failing cs

abbrev pub Names : Type 0
Names = List (List ℕ)

abbrev pub is_known : Names → List ℕ → Bool
is_known names name = list_any (bytes_eq name) names

-- the number of a name: its place among the names, from 0
abbrev pub place : Names → List ℕ → ℕ
place names name = position_or_len (bytes_eq name) names

abbrev pub is_unknown : List ℕ → Names → Token → Bool
is_unknown text names t = not (is_known names (token_bytes text t))

-- a check of each token: its name is among these
abbrev pub known_checks : FaultKind → List ℕ → Names → List Token → List Check
known_checks kind text names tokens =
    map (λ t. record { fails = is_unknown text names t; line = t.line; kind = kind }) tokens

-- the tables of keys, in text order
abbrev mutual
  pub tables_in : Command → List Token
  tables_in (Read v t i) = t ∷ []
  tables_in (Write t i e) = t ∷ []
  tables_in (If e a b) = tables_of a ++ tables_of b
  tables_in (Repeat n body) = tables_of body
  tables_in _ = []

  pub tables_of : Commands → List Token
  tables_of End = []
  tables_of (Then c rest) = tables_in c ++ tables_of rest

-- the locals that an expression uses, in text order
abbrev pub locals_of : Term → List Token
locals_of (Num n) = []
locals_of (Local v) = v ∷ []
locals_of (Neg a) = locals_of a
locals_of (Not a) = locals_of a
locals_of (Bin o a b) = locals_of a ++ locals_of b

-- the names of locals once this one has a place as a target
abbrev pub with_name : List ℕ → Names → Names
with_name name names = if is_known names name then names else names ++ name ∷ []

-- the names of locals behind a statement and behind a block, in the order of their first places as targets
abbrev mutual
  pub names_in : List ℕ → Command → Names → Names
  names_in text (Let v e) names = with_name (token_bytes text v) names
  names_in text (Read v t i) names = with_name (token_bytes text v) names
  names_in text (If e a b) names = names_after text b (names_after text a names)
  names_in text (Repeat n body) names = names_after text body names
  names_in text _ names = names

  pub names_after : List ℕ → Commands → Names → Names
  names_after text End names = names
  names_after text (Then c rest) names = names_after text rest (names_in text c names)

-- each local that an expression uses has a place as a target
abbrev pub used_checks : List ℕ → Names → Term → List Check
used_checks text names e = known_checks UnknownLocal text names (locals_of e)

-- the same for a statement and a block: a target stands before the uses in its own statement
abbrev mutual
  pub local_checks_in : List ℕ → Names → Command → List Check
  local_checks_in text names (Let v e) = used_checks text (with_name (token_bytes text v) names) e
  local_checks_in text names (Read v t i) = used_checks text (with_name (token_bytes text v) names) i
  local_checks_in text names (Write t i e) = used_checks text names i ++ used_checks text names e
  local_checks_in text names (Print e) = used_checks text names e
  local_checks_in text names (If e a b) =
      used_checks text names e ++ (local_checks text names a ++ local_checks text (names_after text a names) b)
  local_checks_in text names (Repeat n body) = local_checks text names body
  local_checks_in text names Abort = []

  pub local_checks : List ℕ → Names → Commands → List Check
  local_checks text names End = []
  local_checks text names (Then c rest) = local_checks_in text names c ++ local_checks text (names_in text c names) rest

abbrev pub number_of : List ℕ → Token → ℕ
number_of text t = number_value_of (token_bytes text t)

-- the greatest repeat number
abbrev mutual
  pub most_times_in : List ℕ → Command → ℕ
  most_times_in text (If e a b) = max (most_times text a) (most_times text b)
  most_times_in text (Repeat n body) = max (number_of text n) (most_times text body)
  most_times_in text _ = 0

  pub most_times : List ℕ → Commands → ℕ
  most_times text End = 0
  most_times text (Then c rest) = max (most_times_in text c) (most_times text rest)

-- names and numbers in place of tokens
abbrev pub bound_term : List ℕ → Names → Term → lang.Term
bound_term text names (Num n) = lang.Num (pos (number_of text n))
bound_term text names (Local v) = lang.Local (place names (token_bytes text v))
bound_term text names (Neg a) = lang.Neg (bound_term text names a)
bound_term text names (Not a) = lang.Not (bound_term text names a)
bound_term text names (Bin o a b) = lang.Bin o (bound_term text names a) (bound_term text names b)

abbrev mutual
  pub bound_in : List ℕ → Names → Names → Command → lang.Command
  bound_in text tables names (Let v e) = lang.Let (place names (token_bytes text v)) (bound_term text names e)
  bound_in text tables names (Read v t i) = lang.Read (place names (token_bytes text v)) (place tables (token_bytes text t)) (bound_term text names i)
  bound_in text tables names (Write t i e) = lang.Write (place tables (token_bytes text t)) (bound_term text names i) (bound_term text names e)
  bound_in text tables names (Print e) = lang.Print (bound_term text names e)
  bound_in text tables names (If e a b) = lang.If (bound_term text names e) (bound text tables names a) (bound text tables names b)
  bound_in text tables names (Repeat n body) = lang.Repeat (number_of text n) (bound text tables names body)
  bound_in text tables names Abort = lang.Abort

  pub bound : List ℕ → Names → Names → Commands → lang.Commands
  bound text tables names End = lang.End
  bound text tables names (Then c rest) = lang.Then (bound_in text tables names c) (bound text tables names rest)

-- the names of a block's locals
abbrev pub names_of : List ℕ → Commands → Names
names_of text body = names_after text body []

-- the body of a block's program
abbrev pub bound_body : List ℕ → Names → Commands → lang.Commands
bound_body text tables body = bound text tables (names_of text body) body

-- locals, statements, reads, writes or prints pass their limits, or a repeat number does
abbrev pub passes_limit : List ℕ → Names → Commands → Bool
passes_limit text tables body =
    nat_lt MOST_LOCALS (length (names_of text body)) ||
    (nat_lt MOST_STEPS (steps (bound_body text tables body)) ||
    (nat_lt MOST_OF_A_KIND (most kind.Read (bound_body text tables body)) ||
    (nat_lt MOST_OF_A_KIND (most kind.Write (bound_body text tables body)) ||
    (nat_lt MOST_OF_A_KIND (most kind.Print (bound_body text tables body)) ||
    nat_lt MOST_TIMES (most_times text body)))))

-- the checks of a block: its tables, then its locals, and then the limits, whose line is that of its first token
abbrev pub table_checks : List ℕ → Names → Commands → List Check
table_checks text tables body = known_checks UnknownTable text tables (tables_of body)

abbrev pub limit_check : List ℕ → Names → Commands → ℕ → Check
limit_check text tables body line = record { fails = passes_limit text tables body; line = line; kind = ProgramLimit }

abbrev pub block_checks : List ℕ → Names → Commands → ℕ → List Check
block_checks text tables body line = table_checks text tables body ++ (local_checks text [] body ++ limit_check text tables body line ∷ [])

-- a block within the limits of the grammar, that stands for tokens of the text
pub record IsParsed (text : List ℕ) (body : Commands) : Type 0 where
  pub tokens : List Token
  pub kinds : All (λ t. IsOfKind t.kind (token_bytes text t)) tokens
  pub derived : IsBlock (Within LONGEST_EXPRESSION DEEPEST_BLOCK) (lexemes text tokens) body

-- what a call that binds a block gave: no check fails, or the fault is that of the first that does
abbrev pub FaultIs : {A : Type 0} → List Check → Result A TextFault → Type 0
FaultIs checks (Ok a) = first_failing checks ≡ None
FaultIs checks (Err (At line kind)) = first_failing checks ≡ Some (At line kind)
FaultIs checks (Err NoMemory) = Unit {0}
