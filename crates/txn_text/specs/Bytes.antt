-- The bytes of a script's text.
use Rattle.std.specs.Prelude.{ℕ, Bool, ◌+◌, ◌-◌, ◌*◌, ◌==◌, ◌||◌, ◌&&◌, not, nat_lt, List, codes, fold, if◌then◌else◌}
use Rattle.std.specs.List.{list_any}
use Rattle.txn_text.specs.declared.bytes.TheConstants.{GREATEST_NUMBER}

-- tab, line feed, carriage return and space
abbrev pub is_blank : ℕ → Bool
is_blank b = b == 9 || b == 10 || b == 13 || b == 32

-- any byte but a line feed, which ends a comment
abbrev pub in_comment : ℕ → Bool
in_comment b = not (b == 10)

-- a symbol of one byte
abbrev pub is_symbol : ℕ → Bool
is_symbol b = list_any (λ s. s == b) (codes ";{}()[].+-*/%=<>")

-- a symbol of two bytes: `==`, `!=`, `<=` or `>=`
abbrev pub is_pair : ℕ → ℕ → Bool
is_pair b c = c == 61 && (b == 61 || b == 33 || b == 60 || b == 62)

-- the number that digits stand for, the highest first
abbrev pub number_of : List ℕ → ℕ
number_of digits = fold (λ n b. n * 10 + (b - 48)) 0 digits

-- the number that a token's digits stand for; those of a larger number stand in no token, and count as 0
abbrev pub number_value_of : List ℕ → ℕ
number_value_of digits = if nat_lt GREATEST_NUMBER (number_of digits) then 0 else number_of digits
