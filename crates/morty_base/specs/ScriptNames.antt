-- The names that a script may give, and the reserved words, which are no names.
use Rattle.std.specs.Prelude.{ℕ, Bool, not, ◌&&◌, ◌||◌, ◌==◌, nat_le, List, [], ◌∷◌, length, slice_index, codes}
use Rattle.std.specs.List.{list_any, list_all}
use Rattle.std.specs.Str.{bytes_eq}
use Rattle.morty_base.specs.declared.script_names.TheConstants.{LONGEST_NAME}

-- a to z
abbrev pub is_letter : ℕ → Bool
is_letter b = nat_le 97 b && nat_le b 122

-- 0 to 9
abbrev pub is_digit : ℕ → Bool
is_digit b = nat_le 48 b && nat_le b 57

-- a letter, a digit or an underscore
abbrev pub is_name_byte : ℕ → Bool
is_name_byte b = is_letter b || is_digit b || b == 95

-- the bytes are one of these words
abbrev pub is_one_of : List (List ℕ) → List ℕ → Bool
is_one_of words bytes = list_any (λ word. bytes_eq word bytes) words

-- the words of settings
unfoldable pub is_setting_word : List ℕ → Bool
is_setting_word = is_one_of (codes "morty" ∷ codes "replicas" ∷ codes "wardens" ∷ codes "tries" ∷ codes "execs" ∷
    codes "gap" ∷ codes "turns" ∷ codes "policy" ∷ codes "rewind" ∷ codes "abort" ∷ [])

-- the words of a script's further items
unfoldable pub is_item_word : List ℕ → Bool
is_item_word = is_one_of (codes "table" ∷ codes "first" ∷ codes "program" ∷ codes "client" ∷ codes "at" ∷ codes "end" ∷ [])

-- the words of nets and lists
unfoldable pub is_net_word : List ℕ → Bool
is_net_word = is_one_of (codes "net" ∷ codes "fair" ∷ codes "seeded" ∷ codes "listed" ∷ codes "late" ∷ codes "repeat" ∷
    codes "hurry" ∷ codes "list" ∷ [])

-- the words of plans
unfoldable pub is_plan_word : List ℕ → Bool
is_plan_word = is_one_of (codes "go" ∷ codes "stop" ∷ codes "deliver" ∷ codes "recover" ∷ codes "truncate" ∷
    codes "wait" ∷ codes "next" ∷ codes "newest" ∷ codes "replica" ∷ codes "warden" ∷ [])

-- the words of statements and expressions
unfoldable pub is_statement_word : List ℕ → Bool
is_statement_word = is_one_of (codes "let" ∷ codes "read" ∷ codes "write" ∷ codes "print" ∷ codes "if" ∷ codes "else" ∷
    codes "and" ∷ codes "or" ∷ codes "not" ∷ codes "sum" ∷ [])

-- a reserved word
unfoldable pub is_reserved : List ℕ → Bool
is_reserved bytes =
    is_setting_word bytes || is_item_word bytes || is_net_word bytes || is_plan_word bytes || is_statement_word bytes

-- a letter and then letters, digits and underscores, not too long, and no reserved word
unfoldable pub is_name : List ℕ → Bool
is_name name =
    is_letter (slice_index name 0) && list_all is_name_byte name && nat_le (length name) LONGEST_NAME &&
    not (is_reserved name)
