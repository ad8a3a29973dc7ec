-- The tokens of a text.
use Rattle.std.specs.Prelude.{◌≡◌, ℕ, zero, suc, ◌+◌, ◌-◌, ◌==◌, nat_lt, List, [], ◌∷◌, length, take, drop, count_by, take_while, if◌then◌else◌, Result, Ok, Err}
use Rattle.std.specs.List.{prefix_len}
use Rattle.morty_base.specs.declared.script_names.TheConstants.{LONGEST_NAME}
use Rattle.morty_base.specs.ScriptNames.{is_letter, is_digit, is_name_byte, is_reserved}
use Rattle.txn_text.specs.Bytes.{is_blank, is_symbol, is_pair, in_comment, number_of}
use Rattle.txn_text.specs.declared.bytes.TheConstants.{GREATEST_NUMBER}
use Rattle.txn_text.specs.declared.kinds.Token.{Token}
use Rattle.txn_text.specs.declared.kinds.TokenKind.TheVariants.{Name, Word, Number, Sym}
use Rattle.txn_text.specs.declared.faults.FaultKind.TheVariants.{Byte, LongName, Number as TooLarge}
use Rattle.txn_text.specs.declared.faults.TextFault.{TextFault}
use Rattle.txn_text.specs.declared.faults.TextFault.TheVariants.{At, NoMemory}
use Rattle.txn_text.specs.declared.scan.Front.{Front}
use Rattle.txn_text.specs.declared.scan.Front.TheVariants.{Gap, Lexeme, Bad}

-- the line of byte `at`, counted from 1
abbrev pub line_of : List ℕ → ℕ → ℕ
line_of text at = count_by (λ b. b == 10) (take at text) + 1

-- the bytes of a token
abbrev pub token_bytes : List ℕ → Token → List ℕ
token_bytes text token = take (token.end - token.start) (drop token.start text)

-- a run of name bytes is a reserved word or a name, unless it is too long
abbrev pub name_front : List ℕ → Front
name_front name =
    if nat_lt LONGEST_NAME (length name) then Bad LongName
    else Lexeme (if is_reserved name then Word else Name) (length name)

-- a run of digits is a number, unless it is too great
abbrev pub number_front : List ℕ → Front
number_front digits =
    if nat_lt GREATEST_NUMBER (number_of digits) then Bad TooLarge
    else Lexeme Number (length digits)

-- a symbol of one byte
abbrev pub single_front : ℕ → Front
single_front b = if is_symbol b then Lexeme Sym 1 else Bad Byte

-- a symbol, the longer ones first
abbrev pub symbol_front : ℕ → List ℕ → Front
symbol_front b [] = single_front b
symbol_front b (c ∷ bs) = if is_pair b c then Lexeme Sym 2 else single_front b

-- what stands at the front of a text: a blank or a comment, a token, or a fault
unfoldable pub front_of : List ℕ → Front
front_of [] = Gap 0
front_of (b ∷ bs) =
    if is_blank b then Gap 1
    else (if b == 35 then Gap (prefix_len in_comment (b ∷ bs))
    else (if is_letter b then name_front (take_while is_name_byte (b ∷ bs))
    else (if is_digit b then number_front (take_while is_digit (b ∷ bs))
    else symbol_front b bs)))

-- a token in front of further ones
abbrev pub with_first : Token → Result (List Token) TextFault → Result (List Token) TextFault
with_first token (Ok tokens) = Ok (token ∷ tokens)
with_first token (Err fault) = Err fault

-- what stands at byte `at`, in front of what is read behind it
abbrev pub read_on : List ℕ → ℕ → Front → (ℕ → Result (List Token) TextFault) → Result (List Token) TextFault
read_on text at (Gap len) behind = behind (len - 1)
read_on text at (Lexeme kind len) behind =
    with_first (record { kind = kind; start = at; end = at + len; line = line_of text at }) (behind (len - 1))
read_on text at (Bad kind) behind = Err (At (line_of text at) kind)

-- the tokens of `bytes`, which stand in the text from byte `at` on, where the first `past` bytes are not looked at
unfoldable pub tokens_from : List ℕ → List ℕ → ℕ → ℕ → Result (List Token) TextFault
tokens_from text [] at past = Ok []
tokens_from text (b ∷ bs) at (suc past) = tokens_from text bs (at + 1) past
tokens_from text (b ∷ bs) at zero = read_on text at (front_of (b ∷ bs)) (tokens_from text bs (at + 1))

-- the tokens of a text, or the first bad one
abbrev pub tokens_of : List ℕ → Result (List Token) TextFault
tokens_of text = tokens_from text text 0 0

-- a call that reads gave what is meant, unless memory ran out
abbrev pub Gives : {X : Type 0} → Result X TextFault → Result X TextFault → Type 0
Gives (Ok value) meant = meant ≡ Ok value
Gives (Err (At line kind)) meant = meant ≡ Err (At line kind)
Gives (Err NoMemory) meant = Unit {0}
