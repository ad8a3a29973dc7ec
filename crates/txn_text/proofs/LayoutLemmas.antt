-- Tokens that lie in a text as gaps and pieces are those that are read.
use Rattle.std.proofs.Common.{◌≡◌, ℕ, suc, ◌+◌, ◌<◌, ◌==◌, ◌&&◌, ◌||◌, not, leb, ltb, Bool, true, false, cond, List, [], ◌∷◌, ◌++◌, length, take, drop, get_or, Ok, refl, sym, ap, ◌∙◌, arith, ⊎_elim}
use Rattle.std.specs.Prelude.{codes}
use Rattle.std.specs.List.{list_all, list_any, take_while, prefix_len}
use Rattle.std.specs.Str.{bytes_eq}
use Rattle.std.proofs.lemmas.List.{length-append, length-drop, take_at}
use Rattle.std.proofs.lemmas.Bool.{cond-true, cond-false, le-ltb, leb-true, eqb-true, and_parts, and_from, or_cases}
use Rattle.std.proofs.lemmas.Bool.Decides.{nat_tests}
use Rattle.std.proofs.lemmas.Slice.Eq.{bytes_eq-Decides}
use Rattle.morty_base.specs.declared.script_names.TheConstants.{LONGEST_NAME}
use Rattle.morty_base.specs.ScriptNames.{is_letter, is_digit, is_name_byte, is_one_of, is_setting_word, is_item_word, is_net_word, is_plan_word, is_statement_word, is_reserved, is_name}
use Rattle.txn_text.specs.Bytes.{is_blank, is_symbol, is_pair, in_comment, number_of}
use Rattle.txn_text.specs.declared.bytes.TheConstants.{GREATEST_NUMBER}
use Rattle.txn_text.specs.Tokens.{front_of, name_front, number_front, symbol_front, line_of, with_first}
use Rattle.txn_text.specs.Kinds.{IsOfKind, IsNumber}
use Rattle.txn_text.specs.Layout.{StopsAt, EndsComment, IsLaidOutFrom, ended, blank, comment, piece, LaidOutIsRead}
use Rattle.txn_text.specs.declared.kinds.Token.{Token}
use Rattle.txn_text.specs.declared.kinds.TokenKind.{TokenKind}
use Rattle.txn_text.specs.declared.kinds.TokenKind.TheVariants.{Name, Word, Number, Sym}
use Rattle.txn_text.specs.declared.scan.Front.TheVariants.{Gap, Lexeme}
use Rattle.txn_text.proofs.TokensLemmas.{from_byte, gap_step, lexeme_step, at_end}

from_not : (x : Bool) → not x ≡ true → x ≡ false
from_not true e = cc
from_not false e = refl

-- behind bytes that pass a test none does that does
abbrev Stops : (ℕ → Bool) → List ℕ → Type 0
Stops p [] = Unit {0}
Stops p (c ∷ cs) = p c ≡ false

-- the run of bytes that pass a test
run_len : (p : ℕ → Bool) (xs rest : List ℕ) → list_all p xs ≡ true → Stops p rest → prefix_len p (xs ++ rest) ≡ length xs
run_len p [] [] all stops = refl
run_len p [] (c ∷ cs) all stops = cond-false (p c) (1 + prefix_len p cs) 0 stops
run_len p (x ∷ xs) rest all stops =
    let parts = and_parts (p x) (list_all p xs) all in
    let more = run_len p xs rest parts.1 stops in
    cond-true (p x) (1 + prefix_len p (xs ++ rest)) 0 parts.0 ∙ (let e : 1 + prefix_len p (xs ++ rest) ≡ suc (length xs) = omega (arith, more) in e)

run_of : (p : ℕ → Bool) (xs rest : List ℕ) → list_all p xs ≡ true → Stops p rest → take_while p (xs ++ rest) ≡ xs
run_of p xs rest all stops = ap (λ n. take n (xs ++ rest)) (run_len p xs rest all stops) ∙ take_at xs rest (length xs) refl

-- what is one of some words passes a test that they all pass
pub one_passes : (good : List ℕ → Bool) (words : List (List ℕ)) (bytes : List ℕ) → list_all good words ≡ true → is_one_of words bytes ≡ true → good bytes ≡ true
one_passes good [] bytes all one = cc
one_passes good (w ∷ ws) bytes all one =
    let parts = and_parts (good w) (list_all good ws) all in
    ⊎_elim
    (λ is. ap good (sym ((bytes_eq-Decides w bytes).0 is)) ∙ parts.0)
    (λ more. one_passes good ws bytes parts.1 more)
    (or_cases (bytes_eq w bytes) (is_one_of ws bytes) one)

byte_passes : (good : ℕ → Bool) (bs : List ℕ) (b : ℕ) → list_all good bs ≡ true → list_any (λ s. s == b) bs ≡ true → good b ≡ true
byte_passes good [] b all one = cc
byte_passes good (x ∷ xs) b all one =
    let parts = and_parts (good x) (list_all good xs) all in
    ⊎_elim
    (λ is. ap good (sym (eqb-true x b is)) ∙ parts.0)
    (λ more. byte_passes good xs b parts.1 more)
    (or_cases (x == b) (list_any (λ s. s == b) xs) one)

-- a letter and then name bytes, not too many
abbrev is_wordlike : List ℕ → Bool
is_wordlike bytes = is_letter (get_or bytes 0 0) && (list_all is_name_byte bytes && leb (length bytes) LONGEST_NAME)

setting_wordlike : (bytes : List ℕ) → is_setting_word bytes ≡ true → is_wordlike bytes ≡ true
unfolding is_setting_word
setting_wordlike bytes one =
    one_passes is_wordlike (codes "morty" ∷ codes "replicas" ∷ codes "wardens" ∷ codes "tries" ∷ codes "execs" ∷ codes "gap" ∷ codes "turns" ∷ codes "policy" ∷ codes "rewind" ∷ codes "abort" ∷ []) bytes refl one

item_wordlike : (bytes : List ℕ) → is_item_word bytes ≡ true → is_wordlike bytes ≡ true
unfolding is_item_word
item_wordlike bytes one =
    one_passes is_wordlike (codes "table" ∷ codes "first" ∷ codes "program" ∷ codes "client" ∷ codes "at" ∷ codes "end" ∷ []) bytes refl one

net_wordlike : (bytes : List ℕ) → is_net_word bytes ≡ true → is_wordlike bytes ≡ true
unfolding is_net_word
net_wordlike bytes one =
    one_passes is_wordlike (codes "net" ∷ codes "fair" ∷ codes "seeded" ∷ codes "listed" ∷ codes "late" ∷ codes "repeat" ∷ codes "hurry" ∷ codes "list" ∷ []) bytes refl one

plan_wordlike : (bytes : List ℕ) → is_plan_word bytes ≡ true → is_wordlike bytes ≡ true
unfolding is_plan_word
plan_wordlike bytes one =
    one_passes is_wordlike (codes "go" ∷ codes "stop" ∷ codes "deliver" ∷ codes "recover" ∷ codes "truncate" ∷ codes "wait" ∷ codes "next" ∷ codes "newest" ∷ codes "replica" ∷ codes "warden" ∷ []) bytes refl one

statement_wordlike : (bytes : List ℕ) → is_statement_word bytes ≡ true → is_wordlike bytes ≡ true
unfolding is_statement_word
statement_wordlike bytes one =
    one_passes is_wordlike (codes "let" ∷ codes "read" ∷ codes "write" ∷ codes "print" ∷ codes "if" ∷ codes "else" ∷ codes "and" ∷ codes "or" ∷ codes "not" ∷ codes "sum" ∷ []) bytes refl one

reserved_wordlike : (bytes : List ℕ) → is_reserved bytes ≡ true → is_wordlike bytes ≡ true
unfolding is_reserved
reserved_wordlike bytes one =
    ⊎_elim
    (λ a. ⊎_elim
    (λ b. ⊎_elim
    (λ d. ⊎_elim (setting_wordlike bytes) (item_wordlike bytes) (or_cases (is_setting_word bytes) (is_item_word bytes) d))
    (net_wordlike bytes)
    (or_cases (is_setting_word bytes || is_item_word bytes) (is_net_word bytes) b))
    (plan_wordlike bytes)
    (or_cases (is_setting_word bytes || is_item_word bytes || is_net_word bytes) (is_plan_word bytes) a))
    (statement_wordlike bytes)
    (or_cases (is_setting_word bytes || is_item_word bytes || is_net_word bytes || is_plan_word bytes) (is_statement_word bytes) one)

-- what stands at the front of a piece with what follows it
name_front_at : (b : ℕ) (bs rest : List ℕ) → is_wordlike (b ∷ bs) ≡ true → Stops is_name_byte rest →
    front_of (b ∷ (bs ++ rest)) ≡ Lexeme (cond (is_reserved (b ∷ bs)) Word Name) (length (b ∷ bs))
unfolding front_of
name_front_at b bs rest like stops =
    let first = and_parts (is_letter b) _ like in
    let second = and_parts (list_all is_name_byte (b ∷ bs)) (leb (length (b ∷ bs)) LONGEST_NAME) first.1 in
    let letter : is_letter b ≡ true = first.0 in
    let solid : is_blank b ≡ false = grind (arith, nat_tests) in
    let unmarked : (b == 35) ≡ false = grind (arith, nat_tests) in
    cond-false (is_blank b) _ _ solid ∙ cond-false (b == 35) _ _ unmarked ∙ cond-true (is_letter b) _ _ letter
    ∙ ap name_front (run_of is_name_byte (b ∷ bs) rest second.0 stops)
    ∙ cond-false (ltb LONGEST_NAME (length (b ∷ bs))) _ _ (le-ltb LONGEST_NAME (length (b ∷ bs)) (leb-true (length (b ∷ bs)) LONGEST_NAME second.1))

number_front_at : (b : ℕ) (bs rest : List ℕ) → IsNumber (b ∷ bs) → Stops is_digit rest → front_of (b ∷ (bs ++ rest)) ≡ Lexeme Number (length (b ∷ bs))
unfolding front_of
number_front_at b bs rest is stops =
    let digit : is_digit b ≡ true = (and_parts (is_digit b) _ is.all).0 in
    let solid : is_blank b ≡ false = grind (arith, nat_tests) in
    let unmarked : (b == 35) ≡ false = grind (arith, nat_tests) in
    let no_letter : is_letter b ≡ false = grind (arith, nat_tests) in
    cond-false (is_blank b) _ _ solid ∙ cond-false (b == 35) _ _ unmarked ∙ cond-false (is_letter b) _ _ no_letter ∙ cond-true (is_digit b) _ _ digit
    ∙ ap number_front (run_of is_digit (b ∷ bs) rest is.all stops)
    ∙ cond-false (ltb GREATEST_NUMBER (number_of (b ∷ bs))) _ _ (le-ltb GREATEST_NUMBER (number_of (b ∷ bs)) is.small)

-- a byte that begins no gap, no name and no number
abbrev is_mark : ℕ → Bool
is_mark b = not (is_blank b) && (not (b == 35) && (not (is_letter b) && not (is_digit b)))

mark_front_at : (b : ℕ) (rest : List ℕ) → is_mark b ≡ true → front_of (b ∷ rest) ≡ symbol_front b rest
unfolding front_of
mark_front_at b rest mark =
    let first = and_parts (not (is_blank b)) _ mark in
    let second = and_parts (not (b == 35)) _ first.1 in
    let third = and_parts (not (is_letter b)) (not (is_digit b)) second.1 in
    cond-false (is_blank b) _ _ (from_not (is_blank b) first.0) ∙ cond-false (b == 35) _ _ (from_not (b == 35) second.0)
    ∙ cond-false (is_letter b) _ _ (from_not (is_letter b) third.0) ∙ cond-false (is_digit b) _ _ (from_not (is_digit b) third.1)

symbol_mark : (b : ℕ) → is_symbol b ≡ true → is_mark b ≡ true
symbol_mark b one = byte_passes is_mark (codes ";{}()[].+-*/%=<>") b refl one

pair_mark : (b c : ℕ) → is_pair b c ≡ true → is_mark b ≡ true
pair_mark b c pair =
    let parts = and_parts (c == 61) (b == 61 || b == 33 || b == 60 || b == 62) pair in
    byte_passes is_mark (61 ∷ 33 ∷ 60 ∷ 62 ∷ []) b refl (one_of parts.1)
  where
    one_of : (b == 61 || b == 33 || b == 60 || b == 62) ≡ true → list_any (λ s. s == b) (61 ∷ 33 ∷ 60 ∷ 62 ∷ []) ≡ true
    one_of e = grind (arith, nat_tests)

symbol_front_at : (p rest : List ℕ) → IsOfKind Sym p → StopsAt Sym p rest → front_of (p ++ rest) ≡ Lexeme Sym (length p)
symbol_front_at [] rest is stops = absurd is
symbol_front_at (b ∷ []) [] is stops = mark_front_at b [] (symbol_mark b is) ∙ cond-true (is_symbol b) _ _ is
symbol_front_at (b ∷ []) (c ∷ cs) is stops = mark_front_at b (c ∷ cs) (symbol_mark b is) ∙ cond-false (is_pair b c) _ _ stops ∙ cond-true (is_symbol b) _ _ is
symbol_front_at (b ∷ c ∷ []) rest is stops = mark_front_at b (c ∷ rest) (pair_mark b c is) ∙ cond-true (is_pair b c) _ _ is
symbol_front_at (b ∷ c ∷ d ∷ ds) rest is stops = absurd is

word_stops : (p rest : List ℕ) → StopsAt Word p rest → Stops is_name_byte rest
word_stops p [] stops = tt
word_stops p (c ∷ cs) stops = stops

name_stops : (p rest : List ℕ) → StopsAt Name p rest → Stops is_name_byte rest
name_stops p [] stops = tt
name_stops p (c ∷ cs) stops = stops

number_stops : (p rest : List ℕ) → StopsAt Number p rest → Stops is_digit rest
number_stops p [] stops = tt
number_stops p (c ∷ cs) stops = stops

name_parts : (name : List ℕ) → is_name name ≡ true → (is_wordlike name ≡ true) × (is_reserved name ≡ false)
unfolding is_name
name_parts name is =
    let first = and_parts (is_letter (get_or name 0 0) && list_all is_name_byte name && leb (length name) LONGEST_NAME) (not (is_reserved name)) is in
    let second = and_parts (is_letter (get_or name 0 0) && list_all is_name_byte name) (leb (length name) LONGEST_NAME) first.0 in
    let third = and_parts (is_letter (get_or name 0 0)) (list_all is_name_byte name) second.0 in
    (and_from _ _ third.0 (and_from _ _ third.1 second.1), from_not (is_reserved name) first.1)

pub front_at_piece : (kind : TokenKind) (p rest : List ℕ) → 0 < length p → IsOfKind kind p → StopsAt kind p rest → front_of (p ++ rest) ≡ Lexeme kind (length p)
front_at_piece kind [] rest some is stops = absurd (omega (arith, some))
front_at_piece Name (b ∷ bs) rest some is stops =
    let parts = name_parts (b ∷ bs) is in
    name_front_at b bs rest parts.0 (name_stops (b ∷ bs) rest stops) ∙ ap (λ k. Lexeme k (length (b ∷ bs))) (cond-false (is_reserved (b ∷ bs)) Word Name parts.1)
front_at_piece Word (b ∷ bs) rest some is stops =
    name_front_at b bs rest (reserved_wordlike (b ∷ bs) is) (word_stops (b ∷ bs) rest stops) ∙ ap (λ k. Lexeme k (length (b ∷ bs))) (cond-true (is_reserved (b ∷ bs)) Word Name is)
front_at_piece Number (b ∷ bs) rest some is stops = number_front_at b bs rest is (number_stops (b ∷ bs) rest stops)
front_at_piece Sym (b ∷ bs) rest some is stops = symbol_front_at (b ∷ bs) rest is stops

blank_front : (b : ℕ) (rest : List ℕ) → is_blank b ≡ true → front_of (b ∷ rest) ≡ Gap 1
unfolding front_of
blank_front b rest is = cond-true (is_blank b) _ _ is

comment_front : (words rest : List ℕ) → list_all in_comment words ≡ true → EndsComment rest → front_of (35 ∷ (words ++ rest)) ≡ Gap (length words + 1)
unfolding front_of
comment_front words rest all ends = ap Gap (let run = run_len in_comment words rest all (stops rest ends) in let e : 1 + prefix_len in_comment (words ++ rest) ≡ length words + 1 = omega (arith, run) in e)
  where
    stops : (rest : List ℕ) → EndsComment rest → Stops in_comment rest
    stops [] ends = tt
    stops (c ∷ cs) ends = ends

-- what is dropped to some bytes leaves some
not_past : (text : List ℕ) (at b : ℕ) (bs : List ℕ) → drop at text ≡ b ∷ bs → at < length text
not_past text at b bs is = let len = length-drop at text in let some = ap length is in omega (arith, len, some)

piece_not_past : (text : List ℕ) (at : ℕ) (p bs : List ℕ) → drop at text ≡ p ++ bs → 0 < length p → at < length text
piece_not_past text at p bs is some = let len = length-drop at text in let all = ap length is in let sum = length-append p bs in omega (arith, len, all, sum, some)

read_from : (text : List ℕ) {at : ℕ} {tokens : List Token} → IsLaidOutFrom text at tokens → from_byte text at ≡ Ok tokens
read_from text (ended at over) = at_end text at over
read_from text (blank at b behind tokens is passes more) =
    gap_step text at 1 (not_past text at b behind is) (ap front_of is ∙ blank_front b behind passes) (omega arith) ∙ read_from text more
read_from text (comment at words behind tokens is all ends more) =
    gap_step text at (length words + 1) (not_past text at 35 (words ++ behind) is) (ap front_of is ∙ comment_front words behind all ends) (omega arith) ∙ read_from text more
read_from text (piece at kind bytes behind tokens is some of_kind stops more) =
    lexeme_step text at (length bytes) kind (piece_not_past text at bytes behind is some) (ap front_of is ∙ front_at_piece kind bytes behind some of_kind stops) some
    ∙ ap (with_first (record { kind = kind; start = at; end = at + length bytes; line = line_of text at })) (read_from text more)

pub laid_out_is_read : LaidOutIsRead
laid_out_is_read text tokens is = read_from text is
