-- The text of pieces has tokens with their kinds and bytes.
use Rattle.std.proofs.Common.{◌≡◌, ℕ, ◌+◌, ◌-◌, ◌*◌, ◌/◌, ◌%◌, ◌<◌, ◌≤◌, ◌==◌, ◌&&◌, ◌||◌, not, Bool, true, false, List, [], ◌∷◌, ◌++◌, length, take, drop, refl, sym, ap, ◌∙◌, subst, arith, ⊎_elim}
use Rattle.std.specs.Prelude.{codes, decimal}
use Rattle.std.specs.List.{list_all}
use Rattle.std.proofs.lemmas.List.{append_assoc, length-append, take_at, drop_at, drop-drop}
use Rattle.std.proofs.lemmas.List.Folds.{list_all-append}
use Rattle.std.proofs.lemmas.List.Sums.{fold-append}
use Rattle.std.proofs.lemmas.Fmt.{decimal_by_steps, decimal_nonempty}
use Rattle.std.proofs.lemmas.Bool.{cases_Bool, and_parts, and_from, and_left, and_right}
use Rattle.std.proofs.lemmas.Bool.Decides.{nat_tests}
use Rattle.morty_base.specs.ScriptNames.{is_digit, is_name_byte, is_name, is_reserved, is_setting_word, is_item_word, is_net_word, is_plan_word, is_statement_word}
use Rattle.txn_text.specs.Bytes.{number_of}
use Rattle.txn_text.specs.declared.bytes.TheConstants.{GREATEST_NUMBER}
use Rattle.txn_text.specs.declared.kinds.Token.{Token}
use Rattle.txn_text.specs.declared.kinds.TokenKind.{TokenKind}
use Rattle.txn_text.specs.declared.kinds.TokenKind.TheVariants as kind
use Rattle.txn_text.specs.Tokens.{line_of}
use Rattle.txn_text.specs.Kinds.{IsOfKind}
use Rattle.txn_text.specs.Layout.{StopsAt, IsLaidOutFrom, blank, piece}
use Rattle.txn_text.proofs.LayoutLemmas.{one_passes}
use Rattle.txn_print.specs.Piece.{Piece, Word, Name, Number, Symbol, Sign, bytes_of, is_close, is_open, gap, text_of}
use Rattle.txn_print.specs.Spelling.{kind_of, SpellAll, IsPiece, ArePieces}

-- a byte that goes on no name, no number and no symbol
abbrev breaks : ℕ → Bool
breaks c = not (is_name_byte c) && not (c == 61)

-- what follows begins with such a byte, if with any
abbrev pub begins_break : List ℕ → Bool
begins_break [] = true
begins_break (c ∷ cs) = breaks c

from_not : (x : Bool) → not x ≡ true → x ≡ false
from_not true e = cc
from_not false e = refl

no_digit : (c : ℕ) → is_name_byte c ≡ false → is_digit c ≡ false
no_digit c apart = grind (arith, nat_tests)

stops_break : (kind : TokenKind) (p rest : List ℕ) → begins_break rest ≡ true → StopsAt kind p rest
stops_break kind.Name p [] is = tt
stops_break kind.Word p [] is = tt
stops_break kind.Number p [] is = tt
stops_break kind.Sym p [] is = tt
stops_break kind.Name p (c ∷ cs) is = from_not (is_name_byte c) (and_parts (not (is_name_byte c)) (not (c == 61)) is).0
stops_break kind.Word p (c ∷ cs) is = from_not (is_name_byte c) (and_parts (not (is_name_byte c)) (not (c == 61)) is).0
stops_break kind.Number p (c ∷ cs) is = no_digit c (from_not (is_name_byte c) (and_parts (not (is_name_byte c)) (not (c == 61)) is).0)
stops_break kind.Sym [] (c ∷ cs) is = tt
stops_break kind.Sym (b ∷ []) (c ∷ cs) is = and_left (c == 61) (b == 61 || b == 33 || b == 60 || b == 62) (from_not (c == 61) (and_parts (not (is_name_byte c)) (not (c == 61)) is).1)
stops_break kind.Sym (b ∷ d ∷ ds) (c ∷ cs) is = tt

-- a symbol of one byte that makes no symbol of two with any byte
abbrev stands_alone : List ℕ → Bool
stands_alone [] = false
stands_alone (b ∷ []) = not (b == 61 || b == 33 || b == 60 || b == 62)
stands_alone (b ∷ c ∷ cs) = false

alone_stops : (p rest : List ℕ) → stands_alone p ≡ true → StopsAt kind.Sym p rest
alone_stops [] rest is = cc
alone_stops (b ∷ []) [] is = tt
alone_stops (b ∷ []) (c ∷ cs) is = and_right (c == 61) (b == 61 || b == 33 || b == 60 || b == 62) (from_not (b == 61 || b == 33 || b == 60 || b == 62) is)
alone_stops (b ∷ d ∷ ds) rest is = cc

open_stops : (x : Piece) (rest : List ℕ) → is_open x ≡ true → StopsAt (kind_of x) (bytes_of x) rest
open_stops (Word w) rest is = cc
open_stops (Name n) rest is = cc
open_stops (Number n) rest is = cc
open_stops (Symbol s) rest is = alone_stops s rest (one_passes stands_alone (codes "(" ∷ codes "[" ∷ codes "." ∷ []) s refl is)
open_stops Sign rest is = alone_stops (codes "-") rest refl

-- some bytes, of which the first goes on nothing
abbrev breaks_off : List ℕ → Bool
breaks_off [] = false
breaks_off (c ∷ cs) = breaks c

off_begins : (s rest : List ℕ) → breaks_off s ≡ true → begins_break (s ++ rest) ≡ true
off_begins [] rest is = cc
off_begins (c ∷ cs) rest is = is

close_begins : (y : Piece) (rest : List ℕ) → is_close y ≡ true → begins_break (bytes_of y ++ rest) ≡ true
close_begins (Word w) rest is = cc
close_begins (Name n) rest is = cc
close_begins (Number n) rest is = cc
close_begins (Symbol s) rest is = off_begins s rest (one_passes breaks_off (codes ";" ∷ codes "[" ∷ codes "]" ∷ codes ")" ∷ codes "." ∷ []) s refl is)
close_begins Sign rest is = cc

next_begins : (g : Bool) (y : Piece) (more rest : List ℕ) → g ≡ is_close y → begins_break ((gap g ++ bytes_of y ++ more) ++ rest) ≡ true
next_begins true y more rest is = ap begins_break (append_assoc (bytes_of y) more rest) ∙ close_begins y (more ++ rest) (sym is)
next_begins false y more rest is = refl

stops : (x : Piece) (pieces : List Piece) (rest : List ℕ) → begins_break rest ≡ true → StopsAt (kind_of x) (bytes_of x) (text_of (is_open x) pieces ++ rest)
unfolding text_of
stops x [] rest is = stops_break (kind_of x) (bytes_of x) rest is
stops x (y ∷ ys) rest is =
    ⊎_elim
    (λ yes. open_stops x (text_of (is_open x) (y ∷ ys) ++ rest) yes)
    (λ no. stops_break (kind_of x) (bytes_of x) (text_of (is_open x) (y ∷ ys) ++ rest) (next_begins (is_open x || is_close y) y (text_of (is_open y) ys) rest (ap (λ b. b || is_close y) no)))
    (cases_Bool (is_open x))

-- the digits of a number stand for it
abbrev value : ℕ → ℕ → ℕ
value n b = n * 10 + (b - 48)

pub record IsDecimal (n : ℕ) (digits : List ℕ) : Type 0 where
  pub all : list_all is_digit digits ≡ true
  pub same : number_of digits ≡ n

a_digit : (d : ℕ) → d < 10 → is_digit (48 + d) ≡ true
a_digit d low = grind (arith, nat_tests)

one_digit : (n : ℕ) → n < 10 → IsDecimal n ((48 + n) ∷ [])
one_digit n low = record { all = and_from (is_digit (48 + n)) true (a_digit n low) refl; same = omega arith }

more_digits : (n : ℕ) (ds : List ℕ) → 10 ≤ n → IsDecimal (n / 10) ds → IsDecimal n (ds ++ ((48 + n % 10) ∷ []))
more_digits n ds most is = record {
  all = list_all-append is_digit ds ((48 + n % 10) ∷ []) ∙ and_from (list_all is_digit ds) (is_digit (48 + n % 10) && true) is.all (and_from (is_digit (48 + n % 10)) true (a_digit (n % 10) (omega arith)) refl);
  same = fold-append value 0 ds ((48 + n % 10) ∷ []) ∙ (let e = is.same in let f : number_of ds * 10 + (48 + n % 10 - 48) ≡ n = omega (arith, e) in f);
}

pub decimal_is : (n : ℕ) → n ≤ GREATEST_NUMBER → IsDecimal n (decimal n)
decimal_is n small = decimal_by_steps IsDecimal one_digit more_digits n (omega (arith, small))

pub number-decimal : (n : ℕ) → n ≤ GREATEST_NUMBER → number_of (decimal n) ≡ n
number-decimal n small = (decimal_is n small).same

symbol_some : (s : List ℕ) → IsOfKind kind.Sym s → 0 < length s
symbol_some [] is = absurd is
symbol_some (b ∷ bs) is = omega arith

name_some : (s : List ℕ) → IsOfKind kind.Name s → 0 < length s
unfolding is_name
name_some [] is = cc
name_some (b ∷ bs) is = omega arith

word_some : (s : List ℕ) → IsOfKind kind.Word s → 0 < length s
unfolding is_reserved is_setting_word is_item_word is_net_word is_plan_word is_statement_word
word_some [] is = cc
word_some (b ∷ bs) is = omega arith

of_kind : (x : Piece) → IsPiece x → IsOfKind (kind_of x) (bytes_of x)
of_kind (Word w) is = is
of_kind (Name n) is = is
of_kind (Number n) is = let d = decimal_is n is in let e = d.same in record { all = d.all; small = omega (arith, e, is) }
of_kind (Symbol s) is = is
of_kind Sign is = refl

some_bytes : (x : Piece) → IsPiece x → 0 < length (bytes_of x)
some_bytes (Word w) is = word_some w is
some_bytes (Name n) is = name_some n is
some_bytes (Number n) is = decimal_nonempty n (omega (arith, is))
some_bytes (Symbol s) is = symbol_some s is
some_bytes Sign is = omega arith

-- the tokens of pieces that stand in the text, in front of further ones
pub record AreLaid (text : List ℕ) (at : ℕ) (pieces : List Piece) (more : List Token) : Type 0 where
  pub tokens : List Token
  pub laid : IsLaidOutFrom text at (tokens ++ more)
  pub spelled : SpellAll text pieces tokens

-- one piece in front of others
piece_laid : (text : List ℕ) (at : ℕ) (x : Piece) (xs : List Piece) (behind : List ℕ) (more : List Token) → drop at text ≡ bytes_of x ++ behind → IsPiece x →
    StopsAt (kind_of x) (bytes_of x) behind → AreLaid text (at + length (bytes_of x)) xs more → AreLaid text at (x ∷ xs) more
piece_laid text at x xs behind more here is stops rest =
    let token : Token = record { kind = kind_of x; start = at; end = at + length (bytes_of x); line = line_of text at } in
    let long : length (bytes_of x) ≡ at + length (bytes_of x) - at = omega arith in
    record {
      tokens = token ∷ rest.tokens;
      laid = piece at (kind_of x) (bytes_of x) behind (rest.tokens ++ more) here (some_bytes x is) (of_kind x is) stops rest.laid;
      spelled = (record { kind = refl; bytes = ap (take (at + length (bytes_of x) - at)) here ∙ take_at (bytes_of x) behind (at + length (bytes_of x) - at) long }, rest.spelled);
    }

behind_bytes : (text : List ℕ) (at : ℕ) (bs rest : List ℕ) → drop at text ≡ bs ++ rest → drop (at + length bs) text ≡ rest
behind_bytes text at bs rest here =
    ap (λ n. drop n text) (let e : at + length bs ≡ length bs + at = omega arith in e) ∙ sym (drop-drop (length bs) at text ∙ ap (λ n. drop n text) (let e : at + length bs ≡ length bs + at = omega arith in e)) ∙ ap (drop (length bs)) here ∙ drop_at bs rest (length bs) refl

-- where the text of further pieces lies there, that of one more does
one_laid : (text : List ℕ) (x : Piece) (xs : List Piece) (joined : Bool) (at end : ℕ) (tail : List ℕ) (more : List Token) → IsPiece x →
    drop at text ≡ text_of joined (x ∷ xs) ++ tail → begins_break tail ≡ true → end ≡ at + length (text_of joined (x ∷ xs)) →
    ((from : ℕ) → drop from text ≡ text_of (is_open x) xs ++ tail → end ≡ from + length (text_of (is_open x) xs) → AreLaid text from xs more) → AreLaid text at (x ∷ xs) more
unfolding text_of
one_laid text x xs joined at end tail more is here off reach others = go (joined || is_close x) here reach
  where
    from : (at : ℕ) → drop at text ≡ bytes_of x ++ (text_of (is_open x) xs ++ tail) → end ≡ at + (length (bytes_of x) + length (text_of (is_open x) xs)) → AreLaid text at (x ∷ xs) more
    from at here reach =
        piece_laid text at x xs (text_of (is_open x) xs ++ tail) more here is (stops x xs tail off)
        (others (at + length (bytes_of x)) (behind_bytes text at (bytes_of x) (text_of (is_open x) xs ++ tail) here) (omega (arith, reach)))

    go : (g : Bool) → drop at text ≡ (gap g ++ bytes_of x ++ text_of (is_open x) xs) ++ tail → end ≡ at + length (gap g ++ bytes_of x ++ text_of (is_open x) xs) → AreLaid text at (x ∷ xs) more
    go true here reach =
        let len = length-append (bytes_of x) (text_of (is_open x) xs) in
        from at (here ∙ append_assoc (bytes_of x) (text_of (is_open x) xs) tail) (omega (arith, reach, len))
    go false here reach =
        let len = length-append (bytes_of x) (text_of (is_open x) xs) in
        let split : drop at text ≡ 32 ∷ (bytes_of x ++ (text_of (is_open x) xs ++ tail)) = here ∙ ap (λ l. 32 ∷ l) (append_assoc (bytes_of x) (text_of (is_open x) xs) tail) in
        let one = from (at + 1) (behind_bytes text at (32 ∷ []) (bytes_of x ++ (text_of (is_open x) xs ++ tail)) split) (omega (arith, reach, len)) in
        record { tokens = one.tokens; laid = blank at 32 (bytes_of x ++ (text_of (is_open x) xs ++ tail)) (one.tokens ++ more) split refl one.laid; spelled = one.spelled }

pub are_laid : (text : List ℕ) (pieces : List Piece) (joined : Bool) (at end : ℕ) (tail : List ℕ) (more : List Token) → ArePieces pieces → drop at text ≡ text_of joined pieces ++ tail →
    begins_break tail ≡ true → end ≡ at + length (text_of joined pieces) → IsLaidOutFrom text end more → AreLaid text at pieces more
unfolding text_of
are_laid text [] joined at end tail more are here off reach rest =
    record { tokens = []; laid = subst (λ n. IsLaidOutFrom text n more) (let e : end ≡ at = omega (arith, reach) in e) rest; spelled = tt }
are_laid text (x ∷ xs) joined at end tail more are here off reach rest =
    one_laid text x xs joined at end tail more are.0 here off reach (λ from begins ends. are_laid text xs (is_open x) from end tail more are.1 begins off ends rest)
