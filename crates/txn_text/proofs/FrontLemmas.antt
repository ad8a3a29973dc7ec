-- What stands at a front has at least one byte, lies within the text, and holds a line feed only where it is one.
use Rattle.std.proofs.Common.{◌≡◌, ℕ, ◌+◌, ◌<◌, ◌≤◌, ◌==◌, suc, Bool, true, false, cond, List, [], ◌∷◌, length, take, drop, get_or, add-zero, refl, sym, ap, ◌∙◌, subst, arith, zero-add}
use Rattle.std.specs.List.{prefix_len, count_by, take_while}
use Rattle.std.proofs.lemmas.List.{drop_more, length-drop}
use Rattle.std.proofs.lemmas.List.Sums.{prefix_len-le-length, sum_by-cons}
use Rattle.std.proofs.lemmas.List.Folds.{length-prefix_len}
use Rattle.std.proofs.lemmas.Bool.{cond_both, cond-true, cond-false}
use Rattle.std.proofs.lemmas.Bool.Decides.{nat_tests}
use Rattle.morty_base.specs.ScriptNames.{is_letter, is_digit, is_name_byte}
use Rattle.txn_text.specs.Bytes.{is_blank, is_symbol, is_pair, in_comment}
use Rattle.txn_text.specs.Tokens.{front_of, name_front, number_front, single_front, symbol_front}
use Rattle.txn_text.specs.declared.kinds.TokenKind.{TokenKind}
use Rattle.txn_text.specs.declared.kinds.TokenKind.TheVariants.{Number, Sym}
use Rattle.txn_text.specs.declared.faults.FaultKind.TheVariants.{Byte, LongName, Number as TooLarge}
use Rattle.txn_text.specs.declared.scan.Front.{Front}
use Rattle.txn_text.specs.declared.scan.Front.TheVariants.{Gap, Lexeme, Bad}

-- how many line feeds
abbrev pub feeds : List ℕ → ℕ
feeds bytes = count_by (λ b. b == 10) bytes

pub record Lies (n feed : ℕ) (bytes : List ℕ) : Type 0 where
  pub some : 0 < n
  pub within : n ≤ length bytes
  pub lines : feeds (take n bytes) ≡ feed

abbrev pub Fits : Front → List ℕ → Type 0
Fits (Gap n) bytes = Lies n (feeds (take 1 bytes)) bytes
Fits (Lexeme kind n) bytes = Lies n 0 bytes
Fits (Bad kind) bytes = Unit {0}

-- bytes that pass a test which no line feed passes
no_feeds : (p : ℕ → Bool) → ((b : ℕ) → p b ≡ true → (b == 10) ≡ false) → (bytes : List ℕ) → feeds (take (prefix_len p bytes) bytes) ≡ 0
no_feeds p apart [] = refl
no_feeds p apart (b ∷ bs) =
    cond_both (p b) (1 + prefix_len p bs) 0 (λ n. feeds (take n (b ∷ bs)) ≡ 0)
    (λ passes.
    let one : 1 + prefix_len p bs ≡ suc (prefix_len p bs) = omega arith in
    let head : feeds (b ∷ take (prefix_len p bs) bs) ≡ cond (b == 10) 1 0 + feeds (take (prefix_len p bs) bs) = sum_by-cons (λ c. cond (c == 10) 1 0) b (take (prefix_len p bs) bs) in
    ap (λ n. feeds (take n (b ∷ bs))) one ∙ head ∙ ap (λ n. n + feeds (take (prefix_len p bs) bs)) (cond-false (b == 10) 1 0 (apart b passes)) ∙ zero-add _ ∙ no_feeds p apart bs)
    (λ _. refl)

-- a run of bytes that pass a test, of which the first does
run_lies : (p : ℕ → Bool) → ((b : ℕ) → p b ≡ true → (b == 10) ≡ false) → (b : ℕ) (bs : List ℕ) → p b ≡ true → Lies (prefix_len p (b ∷ bs)) 0 (b ∷ bs)
run_lies p apart b bs passes =
    let e : prefix_len p (b ∷ bs) ≡ 1 + prefix_len p bs = cond-true (p b) _ _ passes in
    record {
      some = omega (arith, e);
      within = prefix_len-le-length p (b ∷ bs);
      lines = no_feeds p apart (b ∷ bs);
    }

one_feed : (b : ℕ) (bs : List ℕ) → (b == 10) ≡ false → feeds (take 1 (b ∷ bs)) ≡ 0
one_feed b bs apart = sum_by-cons (λ c. cond (c == 10) 1 0) b [] ∙ ap (λ n. n + 0) (cond-false (b == 10) 1 0 apart)

in_comment_apart : (b : ℕ) → in_comment b ≡ true → (b == 10) ≡ false
in_comment_apart b t = grind (arith, nat_tests)

is_digit_apart : (b : ℕ) → is_digit b ≡ true → (b == 10) ≡ false
is_digit_apart b t = grind (arith, nat_tests)

is_name_byte_apart : (b : ℕ) → is_name_byte b ≡ true → (b == 10) ≡ false
is_name_byte_apart b t = grind (arith, nat_tests)

not_blank_apart : (b : ℕ) → is_blank b ≡ false → (b == 10) ≡ false
not_blank_apart b t = grind (arith, nat_tests)

name_fits : (b : ℕ) (bs : List ℕ) → is_letter b ≡ true → Fits (name_front (take_while is_name_byte (b ∷ bs))) (b ∷ bs)
name_fits b bs letter =
    let len = length-prefix_len is_name_byte (b ∷ bs) in
    let passes : is_name_byte b ≡ true = grind (arith, nat_tests) in
    cond_both _ (Bad LongName) (Lexeme _ (length (take_while is_name_byte (b ∷ bs)))) (λ f. Fits f (b ∷ bs))
    (λ _. tt)
    (λ _. subst (λ n. Lies n 0 (b ∷ bs)) (sym len) (run_lies is_name_byte is_name_byte_apart b bs passes))

number_fits : (b : ℕ) (bs : List ℕ) → is_digit b ≡ true → Fits (number_front (take_while is_digit (b ∷ bs))) (b ∷ bs)
number_fits b bs digit =
    let len = length-prefix_len is_digit (b ∷ bs) in
    cond_both _ (Bad TooLarge) (Lexeme Number (length (take_while is_digit (b ∷ bs)))) (λ f. Fits f (b ∷ bs))
    (λ _. tt)
    (λ _. subst (λ n. Lies n 0 (b ∷ bs)) (sym len) (run_lies is_digit is_digit_apart b bs digit))

single_fits : (b : ℕ) (bs : List ℕ) → (b == 10) ≡ false → Fits (single_front b) (b ∷ bs)
single_fits b bs apart =
    cond_both (is_symbol b) (Lexeme Sym 1) (Bad Byte) (λ f. Fits f (b ∷ bs))
    (λ _. record { some = omega arith; within = omega arith; lines = one_feed b bs apart })
    (λ _. tt)

pair_fits : (b c : ℕ) (bs : List ℕ) → (b == 10) ≡ false → is_pair b c ≡ true → Lies 2 0 (b ∷ c ∷ bs)
pair_fits b c bs apart pair =
    let second : (c == 10) ≡ false = grind (arith, nat_tests) in
    record { some = omega arith; within = omega arith; lines = rw (apart, second) refl }

symbol_fits : (b : ℕ) (bs : List ℕ) → (b == 10) ≡ false → Fits (symbol_front b bs) (b ∷ bs)
symbol_fits b [] apart = single_fits b [] apart
symbol_fits b (c ∷ bs) apart =
    cond_both (is_pair b c) (Lexeme Sym 2) (single_front b) (λ f. Fits f (b ∷ c ∷ bs))
    (λ pair. pair_fits b c bs apart pair)
    (λ _. single_fits b (c ∷ bs) apart)

comment_fits : (b : ℕ) (bs : List ℕ) → (b == 35) ≡ true → Fits (Gap (prefix_len in_comment (b ∷ bs))) (b ∷ bs)
comment_fits b bs mark =
    let apart : (b == 10) ≡ false = grind (arith, nat_tests) in
    let passes : in_comment b ≡ true = grind (arith, nat_tests) in
    subst (λ n. Lies (prefix_len in_comment (b ∷ bs)) n (b ∷ bs)) (sym (one_feed b bs apart)) (run_lies in_comment in_comment_apart b bs passes)

pub front_fits : (b : ℕ) (bs : List ℕ) → Fits (front_of (b ∷ bs)) (b ∷ bs)
unfolding front_of
front_fits b bs =
    let P : Front → Type 0 = λ f. Fits f (b ∷ bs) in
    cond_both (is_blank b) _ _ P
    (λ _. record { some = omega arith; within = omega arith; lines = refl })
    (λ blank. cond_both (b == 35) _ _ P (comment_fits b bs)
    (λ _. cond_both (is_letter b) _ _ P (name_fits b bs)
    (λ _. cond_both (is_digit b) _ _ P (number_fits b bs)
    (λ _. symbol_fits b bs (not_blank_apart b blank)))))

front_fits_at : (text : List ℕ) (at : ℕ) → at < length text → Fits (front_of (drop at text)) (drop at text)
front_fits_at text at within =
    let P : List ℕ → Type 0 = λ bytes. Fits (front_of bytes) bytes in
    subst P (sym (drop_more text at 0 within)) (front_fits (get_or text at 0) (drop (at + 1) text))

one_feed_at : (text : List ℕ) (at : ℕ) → at < length text → feeds (take 1 (drop at text)) ≡ cond (get_or text at 0 == 10) 1 0
one_feed_at text at within =
    ap (λ bytes. feeds (take 1 bytes)) (drop_more text at 0 within) ∙ sum_by-cons (λ c. cond (c == 10) 1 0) (get_or text at 0) [] ∙ add-zero _

-- where what stands at byte `at` ends
pub ends : (text : List ℕ) (at n feed : ℕ) → at < length text → Lies n feed (drop at text) → (at < at + n) × (at + n ≤ length text)
ends text at n feed within lies =
    let len = length-drop at text in
    let some = lies.some in
    let most = lies.within in
    (omega (arith, some), omega (arith, len, most))

pub gap_lies : (text : List ℕ) (at n : ℕ) → at < length text → front_of (drop at text) ≡ Gap n → Lies n (cond (get_or text at 0 == 10) 1 0) (drop at text)
gap_lies text at n within is =
    let P : Front → Type 0 = λ f. Fits f (drop at text) in
    subst (λ feed. Lies n feed (drop at text)) (one_feed_at text at within) (subst P is (front_fits_at text at within))

pub lexeme_lies : (text : List ℕ) (at n : ℕ) (kind : TokenKind) → at < length text → front_of (drop at text) ≡ Lexeme kind n → Lies n 0 (drop at text)
lexeme_lies text at n kind within is =
    let P : Front → Type 0 = λ f. Fits f (drop at text) in
    subst P is (front_fits_at text at within)
