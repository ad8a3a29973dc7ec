-- The tokens of a text lie in it in order, and their bytes are of their kinds.
use Rattle.std.proofs.Common.{◌≡◌, ℕ, zero, suc, ◌+◌, ◌-◌, ◌≤◌, ◌==◌, ◌&&◌, Bool, true, cond, ltb, List, [], ◌∷◌, length, take, drop, get_or, Result, Ok, Err, refl, sym, ap, ◌∙◌, subst, arith, add-zero}
use Rattle.std.specs.List.{prefix_len, take_while, list_all}
use Rattle.std.proofs.lemmas.List.{drop-drop}
use Rattle.std.proofs.lemmas.List.Folds.{length-prefix_len}
use Rattle.std.proofs.lemmas.Bool.{cond_both, ltb-false, cond-true, le-leb}
use Rattle.std.proofs.lemmas.Bool.Decides.{nat_tests}
use Rattle.morty_base.specs.declared.script_names.TheConstants.{LONGEST_NAME}
use Rattle.morty_base.specs.ScriptNames.{is_letter, is_digit, is_name_byte, is_reserved, is_name}
use Rattle.txn_text.specs.declared.bytes.TheConstants.{GREATEST_NUMBER}
use Rattle.txn_text.specs.Bytes.{is_blank, is_symbol, is_pair, number_of}
use Rattle.txn_text.specs.Tokens.{front_of, name_front, number_front, single_front, symbol_front, tokens_from, read_on, with_first}
use Rattle.txn_text.specs.Kinds.{IsNumber, IsOfKind, AreTokens, TokensLieInOrder}
use Rattle.txn_text.specs.declared.kinds.Token.{Token}
use Rattle.txn_text.specs.declared.kinds.TokenKind.TheVariants.{Name, Word, Number, Sym}
use Rattle.txn_text.specs.declared.faults.FaultKind.TheVariants.{Byte, LongName, Number as TooLarge}
use Rattle.txn_text.specs.declared.faults.TextFault.{TextFault}
use Rattle.txn_text.specs.declared.scan.Front.{Front}
use Rattle.txn_text.specs.declared.scan.Front.TheVariants.{Gap, Lexeme, Bad}
use Rattle.txn_text.proofs.FrontLemmas.{Fits, front_fits}

-- the bytes of a token are of its kind
abbrev Tells : Front → List ℕ → Type 0
Tells (Gap n) bytes = Unit {0}
Tells (Lexeme kind n) bytes = IsOfKind kind (take n bytes)
Tells (Bad kind) bytes = Unit {0}

run_passes : (p : ℕ → Bool) (bytes : List ℕ) → list_all p (take (prefix_len p bytes) bytes) ≡ true
run_passes p [] = refl
run_passes p (b ∷ bs) =
    cond_both (p b) (1 + prefix_len p bs) 0 (λ n. list_all p (take n (b ∷ bs)) ≡ true)
    (λ passes.
    let one : 1 + prefix_len p bs ≡ suc (prefix_len p bs) = omega arith in
    ap (λ n. list_all p (take n (b ∷ bs))) one ∙ ap (λ t. t && list_all p (take (prefix_len p bs) bs)) passes ∙ run_passes p bs)
    (λ _. refl)

-- the first byte of a run
run_first : (p : ℕ → Bool) (b : ℕ) (bs : List ℕ) → p b ≡ true → get_or (take (prefix_len p (b ∷ bs)) (b ∷ bs)) 0 0 ≡ b
run_first p b bs passes =
    let one : prefix_len p (b ∷ bs) ≡ suc (prefix_len p bs) = cond-true (p b) _ _ passes ∙ omega arith in
    ap (λ n. get_or (take n (b ∷ bs)) 0 0) one

word_or_name : (name : List ℕ) → is_letter (get_or name 0 0) ≡ true → list_all is_name_byte name ≡ true → length name ≤ LONGEST_NAME → IsOfKind (cond (is_reserved name) Word Name) name
unfolding is_name
word_or_name name first all short =
    cond_both (is_reserved name) Word Name (λ kind. IsOfKind kind name)
    (λ reserved. reserved)
    (λ free. rw (first, all, le-leb _ _ short, free) refl)

name_tells : (b : ℕ) (bs : List ℕ) → is_letter b ≡ true → Tells (name_front (take_while is_name_byte (b ∷ bs))) (b ∷ bs)
name_tells b bs letter =
    let name = take_while is_name_byte (b ∷ bs) in
    let len = length-prefix_len is_name_byte (b ∷ bs) in
    let passes : is_name_byte b ≡ true = grind (arith, nat_tests) in
    let first = ap is_letter (run_first is_name_byte b bs passes) ∙ letter in
    cond_both (ltb LONGEST_NAME (length name)) (Bad LongName) (Lexeme (cond (is_reserved name) Word Name) (length name)) (λ f. Tells f (b ∷ bs))
    (λ _. tt)
    (λ short. subst (λ n. IsOfKind (cond (is_reserved name) Word Name) (take n (b ∷ bs))) (sym len) (word_or_name name first (run_passes is_name_byte (b ∷ bs)) (ltb-false _ _ short)))

number_tells : (b : ℕ) (bs : List ℕ) → Tells (number_front (take_while is_digit (b ∷ bs))) (b ∷ bs)
number_tells b bs =
    let digits = take_while is_digit (b ∷ bs) in
    let len = length-prefix_len is_digit (b ∷ bs) in
    cond_both (ltb GREATEST_NUMBER (number_of digits)) (Bad TooLarge) (Lexeme Number (length digits)) (λ f. Tells f (b ∷ bs))
    (λ _. tt)
    (λ small. subst (λ n. IsNumber (take n (b ∷ bs))) (sym len) (record { all = run_passes is_digit (b ∷ bs); small = ltb-false _ _ small }))

single_tells : (b : ℕ) (bs : List ℕ) → Tells (single_front b) (b ∷ bs)
single_tells b bs = cond_both (is_symbol b) (Lexeme Sym 1) (Bad Byte) (λ f. Tells f (b ∷ bs)) (λ symbol. symbol) (λ _. tt)

symbol_tells : (b : ℕ) (bs : List ℕ) → Tells (symbol_front b bs) (b ∷ bs)
symbol_tells b [] = single_tells b []
symbol_tells b (c ∷ bs) =
    cond_both (is_pair b c) (Lexeme Sym 2) (single_front b) (λ f. Tells f (b ∷ c ∷ bs)) (λ pair. pair) (λ _. single_tells b (c ∷ bs))

front_tells : (b : ℕ) (bs : List ℕ) → Tells (front_of (b ∷ bs)) (b ∷ bs)
unfolding front_of
front_tells b bs =
    let P : Front → Type 0 = λ f. Tells f (b ∷ bs) in
    cond_both (is_blank b) _ _ P (λ _. tt)
    (λ _. cond_both (b == 35) _ _ P (λ _. tt)
    (λ _. cond_both (is_letter b) _ _ P (name_tells b bs)
    (λ _. cond_both (is_digit b) _ _ P (λ _. number_tells b bs)
    (λ _. symbol_tells b bs))))

-- tokens that stand behind a later byte stand behind an earlier one
later : (text : List ℕ) (m n : ℕ) (tokens : List Token) → m ≤ n → AreTokens text n tokens → AreTokens text m tokens
later text m n [] below are = tt
later text m n (t ∷ ts) below are = (let start = are.0 in omega (arith, start), are.1, are.2)

first_ok : (t : Token) (r : Result (List Token) TextFault) (tokens : List Token) → with_first t r ≡ Ok tokens → (rest : List Token) × (r ≡ Ok rest) × (tokens ≡ t ∷ rest)
first_ok t (Ok rest) tokens e = (rest, refl, cc)
first_ok t (Err fault) tokens e = cc

abbrev Reads : List ℕ → List ℕ → ℕ → Type 0
Reads text bs at = (past : ℕ) (tokens : List Token) → bs ≡ drop at text → past ≤ length bs → tokens_from text bs at past ≡ Ok tokens → AreTokens text (at + past) tokens

-- one front, where what stands behind the first byte lies in order
read_front : (text : List ℕ) (b : ℕ) (bs : List ℕ) (at : ℕ) (f : Front) (tokens : List Token) → b ∷ bs ≡ drop at text → at + length (b ∷ bs) ≡ length text → Fits f (b ∷ bs) → Tells f (b ∷ bs) →
    ((past : ℕ) (more : List Token) → past ≤ length bs → tokens_from text bs (at + 1) past ≡ Ok more → AreTokens text (at + 1 + past) more) →
    read_on text at f (tokens_from text bs (at + 1)) ≡ Ok tokens → AreTokens text at tokens
read_front text b bs at (Gap n) tokens here len fits tells behind e =
    let some = fits.some in
    let within = fits.within in
    later text at (at + 1 + (n - 1)) tokens (omega arith) (behind (n - 1) tokens (omega (arith, some, within)) e)
read_front text b bs at (Lexeme kind n) tokens here len fits tells behind e =
    let some = fits.some in
    let within = fits.within in
    let split = first_ok _ (tokens_from text bs (at + 1) (n - 1)) tokens e in
    let more = behind (n - 1) split.0 (omega (arith, some, within)) split.1 in
    let reach : at + 1 + (n - 1) ≡ at + n = omega (arith, some) in
    let bytes : take n (b ∷ bs) ≡ take (at + n - at) (drop at text) = ap (λ k. take k (b ∷ bs)) (let k : n ≡ at + n - at = omega arith in k) ∙ ap (take (at + n - at)) here in
    subst (AreTokens text at) (sym split.2) (
      omega arith,
      record { some = omega (arith, some); within = omega (arith, within, len); line = refl; kind = subst (IsOfKind kind) bytes tells },
      subst (λ k. AreTokens text k split.0) reach more,
    )
read_front text b bs at (Bad kind) tokens here len fits tells behind e = cc

reads : (text bs : List ℕ) (at : ℕ) → at + length bs ≡ length text → Reads text bs at
unfolding tokens_from
reads text [] at len zero tokens here within e = let P : List Token → Type 0 = AreTokens text (at + 0) in subst P (let nil : [] ≡ tokens = cc in nil) tt
reads text [] at len (suc past) tokens here within e = let P : List Token → Type 0 = AreTokens text (at + suc past) in subst P (let nil : [] ≡ tokens = cc in nil) tt
reads text (b ∷ bs) at len (suc past) tokens here within e =
    let next : bs ≡ drop (at + 1) text = ap (drop 1) here ∙ drop-drop 1 at text in
    let more = reads text bs (at + 1) (omega (arith, len)) past tokens next (omega (arith, within)) e in
    subst (λ k. AreTokens text k tokens) (let k : at + 1 + past ≡ at + suc past = omega arith in k) more
reads text (b ∷ bs) at len zero tokens here within e =
    let next : bs ≡ drop (at + 1) text = ap (drop 1) here ∙ drop-drop 1 at text in
    let all = read_front text b bs at (front_of (b ∷ bs)) tokens here len (front_fits b bs) (front_tells b bs) (λ past more below is. reads text bs (at + 1) (omega (arith, len)) past more next below is) e in
    subst (λ k. AreTokens text k tokens) (sym (add-zero at)) all

pub tokens_lie_in_order : TokensLieInOrder
tokens_lie_in_order text tokens e = reads text text 0 (omega arith) 0 tokens refl (omega arith) e
