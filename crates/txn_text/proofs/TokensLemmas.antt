-- The tokens from one byte on, by those from a later byte on.
use Rattle.std.proofs.Common.{◌≡◌, ℕ, zero, suc, ◌+◌, ◌-◌, ◌<◌, ◌≤◌, List, [], ◌∷◌, ◌++◌, ◌==◌, cond, length, take, drop, Result, Ok, Err, refl, sym, ap, ◌∙◌, subst, arith}
use Rattle.std.proofs.lemmas.List.{drop_more, drop-drop, append_assoc, drop_all}
use Rattle.std.proofs.Math.Seq.{take-add}
use Rattle.std.proofs.lemmas.List.Sums.{sum_by-append}
use Rattle.txn_text.specs.Tokens.{tokens_from, front_of, read_on, with_first, line_of}
use Rattle.txn_text.specs.declared.kinds.Token.{Token}
use Rattle.txn_text.specs.declared.kinds.TokenKind.{TokenKind}
use Rattle.txn_text.specs.declared.faults.FaultKind.{FaultKind}
use Rattle.txn_text.specs.declared.faults.TextFault.{TextFault}
use Rattle.txn_text.specs.declared.faults.TextFault.TheVariants.{At}
use Rattle.txn_text.specs.declared.scan.Front.TheVariants.{Gap, Lexeme, Bad}
use Rattle.txn_text.proofs.FrontLemmas.{feeds}

-- tokens in front of further ones
abbrev pub with_front : List Token → Result (List Token) TextFault → Result (List Token) TextFault
with_front tokens (Ok more) = Ok (tokens ++ more)
with_front tokens (Err fault) = Err fault

pub with_front-nil : (r : Result (List Token) TextFault) → with_front [] r ≡ r
with_front-nil (Ok more) = refl
with_front-nil (Err fault) = refl

pub with_front_push : (tokens : List Token) (t : Token) (r : Result (List Token) TextFault) → with_front tokens (with_first t r) ≡ with_front (tokens ++ t ∷ []) r
with_front_push tokens t (Ok more) = ap (λ l. Ok l) (sym (append_assoc tokens (t ∷ []) more))
with_front_push tokens t (Err fault) = refl

-- bytes that are not looked at
past_bytes : (text bs : List ℕ) (at past : ℕ) → tokens_from text bs at past ≡ tokens_from text (drop past bs) (at + past) 0
unfolding tokens_from
past_bytes text [] at zero = refl
past_bytes text [] at (suc past) = refl
past_bytes text (b ∷ bs) at zero = ap (λ n. tokens_from text (b ∷ bs) n 0) (omega arith)
past_bytes text (b ∷ bs) at (suc past) =
    past_bytes text bs (at + 1) past ∙ ap (λ n. tokens_from text (drop past bs) n 0) (omega arith)

-- the tokens from byte `at` on
abbrev pub from_byte : List ℕ → ℕ → Result (List Token) TextFault
from_byte text at = tokens_from text (drop at text) at 0

behind : (text : List ℕ) (at n : ℕ) → 0 < n → tokens_from text (drop (at + 1) text) (at + 1) (n - 1) ≡ from_byte text (at + n)
behind text at n some =
    past_bytes text (drop (at + 1) text) (at + 1) (n - 1)
    ∙ ap (λ bs. tokens_from text bs (at + 1 + (n - 1)) 0) (drop-drop (n - 1) (at + 1) text)
    ∙ ap (λ k. from_byte text k) (let e : at + 1 + (n - 1) ≡ at + n = omega arith in e)

opened : (text : List ℕ) (at : ℕ) → at < length text → from_byte text at ≡ read_on text at (front_of (drop at text)) (tokens_from text (drop (at + 1) text) (at + 1))
unfolding tokens_from
opened text at within =
    let e = drop_more text at 0 within in
    subst (λ bs. tokens_from text bs at 0 ≡ read_on text at (front_of bs) (tokens_from text (drop (at + 1) text) (at + 1))) (sym e) refl

pub gap_step : (text : List ℕ) (at n : ℕ) → at < length text → front_of (drop at text) ≡ Gap n → 0 < n → from_byte text at ≡ from_byte text (at + n)
gap_step text at n within is some =
    opened text at within ∙ ap (λ f. read_on text at f (tokens_from text (drop (at + 1) text) (at + 1))) is ∙ behind text at n some

pub lexeme_step : (text : List ℕ) (at n : ℕ) (kind : TokenKind) → at < length text → front_of (drop at text) ≡ Lexeme kind n → 0 < n →
    from_byte text at ≡ with_first (record { kind = kind; start = at; end = at + n; line = line_of text at }) (from_byte text (at + n))
lexeme_step text at n kind within is some =
    opened text at within ∙ ap (λ f. read_on text at f (tokens_from text (drop (at + 1) text) (at + 1))) is
    ∙ ap (with_first (record { kind = kind; start = at; end = at + n; line = line_of text at })) (behind text at n some)

pub bad_step : (text : List ℕ) (at : ℕ) (kind : FaultKind) → at < length text → front_of (drop at text) ≡ Bad kind → from_byte text at ≡ Err (At (line_of text at) kind)
bad_step text at kind within is =
    opened text at within ∙ ap (λ f. read_on text at f (tokens_from text (drop (at + 1) text) (at + 1))) is

pub at_end : (text : List ℕ) (at : ℕ) → length text ≤ at → from_byte text at ≡ Ok []
unfolding tokens_from
at_end text at past = subst (λ bs. tokens_from text bs at 0 ≡ Ok []) (sym (drop_all at text past)) refl

-- the line of a later byte
pub line_of_more : (text : List ℕ) (at n : ℕ) → line_of text (at + n) ≡ line_of text at + feeds (take n (drop at text))
line_of_more text at n =
    let e : feeds (take (at + n) text) ≡ feeds (take at text) + feeds (take n (drop at text)) =
    ap feeds (take-add at n text) ∙ sum_by-append (λ b. cond (b == 10) 1 0) (take at text) (take n (drop at text)) in
    omega (arith, e)
