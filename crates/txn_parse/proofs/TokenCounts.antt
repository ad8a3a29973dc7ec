-- Counting the tokens of a slice, one after another.
use Rattle.std.proofs.Common.{◌≡◌, ◌<◌, ◌≤◌, ℕ, ◌+◌, take, drop, length, List, [], ◌∷◌, ◌++◌, get_or, Ok, Err, refl, sym, ap, ◌∙◌, add-one}
use Rattle.std.proofs.lemmas.List.{append-nil, map-append, take_more, take-append-drop}
use Rattle.std.proofs.Math.ListN.{drop_of_length-le}
use Rattle.std.proofs.Math.Seq.{drop-cons}
use Rattle.txn_text.specs.declared.kinds.Token.{Token}
use Rattle.txn_parse.specs.declared.symbols.Symbol.{Symbol}
use Rattle.txn_parse.specs.Symbols.{Lexeme, lexeme, lexemes, symbol_of}
use Rattle.txn_parse.specs.Counts.{Counts, one_counted, and_then, counted}
use Rattle.txn_parse.proofs.CountsLemmas.{counted-append}

abbrev pub seen : List ℕ → Token → Lexeme
seen text t = lexeme (symbol_of text t) t

counted_one : (o n : ℕ) (l : Lexeme) (r : Counts) → one_counted o n l l.symbol ≡ r → counted o n (l ∷ []) ≡ r
counted_one o n l r is = ap (λ x. and_then x (λ c. counted c.0 c.1 [])) is ∙ same r
  where
    same : (r : Counts) → and_then r (λ c. counted c.0 c.1 []) ≡ r
    same (Ok c) = refl
    same (Err e) = refl

-- one more token
pub one_more : (text : List ℕ) (front : List Token) (t : Token) (o n : ℕ) (s : Symbol) (r : Counts) → counted 0 0 (lexemes text front) ≡ Ok (o, n) → s ≡ symbol_of text t → one_counted o n (seen text t) s ≡ r → counted 0 0 (lexemes text front ++ seen text t ∷ []) ≡ r
one_more text front t o n s r so_far is one =
    counted-append (lexemes text front) (seen text t ∷ []) 0 0
    ∙ ap (λ x. and_then x (λ c. counted c.0 c.1 (seen text t ∷ []))) so_far
    ∙ counted_one o n (seen text t) r (ap (one_counted o n (seen text t)) (sym is) ∙ one)

pub more_of : (text : List ℕ) (toks : List Token) (i : ℕ) (t : Token) → i < length toks → lexemes text (take (i + 1) toks) ≡ lexemes text (take i toks) ++ seen text (get_or toks i t) ∷ []
more_of text toks i t less = ap (lexemes text) (take_more toks i t less) ∙ map-append _ (take i toks) (get_or toks i t ∷ [])

pub split_of : (text : List ℕ) (toks : List Token) (i : ℕ) (t : Token) → i < length toks → lexemes text toks ≡ lexemes text (take i toks) ++ seen text (get_or toks i t) ∷ lexemes text (drop (i + 1) toks)
split_of text toks i t less =
    ap (lexemes text) (sym (take-append-drop i toks) ∙ ap (λ x. take i toks ++ x) (drop-cons toks i t less ∙ ap (λ n. get_or toks i t ∷ drop n toks) (sym (add-one i))))
    ∙ map-append _ (take i toks) (get_or toks i t ∷ drop (i + 1) toks)

pub whole : (toks : List Token) (i : ℕ) → length toks ≤ i → toks ≡ take i toks
whole toks i less = sym (take-append-drop i toks) ∙ ap (λ x. take i toks ++ x) (drop_of_length-le toks less) ∙ append-nil (take i toks)
