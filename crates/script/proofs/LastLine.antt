-- The last line of a text, counted from the line of a token.
use Rattle.std.proofs.Common.{◌≡◌, ℕ, zero, suc, ◌+◌, ◌-◌, ◌==◌, List, [], ◌∷◌, Some, length, subst, ap, ◌∙◌, take, drop, length-drop, arith}
use Rattle.std.specs.Prelude.{count_by, slice_get}
use Rattle.std.proofs.lemmas.List.{take_all}
use Rattle.std.proofs.lemmas.List.Sums.{sum_by-take-drop}
use Rattle.txn_text.specs.declared.kinds.Token.{Token}
use Rattle.txn_text.specs.Tokens.{line_of}
use Rattle.txn_text.specs.Kinds.{IsToken, AreTokens}
use Rattle.txn_parse.specs.Gives.{last_line}

-- each of the tokens lies in the text
pub one_token : (text : List ℕ) (from : ℕ) (tokens : List Token) (i : ℕ) (t : Token) → AreTokens text from tokens → slice_get tokens i ≡ Some t → IsToken text t
one_token text from [] i t are is = cc
one_token text from (x ∷ xs) zero t are is = subst (IsToken text) (let same : x ≡ t = cc in same) are.1
one_token text from (x ∷ xs) (suc i) t are is = one_token text x.end xs i t are.2 is

abbrev feeds : List ℕ → ℕ
feeds = count_by (λ b. b == 10)

feeds_split : (text : List ℕ) (at : ℕ) → feeds (take at text) + feeds (drop at text) ≡ feeds text
feeds_split text at = sum_by-take-drop _ text at

pub counted_from : (text : List ℕ) (at line last : ℕ) → line ≡ line_of text at → last ≡ last_line (take (length text - at) (drop at text)) → line - 1 + last ≡ last_line text
counted_from text at line last is behind =
    let whole : take (length text - at) (drop at text) ≡ drop at text = take_all _ (drop at text) (let len = length-drop at text in omega (arith, len)) in
    let found : last ≡ last_line (drop at text) = behind ∙ ap last_line whole in
    let split = feeds_split text at in
    omega (arith, is, found, split)
