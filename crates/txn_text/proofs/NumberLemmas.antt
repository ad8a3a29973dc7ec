-- A number grows with each digit.
use Rattle.std.proofs.Common.{◌≡◌, ℕ, ◌+◌, ◌-◌, ◌*◌, ◌<◌, ◌≤◌, List, [], ◌∷◌, length, take, drop, get_or, fold, sym, ap, arith, ◌∙◌}
use Rattle.std.proofs.lemmas.List.{take-append-drop}
use Rattle.std.proofs.lemmas.List.Sums.{fold-append, fold_more}
use Rattle.txn_text.specs.Bytes.{number_of}

abbrev with_digit : ℕ → ℕ → ℕ
with_digit n b = n * 10 + (b - 48)

grows : (digits : List ℕ) (n : ℕ) → n ≤ fold with_digit n digits
grows [] n = omega arith
grows (b ∷ bs) n = let rest = grows bs (with_digit n b) in omega (arith, rest)

-- the digits up to one are at most the whole number
pub front-le-number : (digits : List ℕ) (i : ℕ) → i < length digits → number_of (take i digits) * 10 + (get_or digits i 0 - 48) ≤ number_of digits
front-le-number digits i within =
    let whole : number_of digits ≡ fold with_digit (number_of (take (i + 1) digits)) (drop (i + 1) digits) =
    ap number_of (sym (take-append-drop (i + 1) digits)) ∙ fold-append with_digit 0 (take (i + 1) digits) (drop (i + 1) digits) in
    let more : number_of (take (i + 1) digits) ≡ number_of (take i digits) * 10 + (get_or digits i 0 - 48) = fold_more with_digit 0 digits i 0 within in
    let above = grows (drop (i + 1) digits) (number_of (take (i + 1) digits)) in
    omega (arith, whole, more, above)
