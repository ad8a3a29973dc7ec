-- What words say, from what was read of them.
use Rattle.std.proofs.Common.{◌≡◌, ℕ, ◌<◌, ◌≤◌, ◌&&◌, nat_lt, nat_le, List, [], ◌∷◌, length, Bool, true, false, cond, Some, None, refl, sym, ap, ◌∙◌, arith}
use Rattle.std.specs.List.{list_all}
use Rattle.std.proofs.lemmas.Bool.Decides.{nat_tests}
use Rattle.morty_base.specs.ScriptNames.{is_digit}
use Rattle.script_cli.specs.Words.{is_decimal, number_if}

under : (n most : ℕ) → n ≤ most → nat_le n most ≡ true
under n most few = grind (arith, nat_tests)

more_than_none : (n : ℕ) → 0 < n → nat_lt 0 n ≡ true
more_than_none n some = grind (arith, nat_tests)

-- a word with a byte is decimal where all its bytes are digits
pub decimal_where : (word : List ℕ) → 0 < length word → list_all is_digit word ≡ is_decimal word
decimal_where word some = sym (ap (λ (b : Bool). b && list_all is_digit word) (more_than_none (length word) some))

pub no_digits : (word : List ℕ) → length word ≤ 0 → false ≡ is_decimal word
no_digits [] none = refl
no_digits (b ∷ bs) none = absurd (let e : ⊥ = omega (arith, none) in e)

pub said : (d : Bool) (least most n : ℕ) → d ≡ true → least ≤ n → n ≤ most → Some n ≡ number_if d least most n
said d least most n is some few =
    sym (ap (λ (b : Bool). number_if b least most n) is ∙ ap (λ (b : Bool). cond (b && nat_le n most) (Some n) None) (under least n some) ∙ ap (λ (b : Bool). cond b (Some n) None) (under n most few))
