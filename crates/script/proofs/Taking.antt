-- The wanted token is read by its rule.
use Rattle.std.proofs.Common.{◌≡◌, ℕ, Bool, true, false, cond, List, [], ◌∷◌, Some, None, Ok, Err, refl}
use Rattle.txn_text.specs.declared.kinds.Token.{Token}
use Rattle.txn_parse.specs.declared.symbols.Symbol.{Symbol}
use Rattle.txn_parse.specs.Symbols.{Lexeme, is}
use Rattle.txn_parse.specs.Reading.{◌>>=◌, syntax_at, take_at}
use Rattle.script.specs.Rules.{one_by, read}
use Rattle.script.specs.Grammar.{token}
use Rattle.script.proofs.Found.{made_of}

by_test : (last : ℕ) (l : Lexeme) (ls : List Lexeme) (b : Bool) →
    (one_by last l ls (cond b (Some tt) None) >>= made_of (λ (x : Unit {0} × Token). x.1)) ≡ cond b (Ok (l.token, ls)) (Err (syntax_at last (l ∷ ls)))
by_test last l ls true = refl
by_test last l ls false = refl

pub take_is_read : (last : ℕ) (wanted : Symbol) (ls : List Lexeme) → read (token wanted) last ls ≡ take_at last wanted ls
unfolding token
take_is_read last wanted [] = refl
take_is_read last wanted (l ∷ ls) = by_test last l ls (is l.symbol wanted)
