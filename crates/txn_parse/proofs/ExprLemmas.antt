-- Reading an expression, one token after another.
use Rattle.std.proofs.Common.{◌≡◌, ℕ, zero, suc, ◌-◌, List, [], ◌∷◌, Err, refl, sym, ap, ◌∙◌, subst, arith}
use Rattle.std.proofs.lemmas.Bool.{cond-true, cond-false}
use Rattle.txn_text.specs.declared.faults.FaultKind.TheVariants.{LongExpression}
use Rattle.txn_text.specs.declared.faults.TextFault.{TextFault}
use Rattle.txn_text.specs.declared.faults.TextFault.TheVariants.{At}
use Rattle.txn_parse.specs.Symbols.{Lexeme}
use Rattle.txn_parse.specs.Tree.{Term}
use Rattle.txn_parse.specs.Pending.{State, goes_on, step, ended}
use Rattle.txn_parse.specs.Reading.{Found, syntax_at, ended_at, expr_from, EndsAt, GoesOnWith}
use Rattle.txn_parse.specs.Gives.{Gives}

-- where no token goes on with it, it ends or is no expression
pub expr_ends : (last : ℕ) (ls : List Lexeme) (room : ℕ) (s : State) → EndsAt s ls → expr_from last ls room s ≡ ended_at last (ended s) ls
unfolding expr_from
expr_ends last [] room s ends = refl
expr_ends last (l ∷ ls) zero s ends = cond-false (goes_on s l.symbol) _ _ ends
expr_ends last (l ∷ ls) (suc room) s ends = cond-false (goes_on s l.symbol) _ _ ends

-- one more token is one too many
pub expr_over : (last : ℕ) (ls rest : List Lexeme) (room : ℕ) (s : State) (l : Lexeme) → room ≡ 0 → GoesOnWith s ls l rest → expr_from last ls room s ≡ Err (At l.token.line LongExpression)
unfolding expr_from
expr_over last ls rest zero s l none one = ap (λ x. expr_from last x 0 s) one.split ∙ cond-true (goes_on s l.symbol) _ _ one.goes
expr_over last ls rest (suc room) s l none one = absurd (omega (arith, none))

-- one more token is read
pub expr_goes_on : (last : ℕ) (ls rest : List Lexeme) (room : ℕ) (s s' : State) (l : Lexeme) → ((room ≡ 0) → ⊥) → GoesOnWith s ls l rest → s' ≡ step s l → expr_from last rest (room - 1) s' ≡ expr_from last ls room s
unfolding expr_from
expr_goes_on last ls rest zero s s' l some one is = absurd (some refl)
expr_goes_on last ls rest (suc room) s s' l some one is =
    ap (λ n. expr_from last rest n s') (let e : suc room - 1 ≡ room = omega arith in e)
    ∙ ap (λ x. expr_from last rest room x) is ∙ sym (ap (λ x. expr_from last x (suc room) s) one.split ∙ cond-true (goes_on s l.symbol) _ _ one.goes)

-- what a call says of an expression that does not end
pub syntax_gives : {X : Type 0} (view : X → Term × List Lexeme) (last : ℕ) (ls : List Lexeme) (f : TextFault) (r : Found Term) → f ≡ syntax_at last ls → r ≡ Err (syntax_at last ls) → Gives view (Err f) r
syntax_gives view last [] f r is read = subst (λ (e : TextFault). Gives view (Err e) r) (sym is) read
syntax_gives view last (l ∷ ls) f r is read = subst (λ (e : TextFault). Gives view (Err e) r) (sym is) read
