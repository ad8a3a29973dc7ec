-- What is found of an expression.
use Rattle.std.proofs.Common.{◌≡◌, ℕ, zero, suc, ◌+◌, ◌-◌, ◌≤◌, false, List, [], ◌∷◌, ◌++◌, length, Option, Some, None, Err, refl, ap, ◌∙◌, subst, arith, inl, inr}
use Rattle.std.proofs.lemmas.List.{append_assoc, length_push}
use Rattle.std.proofs.lemmas.Bool.{cond_both, cond-false}
use Rattle.txn_text.specs.declared.faults.FaultKind.TheVariants as fault
use Rattle.txn_text.specs.declared.faults.TextFault.TheVariants.{At}
use Rattle.txn_parse.specs.Symbols.{Lexeme}
use Rattle.txn_parse.specs.Tree.{Term}
use Rattle.txn_parse.specs.Pending.{State, Awaits, Nothing, goes_on, step, ended}
use Rattle.txn_parse.specs.Grammar.{Free, Within, IsOutermost}
use Rattle.txn_parse.specs.Reading.{ended_at, expr_from, expr_at}
use Rattle.txn_parse.specs.Laws.{Begins}
use Rattle.txn_parse.proofs.PendingLemmas.{StandsState, Completes, state_completes, step_stands, ended_stands}
use Rattle.txn_parse.proofs.CompleteExpr.{one}
use Rattle.txn_parse.proofs.Sound.{SameFirst, Answers, begins_same, ends_same}

begins_with : (front : List Lexeme) → Completes front → Begins (IsOutermost Free) front
begins_with front c = (c.0, c.1, record { short = tt; derived = c.2 })

stays_at_end : (last k : ℕ) (s : State) → expr_from last [] k s ≡ ended_at last (ended s) []
unfolding expr_from
stays_at_end last k s = refl

stays : (last k : ℕ) (s : State) (l : Lexeme) (ls : List Lexeme) → goes_on s l.symbol ≡ false → expr_from last (l ∷ ls) k s ≡ ended_at last (ended s) (l ∷ ls)
unfolding expr_from
stays last zero s l ls halts = cond-false (goes_on s l.symbol) _ _ halts
stays last (suc k) s l ls halts = cond-false (goes_on s l.symbol) _ _ halts

-- where the expression does not go on
ended_answers : {J : Type 0} (last R d : ℕ) (room' : J → ℕ) (ls : List Lexeme) (s : State) (pre : List Lexeme) (k : J → ℕ) (o : Option Term) → ended s ≡ o → StandsState s pre → length pre ≤ R →
    ((j : J) (more : List Lexeme) → expr_at last (room' j) (pre ++ more) ≡ expr_from last more (k j) s) →
    ((j : J) (more : List Lexeme) → SameFirst ls more → expr_from last more (k j) s ≡ ended_at last (ended s) more) →
    Answers last (λ j. expr_at last (room' j)) (IsOutermost (Within R d)) (IsOutermost Free) (pre ++ ls) (ended_at last o ls)
ended_answers last R d room' ls s pre k (Some e) is stands short again stop = record {
  front = pre;
  split = refl;
  derived = record { short = short; derived = ended_stands s pre e stands is };
  again = λ j more same. again j more ∙ stop j more same ∙ ap (λ o. ended_at last o more) is;
}
ended_answers last R d room' ls s pre k None is stands short again stop = inl (record {
  front = pre;
  rest = ls;
  split = refl;
  place = refl;
  begun = begins_with pre (state_completes s pre stands);
  again = λ j more same. again j more ∙ stop j more same ∙ ap (λ o. ended_at last o more) is;
})

stopped_answers : {J : Type 0} (last R d : ℕ) (room' : J → ℕ) (l : Lexeme) (ls : List Lexeme) (s : State) (pre : List Lexeme) (k : J → ℕ) → goes_on s l.symbol ≡ false → StandsState s pre → length pre ≤ R →
    ((j : J) (more : List Lexeme) → expr_at last (room' j) (pre ++ more) ≡ expr_from last more (k j) s) →
    Answers last (λ j. expr_at last (room' j)) (IsOutermost (Within R d)) (IsOutermost Free) (pre ++ l ∷ ls) (ended_at last (ended s) (l ∷ ls))
stopped_answers last R d room' l ls s pre k halts stands short again =
    ended_answers last R d room' (l ∷ ls) s pre k (ended s) refl stands short again
    (λ j more same. begins_same (λ ms. expr_from last ms (k j) s ≡ ended_at last (ended s) ms) l ls more same (λ ms. stays last (k j) s l ms halts))

expr_answers_from : {J : Type 0} (last R d : ℕ) (room' : J → ℕ) (ls : List Lexeme) (s : State) (pre : List Lexeme) (room : ℕ) (k : J → ℕ) → StandsState s pre → length pre + room ≡ R → ((j : J) → room ≤ k j) →
    ((j : J) (more : List Lexeme) → expr_at last (room' j) (pre ++ more) ≡ expr_from last more (k j) s) →
    Answers last (λ j. expr_at last (room' j)) (IsOutermost (Within R d)) (IsOutermost Free) (pre ++ ls) (expr_from last ls room s)
unfolding expr_from
expr_answers_from last R d room' [] s pre room k stands len below again =
    ended_answers last R d room' [] s pre k (ended s) refl stands (omega (arith, len)) again
    (λ j more same. ends_same (λ ms. expr_from last ms (k j) s ≡ ended_at last (ended s) ms) more same (stays_at_end last (k j) s))
expr_answers_from last R d room' (l ∷ ls) s pre zero k stands len below again =
    cond_both (goes_on s l.symbol) (Err (At l.token.line fault.LongExpression)) (ended_at last (ended s) (l ∷ ls)) (Answers last (λ j. expr_at last (room' j)) (IsOutermost (Within R d)) (IsOutermost Free) (pre ++ l ∷ ls))
    (λ goes. inr (record { front = pre; l = l; rest = ls; split = refl; place = inr refl; begun = begins_with (pre ++ l ∷ []) (state_completes (step s l) (pre ++ l ∷ []) (step_stands s l pre stands goes)) }))
    (λ halts. stopped_answers last R d room' l ls s pre k halts stands (omega (arith, len)) again)
expr_answers_from last R d room' (l ∷ ls) s pre (suc room) k stands len below again =
    cond_both (goes_on s l.symbol) (expr_from last ls room (step s l)) (ended_at last (ended s) (l ∷ ls)) (Answers last (λ j. expr_at last (room' j)) (IsOutermost (Within R d)) (IsOutermost Free) (pre ++ l ∷ ls))
    (λ goes.
    let len' = length_push pre l in
    subst (λ x. Answers last (λ j. expr_at last (room' j)) (IsOutermost (Within R d)) (IsOutermost Free) x (expr_from last ls room (step s l))) (append_assoc pre (l ∷ []) ls)
    (expr_answers_from last R d room' ls (step s l) (pre ++ l ∷ []) room (λ j. k j - 1) (step_stands s l pre stands goes) (omega (arith, len, len')) (λ j. let b = below j in omega (arith, b))
    (λ j more. let b = below j in ap (expr_at last (room' j)) (append_assoc pre (l ∷ []) more) ∙ again j (l ∷ more) ∙ one last (k j - 1) (k j) s l more (let e : k j ≡ suc (k j - 1) = omega (arith, b) in e) goes)))
    (λ halts. stopped_answers last R d room' l ls s pre k halts stands (omega (arith, len)) again)

pub expr_answers : {J : Type 0} (last R d : ℕ) (room' : J → ℕ) → ((j : J) → R ≤ room' j) → (ls : List Lexeme) → Answers last (λ j. expr_at last (room' j)) (IsOutermost (Within R d)) (IsOutermost Free) ls (expr_at last R ls)
expr_answers last R d room' below ls =
    expr_answers_from last R d room' ls (Awaits Nothing) [] R room' refl (omega arith) below (λ j more. refl)
