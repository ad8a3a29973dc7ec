use Rattle.std.proofs.Common.{◌≡◌, ℕ, List, [], ◌∷◌, ◌++◌, cond, Some, sym, ◌∙◌, ap}
use Rattle.std.proofs.lemmas.List.{append_assoc}
use Rattle.msg.specs.declared.Pick.TheVariants.{Deliver}
use Rattle.net_core.specs.SeededRule.{chosen, past}
use Rattle.links.specs.Drawings.{drawing}
use Rattle.links.proofs.drawing.try_envelope.Goals as goal

pub returns-then-is_drawn-clause-tried : goal.returns-then-is_drawn-clause-tried
returns-then-is_drawn-clause-tried c = λ before choose_again.
    let d = drawing before c.args.draws.now in
    let place = c.in-Some.place in
    let late : d.late ++ place ∷ [] ≡ before ++ c.push.new.self =
    append_assoc before c.args.draws.now.late (place ∷ [])
    ∙ ap (λ (xs : List ℕ). before ++ xs) (ap (λ xs. xs ++ place ∷ []) (sym (ap (λ e. e.late) c.is_drawn.ensures.past)) ∙ sym c.in_ok-push.ensures.ok) in
    ap (chosen choose_again c.args.late_of_100 d) c.in-Some.is
    ∙ (λ i. cond (sym c.if-is_drawn.ensures.drawn i)
    (choose_again (record { late = d.late ++ place ∷ []; generator = (past 100 d).generator })) (Some (Deliver place), past 100 d))
    ∙ ap choose_again (λ i. record { late = late i; generator = sym (ap (λ e. e.rng) c.is_drawn.ensures.past) i })

pub returns-clause-tried : goal.returns-clause-tried
returns-clause-tried c = λ before choose_again.
    let d = drawing before c.args.draws.now in
    let place = c.in-Some.place in
    ap (chosen choose_again c.args.late_of_100 d) c.in-Some.is
    ∙ (λ i. cond (sym c.if-is_drawn.ensures.drawn i)
    (choose_again (record { late = d.late ++ place ∷ []; generator = (past 100 d).generator })) (Some (Deliver place), past 100 d))
    ∙ (λ i. (Some (Deliver place), drawing before (sym c.is_drawn.ensures.past i)))
