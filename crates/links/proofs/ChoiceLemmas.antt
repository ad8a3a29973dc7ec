-- One try to choose is one step of the definition.
use Rattle.std.proofs.Common.{◌≡◌, ◌≢◌, ℕ, zero, suc, ◌-◌, false, cond, None, refl, sym, ◌∙◌, ap, arith}
use Rattle.std.specs.Prelude.{◌==◌}
use Rattle.std.specs.List.{slice_get}
use Rattle.std.proofs.lemmas.Bool.Decides.{nat_tests}
use Rattle.rand_pcg.specs.Lcg.{Lcg}
use Rattle.net_core.specs.Machine.{Menu}
use Rattle.net_core.specs.Draws.{draw}
use Rattle.net_core.specs.SeededRule.{Drawing, Drawn, timely, choice_count, chosen, choose, past, drawn_number}
use Rattle.links.specs.declared.drawing.Tried.{Tried}
use Rattle.links.specs.declared.drawing.Tried.TheVariants.{Again}
use Rattle.links.specs.Drawings.{after_try}

some_choice : (n : ℕ) → n ≢ 0 → (n == 0) ≡ false
some_choice n some = grind (arith, nat_tests)

-- where there are choices, the one at the place that was drawn is chosen
pub chosen_so : (times late_of_100 : ℕ) (menu : Menu) (d : Drawing) (count place : ℕ) (g : Lcg) → count ≢ 0 → count ≡ choice_count menu d →
    (place, g) ≡ draw count d.generator →
    choose (suc times) late_of_100 menu d
    ≡ chosen (choose times late_of_100 menu) late_of_100 (record d { generator = g }) (slice_get (timely d.late menu.fresh) place)
chosen_so times late_of_100 menu d count place g some counts drawn =
    let next : ℕ → Drawn =
    λ n. chosen (choose times late_of_100 menu) late_of_100 (past n d) (slice_get (timely d.late menu.fresh) (drawn_number n d)) in
    (λ i. cond (sym counts i == 0) (None, d) (next (sym counts i)))
    ∙ (λ i. cond (some_choice count some i) (None, d) (next count))
    ∙ (λ i. chosen (choose times late_of_100 menu) late_of_100 (record d { generator = (sym drawn i).1 }) (slice_get (timely d.late menu.fresh) (sym drawn i).0))

-- after a try that has to be made again there is one less
pub go_on : (more late_of_100 : ℕ) (menu : Menu) (d d' : Drawing) (r : Drawn) (t : Tried) → more ≢ 0 → t ≡ Again →
    ((times : ℕ) → choose (suc times) late_of_100 menu d ≡ after_try (choose times late_of_100 menu) t d') →
    choose (suc more) late_of_100 menu d ≡ r → choose (suc (more - 1)) late_of_100 menu d' ≡ r
go_on zero late_of_100 menu d d' r t some again tried so = absurd (some refl)
go_on (suc more) late_of_100 menu d d' r t some again tried so =
    let less : suc more - 1 ≡ more = omega arith in
    ap (λ n. choose (suc n) late_of_100 menu d') less
    ∙ sym (tried (suc more) ∙ ap (λ u. after_try (choose (suc more) late_of_100 menu) u d') again) ∙ so
