-- The least of all clients is the least that waits.
use Rattle.std.proofs.Common.{◌≡◌, ◌+◌, ◌<◌, ℕ, List, length, get_or, take, ap, sym, subst, ◌∙◌, arith, ◌∷◌, [], ◌++◌}
use Rattle.std.specs.Prelude.{◌||◌}
use Rattle.std.proofs.lemmas.List.{take_more, take_all}
use Rattle.std.proofs.lemmas.List.Folds.{list_any-append}
use Rattle.menus.specs.Shown.{lesser, least_waiting}
use Rattle.menus.specs.Waiting.{IsLeast, waits, waits_in, waits_among}
use Rattle.menus.specs.declared.waiting.Undecided.{Undecided}
use Rattle.menus.proofs.LeastLemmas.{same_least, least_of_two, one_least, least_waits}
use Rattle.menus.proofs.WaitingLemmas.{among, or_false}
use Rattle.menus.proofs.waiting.Waiting.least.Goals as goal

one_client_more : (us : List Undecided) (i : ℕ) (u : Undecided) (a b : _) → i < length us → u ≡ get_or us i u → IsLeast (waits_among (take i us)) a →
    IsLeast (waits_in u) b →
    IsLeast (waits_among (take (i + 1) us)) (lesser a b)
one_client_more us i u a b h there p q =
    same_least (λ x. waits_among (take i us) x || waits_in u x) (waits_among (take (i + 1) us)) (lesser a b)
    (λ x. sym (ap (λ vs. waits_among vs x) (take_more us i u h ∙ ap (λ v. take i us ++ v ∷ []) (sym there))
    ∙ (list_any-append (λ v. waits_in v x) (take i us) (u ∷ []) ∙ ap (λ t. waits_among (take i us) x || t) (or_false (waits_in u x)))))
    (least_of_two (waits_among (take i us)) (waits_in u) a b p q)

pub loop-client-preserved : goal.loop-client-preserved
loop-client-preserved c =
    let us = c.args.self.now.clients.items in
    let i = c.loop-client.client-index in
    let u = c.client-item.result in
    let within : i < length us = omega (arith, ap length c.deref-client-items.ensures.value, c.loop-client-test.true) in
    let there : u ≡ get_or us i u = c.client-item.is ∙ ap (λ vs. get_or vs i u) c.deref-client-items.ensures.value in
    subst (IsLeast (waits_among (take (i + 1) us))) (sym c.lesser-least.ensures)
    (one_client_more us i u c.loop-client.least c.least.result within there c.loop-client.invariant c.least.ensures)

pub returns : goal.returns
returns c = λ n mail stopped are.
    let all : take c.loop-client.client-index c.args.self.now.clients.items ≡ c.args.self.now.clients.items =
    take_all _ _ (omega (arith, ap length c.deref-client-items.ensures.value, c.loop-client-test.false)) in
    one_least (waits_among (take c.loop-client.client-index c.args.self.now.clients.items)) (waits mail stopped) c.loop-client.least
    (least_waiting mail stopped mail)
    (λ x. ap (λ us. waits_among us x) all ∙ among n mail stopped c.args.self.now are x) c.loop-client.invariant (least_waits mail stopped)
