-- The newest round is found from the last place on.
use Rattle.std.proofs.Common.{◌≡◌, ◌∷◌, [], ◌++◌, Some, cond, map, reverse, ap, sym, ◌∙◌, rules}
use Rattle.std.specs.Prelude.{find}
use Rattle.protocol.specs.Warden.State.{Round}
use Rattle.recovery.specs.Places.{places_of}
use Rattle.recovery.specs.Rounds.{is_view_at}
use Rattle.recovery.proofs.PlacesLemmas.{searched, step_back, empty}
use Rattle.recovery.proofs.rounds.Rounds.place.Goals as goal

pub loop-place-init : goal.loop-place-init
loop-place-init c =
    let all : c.into_iter-place-iterator.result.iter.rest.now ≡ c.of.result.now = search rules in
    ap (λ l. find (is_view_at c.args.view (reverse c.args.self.now)) (reverse l)) all
    ∙ searched c.args.exec c.args.view c.args.self.now c.of.result.now
    (ap reverse c.of.ensures ∙ c.self.invariant c.args.exec ∙ ap (λ rs. places_of c.args.exec (map (λ (a : Round). a.exec) rs)) c.self.view_is)

pub returns-then-is_in : goal.returns-then-is_in
returns-then-is_in c =
    let p = is_view_at c.args.view (reverse c.args.self.now) in
    let rest = c.next.new.self.iter.rest.now in
    let last : rest ++ c.in-Some.place.now ∷ [] ≡ c.loop-place.place-iterator.iter.rest.now = search rules in
    ap (λ b. cond b (Some c.in-Some.place.now) (find p (reverse rest))) (sym c.if-is_in.true ∙ c.is_in.ensures)
    ∙ sym (step_back p rest c.in-Some.place.now)
    ∙ ap (λ l. find p (reverse l)) last
    ∙ c.loop-place.invariant

pub loop-place-preserved : goal.loop-place-preserved
loop-place-preserved c =
    let p = is_view_at c.args.view (reverse c.args.self.now) in
    let rest = c.next.new.self.iter.rest.now in
    let last : rest ++ c.in-Some.place.now ∷ [] ≡ c.loop-place.place-iterator.iter.rest.now = search rules in
    ap (λ b. cond b (Some c.in-Some.place.now) (find p (reverse rest))) (sym c.if-is_in.false ∙ c.is_in.ensures)
    ∙ sym (step_back p rest c.in-Some.place.now)
    ∙ ap (λ l. find p (reverse l)) last
    ∙ c.loop-place.invariant

pub returns : goal.returns
returns c =
    let p = is_view_at c.args.view (reverse c.args.self.now) in
    let none = empty c.loop-place.place-iterator.iter.rest.now c.in-None.ensures.steps.0 in
    ap (λ l. find p (reverse l)) none ∙ c.loop-place.invariant
