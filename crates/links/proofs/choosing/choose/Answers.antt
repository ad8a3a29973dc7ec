use Rattle.std.proofs.Common.{◌≡◌, ◌<◌, ◌+◌, suc, false, Some, [], ◌∷◌, ◌++◌, map, length, refl, sym, subst, ap, ◌∙◌, arith}
use Rattle.std.specs.List.{remove, slice_get}
use Rattle.std.proofs.lemmas.Option.{slice_get_read}
use Rattle.links.specs.Choosing.{is_for}
use Rattle.links.proofs.ChoosingLemmas.{find_none, find_here, map_removed, get_mapped, was_mapped, map_pushed, same_choosing, chosen_more, missing}
use Rattle.links.proofs.choosing.choose.Goals as goal

pub returns-in-None : goal.returns-in-None
returns-in-None g c =
    let state = g.L.Link.state_of in
    let rest = c.loop-slot.rest.items in
    let none = c.in-None.ensures in
    let p = is_for c.args.kind c.loop-slot.slot in
    let found = find_none p (map state rest) (λ j a e.
    let m = was_mapped state rest j a e in
    subst (λ z. p z ≡ false) m.2 (none j m.0 (ap (λ xs. slice_get xs j) c.as_slice.ensures.value ∙ m.1))) in
    (c.loop-slot-test.true, missing c.args.kind (map state c.args.links.items) (map state rest) (map state c.loop-slot.chosen.items) c.loop-slot.slot c.loop-slot.invariant found)

pub loop-slot-preserved : goal.loop-slot-preserved
loop-slot-preserved g c =
    let state = g.L.Link.state_of in
    let rest = c.loop-slot.rest.items in
    let i = c.in-Some.i in
    let x = c.remove.result in
    let place = c.in-Some.ensures in
    let p = is_for c.args.kind c.loop-slot.slot in
    let less : i < length rest = subst (λ xs. i < length xs) c.as_slice.ensures.value place.0 in
    let there : slice_get rest i ≡ Some x = slice_get_read rest (length rest) i x refl less c.remove.ensures.value in
    let same = c.as_slice.ensures.value in
    let own = place.1 x (ap (λ xs. slice_get xs i) same ∙ there) in
    let found = find_here p (map state rest) i (state x) (get_mapped state rest i x there) own (λ j a less e.
    let m = was_mapped state rest j a e in
    subst (λ z. p z ≡ false) m.2 (place.2 j m.0 less (ap (λ xs. slice_get xs j) same ∙ m.1))) in
    let more = chosen_more c.args.kind (map state c.args.links.items) (map state rest) (map state c.loop-slot.chosen.items) c.loop-slot.slot i (state x)
    c.loop-slot.invariant (get_mapped state rest i x there) own found in
    let rest_is = sym (ap (map state) c.remove.ensures.items ∙ map_removed state rest i) in
    let chosen_is = sym (ap (map state) c.in_ok-push-in-Some.ensures.items ∙ map_pushed state c.loop-slot.chosen.items x) in
    let one : suc c.loop-slot.slot ≡ c.loop-slot.slot + 1 = omega arith in
    same_choosing c.args.kind (map state c.args.links.items) (suc c.loop-slot.slot) (c.loop-slot.slot + 1) (remove (map state rest) i)
    (map state c.remove.new.self.items) (map state c.loop-slot.chosen.items ++ state x ∷ []) (map state c.push.new.self.items) one rest_is chosen_is more
