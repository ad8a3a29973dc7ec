-- A number that the search finds was fresh; one that it does not find was delivered before.
use Rattle.std.proofs.Common.{◌≡◌, ℕ, ◌<◌, ◌++◌, ◌∷◌, [], false, cond, not, List, length, get_or, drop, ap, sym, subst, ◌∙◌, Ok, Err}
use Rattle.std.specs.List.{remove}
use Rattle.std.specs.List.Sorted.{IsBinarySearchResult}
use Rattle.std.specs.Ordering.{nat_cmp}
use Rattle.std.proofs.lemmas.List.Sorted.{searched}
use Rattle.protocol.specs.World.Events.{marked}
use Rattle.menus.specs.Inbox.{Arrived, AreRising, without}
use Rattle.menus.specs.Shown.{has_number}
use Rattle.menus.proofs.Removal.{found, missing, removed, rising_places, without_missing}
use Rattle.menus.proofs.inbox.Inbox.deliver.Goals as goal

-- a number that was fresh goes there, and to the end of the delivered ones
at_place : (i p : ℕ) (fresh delivered : List ℕ) → AreRising fresh → has_number i delivered ≡ not (has_number i fresh) → p < length fresh → get_or fresh p 0 ≡ i →
    (remove fresh p ≡ without i fresh) × (delivered ++ i ∷ [] ≡ marked i delivered)
at_place i p fresh delivered r n h e =
    let new : has_number i delivered ≡ false = n ∙ ap not (found i fresh p h e) in
    (removed i fresh r p h e, sym (ap (λ t. cond t delivered (delivered ++ i ∷ [])) new))

-- one that was not stays among the delivered ones
no_place : (i : ℕ) (fresh delivered : List ℕ) → has_number i fresh ≡ false → has_number i delivered ≡ not (has_number i fresh) →
    (fresh ≡ without i fresh) × (delivered ≡ marked i delivered)
no_place i fresh delivered none n =
    (sym (without_missing i fresh none), sym (ap (λ t. cond t delivered (delivered ++ i ∷ [])) (n ∙ ap not none)))

abbrev arrived : List ℕ → List ℕ → Arrived
arrived fresh delivered = record { fresh = fresh; delivered = delivered }

both : (a b d e : List ℕ) → a ≡ b → d ≡ e → arrived a d ≡ arrived b e
both a b d e p q = ap (λ xs. arrived xs d) p ∙ ap (λ xs. arrived b xs) q

pub returns-in_ok-push-clause-ok : goal.returns-in_ok-push-clause-ok
returns-in_ok-push-clause-ok c =
    let v = c.args.self.now in
    let b = c.self.inside in
    let fresh : drop b.taken b.numbers.items ≡ v.fresh = ap (λ (a : Arrived). a.fresh) c.self.view_is in
    let same : b.delivered ≡ v.delivered = ap (λ (a : Arrived). a.delivered) c.self.view_is in
    let rising : AreRising v.fresh = subst AreRising fresh c.self.invariant.1 in
    let position : IsBinarySearchResult (λ y. nat_cmp y c.args.i) v.fresh (Ok c.in-Ok.place) =
    subst (λ xs. IsBinarySearchResult (λ y. nat_cmp y c.args.i) xs (Ok c.in-Ok.place)) c.fresh.ensures c.in-Ok.ensures.position in
    let there = searched v.fresh c.args.i (Ok c.in-Ok.place) position (rising_places v.fresh rising) in
    let goes = at_place c.args.i c.in-Ok.place v.fresh v.delivered rising c.requires there.0 there.1 in
    c.take.ensures
    ∙ both (remove (drop b.taken b.numbers.items) c.in-Ok.place) (without c.args.i v.fresh) c.push.new.self (marked c.args.i v.delivered)
    (ap (λ xs. remove xs c.in-Ok.place) fresh ∙ goes.0) (c.in_ok-push.ensures.ok ∙ ap (λ xs. xs ++ c.args.i ∷ []) same ∙ goes.1)

pub returns-in_default-clause-ok : goal.returns-in_default-clause-ok
returns-in_default-clause-ok c =
    let v = c.args.self.now in
    let b = c.self.inside in
    let fresh : drop b.taken b.numbers.items ≡ v.fresh = ap (λ (a : Arrived). a.fresh) c.self.view_is in
    let rising : AreRising v.fresh = subst AreRising fresh c.self.invariant.1 in
    let position : IsBinarySearchResult (λ y. nat_cmp y c.args.i) v.fresh (Err c.in_default.field-0) =
    subst (λ xs. IsBinarySearchResult (λ y. nat_cmp y c.args.i) xs (Err c.in_default.field-0)) c.fresh.ensures c.in_default.ensures.position in
    let apart = searched v.fresh c.args.i (Err c.in_default.field-0) position (rising_places v.fresh rising) in
    let none = missing c.args.i v.fresh c.in_default.field-0 apart.1 apart.2 in
    let stays = no_place c.args.i v.fresh v.delivered none c.requires in
    both v.fresh (without c.args.i v.fresh) v.delivered (marked c.args.i v.delivered) stays.0 stays.1
