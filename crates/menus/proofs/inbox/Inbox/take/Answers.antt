-- The number at a place goes, also where all before it went.
use Rattle.std.proofs.Common.{List, ℕ, ◌≡◌, ◌+◌, ◌<◌, ◌≤◌, length, ap, sym, subst, refl, arith}
use Rattle.std.specs.Prelude.{drop}
use Rattle.std.specs.List.{remove}
use Rattle.std.proofs.lemmas.List.{length-drop}
use Rattle.std.proofs.lemmas.List.Edits.{length-remove}
use Rattle.menus.specs.Inbox.{Arrived, AreRising}
use Rattle.menus.proofs.Removal.{drop_closed, drop_removed, rising_removed}
use Rattle.menus.proofs.inbox.Inbox.take.Goals as goal

-- a place of the fresh ones is one past those taken
past : (t p : ℕ) (ns fresh : List ℕ) → drop t ns ≡ fresh → p < length fresh → t ≤ length ns → t + p < length ns
past t p ns fresh e h w = omega (arith, length-drop t ns, ap length e)

pub invariant_of-self : goal.invariant_of-self
invariant_of-self c =
    let b = c.self.inside in
    let fresh : drop b.taken b.numbers.items ≡ c.args.self.now.fresh = ap (λ (v : Arrived). v.fresh) c.self.view_is in
    let some = past b.taken c.args.place b.numbers.items c.args.self.now.fresh fresh c.requires c.self.invariant.0 in
    let there : c.args.place < length (drop b.taken b.numbers.items) = omega (arith, ap length fresh, c.requires) in
    let len = c.close_up.ensures.len in (
      omega (arith, len, some),
      rw
          (drop_closed b.taken c.args.place c.close_up.new.numbers.items b.numbers.items (omega (arith, len, some)) c.self.invariant.0 c.close_up.ensures.left)
          (rising_removed c.args.place (drop b.taken b.numbers.items) there c.self.invariant.1),
    )

pub invariant_of-self-else-place-len : goal.invariant_of-self-else-place-len
invariant_of-self-else-place-len c =
    let b = c.self.inside in
    let fresh : drop b.taken b.numbers.items ≡ c.args.self.now.fresh = ap (λ (v : Arrived). v.fresh) c.self.view_is in
    let some = past b.taken c.args.place b.numbers.items c.args.self.now.fresh fresh c.requires c.self.invariant.0 in
    let there : c.args.place < length (drop b.taken b.numbers.items) = omega (arith, ap length fresh, c.requires) in
    let fewer = length-remove b.numbers.items (b.taken + c.args.place) some in
    let within : b.taken ≤ length (remove b.numbers.items (b.taken + c.args.place)) = omega arith in
    let rising : AreRising (drop b.taken (remove b.numbers.items (b.taken + c.args.place))) =
    subst AreRising (sym (drop_removed b.taken c.args.place b.numbers.items c.self.invariant.0))
    (rising_removed c.args.place (drop b.taken b.numbers.items) there c.self.invariant.1) in
    rw c.remove.ensures.items (within, rising)

pub returns-then-place-len : goal.returns-then-place-len
returns-then-place-len c =
    let b = c.self.inside in
    let fresh : drop b.taken b.numbers.items ≡ c.args.self.now.fresh = ap (λ (v : Arrived). v.fresh) c.self.view_is in
    let same : b.delivered ≡ c.args.self.now.delivered = ap (λ (v : Arrived). v.delivered) c.self.view_is in
    let some = past b.taken c.args.place b.numbers.items c.args.self.now.fresh fresh c.requires c.self.invariant.0 in
    let len = c.close_up.ensures.len in
    rw (
      drop_closed b.taken c.args.place c.close_up.new.numbers.items b.numbers.items
          (omega (arith, len, some)) c.self.invariant.0 c.close_up.ensures.left,
      fresh,
      same,
    ) refl

pub returns-else-place-len : goal.returns-else-place-len
returns-else-place-len c =
    let b = c.self.inside in
    let fresh : drop b.taken b.numbers.items ≡ c.args.self.now.fresh = ap (λ (v : Arrived). v.fresh) c.self.view_is in
    let same : b.delivered ≡ c.args.self.now.delivered = ap (λ (v : Arrived). v.delivered) c.self.view_is in
    rw (c.remove.ensures.items, drop_removed b.taken c.args.place b.numbers.items c.self.invariant.0, fresh, same) refl
