-- The entry goes in at its place, and leaves the order.
use Rattle.std.proofs.Common.{◌≡◌, length, arith, ap, sym, subst, ◌∙◌, cond}
use Rattle.std.specs.List.{slice_set}
use Rattle.protocol.specs.Warden.Base.{put_entry}
use Rattle.truncation.specs.Base.{AreRising}
use Rattle.truncation.proofs.BaseLemmas.{put_on, put_by, within_by, put_rising}
use Rattle.truncation.proofs.base.Base.put.Goals as goal

inserted : (c : goal.In_ok-insert) → c.insert.new.self.items ≡ put_entry c.args.entry c.self.inside.entries.items
inserted c =
    let b = c.args.entry in let xs = c.self.inside.entries.items in
    c.in_ok-insert.ensures.items
    ∙ (ap (put_on b xs c.place-at.result) (sym c.in_default.is)
    ∙ put_by b xs _ _ c.place-at.result c.entry_at.result c.deref.ensures.value c.deref-2.ensures.value c.place-at.ensures.within c.place-at.ensures.place c.self.invariant c.entry_at.ensures)

pub invariant_of-self-in_default : goal.invariant_of-self-in_default
invariant_of-self-in_default c = subst AreRising (sym (inserted c)) (put_rising c.args.entry c.self.inside.entries.items c.self.invariant)

pub returns-in_default : goal.returns-in_default
returns-in_default c = inserted c ∙ ap (put_entry c.args.entry) c.self.view_is

pub index_mut-requires : goal.index_mut-requires
index_mut-requires c =
    let within = within_by c.args.entry.key c.self.inside.entries.items _ c.place-at.result c.entry_at.result _ c.deref-2.ensures.value c.entry_at.ensures c.in-Some.is in
    omega (arith, c.deref-2.ensures.len, ap length c.deref-2.ensures.value)

replaced : (c : goal.After-self-1) → slice_set c.self.inside.entries.items c.place-at.result c.args.entry ≡ put_entry c.args.entry c.self.inside.entries.items
replaced c =
    let b = c.args.entry in let xs = c.self.inside.entries.items in
    sym (ap (λ t. cond t (slice_set xs c.place-at.result b) xs) (sym c.is_wid_before.ensures ∙ c.if-is_wid_before.true))
    ∙ (ap (put_on b xs c.place-at.result) (sym c.in-Some.is)
    ∙ put_by b xs _ _ c.place-at.result c.entry_at.result c.deref.ensures.value c.deref-2.ensures.value c.place-at.ensures.within c.place-at.ensures.place c.self.invariant c.entry_at.ensures)

pub invariant_of-self-then-is_wid_before : goal.invariant_of-self-then-is_wid_before
invariant_of-self-then-is_wid_before c = subst AreRising (sym (replaced c)) (put_rising c.args.entry c.self.inside.entries.items c.self.invariant)

pub returns-then-is_wid_before : goal.returns-then-is_wid_before
returns-then-is_wid_before c = replaced c ∙ ap (put_entry c.args.entry) c.self.view_is

pub returns-else-is_wid_before : goal.returns-else-is_wid_before
returns-else-is_wid_before c =
    let b = c.args.entry in let xs = c.self.inside.entries.items in
    sym c.self.view_is
    ∙ (sym (ap (λ t. cond t (slice_set xs c.place-at.result b) xs) (sym c.is_wid_before.ensures ∙ c.if-is_wid_before.false))
    ∙ (ap (put_on b xs c.place-at.result) (sym c.in-Some.is)
    ∙ (put_by b xs _ _ c.place-at.result c.entry_at.result c.deref.ensures.value c.deref-2.ensures.value c.place-at.ensures.within c.place-at.ensures.place c.self.invariant c.entry_at.ensures
    ∙ ap (put_entry b) c.self.view_is)))
