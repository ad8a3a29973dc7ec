use Rattle.std.proofs.Common.{◌∷◌, ◌∙◌, sym, subst}
use Rattle.mv_index.specs.Records.{readers_of}
use Rattle.miss_notice.specs.Marks.{AreLeft}
use Rattle.miss_notice.proofs.DueNotes.{due_of_readers, reads_above}
use Rattle.miss_notice.proofs.NotesTold.{notes_left}
use Rattle.miss_notice.proofs.due_notes.Goals as goal

pub returns-clause-told : goal.returns-clause-told
returns-clause-told c = λ firsts h m s t.
    let r = c.args.rec.now in
    let due = c.in_ok-out.ensures firsts h m 0 s t in
    let left = notes_left firsts h (m ∷ h) 0 c.in_ok-out.out (readers_of r) (due ∙ sym (due_of_readers firsts h m 0 r s)) t.each
    (λ p i. reads_above firsts (m ∷ h) r p s i) in
    let k = c.settle.ensures firsts (m ∷ h) (c.tell_all.ensures.stands firsts (m ∷ h) s) (c.tell_all.ensures.told firsts (m ∷ h) s
    (subst (λ l. AreLeft firsts (m ∷ h) l (readers_of r)) (sym c.as_slice.ensures) left)) in
    (k.0, k.1)
