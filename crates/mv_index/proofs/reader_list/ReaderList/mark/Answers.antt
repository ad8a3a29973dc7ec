use Rattle.std.proofs.Common.{◌≡◌, ◌∙◌, ap, sym, subst, None, Some, ℕ, List, get_or}
use Rattle.std.specs.Prelude.{slice_get, slice_set}
use Rattle.mv_index.specs.declared.reader_list.Reader.{Reader}
use Rattle.mv_index.specs.ReaderList.{prefix, stands_before, is_at, IsInOrder}
use Rattle.mv_index.proofs.Marking.{told_there, told_nowhere}
use Rattle.mv_index.proofs.reader_list.ReaderList.mark.Goals as goal

pub returns-then-stands_at : goal.returns-then-stands_at
returns-then-stands_at c = λ order.
    let k = c.args.key in
    let v = c.args.ver in
    let rs = c.args.self.now.readers.items in
    let r : Reader = record { key = k; ver = v; told = None } in
    let at : c.place-at.result ≡ prefix (stands_before k v) rs = c.place-at.ensures.place (subst IsInOrder (sym c.as_slice.ensures.value) order)
    ∙ ap (prefix (stands_before k v)) c.as_slice.ensures.value in
    c.tell.ensures r
    ∙ (ap (λ (i : ℕ). slice_set rs i (record (get_or rs i r) { told = Some c.args.held })) at
    ∙ told_there c.args.held r rs r order
    (ap (λ (i : ℕ). is_at (slice_get rs i) k v) (sym at) ∙ (ap (λ (l : List Reader). is_at (slice_get l c.place-at.result) k v) (sym c.as_slice-2.ensures.value)
    ∙ (sym c.stands_at.ensures ∙ c.if-stands_at.true))))

pub returns-else-stands_at : goal.returns-else-stands_at
returns-else-stands_at c = λ order.
    let k = c.args.key in
    let v = c.args.ver in
    let rs = c.args.self.now.readers.items in
    let at : c.place-at.result ≡ prefix (stands_before k v) rs = c.place-at.ensures.place (subst IsInOrder (sym c.as_slice.ensures.value) order)
    ∙ ap (prefix (stands_before k v)) c.as_slice.ensures.value in
    told_nowhere c.args.held (record { key = k; ver = v; told = None }) rs order
    (ap (λ (i : ℕ). is_at (slice_get rs i) k v) (sym at) ∙ (ap (λ (l : List Reader). is_at (slice_get l c.place-at.result) k v) (sym c.as_slice-2.ensures.value)
    ∙ (sym c.stands_at.ensures ∙ c.if-stands_at.false)))
