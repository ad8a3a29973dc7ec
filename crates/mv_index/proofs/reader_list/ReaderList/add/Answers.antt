use Rattle.std.proofs.Common.{◌≡◌, ◌∙◌, ap, sym, subst, None, ℕ, List}
use Rattle.std.specs.List.{insert, slice_get}
use Rattle.mv_index.specs.declared.reader_list.Reader.{Reader}
use Rattle.mv_index.specs.ReaderList.{prefix, stands_before, is_at, IsInOrder}
use Rattle.mv_index.proofs.Sorted.{put_there, put_new}
use Rattle.mv_index.proofs.reader_list.ReaderList.add.Goals as goal

pub returns-then-stands_at : goal.returns-then-stands_at
returns-then-stands_at c = λ order.
    let k = c.args.key in
    let v = c.args.ver in
    let rs = c.args.self.now.readers.items in
    let at : c.place-at.result ≡ prefix (stands_before k v) rs = c.place-at.ensures.place (subst IsInOrder (sym c.as_slice.ensures.value) order)
    ∙ ap (prefix (stands_before k v)) c.as_slice.ensures.value in
    put_there (record { key = k; ver = v; told = None }) rs
    (ap (λ (i : ℕ). is_at (slice_get rs i) k v) (sym at) ∙ (ap (λ (l : List Reader). is_at (slice_get l c.place-at.result) k v) (sym c.as_slice-2.ensures.value)
    ∙ (sym c.stands_at.ensures ∙ c.if-stands_at.true)))

pub returns : goal.returns
returns c = λ order.
    let k = c.args.key in
    let v = c.args.ver in
    let rs = c.args.self.now.readers.items in
    let at : c.place-at.result ≡ prefix (stands_before k v) rs = c.place-at.ensures.place (subst IsInOrder (sym c.as_slice.ensures.value) order)
    ∙ ap (prefix (stands_before k v)) c.as_slice.ensures.value in
    c.in_ok-insert.ensures.items ∙ (ap (λ (i : ℕ). insert rs i (record { key = k; ver = v; told = None })) at
    ∙ put_new (record { key = k; ver = v; told = None }) rs
    (ap (λ (i : ℕ). is_at (slice_get rs i) k v) (sym at) ∙ (ap (λ (l : List Reader). is_at (slice_get l c.place-at.result) k v) (sym c.as_slice-2.ensures.value)
    ∙ (sym c.stands_at.ensures ∙ c.if-stands_at.false))))
