use Rattle.std.proofs.Common.{◌≡◌, ◌∙◌, ap, sym, subst, ℕ, List, take, drop}
use Rattle.std.specs.Prelude.{not}
use Rattle.protocol.specs.Words.{key_before}
use Rattle.mv_index.specs.declared.reader_list.Reader.{Reader}
use Rattle.mv_index.specs.ReaderList.{prefix, stands_before, IsInOrder}
use Rattle.mv_index.proofs.Keyed.{order_drop, keyed_from}
use Rattle.mv_index.proofs.reader_list.ReaderList.of_key_from.Goals as goal

pub returns : goal.returns
returns c = λ order.
    let k = c.args.key in
    let v = c.args.ver in
    let rs = c.args.self.now.readers.items in
    let rest : c.split_at.result.1.now ≡ drop (prefix (stands_before k v) rs) rs = c.split_at.ensures.back
    ∙ (ap (λ (l : List Reader). drop c.first_from.result l) c.as_slice.ensures.value ∙ ap (λ (i : ℕ). drop i rs) (c.first_from.ensures.place order)) in
    let end = c.end_of.ensures.place (subst IsInOrder (sym rest) (order_drop (prefix (stands_before k v) rs) rs order)) in
    c.split_at-2.ensures.front
    ∙ (ap (λ (i : ℕ). take i c.split_at.result.1.now) end
    ∙ (ap (λ (l : List Reader). take (prefix (λ (r : Reader). not (key_before k r.key)) l) l) rest ∙ keyed_from k v rs order))
