use Rattle.std.proofs.Common.{◌≡◌, ◌∙◌, ap, sym, subst, ℕ, List}
use Rattle.std.specs.List.{slice_get}
use Rattle.protocol.specs.Words.{Key, key_before}
use Rattle.mv_index.specs.ReaderList.{prefix}
use Rattle.mv_index.specs.KeyList.{AreRising, is_key}
use Rattle.mv_index.proofs.KeyOrder.{key_found}
use Rattle.mv_index.proofs.key_list.KeyList.has.Goals as goal

pub returns : goal.returns
returns c = λ order.
    let k = c.args.key in
    let ks = c.args.self.now.keys.items in
    let at : c.place-at.result ≡ prefix (λ l. key_before l k) ks = c.place-at.ensures.place (subst AreRising (sym c.as_slice.ensures.value) order)
    ∙ ap (prefix (λ l. key_before l k)) c.as_slice.ensures.value in
    c.stands_at.ensures ∙ (ap (λ (l : List Key). is_key (slice_get l c.place-at.result) k) c.as_slice-2.ensures.value
    ∙ (ap (λ (i : ℕ). is_key (slice_get ks i) k) at ∙ key_found k ks order))
