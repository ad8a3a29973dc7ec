use Rattle.std.proofs.Common.{◌≡◌, ◌∙◌, ap, sym, subst, ℕ, List}
use Rattle.std.specs.List.{slice_get, insert, list_any}
use Rattle.protocol.specs.Words.{Key, key_before, same_key}
use Rattle.mv_index.specs.ReaderList.{prefix}
use Rattle.mv_index.specs.KeyList.{AreRising, is_key}
use Rattle.mv_index.proofs.KeyOrder.{key_found, any_insert, rising_insert, already}
use Rattle.mv_index.proofs.key_list.KeyList.add.Goals as goal

pub returns-then-stands_at-clause-has : goal.returns-then-stands_at-clause-has
returns-then-stands_at-clause-has c = λ order q.
    let k = c.args.key in
    let ks = c.args.self.now.keys.items in
    let at : c.place-at.result ≡ prefix (λ l. key_before l k) ks = c.place-at.ensures.place (subst AreRising (sym c.as_slice.ensures.value) order)
    ∙ ap (prefix (λ l. key_before l k)) c.as_slice.ensures.value in
    already q k ks (sym (key_found k ks order) ∙ (ap (λ (i : ℕ). is_key (slice_get ks i) k) (sym at)
    ∙ (ap (λ (l : List Key). is_key (slice_get l c.place-at.result) k) (sym c.as_slice-2.ensures.value) ∙ (sym c.stands_at.ensures ∙ c.if-stands_at.true))))

pub returns-clause-rising : goal.returns-clause-rising
returns-clause-rising c = λ order.
    let k = c.args.key in
    let ks = c.args.self.now.keys.items in
    let at : c.place-at.result ≡ prefix (λ l. key_before l k) ks = c.place-at.ensures.place (subst AreRising (sym c.as_slice.ensures.value) order)
    ∙ ap (prefix (λ l. key_before l k)) c.as_slice.ensures.value in
    subst AreRising (sym (c.in_ok-insert.ensures.items ∙ ap (λ (i : ℕ). insert ks i k) at))
    (rising_insert k ks order (ap (λ (i : ℕ). is_key (slice_get ks i) k) (sym at)
    ∙ (ap (λ (l : List Key). is_key (slice_get l c.place-at.result) k) (sym c.as_slice-2.ensures.value)
    ∙ (sym c.stands_at.ensures ∙ c.if-stands_at.false))))

pub returns-clause-has : goal.returns-clause-has
returns-clause-has c = λ order q. ap (list_any (same_key q)) c.in_ok-insert.ensures.items ∙ any_insert q c.args.key c.args.self.now.keys.items c.place-at.result
