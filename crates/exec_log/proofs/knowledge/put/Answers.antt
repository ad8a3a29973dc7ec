use Rattle.std.proofs.Common.{◌≡◌, ℕ, Bool, true, false, List, ap, sym, ◌∙◌}
use Rattle.std.specs.Prelude.{slice_get}
use Rattle.morty_base.specs.declared.names.Key.{Key}
use Rattle.txn_lang.specs.Keys.{Entry}
use Rattle.exec_log.specs.Knowledge.{rank, is_of}
use Rattle.exec_log.proofs.Placing.{put_set, put_insert}
use Rattle.exec_log.proofs.knowledge.put.Goals as goal

at_key : (xs ys : List Entry) (n : ℕ) (j k : Key) → n ≡ rank j ys → ys ≡ xs → j ≡ k → n ≡ rank k xs
at_key xs ys n j k is same key = is ∙ ap (rank j) same ∙ ap (λ i. rank i xs) key

test_key : (xs ys : List Entry) (n : ℕ) (j k : Key) (b c : Bool) → b ≡ is_of (slice_get ys n) j → ys ≡ xs → j ≡ k → b ≡ c → is_of (slice_get xs n) k ≡ c
test_key xs ys n j k b c is same key test =
    sym (is ∙ ap (λ zs. is_of (slice_get zs n) j) same ∙ ap (is_of (slice_get xs n)) key) ∙ test

pub returns-then-is_held : goal.returns-then-is_held
returns-then-is_held c =
    let e = c.args.entry in
    let xs = c.args.known.now.items in
    let key = ap (λ (x : Entry). x.key) c.entry.view_is in
    put_set e xs c.rank-at.result
    (at_key xs c.as_slice.result.now c.rank-at.result c.entry.inside.key e.key c.rank-at.ensures.value c.as_slice.ensures.value key)
    (test_key xs c.as_slice-2.result.now c.rank-at.result c.entry.inside.key e.key c.is_held.result true
    c.is_held.ensures c.as_slice-2.ensures.value key c.if-is_held.true)

pub returns-in_ok-insert : goal.returns-in_ok-insert
returns-in_ok-insert c =
    let e = c.args.entry in
    let xs = c.args.known.now.items in
    let key = ap (λ (x : Entry). x.key) c.entry.view_is in
    c.in_ok-insert.ensures.items ∙ put_insert e xs c.rank-at.result
    (at_key xs c.as_slice.result.now c.rank-at.result c.entry.inside.key e.key c.rank-at.ensures.value c.as_slice.ensures.value key)
    (test_key xs c.as_slice-2.result.now c.rank-at.result c.entry.inside.key e.key c.is_held.result false
    c.is_held.ensures c.as_slice-2.ensures.value key c.if-is_held.false)
