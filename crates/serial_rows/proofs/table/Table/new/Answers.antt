use Rattle.std.proofs.Common.{◌≡◌, List, [], ◌∷◌, ◌++◌, length, refl, sym, ◌∙◌, ap, subst, append_assoc, append-nil, arith}
use Rattle.std.specs.List.{list_any}
use Rattle.std.specs.BTreeMap.{is_at}
use Rattle.txn_lang.specs.Keys.{Entry, HoldTheSame}
use Rattle.txn_lang.proofs.SameMaps.{same_map}
use Rattle.serial_rows.specs.Values.{key_cmp}
use Rattle.serial_rows.specs.Tables.{IsTable}
use Rattle.serial_rows.proofs.table.Table.new.Goals as goal

none_left : (xs : List Entry) → length xs ≡ 0 → xs ≡ []
none_left [] none = refl
none_left (x ∷ xs) none = absurd (omega arith)

pub firsts-init : goal.firsts-init
firsts-init c = (
  [],
  sym (append-nil c.args.firsts.now),
  record {
    same = subst (λ (m : List Entry). HoldTheSame m []) (sym c.new.ensures) (same_map []);
    keys = record { each = λ k. ap (λ ks. list_any (is_at (key_cmp k)) ks) c.new-2.ensures.empty };
  },
)

pub firsts-preserved : goal.firsts-preserved
firsts-preserved c =
    let so = c.firsts.invariant in
    let last = c.in-Some.last.now in
    (last ∷ so.0, so.1 ∙ ap (λ l. l ++ so.0) c.in-Some.ensures.cases.0 ∙ append_assoc c.in-Some.front.now (last ∷ []) so.0, c.in_ok-add.ensures so.0 so.2)

pub returns : goal.returns
returns c =
    let so = c.firsts.invariant in
    let all = so.1 ∙ ap (λ l. l ++ so.0) (none_left c.firsts.rest.now c.in_default.ensures.cases) in
    subst (λ (m : List Entry). IsTable m c.firsts.table) (sym all) so.2
