-- The committed transactions as a set, and the rows of the others.
use Rattle.std.proofs.Common.{◌≡◌, ℕ, ◌+◌, true, cond, List, [], ◌∷◌, ◌++◌, length, Some, refl, ap, sym, ◌∙◌, ◌&&◌}
use Rattle.std.specs.Prelude.{flat_map, ◌==◌}
use Rattle.std.specs.List.{list_any, slice_get}
use Rattle.std.specs.Ordering.{is_eq}
use Rattle.std.specs.BTreeMap.{is_at}
use Rattle.std.specs.BTreeSet.{BTreeSet, contains}
use Rattle.report.specs.declared.rows.LeftRow.{LeftRow}
use Rattle.protocol.specs.Lists.{upto}
use Rattle.protocol.specs.World.State.{World, rules}
use Rattle.protocol.specs.World.Committed.{CommittedExec}
use Rattle.protocol_plans.specs.Scripted.{Scripted, plan_of}
use Rattle.world_rows.specs.Rows.{left_row}
use Rattle.world_rows.specs.Left.{txn_cmp, left_in, left_at, AreDone}
use Rattle.world_rows.specs.Report.{progress_of, AreProgress}
use Rattle.world_rows.specs.declared.left.Progress.{Progress}
use Rattle.world_rows.specs.declared.left.TxnName.{TxnName}
use Rattle.world_rows.proofs.Appended.{any_more, upto_more}
use Rattle.world_rows.proofs.OrdersLemmas.{txn_eq}

pub none_done : (done : BTreeSet TxnName) → done.keys ≡ [] → AreDone [] done
none_done done e = record { each = λ c n. ap (list_any (is_at (txn_cmp (record { client = c; txn = n })))) e }

abbrev pub txn_name : CommittedExec → TxnName
txn_name c = record { client = c.exec.ver.client; txn = c.txn }

pub done_more : (cs : List CommittedExec) (d : CommittedExec) (s t : BTreeSet TxnName) →
    ((q : TxnName) → contains txn_cmp t q ≡ cond (is_eq (txn_cmp (txn_name d) q)) true (contains txn_cmp s q)) → AreDone cs s → AreDone (cs ++ d ∷ []) t
done_more cs d s t u a = record {
  each = λ c n.
      let q : TxnName = record { client = c; txn = n } in
      u q
      ∙ (ap (λ b. cond b true (contains txn_cmp s q)) (txn_eq (txn_name d) q)
      ∙ (ap (λ b. cond (d.exec.ver.client == c && d.txn == n) true b) (a.each c n)
      ∙ sym (any_more (λ (e : CommittedExec). e.exec.ver.client == c && e.txn == n) cs d)));
}

flat_same : {A B : Type 0} (f g : A → List B) (xs : List A) → ((a : A) → f a ≡ g a) → flat_map f xs ≡ flat_map g xs
flat_same f g [] e = refl
flat_same {A} {B} f g (x ∷ xs) e = ap (λ (l : List B). l ++ flat_map f xs) (e x) ∙ ap (λ (l : List B). g x ++ l) (flat_same f g xs e)

-- the rows of a client by the definitions
abbrev pub client_rows : Scripted → World → List CommittedExec → ℕ → List LeftRow
client_rows s w cs c = flat_map (left_row w cs c) (upto (length (rules (plan_of s) c).txns))

pub client_left : (s : Scripted) (w : World) (cs : List CommittedExec) (done : BTreeSet TxnName) (c : ℕ) (g : Progress) → AreDone cs done →
    g ≡ progress_of s w c →
    flat_map (left_at done g c) (upto g.txns) ≡ client_rows s w cs c
client_left s w cs done c g a e =
    ap (λ (h : Progress). flat_map (left_at done h c) (upto h.txns)) e
    ∙ flat_same (left_at done (progress_of s w c) c) (left_row w cs c) (upto (progress_of s w c).txns)
    (λ n. ap (λ b. cond b [] (record { client = c; txn = n; state = left_in (progress_of s w c) n } ∷ [])) (a.each c n))

-- the rows of one more client
pub left_more : (s : Scripted) (w : World) (cs : List CommittedExec) (done : BTreeSet TxnName) (gs : List Progress) (i : ℕ) (g : Progress)
    (old new : List LeftRow) →
    AreDone cs done → AreProgress s w gs → slice_get gs i ≡ Some g → old ≡ flat_map (client_rows s w cs) (upto i) →
    new ≡ old ++ flat_map (left_at done g (i + 1)) (upto g.txns) → new ≡ flat_map (client_rows s w cs) (upto (i + 1))
left_more s w cs done gs i g old new a p e f h =
    h ∙ (ap (λ (l : List LeftRow). l ++ flat_map (left_at done g (i + 1)) (upto g.txns)) f
    ∙ (ap (λ (l : List LeftRow). flat_map (client_rows s w cs) (upto i) ++ l) (client_left s w cs done (i + 1) g a (p.each i g e))
    ∙ sym (upto_more (client_rows s w cs) i)))
