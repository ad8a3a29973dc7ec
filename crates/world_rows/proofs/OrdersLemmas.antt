-- The orders of the tables tell what the tests of names tell.
use Rattle.std.proofs.Common.{◌≡◌, true, ap, sym, ◌∙◌, arith, ◌&&◌}
use Rattle.std.specs.Prelude.{◌==◌}
use Rattle.std.specs.Ordering.{is_eq, is_lt}
use Rattle.std.specs.declared.cmp.Ordering.{Ordering}
use Rattle.std.specs.declared.cmp.Ordering.TheVariants.{Less}
use Rattle.std.proofs.lemmas.Bool.Decides.{nat_tests}
use Rattle.std.proofs.lemmas.Int.{ints}
use Rattle.protocol.specs.Words.{Version, Exec, Key, before, same_version, exec_before, same_exec, key_before, same_key}
use Rattle.protocol.proofs.NamesLemmas.{same_exec_refl, exec_is, key_is, key_itself}
use Rattle.world_rows.specs.Orders.{version_cmp, exec_cmp, key_cmp}
use Rattle.world_rows.specs.Left.{txn_cmp}
use Rattle.world_rows.specs.declared.left.TxnName.{TxnName}

pub version_eq : (a b : Version) → is_eq (version_cmp a b) ≡ same_version b a
unfolding same_version
version_eq a b = grind (arith, nat_tests)

pub exec_eq : (a b : Exec) → is_eq (exec_cmp a b) ≡ same_exec b a
unfolding same_exec
exec_eq a b = grind (arith, nat_tests)

pub key_eq : (a b : Key) → is_eq (key_cmp a b) ≡ same_key a b
unfolding same_key
key_eq a b = grind (arith, nat_tests, ints)

pub txn_eq : (a b : TxnName) → is_eq (txn_cmp a b) ≡ (a.client == b.client && a.txn == b.txn)
txn_eq a b = grind (arith, nat_tests)

exec_lt : (x y : Exec) → is_lt (exec_cmp x y) ≡ true → exec_before x y ≡ true
unfolding exec_before before same_version
exec_lt x y e = grind (arith, nat_tests)

pub exec_less : (x y : Exec) → exec_cmp x y ≡ Less → exec_before x y ≡ true
exec_less x y e = exec_lt x y (ap is_lt e)

key_lt : (k l : Key) → is_lt (key_cmp k l) ≡ true → key_before k l ≡ true
unfolding key_before
key_lt k l e = grind (arith, nat_tests, ints)

pub key_less : (k l : Key) → key_cmp k l ≡ Less → key_before k l ≡ true
key_less k l e = key_lt k l (ap is_lt e)

-- an order that tells equality
pub record IsExact {K : Type 0} (cmp : K → K → Ordering) : Type 0 where
  pub self : (a : K) → is_eq (cmp a a) ≡ true
  pub tells : (a b : K) → is_eq (cmp a b) ≡ true → a ≡ b

pub execs_exact : IsExact exec_cmp
execs_exact = record {
  self = λ x. exec_eq x x ∙ same_exec_refl x;
  tells = λ x y e. sym (exec_is y x (sym (exec_eq x y) ∙ e));
}

pub keys_exact : IsExact key_cmp
keys_exact = record {
  self = λ k. key_eq k k ∙ key_itself k;
  tells = λ k l e. key_is k l (sym (key_eq k l) ∙ e);
}
