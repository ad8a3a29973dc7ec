-- What the tests of names tell, of versions, executions, write names and keys.
use Rattle.std.proofs.Common.{◌≡◌, ◌≤◌, ◌⊎◌, inl, inr, ap, sym, ◌∙◌, true, false, arith}
use Rattle.std.specs.Prelude.{◌==◌, ◌&&◌}
use Rattle.std.proofs.lemmas.Bool.Decides.{nat_tests, Decides-int_eq}
use Rattle.std.proofs.lemmas.Int.{ints}
pub use Rattle.morty_base.proofs.Orders.{same_exec_tells, same_version_tells}
use Rattle.protocol.specs.Words.{Key, Wid, no_version, before, IsBefore, IsUpTo, same_exec, same_version, same_key, key_before, same_wid, wid_before, Version, Exec}
use Rattle.protocol.specs.World.Decided.{UpTo}
use Rattle.protocol.proofs.TestLemmas.{true_false, and_left, and_right, eqb_is}

pub before_tells : (a b : Version) → ((before a b ≡ true) × IsBefore a b) ⊎ ((before a b ≡ false) × IsUpTo b a)
unfolding before
before_tells a b = grind (arith, nat_tests)

pub same_exec_refl : (x : Exec) → same_exec x x ≡ true
unfolding same_exec
same_exec_refl x = grind (arith, nat_tests)

pub exec_is : (x y : Exec) → same_exec x y ≡ true → x ≡ y
exec_is x y e = elim (same_exec_tells x y) [ inl p ↦ p.1 | inr p ↦ absurd (true_false (sym e ∙ p.0)) ]

pub version_is : (x y : Version) → same_version x y ≡ true → x ≡ y
version_is x y e = elim (same_version_tells x y) [ inl p ↦ p.1 | inr p ↦ absurd (true_false (sym e ∙ p.0)) ]

pub is_before : (a b : Version) → before a b ≡ true → IsBefore a b
unfolding before
is_before a b e = grind (arith, nat_tests)

pub before_false : (a b : Version) → IsUpTo a b → before b a ≡ false
unfolding before
before_false a b e = grind (arith, nat_tests)

pub none_before : (a : Version) → before a no_version ≡ false
unfolding before
none_before a = grind (arith, nat_tests)

pub key_is : (k l : Key) → same_key k l ≡ true → k ≡ l
unfolding same_key
key_is k l e = let a : k.table ≡ l.table = eqb_is k.table l.table (and_left _ _ e) in let b : k.index ≡ l.index = (Decides-int_eq k.index l.index).0 (and_right (k.table == l.table) _ e) in λ i. record { table = a i; index = b i }

pub key_itself : (k : Key) → same_key k k ≡ true
unfolding same_key
key_itself k = let a : (k.table == k.table) ≡ true = grind (arith, nat_tests) in rw a ((Decides-int_eq k.index k.index).1 (λ i. k.index))

-- b is at or below a, in the order of write names
pub wid_trans : (a b c : Wid) → wid_before a b ≡ false → wid_before b c ≡ false → wid_before a c ≡ false
unfolding wid_before before same_version
wid_trans a b c p q = grind (arith, nat_tests)

pub wid_less : (a b : Wid) → wid_before a b ≡ true → wid_before b a ≡ false
unfolding wid_before before same_version
wid_less a b p = grind (arith, nat_tests)

pub wid_itself : (a : Wid) → wid_before a a ≡ false
unfolding wid_before before same_version
wid_itself a = grind (arith, nat_tests)

pub key_trans : (a b c : Key) → key_before a b ≡ true → key_before b c ≡ true → key_before a c ≡ true
unfolding key_before
key_trans a b c p q = grind (arith, nat_tests, ints)

pub key_order : (a b : Key) → same_key a b ≡ false → key_before a b ≡ false → key_before b a ≡ true
unfolding key_before same_key
key_order a b p q = grind (arith, nat_tests, ints)

pub key_irreflexive : (a : Key) → key_before a a ≡ false
unfolding key_before
key_irreflexive a = grind (arith, nat_tests, ints)

pub wid_within : (a b : Wid) → a.ver ≡ b.ver → a.eid ≡ b.eid → b.seq ≤ a.seq → wid_before a b ≡ false
unfolding wid_before before same_version
wid_within a b v e l = let t : a.ver.ts ≡ b.ver.ts = ap (λ (z : Version). z.ts) v in let c : a.ver.client ≡ b.ver.client = ap (λ (z : Version). z.client) v in grind (arith, nat_tests)

pub wid_equal : (a b : Wid) → wid_before a b ≡ false → wid_before b a ≡ false → (a.ver.ts ≡ b.ver.ts) × (a.ver.client ≡ b.ver.client) × (a.eid ≡ b.eid) × (a.seq ≡ b.seq)
unfolding wid_before before same_version
wid_equal a b p q = grind (arith, nat_tests)

pub exec_of : (x y : Exec) → x.ver.ts ≡ y.ver.ts → x.ver.client ≡ y.ver.client → x.eid ≡ y.eid → x ≡ y
exec_of x y p q r = λ i. record { ver = record { ts = p i; client = q i }; eid = r i }

pub wid_is : (a b : Wid) → same_wid a b ≡ true → a ≡ b
unfolding same_wid
wid_is a b e =
    let v = and_left ((a.ver.ts == b.ver.ts && a.ver.client == b.ver.client) && a.eid == b.eid) _ e in
    let u = and_left (a.ver.ts == b.ver.ts && a.ver.client == b.ver.client) _ v in
    let t = eqb_is a.ver.ts b.ver.ts (and_left (a.ver.ts == b.ver.ts) _ u) in let c = eqb_is a.ver.client b.ver.client (and_right (a.ver.ts == b.ver.ts) _ u) in
    let d = eqb_is a.eid b.eid (and_right (a.ver.ts == b.ver.ts && a.ver.client == b.ver.client) _ v) in let s = eqb_is a.seq b.seq (and_right ((a.ver.ts == b.ver.ts && a.ver.client == b.ver.client) && a.eid == b.eid) _ e) in
    λ i. record { ver = record { ts = t i; client = c i }; eid = d i; seq = s i }

pub up_to_trans : (a b c : Version) → UpTo a b → UpTo b c → UpTo a c
unfolding before
up_to_trans a b c p q = grind (arith, nat_tests)

pub before_up_to : (a b : Version) → before a b ≡ true → UpTo a b
unfolding before
before_up_to a b p = grind (arith, nat_tests)

pub before_then : (a b c : Version) → before a b ≡ true → UpTo b c → before a c ≡ true
unfolding before
before_then a b c p q = grind (arith, nat_tests)

pub then_before : (a b c : Version) → UpTo a b → before b c ≡ true → before a c ≡ true
unfolding before
then_before a b c p q = grind (arith, nat_tests)

pub up_to_none : (a b : Version) → before a b ≡ true → before no_version b ≡ true
unfolding before
up_to_none a b p = grind (arith, nat_tests)

pub up_to_itself : (a : Version) → UpTo a a
unfolding before
up_to_itself a = grind (arith, nat_tests)

pub before_self : (a : Version) → before a a ≡ false
unfolding before
before_self a = grind (arith, nat_tests)
