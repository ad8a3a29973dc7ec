-- The orders of names: each test is a total order, and is what the derived comparison tells.
use Rattle.std.proofs.Common.{◌≡◌, ℕ, ◌<◌, ◌⊎◌, ◌≢◌, Bool, true, false, inl, inr, ap, refl, arith}
use Rattle.std.specs.Prelude.{◌&&◌, ◌==◌, nat_lt}
use Rattle.std.specs.Ordering.{is_lt, nat_cmp, int_cmp, ordering_then}
use Rattle.std.proofs.lemmas.Bool.Decides.{nat_tests, eqb_tells}
use Rattle.std.proofs.lemmas.Int.{ints}
use Rattle.morty_base.specs.declared.names.Version.{Version}
use Rattle.morty_base.specs.declared.names.Exec.{Exec}
use Rattle.morty_base.specs.declared.names.Wid.{Wid}
use Rattle.morty_base.specs.declared.names.Key.{Key}
use Rattle.morty_base.specs.declared.names.NodeId.{NodeId}
use Rattle.morty_base.specs.declared.names.NodeId.TheVariants.{Client, Replica, Warden}
use Rattle.morty_base.specs.Names.{before, same_version, exec_before, same_exec, wid_before, same_wid, key_before, same_key, node_before, same_node}
use Rattle.morty_base.specs.Orders.{IsTotalOrder, TellsEqual}

pub before_total : IsTotalOrder before
unfolding before
before_total = record { irreflexive = λ a. grind (arith, nat_tests); transitive = λ a b c p q. grind (arith, nat_tests); total = λ a b p q. grind (arith, nat_tests) }

pub same_version_tells : TellsEqual same_version
unfolding same_version
same_version_tells a b = grind (arith, nat_tests)

-- what the test of executions tells, in numbers
abbrev IsExecBefore : Exec → Exec → Type 0
IsExecBefore a b =
    (a.ver.ts < b.ver.ts)
    ⊎ ((a.ver.ts ≡ b.ver.ts) × ((a.ver.client < b.ver.client) ⊎ ((a.ver.client ≡ b.ver.client) × (a.eid < b.eid))))

pub is_exec_before : (a b : Exec) → exec_before a b ≡ true → IsExecBefore a b
unfolding exec_before before same_version
is_exec_before a b e = grind (arith, nat_tests)

pub exec_before_true : (a b : Exec) → IsExecBefore a b → exec_before a b ≡ true
unfolding exec_before before same_version
exec_before_true a b h = grind (arith, nat_tests)

is_exec_before_transitive : (a b c : Exec) → IsExecBefore a b → IsExecBefore b c → IsExecBefore a c
is_exec_before_transitive a b c p q = grind arith

pub exec_before_total : IsTotalOrder exec_before
unfolding exec_before before same_version
exec_before_total = record {
  irreflexive = λ a. grind (arith, nat_tests);
  transitive = λ a b c p q. exec_before_true a c (is_exec_before_transitive a b c (is_exec_before a b p) (is_exec_before b c q));
  total = λ a b p q. grind (arith, nat_tests);
}

pub same_exec_tells : TellsEqual same_exec
unfolding same_exec
same_exec_tells a b = grind (arith, nat_tests)

-- what the test of write names tells, in numbers
abbrev IsWidBefore : Wid → Wid → Type 0
IsWidBefore a b =
    (a.ver.ts < b.ver.ts)
    ⊎ ((a.ver.ts ≡ b.ver.ts) × ((a.ver.client < b.ver.client)
    ⊎ ((a.ver.client ≡ b.ver.client) × ((a.eid < b.eid) ⊎ ((a.eid ≡ b.eid) × (a.seq < b.seq))))))

pub is_wid_before : (a b : Wid) → wid_before a b ≡ true → IsWidBefore a b
unfolding wid_before before same_version
is_wid_before a b e = grind (arith, nat_tests)

pub wid_before_true : (a b : Wid) → IsWidBefore a b → wid_before a b ≡ true
unfolding wid_before before same_version
wid_before_true a b h = grind (arith, nat_tests)

is_wid_before_transitive : (a b c : Wid) → IsWidBefore a b → IsWidBefore b c → IsWidBefore a c
is_wid_before_transitive a b c p q = grind arith

pub wid_before_total : IsTotalOrder wid_before
unfolding wid_before before same_version
wid_before_total = record {
  irreflexive = λ a. grind (arith, nat_tests);
  transitive = λ a b c p q. wid_before_true a c (is_wid_before_transitive a b c (is_wid_before a b p) (is_wid_before b c q));
  total = λ a b p q. grind (arith, nat_tests);
}

pub same_wid_tells : TellsEqual same_wid
unfolding same_wid
same_wid_tells a b = grind (arith, nat_tests)

pub key_before_total : IsTotalOrder key_before
unfolding key_before
key_before_total = record { irreflexive = λ a. grind (arith, nat_tests, ints); transitive = λ a b c p q. grind (arith, nat_tests, ints); total = λ a b p q. grind (arith, nat_tests, ints) }

pub same_key_tells : TellsEqual same_key
unfolding same_key
same_key_tells a b = grind (arith, nat_tests, ints)

pub version_less : (a b : Version) → is_lt (ordering_then (nat_cmp a.ts b.ts) (nat_cmp a.client b.client)) ≡ before a b
unfolding before
version_less a b = grind (arith, nat_tests)

pub exec_less : (a b : Exec) → is_lt (ordering_then (ordering_then (nat_cmp a.ver.ts b.ver.ts) (nat_cmp a.ver.client b.ver.client)) (nat_cmp a.eid b.eid)) ≡ exec_before a b
unfolding exec_before before same_version
exec_less a b = grind (arith, nat_tests)

pub wid_less : (a b : Wid) → is_lt (ordering_then (ordering_then (nat_cmp a.ver.ts b.ver.ts) (nat_cmp a.ver.client b.ver.client)) (ordering_then (nat_cmp a.eid b.eid) (nat_cmp a.seq b.seq))) ≡ wid_before a b
unfolding wid_before before same_version
wid_less a b = grind (arith, nat_tests)

pub wid_equal : (a b : Wid) → ((a.ver.ts == b.ver.ts && a.ver.client == b.ver.client) && (a.eid == b.eid && a.seq == b.seq)) ≡ same_wid a b
unfolding same_wid
wid_equal a b = grind (arith, nat_tests)

pub key_less : (a b : Key) → is_lt (ordering_then (nat_cmp a.table b.table) (int_cmp a.index b.index)) ≡ key_before a b
unfolding key_before
key_less a b = grind (arith, nat_tests, ints)

equal : (a b : ℕ) → nat_lt a b ≡ false → nat_lt b a ≡ false → a ≡ b
equal a b p q = grind (arith, nat_tests)

pub node_before_total : IsTotalOrder node_before
unfolding node_before
node_before_total = record { irreflexive = irreflexive; transitive = transitive; total = total }
  where
    irreflexive : (a : NodeId) → node_before a a ≡ false
    irreflexive (Client a) = grind (arith, nat_tests)
    irreflexive (Replica a) = grind (arith, nat_tests)
    irreflexive (Warden a) = grind (arith, nat_tests)

    transitive : (a b c : NodeId) → node_before a b ≡ true → node_before b c ≡ true → node_before a c ≡ true
    transitive (Client a) (Client b) (Client c) p q = grind (arith, nat_tests)
    transitive (Client a) (Client b) (Replica c) p q = grind (arith, nat_tests)
    transitive (Client a) (Client b) (Warden c) p q = grind (arith, nat_tests)
    transitive (Client a) (Replica b) (Client c) p q = cc
    transitive (Client a) (Replica b) (Replica c) p q = refl
    transitive (Client a) (Replica b) (Warden c) p q = refl
    transitive (Client a) (Warden b) (Client c) p q = cc
    transitive (Client a) (Warden b) (Replica c) p q = cc
    transitive (Client a) (Warden b) (Warden c) p q = refl
    transitive (Replica a) (Client b) c p q = absurd cc
    transitive (Replica a) (Replica b) (Client c) p q = cc
    transitive (Replica a) (Replica b) (Replica c) p q = grind (arith, nat_tests)
    transitive (Replica a) (Replica b) (Warden c) p q = refl
    transitive (Replica a) (Warden b) (Client c) p q = cc
    transitive (Replica a) (Warden b) (Replica c) p q = cc
    transitive (Replica a) (Warden b) (Warden c) p q = refl
    transitive (Warden a) (Client b) c p q = absurd cc
    transitive (Warden a) (Replica b) c p q = absurd cc
    transitive (Warden a) (Warden b) (Client c) p q = cc
    transitive (Warden a) (Warden b) (Replica c) p q = cc
    transitive (Warden a) (Warden b) (Warden c) p q = grind (arith, nat_tests)

    total : (a b : NodeId) → node_before a b ≡ false → node_before b a ≡ false → a ≡ b
    total (Client a) (Client b) p q = ap Client (equal a b p q)
    total (Client a) (Replica b) p q = cc
    total (Client a) (Warden b) p q = cc
    total (Replica a) (Client b) p q = cc
    total (Replica a) (Replica b) p q = ap Replica (equal a b p q)
    total (Replica a) (Warden b) p q = cc
    total (Warden a) (Client b) p q = cc
    total (Warden a) (Replica b) p q = cc
    total (Warden a) (Warden b) p q = ap Warden (equal a b p q)

-- nodes of one kind are equal where their numbers are
named : {r : Bool} (kind : ℕ → NodeId) {a b : ℕ} → (kind a ≡ kind b → a ≡ b) → ((r ≡ true) × (a ≡ b)) ⊎ ((r ≡ false) × (a ≢ b)) → ((r ≡ true) × (kind a ≡ kind b)) ⊎ ((r ≡ false) × (kind a ≢ kind b))
named kind back (inl p) = inl (p.0, ap kind p.1)
named kind back (inr p) = inr (p.0, λ e. p.1 (back e))

pub same_node_tells : TellsEqual same_node
unfolding same_node
same_node_tells (Client a) (Client b) = named Client (λ e. cc) (eqb_tells a b)
same_node_tells (Client a) (Replica b) = inr (refl, λ e. cc)
same_node_tells (Client a) (Warden b) = inr (refl, λ e. cc)
same_node_tells (Replica a) (Client b) = inr (refl, λ e. cc)
same_node_tells (Replica a) (Replica b) = named Replica (λ e. cc) (eqb_tells a b)
same_node_tells (Replica a) (Warden b) = inr (refl, λ e. cc)
same_node_tells (Warden a) (Client b) = inr (refl, λ e. cc)
same_node_tells (Warden a) (Replica b) = inr (refl, λ e. cc)
same_node_tells (Warden a) (Warden b) = named Warden (λ e. cc) (eqb_tells a b)

pub number_less : (a b : ℕ) → is_lt (nat_cmp a b) ≡ nat_lt a b
number_less a b = grind (arith, nat_tests)
