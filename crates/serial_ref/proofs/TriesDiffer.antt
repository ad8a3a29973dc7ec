-- No two items of the first tries have one version: a client's rise, and those of two clients have two clients.
use Rattle.std.proofs.Common.{◌≡◌, ℕ, ◌+◌, ◌<◌, ◌≤◌, false, List, [], ◌∷◌, ◌++◌, refl, sym, subst, arith}
use Rattle.std.specs.List.{AllByRecursion, IsDistinct}
use Rattle.std.proofs.lemmas.Bool.Decides.{nat_tests}
use Rattle.std.proofs.lemmas.List.{map-append}
use Rattle.std.proofs.lemmas.Map.Keys.{IsDistinct-head, IsDistinct-tail, IsDistinct-cons}
use Rattle.morty_base.specs.declared.names.Version.{Version}
use Rattle.morty_base.specs.Names.{same_version}
use Rattle.script.specs.declared.setup.Txn.{Txn}
use Rattle.serial_ref.specs.declared.item.SerialItem.{SerialItem}
use Rattle.serial_ref.specs.SerialItem.{versions_of, DifferInVersion}
use Rattle.serial_ref.specs.FirstTries.{first_ts, client_tries, all_tries}

all_weaker : (P Q : Version → Type 0) → ((v : Version) → P v → Q v) → (vs : List Version) → AllByRecursion P vs → AllByRecursion Q vs
all_weaker P Q weaker [] all = tt
all_weaker P Q weaker (v ∷ vs) all = (weaker v all.0, all_weaker P Q weaker vs all.1)

all_both : (P : Version → Type 0) (vs ws : List Version) → AllByRecursion P vs → AllByRecursion P ws → AllByRecursion P (vs ++ ws)
all_both P [] ws first then = then
all_both P (v ∷ vs) ws first then = (first.0, all_both P vs ws first.1 then)

-- distinct versions, and others of which another fact holds
distinct_both : (P Q : Version → Type 0) → ((v w : Version) → P v → Q w → same_version v w ≡ false) → (vs ws : List Version) →
    AllByRecursion P vs → AllByRecursion Q ws → IsDistinct same_version vs → IsDistinct same_version ws → IsDistinct same_version (vs ++ ws)
distinct_both P Q differ [] ws all others first then = then
distinct_both P Q differ (v ∷ vs) ws all others first then =
    IsDistinct-cons same_version v (vs ++ ws)
    (all_both (λ w. same_version v w ≡ false) vs ws (IsDistinct-head same_version v vs first)
    (all_weaker Q (λ w. same_version v w ≡ false) (λ w q. differ v w all.0 q) ws others))
    (distinct_both P Q differ vs ws all.1 others (IsDistinct-tail same_version v vs first) then)

by_ts : (v w : Version) → v.ts < w.ts → same_version v w ≡ false
unfolding same_version
by_ts v w less = grind (arith, nat_tests)

by_client : (v w : Version) (c : ℕ) → v.client ≡ c → c + 1 ≤ w.client → same_version v w ≡ false
unfolding same_version
by_client v w c is after = grind (arith, nat_tests)

-- later than a ts, and of a client
record IsAfter (client floor : ℕ) (v : Version) : Type 0 where
  later : floor < v.ts
  own : v.client ≡ client

client_after : (client number last floor : ℕ) (txns : List Txn) → floor ≤ last →
    AllByRecursion (IsAfter client floor) (versions_of (client_tries client number last txns))
client_after client number last floor [] le = tt
client_after client number last floor (t ∷ ts) le =
    (record { later = omega arith; own = refl }, client_after client (number + 1) (first_ts t last) floor ts (omega arith))

client_differs : (client number last : ℕ) (txns : List Txn) → DifferInVersion (client_tries client number last txns)
unfolding IsDistinct
client_differs client number last [] = tt
client_differs client number last (t ∷ ts) =
    let here : Version = record { ts = first_ts t last; client = client } in
    let rest = versions_of (client_tries client (number + 1) (first_ts t last) ts) in (
      all_weaker (IsAfter client (first_ts t last)) (λ w. same_version here w ≡ false) (λ w after. by_ts here w after.later) rest
          (client_after client (number + 1) (first_ts t last) (first_ts t last) ts (omega arith)),
      client_differs client (number + 1) (first_ts t last) ts,
    )

clients_from : (client least : ℕ) (clients : List (List Txn)) → least ≤ client → AllByRecursion (λ v. least ≤ v.client) (versions_of (all_tries client clients))
clients_from client least [] le = tt
clients_from client least (txns ∷ clients) le =
    subst (AllByRecursion (λ (v : Version). least ≤ v.client))
    (sym (map-append (λ (i : SerialItem). i.ver) (client_tries client 1 0 txns) (all_tries (client + 1) clients)))
    (all_both (λ v. least ≤ v.client) (versions_of (client_tries client 1 0 txns)) (versions_of (all_tries (client + 1) clients))
    (all_weaker (IsAfter client 0) (λ v. least ≤ v.client) (λ v after. let own : v.client ≡ client = after.own in omega arith)
    (versions_of (client_tries client 1 0 txns)) (client_after client 1 0 0 txns (omega arith)))
    (clients_from (client + 1) least clients (omega arith)))

-- the first tries of the clients from this number on
pub tries_differ : (client : ℕ) (clients : List (List Txn)) → DifferInVersion (all_tries client clients)
unfolding IsDistinct
tries_differ client [] = tt
tries_differ client (txns ∷ clients) =
    subst (IsDistinct same_version) (sym (map-append (λ (i : SerialItem). i.ver) (client_tries client 1 0 txns) (all_tries (client + 1) clients)))
    (distinct_both (IsAfter client 0) (λ v. client + 1 ≤ v.client) (λ v w after from. by_client v w client after.own from)
    (versions_of (client_tries client 1 0 txns)) (versions_of (all_tries (client + 1) clients)) (client_after client 1 0 0 txns (omega arith))
    (clients_from (client + 1) (client + 1) clients (omega arith)) (client_differs client 1 0 txns) (tries_differ (client + 1) clients))
