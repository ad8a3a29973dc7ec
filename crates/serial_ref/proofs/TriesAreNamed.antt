-- The items of the first tries name transactions.
use Rattle.std.proofs.Common.{◌≡◌, ℕ, suc, ◌+◌, List, [], ◌∷◌, ◌++◌, length, Some, is_some, refl, sym, ◌∙◌, ap, arith, append_assoc}
use Rattle.std.specs.Option.{option_and_then}
use Rattle.std.specs.List.{slice_get}
use Rattle.std.proofs.lemmas.List.{length_push}
use Rattle.std.proofs.lemmas.List.Elements.{All-nil, All-cons, All-append}
use Rattle.script.specs.declared.setup.Txn.{Txn}
use Rattle.script.specs.declared.setup.Setup.{Setup}
use Rattle.serial_ref.specs.SerialItem.{at_number, IsNamed, AreNamed}
use Rattle.serial_ref.specs.FirstTries.{try_at, first_ts, client_tries, all_tries}

at_end : {A : Type 0} (done rest : List A) (x : A) → slice_get (done ++ x ∷ rest) (length done) ≡ Some x
at_end [] rest x = refl
at_end (y ∷ done) rest x = at_end done rest x

-- what stands at the number after these
at_next : {A : Type 0} (done rest : List A) (x : A) (n : ℕ) → n ≡ length done + 1 → at_number n (done ++ x ∷ rest) ≡ Some x
at_next done rest x n is =
    let next : n ≡ suc (length done) = omega arith in
    ap (λ k. at_number k (done ++ x ∷ rest)) next ∙ at_end done rest x

client_named : (s : Setup) (txns done : List Txn) (client number last : ℕ) → at_number client s.clients ≡ Some (done ++ txns) → number ≡ length done + 1 →
    AreNamed s (client_tries client number last txns)
client_named s [] done client number last own is = All-nil (IsNamed s)
client_named s (t ∷ ts) done client number last own is =
    All-cons (IsNamed s) (try_at client number (first_ts t last)) (client_tries client (number + 1) (first_ts t last) ts)
    (record { own = refl; there = ap is_some (ap (option_and_then (at_number number)) own ∙ at_next done ts t number is) })
    (client_named s ts (done ++ t ∷ []) client (number + 1) (first_ts t last) (own ∙ ap Some (sym (append_assoc done (t ∷ []) ts)))
    (let more : length (done ++ t ∷ []) ≡ length done + 1 = length_push done t in omega arith))

-- the first tries of the clients from this number on
pub tries_named : (s : Setup) (left done : List (List Txn)) (client : ℕ) → s.clients ≡ done ++ left → client ≡ length done + 1 →
    AreNamed s (all_tries client left)
tries_named s [] done client is at = All-nil (IsNamed s)
tries_named s (txns ∷ left) done client is at =
    All-append (IsNamed s) (client_tries client 1 0 txns) (all_tries (client + 1) left)
    (client_named s txns [] client 1 0 (ap (at_number client) is ∙ at_next done left txns client at) refl)
    (tries_named s left (done ++ txns ∷ []) (client + 1) (is ∙ sym (append_assoc done (txns ∷ []) left))
    (let more : length (done ++ txns ∷ []) ≡ length done + 1 = length_push done txns in omega arith))
