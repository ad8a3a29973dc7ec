-- The clients of a text: they and their transactions are few, of known programs, and start in time.
use Rattle.std.proofs.Common.{◌≡◌, ℕ, zero, suc, ◌+◌, ◌≤◌, ◌==◌, ◌||◌, nat_le, true, false, not, List, [], ◌∷◌, ◌++◌, map, length, Option, Some, None, sym}
use Rattle.std.proofs.Common.{subst, arith}
use Rattle.std.specs.List.{AllByRecursion}
use Rattle.std.proofs.lemmas.Bool.Decides.{nat_tests}
use Rattle.std.proofs.lemmas.List.{length-map, length_push}
use Rattle.txn_text.specs.declared.faults.FaultKind.TheVariants as fault
use Rattle.txn_text.specs.declared.kinds.Token.{Token}
use Rattle.txn_text.specs.Tokens.{token_bytes}
use Rattle.txn_parse.specs.Binding.{Check, Names, first_failing, is_known, number_of}
use Rattle.txn_parse.proofs.NamesLemmas.{none_failing, known_place}
use Rattle.script.specs.declared.limits.TheConstants.{MOST_CLIENTS, MOST_TRANSACTIONS, LATEST_START}
use Rattle.script.specs.declared.items.RawTxn.{RawTxn}
use Rattle.script.specs.Items.{Item, Client}
use Rattle.script.specs.Grammar.{client}
use Rattle.script.specs.Meaning.{Script, prog_names, txn_of, number_of_or}
use Rattle.script.specs.Checks.{program_checks, room_checks, start_checks, number_checks, at_most}
use Rattle.script.specs.Sayable.{IsTxn, IsClient, IsPlanItem}
use Rattle.script.proofs.ReadableItems.{IsTold}
use Rattle.script.proofs.SayableSoFar.{HasNoPlan, all_push, passed, holds, neither, Takes}

-- as many transactions as there is room for
fits : (most : ℕ) (ts : List RawTxn) → first_failing (room_checks most ts) ≡ None → length ts ≤ most
fits most [] none = omega arith
fits zero (t ∷ ts) none = cc
fits (suc most) (t ∷ ts) none = let few = fits most ts none in omega (arith, few)

in_time : (n : ℕ) → nat_le n LATEST_START ≡ true → n ≤ LATEST_START
in_time n is = grind (arith, nat_tests)

fewer : (n : ℕ) → nat_le MOST_CLIENTS n ≡ false → n + 1 ≤ MOST_CLIENTS
fewer n is = grind (arith, nat_tests)

module _ (text : List ℕ) where
  starts : (at : Option Token) → first_failing (number_checks text (at_most LATEST_START) fault.AtRange at) ≡ None → number_of_or 0 text at ≤ LATEST_START
  starts None none = omega arith
  starts (Some n) none =
      let p = passed (not (nat_le (number_of text n) LATEST_START)) n fault.AtRange [] none in
      in_time (number_of text n) (holds (nat_le (number_of text n) LATEST_START) p.0)

  -- each transaction is of one of the programs
  txns_sayable : (names : Names) (ts : List RawTxn) → first_failing (program_checks text names ts) ≡ None → first_failing (start_checks text ts) ≡ None →
      AllByRecursion (IsTxn (length names)) (map (txn_of text names) ts)
  txns_sayable names [] known late = tt
  txns_sayable names (t ∷ ts) known late =
      let k = passed (not (is_known names (token_bytes text t.name))) t.name fault.UnknownProgram (program_checks text names ts) known in
      let l = none_failing (number_checks text (at_most LATEST_START) fault.AtRange t.at) (start_checks text ts) late in (
        record { known = known_place names (token_bytes text t.name) (holds (is_known names (token_bytes text t.name)) k.0); start = starts t.at l.0 },
        txns_sayable names ts k.1 l.1,
      )

  one_takes : (word n : Token) (ts : List RawTxn) → Takes text HasNoPlan HasNoPlan (Client word n ts)
  one_takes word n ts s h none =
      let t = s.script in
      let names = prog_names t in
      let late : List Check = room_checks MOST_TRANSACTIONS ts ++ start_checks text ts in
      let order =
      passed (not (number_of text n == length t.clients + 1) || nat_le MOST_CLIENTS (length t.clients)) word fault.ClientOrder
      (program_checks text names ts ++ late) none
      in
      let few = neither (not (number_of text n == length t.clients + 1)) (nat_le MOST_CLIENTS (length t.clients)) order.0 in
      let one = none_failing (program_checks text names ts) late order.1 in
      let two = none_failing (room_checks MOST_TRANSACTIONS ts) (start_checks text ts) one.1 in
      let txns = map (txn_of text names) ts in
      let now : Script = record t { clients = t.clients ++ txns ∷ [] } in
      let count : length names ≡ length t.progs = length-map t.progs (λ p. p.name) in
      let is : IsClient (length t.progs) txns = record {
        each = subst (λ k. AllByRecursion (IsTxn k) txns) count (txns_sayable names ts one.0 two.1);
        few = let most = fits MOST_TRANSACTIONS ts two.0 in let same = length-map ts (txn_of text names) in omega (arith, most, same);
      } in
      record {
        so_far = record {
          settings = h.so_far.settings;
          tables = h.so_far.tables;
          firsts = h.so_far.firsts;
          named = h.so_far.named;
          progs = h.so_far.progs;
          clients = all_push (IsClient (length t.progs)) t.clients txns h.so_far.clients is;
          few_clients = let less = fewer (length t.clients) few.1 in let more = length_push t.clients txns in omega (arith, less, more);
          net = h.so_far.net;
          plan = subst (AllByRecursion (IsPlanItem now)) (sym h.no_plan) tt;
        };
        no_plan = h.no_plan;
      }

  pub client_takes : (i : Item) → IsTold text client i → Takes text HasNoPlan HasNoPlan i
  unfolding client
  client_takes i h = subst (Takes text HasNoPlan HasNoPlan) (sym h.made) (one_takes h.of.0 h.of.1.0 h.of.1.1)
