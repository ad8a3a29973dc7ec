-- A setup within the limits of scripts says a script within those that the protocol's laws ask.
use Rattle.std.proofs.Common.{◌≡◌, ◌⊎◌, ℕ, zero, suc, ◌<◌, ◌≤◌, true, nat_le, List, [], ◌∷◌, map, length, All, refl, sym, ap, subst, arith}
use Rattle.std.specs.List.{AllByRecursion, IsDistinct, slice_get}
use Rattle.std.proofs.lemmas.Bool.Decides.{nat_tests}
use Rattle.std.proofs.lemmas.List.{length-map}
use Rattle.std.proofs.lemmas.List.Elements.{All-nil, All-cons}
use Rattle.txn_lang.specs.Program.{IsProgram}
use Rattle.protocol.specs.Words.{same_key}
use Rattle.protocol.specs.declared.First2.{First2}
use Rattle.protocol_plans.specs.Limits.{IsStart, IsClient}
use Rattle.script.specs.declared.limits.TheConstants.{MOST_EXECS}
use Rattle.script.specs.declared.items.SettingName.TheVariants as named
use Rattle.script.specs.declared.setup.Policy.{Policy}
use Rattle.script.specs.declared.setup.Policy.TheVariants.{Rewind, Abort}
use Rattle.script.specs.declared.setup.First.{First}
use Rattle.script.specs.declared.setup.NamedProg.{NamedProg}
use Rattle.script.specs.declared.setup.Txn.{Txn}
use Rattle.script.specs.Meaning.{named_of}
use Rattle.script.specs.Checks.{may_be, between}
use Rattle.script.specs.Sayable.{IsProg, IsTxn, IsClient as IsSayableClient}
use Rattle.script_plans.specs.Plans.{program_of, start_of, first_of, execs_by}
use Rattle.script_plans.specs.Laws.{SetupsAreScripts}

one_of_three : (n : ℕ) → may_be named.Replicas n ≡ true → (n ≡ 1) ⊎ ((n ≡ 3) ⊎ (n ≡ 5))
one_of_three n is = grind (arith, nat_tests)

up_to : (most n : ℕ) → nat_le n most ≡ true → n ≤ most
up_to most n is = grind (arith, nat_tests)

in_between : (least most n : ℕ) → between least most n ≡ true → (least ≤ n) × (n ≤ most)
in_between least most n is = (grind (arith, nat_tests), grind (arith, nat_tests))

-- the executions of a try, by policy
execs_are : (p : Policy) (n : ℕ) → (1 ≤ n) × (n ≤ MOST_EXECS) → (1 ≤ execs_by p n) × (execs_by p n ≤ 64)
execs_are Rewind n h = h
execs_are Abort n h = (omega arith, omega arith)

-- the program of a number is one that the setup has
program_is : (tables : ℕ) (ps : List NamedProg) (n : ℕ) → AllByRecursion (IsProg tables) (map named_of ps) → n < length ps → IsProgram (program_of (slice_get ps n))
program_is tables [] n all less = absurd (omega (arith, less))
program_is tables (p ∷ ps) zero all less = record { within = all.0.within; formed = all.0.formed }
program_is tables (p ∷ ps) (suc n) all less = program_is tables ps n all.1 (omega (arith, less))

module _ (tables : ℕ) (ps : List NamedProg) (all : AllByRecursion (IsProg tables) (map named_of ps)) where
  abbrev count : ℕ
  count = length (map named_of ps)

  starts_are : (ts : List Txn) → AllByRecursion (IsTxn count) ts → All IsStart (map (start_of ps) ts)
  starts_are [] each = All-nil IsStart
  starts_are (t ∷ ts) each =
      let known = each.0.known in
      let many = length-map ps named_of in
      All-cons IsStart (start_of ps t) (map (start_of ps) ts)
      (record { program = program_is tables ps t.prog all (omega (arith, known, many)); at = each.0.start }) (starts_are ts each.1)

  clients_are : (cs : List (List Txn)) → AllByRecursion (IsSayableClient count) cs → All IsClient (map (map (start_of ps)) cs)
  clients_are [] each = All-nil IsClient
  clients_are (ts ∷ cs) each =
      let few = each.0.few in
      let same = length-map ts (start_of ps) in
      All-cons IsClient (map (start_of ps) ts) (map (map (start_of ps)) cs)
      (record { few = omega (arith, few, same); each = starts_are ts each.0.each }) (clients_are cs each.1)

-- the keys of first values
keys_are : (fs : List First) → map (λ (f : First2). f.key) (map first_of fs) ≡ map (λ (f : First). f.key) fs
keys_are [] = refl
keys_are (f ∷ fs) = ap (λ ks. f.key ∷ ks) (keys_are fs)

pub setups_are_scripts : SetupsAreScripts
setups_are_scripts s is =
    let tries = in_between 1 8 s.tries is.settings.tries in
    let execs = execs_are s.policy s.execs (in_between 1 64 s.execs is.settings.execs) in
    let gap = in_between 1 1000000 s.gap is.settings.gap in
    let count = length-map s.clients (map (start_of s.progs)) in
    let some = is.clients.some in
    let few = is.clients.few in
    record {
      replicas = one_of_three s.replicas is.settings.replicas;
      wardens = up_to 2 s.wardens is.settings.wardens;
      some_client = omega (arith, some, count);
      few_clients = omega (arith, few, count);
      clients = clients_are (length s.tables) s.progs is.progs s.clients is.clients.each;
      firsts = subst (IsDistinct same_key) (sym (keys_are s.firsts)) is.firsts.distinct;
      some_try = tries.0;
      few_tries = tries.1;
      some_exec = execs.0;
      few_execs = execs.1;
      some_gap = gap.0;
      small_gap = gap.1;
    }
