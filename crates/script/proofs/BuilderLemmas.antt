-- What a search tells of names and first values, and what the first fault of some checks is.
use Rattle.std.proofs.Common.{◌≡◌, ◌<◌, ◌≤◌, ◌+◌, ℕ, zero, suc, Bool, true, false, ◌||◌, cond, List, [], ◌∷◌, ◌++◌, map, length, get_or, drop, Some, None, Err, refl, sym, ap, ◌∙◌, subst, add-one, drop-cons, arith}
use Rattle.std.specs.Prelude.{ℤ}
use Rattle.std.specs.Ordering.{is_eq}
use Rattle.std.specs.BTreeSet.{BTreeSet, contains}
use Rattle.std.proofs.lemmas.Bool.Decides.{nat_tests}
use Rattle.std.proofs.lemmas.Int.{ints}
use Rattle.std.proofs.lemmas.List.{append_assoc, get_or-map, length-append, length-map}
use Rattle.morty_base.specs.declared.names.Key.{Key}
use Rattle.morty_base.specs.Names.{same_key}
use Rattle.morty_base.specs.declared.names.NodeId.{NodeId}
use Rattle.net_core.specs.declared.plan.PlanItem.{PlanItem}
use Rattle.net_core.specs.declared.plan.PlanWhat.{PlanWhat}
use Rattle.txn_text.specs.declared.kinds.Token.{Token}
use Rattle.txn_text.specs.declared.faults.FaultKind.TheVariants.{TooManyTransactions, UnknownProgram, AtRange, RepeatedFirst}
use Rattle.txn_text.specs.declared.faults.TextFault.{TextFault}
use Rattle.txn_text.specs.declared.faults.TextFault.TheVariants.{At, NoMemory}
use Rattle.txn_parse.specs.Binding.{Names, Check, is_known, is_unknown, place, first_failing, FaultIs}
use Rattle.txn_parse.specs.NameIndex.{place_in, IsIndexOf}
use Rattle.txn_parse.specs.declared.name_index.NameIndex.{NameIndex}
use Rattle.txn_parse.proofs.NamesLemmas.{known_place, later_fault, none_first, fault_of_all}
use Rattle.script.specs.declared.limits.TheConstants.{LATEST_START}
use Rattle.script.specs.declared.setup.Txn.{Txn}
use Rattle.script.specs.declared.items.RawEntry.{RawEntry}
use Rattle.script.specs.declared.items.RawEntry.TheVariants as entry
use Rattle.script.specs.declared.items.Calls.TheVariants as calls
use Rattle.txn_text.specs.declared.kinds.TokenKind.TheVariants as kind
use Rattle.script.specs.declared.items.RawTxn.{RawTxn}
use Rattle.script.specs.declared.limits.TheConstants.{MOST_TABLES, MOST_PROGRAMS, MOST_CLIENTS}
use Rattle.script.specs.declared.setup.NamedProg.{NamedProg}
use Rattle.script.specs.declared.setup.First.{First}
use Rattle.script.specs.declared.setup.Setup.{Setup}
use Rattle.script.specs.declared.builder.SetupBuilder.{SetupBuilder}
use Rattle.script.specs.Meaning.{named_of, said_by, prog_names, entry_of, txn_of, number_of_or}
use Rattle.script.specs.Checks.{check, has_first, room_checks, program_checks, start_checks, number_checks, at_most, entry_checks, entries_checks}
use Rattle.script.specs.Building.{key_cmp, IsIndexed, planned_at, place_by}

some_tells : (b : Bool) (n p : ℕ) → cond b (Some n) None ≡ Some p → (b ≡ true) × (p ≡ n)
some_tells true n p e = (refl, cc)
some_tells false n p e = cc

-- a name that is found stands there
pub some_place : (index : NameIndex) (names : Names) (name : List ℕ) (p : ℕ) → IsIndexOf index names → place_in index name ≡ Some p →
    (is_known names name ≡ true) × (p ≡ place names name)
some_place index names name p stands is = some_tells (is_known names name) (place names name) p (sym (stands.places name) ∙ is)

pub place_within : (index : NameIndex) (names : Names) (name : List ℕ) (p : ℕ) → IsIndexOf index names → place_in index name ≡ Some p → p < length names
place_within index names name p stands is =
    let t = some_place index names name p stands is in
    let less = known_place names name t.0 in
    omega (arith, less, t.1)

none_tells : (b : Bool) (n : ℕ) → cond b (Some n) None ≡ None → b ≡ false
none_tells true n e = cc
none_tells false n e = refl

-- a name that is not found is none of them
pub no_place : (index : NameIndex) (names : Names) (name : List ℕ) → IsIndexOf index names → place_in index name ≡ None → is_known names name ≡ false
no_place index names name stands is = none_tells (is_known names name) (place names name) (sym (stands.places name) ∙ is)

-- the transaction behind as many as there is room for
pub room_fault : (room : ℕ) (txns : List RawTxn) (d : RawTxn) → room < length txns → first_failing (room_checks room txns) ≡ Some (At (get_or txns room d).name.line TooManyTransactions)
room_fault room [] d more = absurd (omega (arith, more))
room_fault zero (x ∷ txns) d more = refl
room_fault (suc room) (x ∷ txns) d more = room_fault room txns d (omega (arith, more))

pub room_left : (room : ℕ) (txns : List RawTxn) → length txns ≤ room → first_failing (room_checks room txns) ≡ None
room_left room [] few = refl
room_left zero (x ∷ txns) few = absurd (omega (arith, few))
room_left (suc room) (x ∷ txns) few = room_left room txns (omega (arith, few))

-- what is left at a turn of a loop
at_turn : {A : Type 0} (xs : List A) (i : ℕ) (d : A) → i < length xs → drop i xs ≡ get_or xs i d ∷ drop (i + 1) xs
at_turn xs i d within = drop-cons xs i d within ∙ ap (λ n. get_or xs i d ∷ drop n xs) (sym (add-one i))

-- what stands past the end of a list
abbrev pub no_entry : RawEntry
no_entry = entry.Calls calls.Wait None

abbrev pub no_txn : RawTxn
no_txn = record { name = record { kind = kind.Name; start = 0; end = 0; line = 0 }; at = None }

-- ---- one check behind the other

-- a fault of some checks, whatever else the call would give
pub fault_again : (A B : Type 0) (cs : List Check) (f : TextFault) → FaultIs {A = A} cs (Err f) → FaultIs {A = B} cs (Err f)
fault_again A B cs (At line kind) is = is
fault_again A B cs NoMemory is = tt

-- where checks are made one item after another: a fault of the next item's
pub turn_fault : (A B : Type 0) (xs ys rest all : List Check) (f : TextFault) → first_failing rest ≡ first_failing all → rest ≡ xs ++ ys →
    FaultIs {A = A} xs (Err f) → FaultIs {A = B} all (Err f)
turn_fault A B xs ys rest all f same split is =
    fault_again (Unit {0}) B all f (fault_of_all xs ys all f (ap first_failing (sym split) ∙ same) (fault_again A (Unit {0}) xs f is))

-- and where the next item passes them
pub turn_passes : (xs ys rest all : List Check) → first_failing rest ≡ first_failing all → rest ≡ xs ++ ys → first_failing xs ≡ None → first_failing ys ≡ first_failing all
turn_passes xs ys rest all same split none = sym (none_first xs ys none) ∙ ap first_failing (sym split) ∙ same

-- checks behind others that pass
pub behind_passed : (A B : Type 0) (xs ys : List Check) (f : TextFault) → first_failing xs ≡ None → FaultIs {A = A} ys (Err f) → FaultIs {A = B} (xs ++ ys) (Err f)
behind_passed A B xs ys f none is = fault_again A B (xs ++ ys) f (later_fault A xs ys (Err f) none is)

module _ (text : List ℕ) (node : NodeId) (raw : List RawEntry) (i : ℕ) (d : RawEntry) (within : i < length raw) where
  pub entry_split : entries_checks text (drop i raw) ≡ entry_checks text (get_or raw i d) ++ entries_checks text (drop (i + 1) raw)
  entry_split = ap (entries_checks text) (at_turn raw i d within)

  pub entry_fault : (f : TextFault) → first_failing (entries_checks text (drop i raw)) ≡ first_failing (entries_checks text raw) →
      FaultIs {A = PlanWhat} (entry_checks text (get_or raw i d)) (Err f) → FaultIs {A = Unit {0}} (entries_checks text raw) (Err f)
  entry_fault f same = turn_fault PlanWhat (Unit {0}) (entry_checks text (get_or raw i d)) (entries_checks text (drop (i + 1) raw)) (entries_checks text (drop i raw)) (entries_checks text raw) f same entry_split

  pub entry_passes : first_failing (entries_checks text (drop i raw)) ≡ first_failing (entries_checks text raw) →
      first_failing (entry_checks text (get_or raw i d)) ≡ None → first_failing (entries_checks text (drop (i + 1) raw)) ≡ first_failing (entries_checks text raw)
  entry_passes same = turn_passes (entry_checks text (get_or raw i d)) (entries_checks text (drop (i + 1) raw)) (entries_checks text (drop i raw)) (entries_checks text raw) same entry_split

  pub entry_planned : (done all now : List PlanItem) (what : PlanWhat) → done ++ map (planned_at text node) (drop i raw) ≡ all → what ≡ entry_of text (get_or raw i d) →
      now ≡ done ++ record { node = node; what = what } ∷ [] → now ++ map (planned_at text node) (drop (i + 1) raw) ≡ all
  entry_planned done all now what so_far said pushed =
      ap (λ l. l ++ map (planned_at text node) (drop (i + 1) raw)) (pushed ∙ ap (λ (w : PlanWhat). done ++ record { node = node; what = w } ∷ []) said)
      ∙ append_assoc done (planned_at text node (get_or raw i d) ∷ []) (map (planned_at text node) (drop (i + 1) raw))
      ∙ ap (λ l. done ++ map (planned_at text node) l) (sym (at_turn raw i d within)) ∙ so_far

module _ (text : List ℕ) (names : Names) (txns : List RawTxn) (i : ℕ) (d : RawTxn) (within : i < length txns) where
  pub program_split : program_checks text names (drop i txns) ≡ check (is_unknown text names (get_or txns i d).name) (get_or txns i d).name UnknownProgram ∷ program_checks text names (drop (i + 1) txns)
  program_split = ap (program_checks text names) (at_turn txns i d within)

  abbrev one_program : List Check
  one_program = check (is_unknown text names (get_or txns i d).name) (get_or txns i d).name UnknownProgram ∷ []

  pub program_fault : (f : TextFault) → first_failing (program_checks text names (drop i txns)) ≡ first_failing (program_checks text names txns) →
      FaultIs {A = ℕ} one_program (Err f) → FaultIs {A = List ℕ} (program_checks text names txns) (Err f)
  program_fault f same = turn_fault ℕ (List ℕ) one_program (program_checks text names (drop (i + 1) txns)) (program_checks text names (drop i txns)) (program_checks text names txns) f same program_split

  pub program_passes : first_failing (program_checks text names (drop i txns)) ≡ first_failing (program_checks text names txns) →
      first_failing one_program ≡ None → first_failing (program_checks text names (drop (i + 1) txns)) ≡ first_failing (program_checks text names txns)
  program_passes same = turn_passes one_program (program_checks text names (drop (i + 1) txns)) (program_checks text names (drop i txns)) (program_checks text names txns) same program_split

  pub program_placed : (done all now : List ℕ) (place : ℕ) → done ++ map (place_by text names) (drop i txns) ≡ all → place ≡ place_by text names (get_or txns i d) →
      now ≡ done ++ place ∷ [] → now ++ map (place_by text names) (drop (i + 1) txns) ≡ all
  program_placed done all now place so_far said pushed =
      ap (λ l. l ++ map (place_by text names) (drop (i + 1) txns)) (pushed ∙ ap (λ n. done ++ n ∷ []) said)
      ∙ append_assoc done (place_by text names (get_or txns i d) ∷ []) (map (place_by text names) (drop (i + 1) txns))
      ∙ ap (λ l. done ++ map (place_by text names) l) (sym (at_turn txns i d within)) ∙ so_far

  pub start_split : start_checks text (drop i txns) ≡ number_checks text (at_most LATEST_START) AtRange (get_or txns i d).at ++ start_checks text (drop (i + 1) txns)
  start_split = ap (start_checks text) (at_turn txns i d within)

  abbrev one_start : List Check
  one_start = number_checks text (at_most LATEST_START) AtRange (get_or txns i d).at

  pub start_fault : (f : TextFault) → first_failing (start_checks text (drop i txns)) ≡ first_failing (start_checks text txns) →
      FaultIs {A = ℕ} one_start (Err f) → FaultIs {A = List Txn} (start_checks text txns) (Err f)
  start_fault f same = turn_fault ℕ (List Txn) one_start (start_checks text (drop (i + 1) txns)) (start_checks text (drop i txns)) (start_checks text txns) f same start_split

  pub start_passes : first_failing (start_checks text (drop i txns)) ≡ first_failing (start_checks text txns) →
      first_failing one_start ≡ None → first_failing (start_checks text (drop (i + 1) txns)) ≡ first_failing (start_checks text txns)
  start_passes same = turn_passes one_start (start_checks text (drop (i + 1) txns)) (start_checks text (drop i txns)) (start_checks text txns) same start_split

  pub txn_started : (done all now : List Txn) (places : List ℕ) (e at : ℕ) → done ++ map (txn_of text names) (drop i txns) ≡ all →
      places ≡ map (place_by text names) txns → at ≡ number_of_or 0 text (get_or txns i d).at →
      now ≡ done ++ record { prog = get_or places i e; at = at } ∷ [] → now ++ map (txn_of text names) (drop (i + 1) txns) ≡ all
  txn_started done all now places e at so_far placed said pushed =
      let here : get_or places i e ≡ place_by text names (get_or txns i d) = ap (λ ps. get_or ps i e) placed ∙ get_or-map (place_by text names) txns i d e within in
      ap (λ l. l ++ map (txn_of text names) (drop (i + 1) txns))
      (pushed ∙ ap (λ n. done ++ record { prog = n; at = at } ∷ []) here ∙ ap (λ n. done ++ record { prog = place_by text names (get_or txns i d); at = n } ∷ []) said)
      ∙ append_assoc done (txn_of text names (get_or txns i d) ∷ []) (map (txn_of text names) (drop (i + 1) txns))
      ∙ ap (λ l. done ++ map (txn_of text names) l) (sym (at_turn txns i d within)) ∙ so_far

-- ---- what is found once a name or a key is added

names_push : (ps : List NamedProg) (p : NamedProg) → map (λ q. q.name) (map named_of (ps ++ p ∷ [])) ≡ map (λ q. q.name) (map named_of ps) ++ p.name ∷ []
names_push [] p = refl
names_push (q ∷ ps) p = ap (λ l. q.name ∷ l) (names_push ps p)

length_push : {A : Type 0} (xs : List A) (x : A) → length (xs ++ x ∷ []) ≡ length xs + 1
length_push xs x = length-append xs (x ∷ [])

pub with_program : (b : SetupBuilder) (index : NameIndex) (progs : List NamedProg) (p : NamedProg) → IsIndexed b → progs ≡ b.setup.progs ++ p ∷ [] → length b.setup.progs < MOST_PROGRAMS →
    IsIndexOf index (prog_names (said_by b.setup) ++ p.name ∷ []) → IsIndexed (record b { setup = record b.setup { progs = progs }; programs = index })
with_program b index progs p x pushed few programs = record {
  tables = x.tables;
  programs = subst (IsIndexOf index) (sym (ap (λ ps. map (λ q. q.name) (map named_of ps)) pushed ∙ names_push b.setup.progs p)) programs;
  firsts = x.firsts;
  few_tables = x.few_tables;
  few_programs = let e = ap length pushed ∙ length_push b.setup.progs p in omega (arith, e, few);
  few_clients = x.few_clients;
}

-- a further name of a program
pub program_found : (b : SetupBuilder) (index : NameIndex) (bytes name kept : List ℕ) (place : ℕ) →
    ((names : Names) → IsIndexOf b.programs names → is_known names bytes ≡ false → place ≡ length names → IsIndexOf index (names ++ bytes ∷ [])) →
    IsIndexed b → bytes ≡ name → kept ≡ bytes → is_known (prog_names (said_by b.setup)) name ≡ false → place ≡ length b.setup.progs → IsIndexOf index (prog_names (said_by b.setup) ++ kept ∷ [])
program_found b index bytes name kept place adds x text same new at =
    let names = prog_names (said_by b.setup) in
    let count : length names ≡ length b.setup.progs = length-map (map named_of b.setup.progs) (λ q. q.name) ∙ length-map b.setup.progs named_of in
    subst (λ n. IsIndexOf index (names ++ n ∷ [])) (sym same)
    (adds names x.programs (subst (λ n. is_known names n ≡ false) (sym text) new) (at ∙ sym count))

same_key_as : (k l : Key) → is_eq (key_cmp k l) ≡ same_key k l
unfolding same_key
same_key_as k l = grind (arith, nat_tests, ints)

-- one more first value
has_first_push : (k : Key) (fs : List First) (f : First) → has_first k (fs ++ f ∷ []) ≡ cond (same_key f.key k) true (has_first k fs)
has_first_push k [] f = last (same_key f.key k)
  where
    last : (b : Bool) → (b || false) ≡ cond b true false
    last true = refl
    last false = refl
has_first_push k (g ∷ fs) f = go (same_key g.key k) (same_key f.key k) (has_first k fs) (has_first k (fs ++ f ∷ [])) (has_first_push k fs f)
  where
    go : (b c d e : Bool) → e ≡ cond c true d → (b || e) ≡ cond c true (b || d)
    go true true d e is = refl
    go true false d e is = refl
    go false c d e is = is

pub with_first : (b a : SetupBuilder) (firsts : List First) (f : First) → IsIndexed b → a.tables ≡ b.tables → a.programs ≡ b.programs → a.setup ≡ b.setup →
    firsts ≡ a.setup.firsts ++ f ∷ [] → ((k : Key) → contains key_cmp a.firsts k ≡ cond (same_key f.key k) true (contains key_cmp b.firsts k)) →
    IsIndexed (record a { setup = record a.setup { firsts = firsts } })
with_first b a firsts f x t p s pushed keys = record {
  tables = subst (λ i. IsIndexOf i a.setup.tables) (sym t) (subst (λ (z : Setup). IsIndexOf b.tables z.tables) (sym s) x.tables);
  programs = subst (λ i. IsIndexOf i (prog_names (said_by a.setup))) (sym p) (subst (λ (z : Setup). IsIndexOf b.programs (prog_names (said_by z))) (sym s) x.programs);
  firsts = λ k.
      keys k ∙ ap (cond (same_key f.key k) true) (x.firsts k ∙ ap (λ (z : Setup). has_first k z.firsts) (sym s))
      ∙ sym (ap (has_first k) pushed ∙ has_first_push k a.setup.firsts f);
  few_tables = subst (λ (z : Setup). length z.tables ≤ MOST_TABLES) (sym s) x.few_tables;
  few_programs = subst (λ (z : Setup). length z.progs ≤ MOST_PROGRAMS) (sym s) x.few_programs;
  few_clients = subst (λ (z : Setup). length z.clients ≤ MOST_CLIENTS) (sym s) x.few_clients;
}

-- a set that takes a key
pub key_added : (s t : BTreeSet Key) (key : Key) → ((k : Key) → contains key_cmp t k ≡ cond (is_eq (key_cmp key k)) true (contains key_cmp s k)) →
    (k : Key) → contains key_cmp t k ≡ cond (same_key key k) true (contains key_cmp s k)
key_added s t key updates k = updates k ∙ ap (λ b. cond b true (contains key_cmp s k)) (same_key_as key k)

-- the fault of a key that has a first value
pub key_fault : (fs : List First) (word : Token) (f : TextFault) (t u : ℕ) (m n : ℤ) → t ≡ u → m ≡ n →
    FaultIs {A = Unit {0}} (check (has_first (record { table = t; index = m }) fs) word RepeatedFirst ∷ []) (Err f) →
    FaultIs {A = Unit {0}} (check (has_first (record { table = u; index = n }) fs) word RepeatedFirst ∷ []) (Err f)
key_fault fs word f t u m n e g is =
    subst (λ x. FaultIs {A = Unit {0}} (check (has_first (record { table = u; index = x }) fs) word RepeatedFirst ∷ []) (Err f)) g
    (subst (λ x. FaultIs {A = Unit {0}} (check (has_first (record { table = x; index = m }) fs) word RepeatedFirst ∷ []) (Err f)) e is)
