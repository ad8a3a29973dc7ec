-- The tables and first values of a text: names are few and distinct, and a key of a known table has one first value.
use Rattle.std.proofs.Common.{◌≡◌, ℕ, suc, ◌<◌, ◌≤◌, ◌&&◌, nat_le, nat_lt, zero, cond, Bool, true, false, List, [], ◌∷◌, ◌++◌, map, length, sym, ap, ◌∙◌, subst}
use Rattle.std.proofs.Common.{inl, inr, arith, pos, neg_ℤ}
use Rattle.std.specs.List.{AllByRecursion, IsDistinct}
use Rattle.std.proofs.lemmas.Bool.Decides.{nat_tests}
use Rattle.std.proofs.lemmas.Cmp.{nat_list_eq_equiv}
use Rattle.std.proofs.lemmas.List.{length_push}
use Rattle.std.proofs.lemmas.List.Folds.{list_all-append}
use Rattle.std.proofs.lemmas.Map.Keys.{IsDistinct-push}
use Rattle.morty_base.specs.declared.names.Key.{Key}
use Rattle.morty_base.specs.Names.{same_key}
use Rattle.morty_base.specs.ScriptNames.{is_name}
use Rattle.txn_text.specs.declared.bytes.TheConstants.{GREATEST_NUMBER}
use Rattle.txn_text.specs.declared.faults.FaultKind.TheVariants as fault
use Rattle.txn_text.specs.declared.kinds.Token.{Token}
use Rattle.txn_text.specs.Bytes.{number_of as digits_of}
use Rattle.txn_text.specs.Tokens.{token_bytes}
use Rattle.txn_parse.specs.Binding.{Names, is_known, is_unknown, number_of}
use Rattle.txn_parse.proofs.NamesLemmas.{known_place}
use Rattle.txn_print.specs.Written.{IsWritten}
use Rattle.script.specs.declared.limits.TheConstants.{MOST_TABLES}
use Rattle.script.specs.declared.items.Signed.{Signed}
use Rattle.script.specs.declared.setup.First.{First as FirstValue}
use Rattle.script.specs.Items.{Item, Table, First}
use Rattle.script.specs.Grammar.{table, first, store}
use Rattle.script.specs.Meaning.{Script, signed, first_of}
use Rattle.script.specs.Checks.{check, has_first}
use Rattle.script.specs.Sayable.{AreNames, IsFirst, IsProg, IsPlanItem}
use Rattle.script.proofs.ReadableItems.{IsTold, name_told}
use Rattle.script.proofs.SayableSoFar.{HasNoProgram, all_push, all_weaker, passed, holds, neither, Takes}

-- a number of a token is one that a text may have
small_by : (n : ℕ) → cond (nat_lt GREATEST_NUMBER n) 0 n ≤ GREATEST_NUMBER
small_by n = grind (arith, nat_tests)

pub number_small : (text : List ℕ) (t : Token) → number_of text t ≤ GREATEST_NUMBER
number_small text t = small_by (digits_of (token_bytes text t))

minus_written : (n : ℕ) → n ≤ GREATEST_NUMBER → IsWritten (neg_ℤ (pos n))
minus_written zero few = few
minus_written (suc n) few = few

signed_by : (minus : Bool) (n : ℕ) → n ≤ GREATEST_NUMBER → IsWritten (cond minus (neg_ℤ (pos n)) (pos n))
signed_by true n few = minus_written n few
signed_by false n few = few

pub signed_written : (text : List ℕ) (s : Signed) → IsWritten (signed text s)
signed_written text s = signed_by s.minus (number_of text s.digits) (number_small text s.digits)

-- where there is room for one more
room : (most n : ℕ) → nat_le most n ≡ false → n < most
room most n is = grind (arith, nat_tests)

-- one more name, which is new
pub names_push : (most : ℕ) (names : Names) (name : List ℕ) → AreNames most names → is_name name ≡ true → is_known names name ≡ false →
    nat_le most (length names) ≡ false → AreNames most (names ++ name ∷ [])
names_push most names name are named new few = record {
  named = list_all-append is_name names (name ∷ []) ∙ ap (λ b. b && (is_name name && true)) are.named ∙ ap (λ b. b && true) named;
  distinct = IsDistinct-push nat_list_eq_equiv names name are.distinct new;
  few = let less = room most (length names) few in let count = length_push names name in omega (arith, less, count);
}

-- one more first value of a key that has none
distinct_push : (fs : List FirstValue) (f : FirstValue) → IsDistinct same_key (map (λ g. g.key) fs) → has_first f.key fs ≡ false →
    IsDistinct same_key (map (λ g. g.key) (fs ++ f ∷ []))
unfolding IsDistinct
distinct_push [] f d new = (tt, tt)
distinct_push (x ∷ fs) f d new =
    let p = neither (same_key x.key f.key) (has_first f.key fs) new in
    (keys_push fs d.0 p.0, distinct_push fs f d.1 p.1)
  where
    keys_push : (gs : List FirstValue) → AllByRecursion (λ (k : Key). same_key x.key k ≡ false) (map (λ g. g.key) gs) → same_key x.key f.key ≡ false →
        AllByRecursion (λ (k : Key). same_key x.key k ≡ false) (map (λ g. g.key) (gs ++ f ∷ []))
    keys_push [] all one = (one, tt)
    keys_push (g ∷ gs) all one = (all.0, keys_push gs all.1 one)

more_tables : (n m : ℕ) → n ≤ m → (f : FirstValue) → IsFirst n f → IsFirst m f
more_tables n m more f is = let k = is.known in record { known = omega (arith, more, k); index = is.index; value = is.value }

module _ (text : List ℕ) where
  table_takes : (n : Token) → is_name (token_bytes text n) ≡ true → Takes text HasNoProgram HasNoProgram (Table n)
  table_takes n named s h none =
      let t = s.script in
      let new =
      passed (is_known t.tables (token_bytes text n)) n fault.RepeatedTable
      (check (nat_le MOST_TABLES (length t.tables)) n fault.TooManyTables ∷ []) none
      in
      let few = passed (nat_le MOST_TABLES (length t.tables)) n fault.TooManyTables [] new.1 in
      let names = t.tables ++ token_bytes text n ∷ [] in
      let count = length_push t.tables (token_bytes text n) in
      let now : Script = record t { tables = names } in
      record {
        so_far = record {
          settings = h.so_far.settings;
          tables = names_push MOST_TABLES t.tables (token_bytes text n) h.so_far.tables named new.0 few.0;
          firsts = record {
            each = all_weaker (IsFirst (length t.tables)) (IsFirst (length names)) t.firsts
                (more_tables (length t.tables) (length names) (omega (arith, count))) h.so_far.firsts.each;
            distinct = h.so_far.firsts.distinct;
          };
          named = h.so_far.named;
          progs = subst (AllByRecursion (IsProg (length names))) (sym h.no_program) tt;
          clients = h.so_far.clients;
          few_clients = h.so_far.few_clients;
          net = h.so_far.net;
          plan = subst (AllByRecursion (IsPlanItem now)) (sym h.no_plan) tt;
        };
        no_plan = h.no_plan;
        no_client = h.no_client;
        no_program = h.no_program;
      }

  first_takes : (word table : Token) (index value : Signed) → Takes text HasNoProgram HasNoProgram (First word table index value)
  first_takes word table index value s h none =
      let t = s.script in
      let f = first_of text t.tables table index value in
      let known = passed (is_unknown text t.tables table) table fault.UnknownTable (check (has_first f.key t.firsts) word fault.RepeatedFirst ∷ []) none in
      let new = passed (has_first f.key t.firsts) word fault.RepeatedFirst [] known.1 in
      let now : Script = record t { firsts = t.firsts ++ f ∷ [] } in
      let is : IsFirst (length t.tables) f = record {
        known = known_place t.tables (token_bytes text table) (holds (is_known t.tables (token_bytes text table)) known.0);
        index = signed_written text index;
        value = signed_written text value;
      } in
      record {
        so_far = record {
          settings = h.so_far.settings;
          tables = h.so_far.tables;
          firsts = record {
            each = all_push (IsFirst (length t.tables)) t.firsts f h.so_far.firsts.each is;
            distinct = distinct_push t.firsts f h.so_far.firsts.distinct new.0;
          };
          named = h.so_far.named;
          progs = h.so_far.progs;
          clients = h.so_far.clients;
          few_clients = h.so_far.few_clients;
          net = h.so_far.net;
          plan = subst (AllByRecursion (IsPlanItem now)) (sym h.no_plan) tt;
        };
        no_plan = h.no_plan;
        no_client = h.no_client;
        no_program = h.no_program;
      }

  pub store_takes : (i : Item) → IsTold text store i → Takes text HasNoProgram HasNoProgram i
  unfolding store table first
  store_takes i (inl h) =
      subst (Takes text HasNoProgram HasNoProgram) (sym h.made)
      (table_takes h.of (subst (λ (t : Token). is_name (token_bytes text t) ≡ true) (sym h.told.made) (name_told text h.told.of.1 h.told.told.1)))
  store_takes i (inr h) = subst (Takes text HasNoProgram HasNoProgram) (sym h.made) (first_takes h.of.0 h.of.1.0 h.of.1.1.0 h.of.1.1.1)
