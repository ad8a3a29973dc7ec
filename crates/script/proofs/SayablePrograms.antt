-- The programs of a text: their names are few and distinct, and each is within the limits, over the tables of the text.
use Rattle.std.proofs.Common.{◌≡◌, ℕ, ◌<◌, nat_le, true, false, List, [], ◌∷◌, ◌++◌, length, None, sym, ap, ◌∙◌, subst}
use Rattle.std.specs.List.{AllByRecursion}
use Rattle.std.proofs.lemmas.List.{map-append, length-map}
use Rattle.morty_base.specs.ScriptNames.{is_name}
use Rattle.txn_text.specs.declared.faults.FaultKind.TheVariants as fault
use Rattle.txn_text.specs.declared.kinds.Token.{Token}
use Rattle.txn_text.specs.Tokens.{token_bytes}
use Rattle.txn_parse.specs.Tree.{Term, Num, Local, Neg, Not, Bin, Command, Let, Read, Write, Print, If, Repeat, Abort, Commands, End, Then}
use Rattle.txn_parse.specs.Binding.{Check, Names, first_failing, is_known, is_unknown, place, known_checks, tables_in, tables_of, bound_term, bound_in, bound}
use Rattle.txn_parse.specs.Binding.{names_of, passes_limit, table_checks, local_checks, limit_check, IsParsed}
use Rattle.txn_parse.proofs.NamesLemmas.{none_failing, known_place}
use Rattle.txn_parse.proofs.BoundPrograms.{well_formed, within_limits}
use Rattle.txn_parse.proofs.ResolveLemmas.{parsed_keeps}
use Rattle.txn_print.specs.Written.{HasNumbers, IsWrittenIn, AreWritten}
use Rattle.script.specs.declared.limits.TheConstants.{MOST_PROGRAMS}
use Rattle.script.specs.Items.{Item, Program}
use Rattle.script.specs.Grammar.{program}
use Rattle.script.specs.Meaning.{Script, Named, prog_names, prog_of}
use Rattle.script.specs.Checks.{check, name_checks}
use Rattle.script.specs.Sayable.{AreNames, IsProg, IsClient, IsPlanItem}
use Rattle.script.proofs.ReadableItems.{IsTold, name_told}
use Rattle.script.proofs.SayableSoFar.{HasNoClient, all_push, passed, holds, Takes}
use Rattle.script.proofs.SayableStores.{number_small, names_push}

-- the numbers of a program are those of tokens
numbers_written : (text : List ℕ) (names : Names) (e : Term) → HasNumbers (bound_term text names e)
numbers_written text names (Num n) = number_small text n
numbers_written text names (Local v) = tt
numbers_written text names (Neg a) = numbers_written text names a
numbers_written text names (Not a) = numbers_written text names a
numbers_written text names (Bin o a b) = (numbers_written text names a, numbers_written text names b)

module _ (text : List ℕ) (tables names : Names) where
  abbrev AreKnown : List Token → Type 0
  AreKnown ts = first_failing (known_checks fault.UnknownTable text tables ts) ≡ None

  known_parts : (xs ys : List Token) → AreKnown (xs ++ ys) → AreKnown xs × AreKnown ys
  known_parts xs ys none =
      none_failing (known_checks fault.UnknownTable text tables xs) (known_checks fault.UnknownTable text tables ys)
      (ap first_failing (sym (map-append _ xs ys)) ∙ none)

  table_known : (t : Token) → AreKnown (t ∷ []) → place tables (token_bytes text t) < length tables
  table_known t none =
      let p = passed (is_unknown text tables t) t fault.UnknownTable [] none in
      known_place tables (token_bytes text t) (holds (is_known tables (token_bytes text t)) p.0)

  -- where each table is known, the program can be written over so many
  mutual
    written_in : (c : Command) → AreKnown (tables_in c) → IsWrittenIn (length tables) (bound_in text tables names c)
    written_in (Let v e) none = numbers_written text names e
    written_in (Read v t i) none = (table_known t none, numbers_written text names i)
    written_in (Write t i e) none = (table_known t none, numbers_written text names i, numbers_written text names e)
    written_in (Print e) none = numbers_written text names e
    written_in (If e a b) none =
        let p = known_parts (tables_of a) (tables_of b) none in
        (numbers_written text names e, written a p.0, written b p.1)
    written_in (Repeat n body) none = written body none
    written_in Abort none = tt

    written : (cs : Commands) → AreKnown (tables_of cs) → AreWritten (length tables) (bound text tables names cs)
    written End none = tt
    written (Then c rest) none =
        let p = known_parts (tables_in c) (tables_of rest) none in
        (written_in c p.0, written rest p.1)

-- the checks of a program all pass
record Passes (text : List ℕ) (s : Script) (word name : Token) (body : Commands) : Type 0 where
  tables : first_failing (table_checks text s.tables body) ≡ None
  new : is_known (prog_names s) (token_bytes text name) ≡ false
  room : nat_le MOST_PROGRAMS (length s.progs) ≡ false
  locals : first_failing (local_checks text [] body) ≡ None
  limits : passes_limit text s.tables body ≡ false

module _ (text : List ℕ) where
  prog_sayable : (s : Script) (word name : Token) (body : Commands) → IsParsed text body → Passes text s word name body →
      IsProg (length s.tables) (prog_of text s.tables name body)
  prog_sayable s word name body parsed p = record {
    within = within_limits text s.tables body (parsed_keeps text body parsed) p.locals p.limits;
    formed = well_formed text s.tables body (parsed_keeps text body parsed) p.locals;
    written = written text s.tables (names_of text body) body p.tables;
  }

  with_prog : (s : Script) (word name : Token) (body : Commands) → is_name (token_bytes text name) ≡ true → IsParsed text body →
      Passes text s word name body → HasNoClient s → HasNoClient (record s { progs = s.progs ++ prog_of text s.tables name body ∷ [] })
  with_prog s word name body named parsed p h =
      let prog = prog_of text s.tables name body in
      let now : Script = record s { progs = s.progs ++ prog ∷ [] } in
      let name_of : Named → List ℕ = λ q. q.name in
      let push : prog_names now ≡ prog_names s ++ token_bytes text name ∷ [] = map-append name_of s.progs (prog ∷ []) in
      let room : nat_le MOST_PROGRAMS (length (prog_names s)) ≡ false = ap (nat_le MOST_PROGRAMS) (length-map s.progs name_of) ∙ p.room in
      record {
        so_far = record {
          settings = h.so_far.settings;
          tables = h.so_far.tables;
          firsts = h.so_far.firsts;
          named = subst (AreNames MOST_PROGRAMS) (sym push) (names_push MOST_PROGRAMS (prog_names s) (token_bytes text name) h.so_far.named named p.new room);
          progs = all_push (IsProg (length s.tables)) s.progs prog h.so_far.progs (prog_sayable s word name body parsed p);
          clients = subst (AllByRecursion (IsClient (length now.progs))) (sym h.no_client) tt;
          few_clients = h.so_far.few_clients;
          net = h.so_far.net;
          plan = subst (AllByRecursion (IsPlanItem now)) (sym h.no_plan) tt;
        };
        no_plan = h.no_plan;
        no_client = h.no_client;
      }

  prog_takes : (word name : Token) (body : Commands) → is_name (token_bytes text name) ≡ true → IsParsed text body →
      Takes text HasNoClient HasNoClient (Program word name body)
  prog_takes word name body named parsed s h none =
      let t = s.script in
      let end : List Check = limit_check text t.tables body word.line ∷ [] in
      let one = none_failing (table_checks text t.tables body) (name_checks text t name ++ (local_checks text [] body ++ end)) none in
      let two = none_failing (name_checks text t name) (local_checks text [] body ++ end) one.1 in
      let three = none_failing (local_checks text [] body) end two.1 in
      let new =
      passed (is_known (prog_names t) (token_bytes text name)) name fault.RepeatedProgram
      (check (nat_le MOST_PROGRAMS (length t.progs)) name fault.TooManyPrograms ∷ []) two.0
      in
      with_prog t word name body named parsed (record {
        tables = one.0;
        new = new.0;
        room = (passed (nat_le MOST_PROGRAMS (length t.progs)) name fault.TooManyPrograms [] new.1).0;
        locals = three.0;
        limits = (passed (passes_limit text t.tables body) word fault.ProgramLimit [] three.1).0;
      }) h

  pub program_takes : (i : Item) → IsTold text program i → Takes text HasNoClient HasNoClient i
  unfolding program
  program_takes i h =
      subst (Takes text HasNoClient HasNoClient) (sym h.made)
      (prog_takes h.of.0 h.of.1.0 h.of.1.1 (name_told text h.of.1.0 h.told.1.0) h.told.1.1)
