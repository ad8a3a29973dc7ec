-- What the lines of programs say.
use Rattle.std.proofs.Common.{◌≡◌, ℕ, ◌<◌, ◌≤◌, nat_le, Bool, false, cond, List, [], ◌∷◌, ◌++◌, map, length, Some, None, Ok, refl, sym, ap, ◌∙◌, subst, arith}
use Rattle.std.specs.List.{AllByRecursion, IsDistinct}
use Rattle.std.specs.Str.{bytes_eq}
use Rattle.std.proofs.lemmas.Bool.Decides.{nat_tests}
use Rattle.std.proofs.lemmas.List.{append_assoc, append-nil, length-append, map-append}
use Rattle.txn_lang.specs.Tree as lang
use Rattle.txn_text.specs.declared.faults.FaultKind.TheVariants as fault
use Rattle.txn_text.specs.declared.faults.TextFault.TheVariants.{At}
use Rattle.txn_text.specs.declared.kinds.Token.{Token}
use Rattle.txn_text.specs.Tokens.{token_bytes}
use Rattle.txn_parse.specs.declared.symbols.Symbol.TheVariants as symbol
use Rattle.txn_parse.specs.Symbols.{words, Lexeme, lexeme}
use Rattle.txn_parse.specs.Tree.{Commands}
use Rattle.txn_parse.specs.Grammar.{IsBlock, braced}
use Rattle.txn_parse.specs.Counts.{counted}
use Rattle.txn_parse.specs.Binding.{first_failing, Names, is_known, names_of, bound_body, passes_limit, table_checks, local_checks, limit_check}
use Rattle.txn_parse.proofs.CountsLemmas.{limits_are_counts}
use Rattle.txn_parse.proofs.LimitsLemmas.{free_block}
use Rattle.txn_parse.proofs.NamesLemmas.{none_first}
use Rattle.txn_print.specs.Laws.{AreTables}
use Rattle.txn_print.proofs.LexedLemmas.{Lexed, none, one, parts}
use Rattle.txn_print.proofs.LinesLaid.{joined}
use Rattle.txn_print.proofs.PlacesLemmas.{new_name}
use Rattle.txn_print.proofs.ReadBlocks.{inner}
use Rattle.txn_print.proofs.CanonicalIsRead.{whole_read}
use Rattle.script.specs.declared.limits.TheConstants.{MOST_PROGRAMS}
use Rattle.script.specs.declared.items.Stated.{Stated}
use Rattle.script.specs.Items.{Program}
use Rattle.script.specs.Rules.{Block, Both, Many, Derives}
use Rattle.script.specs.Grammar.{token, name, program}
use Rattle.script.specs.Meaning.{Named, Script, Said, prog_of}
use Rattle.script.specs.Checks.{check}
use Rattle.script.specs.Canonical.{program_line}
use Rattle.script.specs.Sayable.{IsProg}
use Rattle.script.proofs.SayLemmas.{Says, into_derived, both_derived, token_derived, says_none, says_one, says_both}
use Rattle.script.proofs.SaySettings.{pass}

-- a block's first token is a brace, so the run before it does not count
run_free : {d : ℕ} {ls : List Lexeme} {b : Commands} → IsBlock (inner d) ls b → (n : ℕ) → counted 0 n ls ≡ counted 0 0 ls
run_free (braced lim x y ls cs may s) n = refl

module _ (text : List ℕ) (base : Script) (st : Stated) (known : AreTables base.tables) where
  -- what is said where these are the programs
  abbrev pub with_progs : List Named → Said
  with_progs ps = record { script = record base { progs = ps }; stated = st }

  program_derived : (w t : Token) (ls : List Lexeme) (b : Commands) → Derives Block ls b → Derives program (lexeme symbol.Program w ∷ lexeme symbol.Name t ∷ ls) (Program w t b)
  unfolding program
  program_derived w t ls b d =
      into_derived (λ x. Program x.0 x.1.0 x.1.1) (Both (token symbol.Program) (Both name Block)) (lexeme symbol.Program w ∷ lexeme symbol.Name t ∷ ls) (w, (t, b))
      (both_derived (token symbol.Program) (Both name Block) (lexeme symbol.Program w ∷ []) (lexeme symbol.Name t ∷ ls) w (t, b) (token_derived symbol.Program w refl)
      (both_derived name Block (lexeme symbol.Name t ∷ []) ls t b (token_derived symbol.Name t refl) d))

  program_says : (before : List Named) (p : Named) (ls : List Lexeme) → IsProg (length base.tables) p → is_known (map (λ p. p.name) before) p.name ≡ false → length before < MOST_PROGRAMS →
      Lexed text (program_line base.tables p) ls → Says text (Many program) ls (with_progs before) (with_progs (before ++ p ∷ []))
  unfolding words
  program_says before p zs is new few (one a w ps ps' b (one q t qs ls b' l)) =
      let r = whole_read text base.tables p.locals p.body known is.within is.formed is.written ls l in
      let raw = r.read.raw in
      let derived = r.read.derived in
      let count : counted 0 0 ls ≡ Ok (0, 0) = limits_are_counts.counts ls raw derived in
      let same : prog_of text base.tables t raw ≡ p =
      ap (λ (n : List ℕ). let x : Named = record { name = n; locals = names_of text raw; body = bound_body text base.tables raw } in x) b'
      ∙ ap (λ (ns : Names). let x : Named = record { name = p.name; locals = ns; body = bound_body text base.tables raw } in x) r.names
      ∙ ap (λ (cs : lang.Commands). let x : Named = record { name = p.name; locals = p.locals; body = cs } in x) r.whole in
      says_one text program (lexeme symbol.Program w ∷ lexeme symbol.Name t ∷ ls) (with_progs before) (with_progs (before ++ p ∷ [])) (Program w t raw)
      (program_derived w t ls raw (free_block derived))
      (none_first (table_checks text base.tables raw)
      (check (is_known (map (λ p. p.name) before) (token_bytes text t)) t fault.RepeatedProgram ∷ check (nat_le MOST_PROGRAMS (length before)) t fault.TooManyPrograms ∷ (local_checks text [] raw ++ limit_check text base.tables raw w.line ∷ []))
      r.read.told.known
      ∙ pass (is_known (map (λ p. p.name) before) (token_bytes text t)) t fault.RepeatedProgram
      (check (nat_le MOST_PROGRAMS (length before)) t fault.TooManyPrograms ∷ (local_checks text [] raw ++ limit_check text base.tables raw w.line ∷ [])) (ap (is_known (map (λ p. p.name) before)) b' ∙ new)
      (pass (nat_le MOST_PROGRAMS (length before)) t fault.TooManyPrograms (local_checks text [] raw ++ limit_check text base.tables raw w.line ∷ []) (grind (arith, nat_tests))
      (none_first (local_checks text [] raw) (limit_check text base.tables raw w.line ∷ []) r.read.told.passes ∙ pass_limit raw w.line r.limit)))
      (ap (λ (x : Named). with_progs (before ++ x ∷ [])) same) (λ n. (0, run_free derived 1 ∙ count))
    where
      pass_limit : (raw : Commands) (line : ℕ) → passes_limit text base.tables raw ≡ false → first_failing (limit_check text base.tables raw line ∷ []) ≡ None
      pass_limit raw line is = ap (λ (b : Bool). cond b (Some (At line fault.ProgramLimit)) None) is

  pub programs_say : (ps before : List Named) (ls : List Lexeme) → AllByRecursion (IsProg (length base.tables)) ps → IsDistinct bytes_eq (map (λ p. p.name) (before ++ ps)) → length (before ++ ps) ≤ MOST_PROGRAMS →
      Lexed text (joined (map (program_line base.tables) ps)) ls → Says text (Many program) ls (with_progs before) (with_progs (before ++ ps))
  programs_say [] before zs each distinct few none = subst (λ (qs : List Named). Says text (Many program) [] (with_progs before) (with_progs qs)) (sym (append-nil before)) (says_none text program (with_progs before))
  programs_say (p ∷ ps) before ls each distinct few l =
      let x = parts text (program_line base.tables p) (joined (map (program_line base.tables) ps)) l in
      let len = length-append before (p ∷ ps) in
      let more : before ++ p ∷ [] ++ ps ≡ before ++ (p ∷ ps) = append_assoc before (p ∷ []) ps in
      let new = new_name (map (λ p. p.name) before) p.name (map (λ p. p.name) ps) (subst (IsDistinct bytes_eq) (map-append (λ (p : Named). p.name) before (p ∷ ps)) distinct) in
      let head = program_says before p x.front each.0 new (omega (arith, few, len)) x.first in
      let rest = programs_say ps (before ++ p ∷ []) x.back each.1 (subst (λ (qs : List Named). IsDistinct bytes_eq (map (λ p. p.name) qs)) (sym more) distinct) (subst (λ (qs : List Named). length qs ≤ MOST_PROGRAMS) (sym more) few) x.second in
      subst (λ (ms : List Lexeme). Says text (Many program) ms (with_progs before) (with_progs (before ++ p ∷ ps))) (sym x.split)
      (subst (λ (qs : List Named). Says text (Many program) (x.front ++ x.back) (with_progs before) (with_progs qs)) more
      (says_both text program x.front x.back (with_progs before) (with_progs (before ++ p ∷ [])) (with_progs (before ++ p ∷ [] ++ ps)) head rest))
