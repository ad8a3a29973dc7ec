-- The canonical text of each sayable script says that script.
use Rattle.std.proofs.Common.{◌≡◌, ℕ, ◌<◌, ◌≤◌, ◌==◌, true, false, List, [], ◌∷◌, ◌++◌, map, length, refl, sym, ap, ◌∙◌, subst, arith}
use Rattle.std.specs.Prelude.{codes}
use Rattle.std.specs.List.{AllByRecursion}
use Rattle.std.proofs.lemmas.Bool.Decides.{nat_tests}
use Rattle.std.proofs.lemmas.List.{append_assoc, append-nil}
use Rattle.txn_text.specs.declared.bytes.TheConstants.{GREATEST_NUMBER}
use Rattle.txn_text.specs.declared.faults.FaultKind.TheVariants as fault
use Rattle.txn_parse.specs.declared.symbols.Symbol.TheVariants as symbol
use Rattle.txn_parse.specs.Symbols.{words, Lexeme, lexeme, lexemes}
use Rattle.txn_print.specs.Piece.{Piece, Word}
use Rattle.txn_print.proofs.LexedLemmas.{Lexed, none, one, lexed, Parts, parts}
use Rattle.txn_print.proofs.LinesLaid.{joined, lines_read}
use Rattle.script.specs.declared.limits.TheConstants.{MOST_PROGRAMS}
use Rattle.script.specs.declared.items.SettingName.TheVariants as named
use Rattle.script.specs.Items.{End}
use Rattle.script.specs.Rules.{Into, Many}
use Rattle.script.specs.Grammar as grammar
use Rattle.script.specs.Meaning.{Script, Said, silent, nothing_said, prog_names}
use Rattle.script.specs.Checks.{may_be}
use Rattle.script.specs.Canonical.{setting_line, setting_lines, policy_line, table_line, first_line, program_line, client_lines, net_line, plan_line, script_lines, canonical}
use Rattle.script.specs.Sayable.{IsClient, IsSayable}
use Rattle.script.specs.Texts.{IsScriptOf}
use Rattle.script.proofs.SayLemmas.{Says, into_derived, token_derived, says_single, says_both, says_then}
use Rattle.script.proofs.SaySettings.{pass, set, version_says, setting_says, policy_says}
use Rattle.script.proofs.SayStores.{tables_say, firsts_say}
use Rattle.script.proofs.SayPrograms.{programs_say}
use Rattle.script.proofs.SayClients.{clients_say}
use Rattle.script.proofs.SayPlans.{HasFewNodes}
use Rattle.script.proofs.SayItems.{net_says, plan_says}
use Rattle.script.proofs.CanonicalPieces.{many_names, lines_are}

joined_append : (xs ys : List (List Piece)) → joined (xs ++ ys) ≡ joined xs ++ joined ys
joined_append [] ys = refl
joined_append (x ∷ xs) ys = ap (λ (ps : List Piece). x ++ ps) (joined_append xs ys) ∙ sym (append_assoc x (joined xs) (joined ys))

-- the tokens of some lines, and those of the lines behind them
lines_parts : (text : List ℕ) (xs ys : List (List Piece)) (ls : List Lexeme) → Lexed text (joined (xs ++ ys)) ls → Parts text (joined xs) (joined ys) ls
lines_parts text xs ys ls l = parts text (joined xs) (joined ys) (subst (λ (ps : List Piece). Lexed text ps ls) (joined_append xs ys) l)

module _ (text : List ℕ) (s : Script) (is : IsSayable s) where
  -- what is said behind the settings
  abbrev all_set : Said
  all_set = record {
    script = record silent { replicas = s.replicas; wardens = s.wardens; tries = s.tries; execs = s.execs; gap = s.gap; turns = s.turns; policy = s.policy };
    stated = record { replicas = true; wardens = true; tries = true; execs = true; gap = true; turns = true; policy = true };
  }

  settings_say : (ls : List Lexeme) → Lexed text (setting_line (codes "replicas") s.replicas ++ (setting_line (codes "wardens") s.wardens ++ (setting_line (codes "tries") s.tries ++ (setting_line (codes "execs") s.execs
      ++ (setting_line (codes "gap") s.gap ++ (setting_line (codes "turns") s.turns ++ (policy_line s.policy ++ []))))))) ls → Says text (Many grammar.setting) ls nothing_said all_set
  unfolding words
  settings_say zs (one _ w1 _ _ b1 (one _ t1 _ _ c1 (one _ w2 _ _ b2 (one _ t2 _ _ c2 (one _ w3 _ _ b3 (one _ t3 _ _ c3 (one _ w4 _ _ b4 (one _ t4 _ _ c4 (one _ w5 _ _ b5 (one _ t5 _ _ c5 (one _ w6 _ _ b6 (one _ t6 _ l7 c6 l)))))))))))) =
      let limits = is.settings in
      let s1 = set text named.Replicas s.replicas nothing_said in
      let s2 = set text named.Wardens s.wardens s1 in
      let s3 = set text named.Tries s.tries s2 in
      let s4 = set text named.Execs s.execs s3 in
      let s5 = set text named.Gap s.gap s4 in
      let s6 = set text named.Turns s.turns s5 in
      let l6 = lexeme symbol.Turns w6 ∷ lexeme symbol.Number t6 ∷ l7 in
      let l5 = lexeme symbol.Gap w5 ∷ lexeme symbol.Number t5 ∷ l6 in
      let l4 = lexeme symbol.Execs w4 ∷ lexeme symbol.Number t4 ∷ l5 in
      let l3 = lexeme symbol.Tries w3 ∷ lexeme symbol.Number t3 ∷ l4 in
      let l2 = lexeme symbol.Wardens w2 ∷ lexeme symbol.Number t2 ∷ l3 in
      let p7 = policy_says text s6 s.policy l7 refl (subst (λ (ps : List Piece). Lexed text ps l7) (append-nil (policy_line s.policy)) l) in
      let p6 = says_both text grammar.setting (lexeme symbol.Turns w6 ∷ lexeme symbol.Number t6 ∷ []) l7 s5 s6 all_set (setting_says text named.Turns symbol.Turns w6 t6 s.turns s5 refl (λ n. (1, refl)) c6 limits.turns refl) p7 in
      let p5 = says_both text grammar.setting (lexeme symbol.Gap w5 ∷ lexeme symbol.Number t5 ∷ []) l6 s4 s5 all_set (setting_says text named.Gap symbol.Gap w5 t5 s.gap s4 refl (λ n. (1, refl)) c5 limits.gap refl) p6 in
      let p4 = says_both text grammar.setting (lexeme symbol.Execs w4 ∷ lexeme symbol.Number t4 ∷ []) l5 s3 s4 all_set (setting_says text named.Execs symbol.Execs w4 t4 s.execs s3 refl (λ n. (1, refl)) c4 limits.execs refl) p5 in
      let p3 = says_both text grammar.setting (lexeme symbol.Tries w3 ∷ lexeme symbol.Number t3 ∷ []) l4 s2 s3 all_set (setting_says text named.Tries symbol.Tries w3 t3 s.tries s2 refl (λ n. (1, refl)) c3 limits.tries refl) p4 in
      let p2 = says_both text grammar.setting (lexeme symbol.Wardens w2 ∷ lexeme symbol.Number t2 ∷ []) l3 s1 s2 all_set (setting_says text named.Wardens symbol.Wardens w2 t2 s.wardens s1 refl (λ n. (1, refl)) c2 limits.wardens refl) p3 in
      says_both text grammar.setting (lexeme symbol.Replicas w1 ∷ lexeme symbol.Number t1 ∷ []) l2 nothing_said s1 all_set (setting_says text named.Replicas symbol.Replicas w1 t1 s.replicas nothing_said refl (λ n. (1, refl)) c1 limits.replicas refl) p2

  -- what is said behind the tables, the first values, the programs, the clients and the net
  abbrev base_tables : Script
  base_tables = all_set.script

  abbrev base_progs : Script
  base_progs = record all_set.script { tables = s.tables; firsts = s.firsts }

  abbrev base_clients : Script
  base_clients = record base_progs { progs = s.progs }

  abbrev base_net : Script
  base_net = record base_clients { clients = s.clients }

  abbrev whole : Said
  whole = record { script = s; stated = all_set.stated }

  end_says : (ls : List Lexeme) → Lexed text ((Word (codes "end") ∷ []) ++ []) ls → Says text (Into grammar.single grammar.end_item) ls whole whole
  unfolding words grammar.end_item
  end_says zs (one _ w _ _ b none) =
      says_single text grammar.end_item (lexeme symbol.End w ∷ []) whole whole (End w) (into_derived End (grammar.token symbol.End) (lexeme symbol.End w ∷ []) w (token_derived symbol.End w refl))
      (pass (length s.clients == 0) w fault.ClientOrder [] (some_clients (length s.clients) is.clients.some) refl) refl (λ n. (0, refl))
    where
      some_clients : (n : ℕ) → 0 < n → (n == 0) ≡ false
      some_clients n some = grind (arith, nat_tests)

  few_nodes : HasFewNodes text s
  few_nodes = record { clients = (let few = is.clients.few in omega (arith, few)); replicas = few_replicas s.replicas is.settings.replicas; wardens = few_wardens s.wardens is.settings.wardens }
    where
      few_replicas : (n : ℕ) → may_be named.Replicas n ≡ true → n ≤ GREATEST_NUMBER
      few_replicas n may = grind (arith, nat_tests)

      few_wardens : (n : ℕ) → may_be named.Wardens n ≡ true → n ≤ GREATEST_NUMBER
      few_wardens n may = grind (arith, nat_tests)

  few_progs : length s.progs ≤ MOST_PROGRAMS
  few_progs = let few = is.named.few in let same = many_names s.progs in omega (arith, few, same)

  clients_among : AllByRecursion (IsClient (length (prog_names s))) s.clients
  clients_among = subst (λ (n : ℕ). AllByRecursion (IsClient n) s.clients) (sym (many_names s.progs)) is.clients.each

  nest : (v a b c d e f g h all f1 f2 f3 f4 f5 f6 f7 : List Lexeme) → all ≡ f7 ++ h → f7 ≡ f6 ++ g → f6 ≡ f5 ++ f → f5 ≡ f4 ++ e → f4 ≡ f3 ++ d → f3 ≡ f2 ++ c → f2 ≡ f1 ++ b → f1 ≡ v ++ a →
      all ≡ v ++ (a ++ ((b ++ c) ++ (d ++ (e ++ (f ++ (g ++ h))))))
  nest v a b c d e f g h all f1 f2 f3 f4 f5 f6 f7 e7 e6 e5 e4 e3 e2 e1 e0 =
      e7 ∙ ap (λ x. x ++ h) (e6 ∙ ap (λ x. x ++ g) (e5 ∙ ap (λ x. x ++ f) (e4 ∙ ap (λ x. x ++ e) (e3 ∙ ap (λ x. x ++ d) (e2 ∙ ap (λ x. x ++ c) (e1 ∙ ap (λ x. x ++ b) e0)))))) ∙ simp append_assoc refl

  says_script : (ls : List Lexeme) → Lexed text (joined (script_lines s)) ls → Says text grammar.script ls nothing_said whole
  unfolding grammar.script
  says_script ls l =
      let L1 = setting_lines s in
      let L2 = map table_line s.tables in
      let L3 = map (first_line s.tables) s.firsts in
      let L4 = map (program_line s.tables) s.progs in
      let L5 = client_lines (prog_names s) 1 s.clients in
      let L6 : List (List Piece) = net_line s.net ∷ [] in
      let L7 = map plan_line s.plan in
      let L8 : List (List Piece) = (Word (codes "end") ∷ []) ∷ [] in
      let p7 = lines_parts text (L1 ++ L2 ++ L3 ++ L4 ++ L5 ++ L6 ++ L7) L8 ls l in
      let p6 = lines_parts text (L1 ++ L2 ++ L3 ++ L4 ++ L5 ++ L6) L7 p7.front p7.first in
      let p5 = lines_parts text (L1 ++ L2 ++ L3 ++ L4 ++ L5) L6 p6.front p6.first in
      let p4 = lines_parts text (L1 ++ L2 ++ L3 ++ L4) L5 p5.front p5.first in
      let p3 = lines_parts text (L1 ++ L2 ++ L3) L4 p4.front p4.first in
      let p2 = lines_parts text (L1 ++ L2) L3 p3.front p3.first in
      let p1 = lines_parts text L1 L2 p2.front p2.first in
      let p0 = parts text (setting_line (codes "morty") 1) _ p1.first in
      let q0 = version_says text nothing_said p0.front p0.first in
      let q1 = settings_say p0.back p0.second in
      let q2 = tables_say text base_tables all_set.stated s.tables [] p1.back is.tables.distinct is.tables.few p1.second in
      let q3 = firsts_say text base_tables all_set.stated s.tables is.tables.distinct s.firsts [] p2.back is.firsts.each is.firsts.distinct p2.second in
      let stores = says_both text grammar.store p1.back p2.back all_set (record { script = record base_tables { tables = s.tables }; stated = all_set.stated }) (record { script = base_progs; stated = all_set.stated }) q2 q3 in
      let q4 = programs_say text base_progs all_set.stated (record { named = is.tables.named; distinct = is.tables.distinct }) s.progs [] p3.back is.progs is.named.distinct few_progs p3.second in
      let q5 = clients_say text (prog_names s) is.named.distinct base_clients all_set.stated refl s.clients [] p4.back clients_among is.clients.few p4.second in
      let q6 = net_says text s.net (record { script = base_net; stated = all_set.stated }) p5.back is.net (subst (λ (ps : List Piece). Lexed text ps p5.back) (append-nil (net_line s.net)) p5.second) in
      let q7 = plan_says text s all_set.stated few_nodes s.plan [] p6.back is.plan p6.second in
      let q8 = end_says p7.back p7.second in
      subst (λ (ms : List Lexeme). Says text grammar.script ms nothing_said whole)
      (sym (nest p0.front p0.back p1.back p2.back p3.back p4.back p5.back p6.back p7.back ls p1.front p2.front p3.front p4.front p5.front p6.front p7.front p7.split p6.split p5.split p4.split p3.split p2.split p1.split p0.split))
      (says_then text q0 (says_then text q1 (says_then text stores (says_then text q4 (says_then text q5 (says_then text q6 (says_then text q7 q8)))))))

pub canonical_is_said : (s : Script) → IsSayable s → IsScriptOf (canonical s) s
canonical_is_said s is =
    let text = canonical s in
    let r = lines_read (script_lines s) (lines_are s is) in
    let x = says_script text s is (lexemes text r.tokens) (lexed text (joined (script_lines s)) r.tokens r.spelled) in
    record {
      items = x.items;
      has = record { tokens = r.tokens; are_tokens = r.are_tokens; is_script = record { derived = x.derived; within = ((0, (x.calm 0).0), (x.calm 0).1) } };
      passes = x.passes;
      says = sym (ap (λ (y : Said). y.script) x.says);
    }
