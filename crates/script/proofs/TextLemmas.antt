-- What a printer holds once transactions and clients were printed.
use Rattle.std.proofs.Common.{◌≡◌, ◌<◌, ◌+◌, ℕ, suc, true, List, [], ◌∷◌, ◌++◌, map, length, drop, get_or, Result, refl, sym, ap, ◌∙◌, add-one, drop-cons}
use Rattle.std.specs.Prelude.{codes, OnOk}
use Rattle.std.proofs.lemmas.Result.{on_ok_weaker}
use Rattle.txn_print.specs.declared.printer.Printer.{Printer}
use Rattle.txn_print.specs.Piece.{Piece, Word, Number, Symbol}
use Rattle.txn_print.specs.Printer.{with_piece, printed, with_line, lines_printed}
use Rattle.txn_print.specs.Canonical.{Names}
use Rattle.txn_print.proofs.PrinterLemmas.{printed_append}
use Rattle.txn_print.proofs.LineLemmas.{lines_printed_append, text_lines}
use Rattle.script.specs.declared.setup.First.{First}
use Rattle.script.specs.declared.setup.NamedProg.{NamedProg}
use Rattle.script.specs.declared.setup.Txn.{Txn}
use Rattle.script.specs.declared.setup.Net.TheVariants as net
use Rattle.script.specs.declared.setup.Setup.{Setup}
use Rattle.net_core.specs.declared.plan.PlanItem.{PlanItem}
use Rattle.script.specs.Meaning.{named_of, said_by, Named}
use Rattle.script.specs.Canonical.{txn_pieces, more_txns, first_txns, client_line, client_lines, setting_lines, table_line, first_line, program_line, program_names, net_line, plan_line, setting_line, script_lines, canonical_script}

module _ (programs : Names) where
  -- one more transaction was printed
  pub one_txn : (txns : List Txn) (i : ℕ) (t : Txn) (p q s : Printer) → i < length txns → t ≡ get_or txns i t → q ≡ with_piece p (Symbol (codes ";")) → s ≡ printed q (txn_pieces programs t) →
      printed s (more_txns programs (drop (i + 1) txns)) ≡ printed p (more_txns programs (drop i txns))
  one_txn txns i t p q s within is first second =
      let rest = more_txns programs (drop (suc i) txns) in
      let split : drop i txns ≡ t ∷ drop (suc i) txns = drop-cons txns i t within ∙ ap (λ (y : Txn). y ∷ drop (suc i) txns) (sym is) in
      ap (λ (n : ℕ). printed s (more_txns programs (drop n txns))) (add-one i)
      ∙ ap (λ (x : Printer). printed x rest) (second ∙ ap (λ (x : Printer). printed x (txn_pieces programs t)) first)
      ∙ sym (printed_append (with_piece p (Symbol (codes ";"))) (txn_pieces programs t) rest)
      ∙ ap (λ (l : List Txn). printed p (more_txns programs l)) (sym split)

  -- one more client was printed
  pub one_client : (clients : List (List Txn)) (i : ℕ) (txns : List Txn) (p q : Printer) → i < length clients → txns ≡ get_or clients i txns → q ≡ with_line (printed p (client_line programs (i + 1) txns)) →
      lines_printed q (client_lines programs (i + 1 + 1) (drop (i + 1) clients)) ≡ lines_printed p (client_lines programs (i + 1) (drop i clients))
  one_client clients i txns p q within is next =
      let split : drop i clients ≡ txns ∷ drop (suc i) clients = drop-cons clients i txns within ∙ ap (λ (y : List Txn). y ∷ drop (suc i) clients) (sym is) in
      ap (λ (n : ℕ). lines_printed q (client_lines programs (i + 1 + 1) (drop n clients))) (add-one i)
      ∙ ap (λ (s : Printer). lines_printed s (client_lines programs (i + 1 + 1) (drop (suc i) clients))) next
      ∙ ap (λ (l : List (List Txn)). lines_printed p (client_lines programs (i + 1) l)) (sym split)

-- a whole client
pub client_printed :
    {T E : Type 0} (r : Result T E) (programs : Names) (number : ℕ) (txns : List Txn) (p a b d e f z : Printer) → a ≡ with_piece p (Word (codes "client")) →
    b ≡ with_piece a (Number number) → d ≡ with_piece b (Symbol (codes "{")) → e ≡ printed d (first_txns programs txns) → f ≡ with_piece e (Symbol (codes "}")) →
    OnOk r (z ≡ with_line f) → OnOk r (z ≡ with_line (printed p (client_line programs number txns)))
client_printed r programs number txns p a b d e f z first second third fourth fifth =
    let start = with_piece (with_piece (with_piece p (Word (codes "client"))) (Number number)) (Symbol (codes "{")) in
    let begun : d ≡ start =
    third ∙ ap (λ (x : Printer). with_piece x (Symbol (codes "{"))) (second ∙ ap (λ (x : Printer). with_piece x (Number number)) first) in
    let whole : f ≡ printed p (client_line programs number txns) =
    fifth ∙ ap (λ (x : Printer). with_piece x (Symbol (codes "}"))) (fourth ∙ ap (λ (x : Printer). printed x (first_txns programs txns)) begun)
    ∙ sym (printed_append start (first_txns programs txns) (Symbol (codes "}") ∷ [])) in
    on_ok_weaker r (λ is. is ∙ ap with_line whole)

-- a seeded net
pub net_printed :
    (p a b d e : Printer) (seed late again hurry l g h : ℕ) → l ≡ late → g ≡ again → h ≡ hurry → a ≡ with_piece p (Word (codes "net")) → b ≡ printed a (setting_line (codes "seeded") seed) →
    d ≡ printed b (setting_line (codes "late") l) → e ≡ printed d (setting_line (codes "repeat") g) →
    printed e (setting_line (codes "hurry") h) ≡ printed p (net_line (net.Seeded seed late again hurry))
net_printed p a b d e seed late again hurry l g h t1 t2 t3 e1 e2 e3 e4 = cc

-- a program as it is said
pub names_said : (progs : List NamedProg) → program_names progs ≡ map (λ (p : Named). p.name) (map named_of progs)
names_said [] = refl
names_said (p ∷ ps) = ap (λ (l : Names). p.name ∷ l) (names_said ps)

module _ (tables : Names) (progs : List NamedProg) where
  -- a line was printed for one more program
  pub one_program : (i : ℕ) (x : NamedProg) (p q : Printer) → i < length progs → x ≡ get_or progs i x → q ≡ with_line (printed p (program_line tables (named_of x))) →
      lines_printed q (map (program_line tables) (map named_of (drop (i + 1) progs))) ≡ lines_printed p (map (program_line tables) (map named_of (drop i progs)))
  one_program i x p q within is next =
      let split : drop i progs ≡ x ∷ drop (suc i) progs = drop-cons progs i x within ∙ ap (λ (y : NamedProg). y ∷ drop (suc i) progs) (sym is) in
      ap (λ (n : ℕ). lines_printed q (map (program_line tables) (map named_of (drop n progs)))) (add-one i)
      ∙ ap (λ (s : Printer). lines_printed s (map (program_line tables) (map named_of (drop (suc i) progs)))) next
      ∙ ap (λ (l : List NamedProg). lines_printed p (map (program_line tables) (map named_of l))) (sym split)

-- lines behind others
goes_on : (p q s : Printer) (xs ys : List (List Piece)) → q ≡ lines_printed p xs → s ≡ lines_printed q ys → s ≡ lines_printed p (xs ++ ys)
goes_on p q s xs ys first second = second ∙ ap (λ (x : Printer). lines_printed x ys) first ∙ sym (lines_printed_append p xs ys)

-- a whole script
pub script_printed :
    (s : Setup) (tables : Names) (firsts : List First) (progs named : List NamedProg) (clients : List (List Txn)) (plan : List PlanItem)
    (p a b d e f g h i j k : Printer) →
    tables ≡ s.tables → firsts ≡ s.firsts → progs ≡ s.progs → named ≡ s.progs → clients ≡ s.clients → plan ≡ s.plan →
    p ≡ record { text = []; joined = true } → a ≡ lines_printed p (setting_lines (said_by s)) → b ≡ lines_printed a (map table_line tables) → d ≡ lines_printed b (map (first_line tables) firsts) →
    e ≡ lines_printed d (map (program_line tables) (map named_of progs)) → f ≡ lines_printed e (client_lines (program_names named) 1 clients) → g ≡ printed f (net_line s.net) → h ≡ with_line g →
    i ≡ lines_printed h (map plan_line plan) → j ≡ with_piece i (Word (codes "end")) → k ≡ with_line j → k.text ≡ canonical_script s
script_printed s tables firsts progs named clients plan p a b d e f g h i j k t1 t2 t3 t4 t5 t6 start e1 e2 e3 e4 e5 e6 e7 e8 e9 e10 =
    let L1 = setting_lines (said_by s) in
    let L2 = map table_line s.tables in
    let L3 = map (first_line s.tables) s.firsts in
    let L4 = map (program_line s.tables) (map named_of s.progs) in
    let L5 = client_lines (map (λ (p : Named). p.name) (map named_of s.progs)) 1 s.clients in
    let L6 : List (List Piece) = net_line s.net ∷ [] in
    let L7 = map plan_line s.plan in
    let L8 : List (List Piece) = (Word (codes "end") ∷ []) ∷ [] in
    let s2 : b ≡ lines_printed a L2 = e2 ∙ ap (λ (l : Names). lines_printed a (map table_line l)) t1 in
    let s3 : d ≡ lines_printed b L3 = e3 ∙ ap (λ (l : List First). lines_printed b (map (first_line tables) l)) t2 ∙ ap (λ (l : Names). lines_printed b (map (first_line l) s.firsts)) t1 in
    let s4 : e ≡ lines_printed d L4 = e4 ∙ ap (λ (l : List NamedProg). lines_printed d (map (program_line tables) (map named_of l))) t3 ∙ ap (λ (l : Names). lines_printed d (map (program_line l) (map named_of s.progs))) t1 in
    let s5 : f ≡ lines_printed e L5 = e5 ∙ ap (λ (l : List NamedProg). lines_printed e (client_lines (program_names l) 1 clients)) t4 ∙ ap (λ (l : List (List Txn)). lines_printed e (client_lines (program_names s.progs) 1 l)) t5 ∙ ap (λ (l : Names). lines_printed e (client_lines l 1 s.clients)) (names_said s.progs) in
    let s6 : h ≡ lines_printed f L6 = e7 ∙ ap with_line e6 in
    let s7 : i ≡ lines_printed h L7 = e8 ∙ ap (λ (l : List PlanItem). lines_printed h (map plan_line l)) t6 in
    let s8 : k ≡ lines_printed i L8 = e10 ∙ ap with_line e9 in
    let c2 = goes_on p a b L1 L2 e1 s2 in
    let c3 = goes_on p b d (L1 ++ L2) L3 c2 s3 in
    let c4 = goes_on p d e (L1 ++ L2 ++ L3) L4 c3 s4 in
    let c5 = goes_on p e f (L1 ++ L2 ++ L3 ++ L4) L5 c4 s5 in
    let c6 = goes_on p f h (L1 ++ L2 ++ L3 ++ L4 ++ L5) L6 c5 s6 in
    let c7 = goes_on p h i (L1 ++ L2 ++ L3 ++ L4 ++ L5 ++ L6) L7 c6 s7 in
    let c8 : k ≡ lines_printed p (script_lines (said_by s)) = goes_on p i k (L1 ++ L2 ++ L3 ++ L4 ++ L5 ++ L6 ++ L7) L8 c7 s8 in
    ap (λ (x : Printer). x.text) (c8 ∙ ap (λ (x : Printer). lines_printed x (script_lines (said_by s))) start) ∙ text_lines (record { text = []; joined = true }) (script_lines (said_by s)) refl
