-- The lines of a sayable script are pieces that have the bytes of their kinds.
use Rattle.std.proofs.Common.{◌≡◌, ℕ, ◌+◌, ◌≤◌, true, List, [], ◌∷◌, ◌++◌, map, length, refl, sym, subst, arith, ℤ, pos, negsuc}
use Rattle.std.specs.Prelude.{codes}
use Rattle.std.specs.List.{list_all, AllByRecursion}
use Rattle.std.proofs.lemmas.Bool.{and_parts}
use Rattle.morty_base.specs.declared.names.NodeId.{NodeId}
use Rattle.morty_base.specs.declared.names.NodeId.TheVariants as nodes
use Rattle.morty_base.specs.ScriptNames.{is_name, is_reserved, is_setting_word, is_item_word, is_net_word, is_plan_word, is_statement_word}
use Rattle.msg.specs.declared.Pick.{Pick}
use Rattle.msg.specs.declared.Pick.TheVariants as pick
use Rattle.net_core.specs.declared.plan.PlanItem.{PlanItem}
use Rattle.net_core.specs.declared.plan.PlanWhat.{PlanWhat}
use Rattle.net_core.specs.declared.plan.PlanWhat.TheVariants as what
use Rattle.txn_text.specs.declared.bytes.TheConstants.{GREATEST_NUMBER}
use Rattle.txn_parse.specs.Binding.{Names}
use Rattle.txn_print.specs.Piece.{Piece, Word, Symbol}
use Rattle.txn_print.specs.Canonical.{in_braces}
use Rattle.txn_print.specs.Spelling.{ArePieces}
use Rattle.txn_print.specs.Written.{IsWritten}
use Rattle.txn_print.proofs.LinesLaid.{AreLines}
use Rattle.txn_print.proofs.PiecesLemmas.{pieces_append, name_is, braces_are, block_are}
use Rattle.script.specs.declared.items.SettingName.TheVariants as named
use Rattle.script.specs.declared.setup.Policy.{Policy}
use Rattle.script.specs.declared.setup.Policy.TheVariants as policy
use Rattle.script.specs.declared.setup.First.{First}
use Rattle.script.specs.declared.setup.Txn.{Txn}
use Rattle.script.specs.declared.setup.Net.{Net}
use Rattle.script.specs.declared.setup.Net.TheVariants as net
use Rattle.script.specs.declared.limits.TheConstants.{MOST_CLIENTS}
use Rattle.script.specs.Meaning.{Named, Script, prog_names}
use Rattle.script.specs.Canonical.{setting_line, policy_line, signed_pieces, table_line, first_line, program_line, txn_pieces, more_txns, first_txns, client_lines, net_line, node_pieces, pick_pieces, plan_line, setting_lines, script_lines}
use Rattle.script.specs.Sayable.{IsFirst, IsProg, IsTxn, IsClient, IsNet, IsNode, IsPick, IsPlanned, IsPlanItem, IsSayable}
use Rattle.script.proofs.SaySettings.{may_small}

-- there are as many names as programs
pub many_names : (ps : List Named) → length (map (λ (p : Named). p.name) ps) ≡ length ps
many_names [] = refl
many_names (p ∷ ps) = let rest = many_names ps in omega (arith, rest)

pub lines_append : (xs ys : List (List Piece)) → AreLines xs → AreLines ys → AreLines (xs ++ ys)
lines_append [] ys first second = second
lines_append (x ∷ xs) ys first second = (first.0, lines_append xs ys first.1 second)

policy_is : (p : Policy) → ArePieces (policy_line p)
unfolding is_reserved is_setting_word is_item_word is_net_word is_plan_word is_statement_word
policy_is policy.Rewind = (refl, (refl, tt))
policy_is policy.Abort = (refl, (refl, tt))

settings_are : (s : Script) → IsSayable s → AreLines (setting_lines s)
unfolding is_reserved is_setting_word is_item_word is_net_word is_plan_word is_statement_word
settings_are s is =
    let limits = is.settings in (
      (refl, (omega arith, tt)),
      (
        (refl, (may_small named.Replicas s.replicas limits.replicas, tt)),
        (
          (refl, (may_small named.Wardens s.wardens limits.wardens, tt)),
          (
            (refl, (may_small named.Tries s.tries limits.tries, tt)),
            ((refl, (may_small named.Execs s.execs limits.execs, tt)), ((refl, (may_small named.Gap s.gap limits.gap, tt)), ((refl, (may_small named.Turns s.turns limits.turns, tt)), (policy_is s.policy, tt)))),
          ),
        ),
      ),
    )

tables_are : (names : Names) → list_all is_name names ≡ true → AreLines (map table_line names)
unfolding is_reserved is_setting_word is_item_word is_net_word is_plan_word is_statement_word
tables_are [] all = tt
tables_are (x ∷ names) all = let both = and_parts (is_name x) (list_all is_name names) all in ((refl, (both.0, tt)), tables_are names both.1)

signed_is : (z : ℤ) → IsWritten z → ArePieces (signed_pieces z)
signed_is (pos n) small = (small, tt)
signed_is (negsuc n) small = (tt, (small, tt))

firsts_are : (tables : Names) → list_all is_name tables ≡ true → (fs : List First) → AllByRecursion (IsFirst (length tables)) fs → AreLines (map (first_line tables) fs)
unfolding is_reserved is_setting_word is_item_word is_net_word is_plan_word is_statement_word
firsts_are tables all [] each = tt
firsts_are tables all (f ∷ fs) each =
    let is = each.0 in
    ((refl, (name_is tables f.key.table is.known all, (refl, pieces_append (signed_pieces f.key.index) (Symbol (codes "]") ∷ signed_pieces f.value) (signed_is f.key.index is.index) (refl, signed_is f.value is.value)))), firsts_are tables all fs each.1)

progs_are : (tables : Names) → list_all is_name tables ≡ true → (ps : List Named) → list_all is_name (map (λ p. p.name) ps) ≡ true → AllByRecursion (IsProg (length tables)) ps → AreLines (map (program_line tables) ps)
unfolding is_reserved is_setting_word is_item_word is_net_word is_plan_word is_statement_word
progs_are tables all [] names each = tt
progs_are tables all (p ∷ ps) names each =
    let is = each.0 in
    let both = and_parts (is_name p.name) (list_all is_name (map (λ p. p.name) ps)) names in
    ((refl, (both.0, block_are p.locals is.formed.named tables all p.body is.within.each is.written)), progs_are tables all ps both.1 each.1)

module _ (programs : Names) (all : list_all is_name programs ≡ true) where
  txn_is : (t : Txn) → IsTxn (length programs) t → ArePieces (txn_pieces programs t)
  unfolding is_reserved is_setting_word is_item_word is_net_word is_plan_word is_statement_word
  txn_is t is = let start = is.start in (name_is programs t.prog is.known all, (refl, (omega (arith, start), tt)))

  more_are : (ts : List Txn) → AllByRecursion (IsTxn (length programs)) ts → ArePieces (more_txns programs ts)
  more_are [] each = tt
  more_are (t ∷ ts) each = (refl, pieces_append (txn_pieces programs t) (more_txns programs ts) (txn_is t each.0) (more_are ts each.1))

  txns_are : (ts : List Txn) → AllByRecursion (IsTxn (length programs)) ts → ArePieces (first_txns programs ts)
  txns_are [] each = tt
  txns_are (t ∷ ts) each = pieces_append (txn_pieces programs t) (more_txns programs ts) (txn_is t each.0) (more_are ts each.1)

  clients_are : (cs : List (List Txn)) (number : ℕ) → number + length cs ≤ MOST_CLIENTS + 1 → AllByRecursion (IsClient (length programs)) cs → AreLines (client_lines programs number cs)
  unfolding is_reserved is_setting_word is_item_word is_net_word is_plan_word is_statement_word
  clients_are [] number few each = tt
  clients_are (c ∷ cs) number few each = let is = each.0 in ((refl, (omega (arith, few), braces_are (first_txns programs c) (txns_are c is.each))), clients_are cs (number + 1) (omega (arith, few)) each.1)

net_is : (n : Net) → IsNet n → ArePieces (net_line n)
unfolding is_reserved is_setting_word is_item_word is_net_word is_plan_word is_statement_word
net_is net.Fair is = (refl, (refl, tt))
net_is net.Listed is = (refl, (refl, tt))
net_is (net.Seeded seed late again hurry) is =
    let few = is.1 in
    let few' = is.2 in
    let few'' = is.3 in
    (refl, (refl, (is.0, (refl, (omega (arith, few), (refl, (omega (arith, few'), (refl, (omega (arith, few''), tt)))))))))

node_is : (s : Script) (n : NodeId) → s.replicas ≤ GREATEST_NUMBER → s.wardens ≤ GREATEST_NUMBER → length s.clients ≤ MOST_CLIENTS → IsNode s n → ArePieces (node_pieces n)
unfolding is_reserved is_setting_word is_item_word is_net_word is_plan_word is_statement_word
node_is s (nodes.Client n) few few' few'' is = let last = is.1 in (refl, (omega (arith, last, few''), tt))
node_is s (nodes.Replica n) few few' few'' is = let last = is.1 in (refl, (omega (arith, last, few), tt))
node_is s (nodes.Warden n) few few' few'' is = let last = is.1 in (refl, (omega (arith, last, few'), tt))

pick_is : (p : Pick) → IsPick p → ArePieces (pick_pieces p)
unfolding is_reserved is_setting_word is_item_word is_net_word is_plan_word is_statement_word
pick_is pick.Idle is = absurd is
pick_is (pick.Deliver n) is = (refl, (is, tt))
pick_is pick.Go is = (refl, tt)
pick_is pick.Hurry is = (refl, tt)
pick_is (pick.Recover x) is = let few = is.0.1 in let few' = is.1 in (refl, (is.0.0, (refl, (omega (arith, few), (omega (arith, few'), tt)))))
pick_is (pick.Truncate v) is = let few = is.1 in (refl, (is.0, (refl, (omega (arith, few), tt))))
pick_is pick.Stop is = (refl, tt)

item_is : (s : Script) (n : NodeId) (w : PlanWhat) → ArePieces (node_pieces n) → IsPlanned s.net w → ArePieces (plan_line (record { node = n; what = w }))
unfolding is_reserved is_setting_word is_item_word is_net_word is_plan_word is_statement_word
item_is s n (what.At now p) node is = (refl, (is.1, pieces_append (node_pieces n) (pick_pieces p) node (pick_is p is.2)))
item_is s n (what.Wait k) node is = let few = is.1.1 in (refl, pieces_append (node_pieces n) (in_braces (setting_line (codes "wait") k)) node (braces_are (setting_line (codes "wait") k) (refl, (omega (arith, few), tt))))
item_is s n (what.Next k) node is = let few = is.1.1 in (refl, pieces_append (node_pieces n) (in_braces (setting_line (codes "next") k)) node (braces_are (setting_line (codes "next") k) (refl, (omega (arith, few), tt))))
item_is s n (what.Newest k) node is = let few = is.1.1 in (refl, pieces_append (node_pieces n) (in_braces (setting_line (codes "newest") k)) node (braces_are (setting_line (codes "newest") k) (refl, (omega (arith, few), tt))))
item_is s n (what.One p) node is = (refl, pieces_append (node_pieces n) (in_braces (pick_pieces p)) node (braces_are (pick_pieces p) (pick_is p is.1)))

plan_is : (s : Script) → s.replicas ≤ GREATEST_NUMBER → s.wardens ≤ GREATEST_NUMBER → length s.clients ≤ MOST_CLIENTS → (items : List PlanItem) → AllByRecursion (IsPlanItem s) items → AreLines (map plan_line items)
plan_is s few few' few'' [] each = tt
plan_is s few few' few'' (i ∷ is) each = let x = each.0 in (item_is s i.node i.what (node_is s i.node few few' few'' x.node) x.says, plan_is s few few' few'' is each.1)

pub lines_are : (s : Script) → IsSayable s → AreLines (script_lines s)
unfolding is_reserved is_setting_word is_item_word is_net_word is_plan_word is_statement_word
lines_are s is =
    let many = many_names s.progs in
    let few = is.clients.few in
    let clients = subst (λ (n : ℕ). AllByRecursion (IsClient n) s.clients) (sym many) is.clients.each in
    let L1 = setting_lines s in
    let L2 = map table_line s.tables in
    let L3 = map (first_line s.tables) s.firsts in
    let L4 = map (program_line s.tables) s.progs in
    let L5 = client_lines (prog_names s) 1 s.clients in
    let L6 : List (List Piece) = net_line s.net ∷ [] in
    let L7 = map plan_line s.plan in
    let L8 : List (List Piece) = (Word (codes "end") ∷ []) ∷ [] in
    let a2 = lines_append L1 L2 (settings_are s is) (tables_are s.tables is.tables.named) in
    let a3 = lines_append (L1 ++ L2) L3 a2 (firsts_are s.tables is.tables.named s.firsts is.firsts.each) in
    let a4 = lines_append (L1 ++ L2 ++ L3) L4 a3 (progs_are s.tables is.tables.named s.progs is.named.named is.progs) in
    let a5 = lines_append (L1 ++ L2 ++ L3 ++ L4) L5 a4 (clients_are (prog_names s) is.named.named s.clients 1 (omega (arith, few)) clients) in
    let a6 = lines_append (L1 ++ L2 ++ L3 ++ L4 ++ L5) L6 a5 (net_is s.net is.net, tt) in
    let a7 = lines_append (L1 ++ L2 ++ L3 ++ L4 ++ L5 ++ L6) L7 a6
    (plan_is s (may_small named.Replicas s.replicas is.settings.replicas) (may_small named.Wardens s.wardens is.settings.wardens) few s.plan is.plan) in
    lines_append (L1 ++ L2 ++ L3 ++ L4 ++ L5 ++ L6 ++ L7) L8 a7 ((refl, tt), tt)
