-- The canonical text of a script: its items, one on each line.
use Rattle.std.specs.Prelude.{ℕ, suc, ◌+◌, List, [], ◌∷◌, ◌++◌, map, codes, ℤ, pos, negsuc}
use Rattle.morty_base.specs.declared.names.Version.{Version}
use Rattle.morty_base.specs.declared.names.NodeId.{NodeId}
use Rattle.morty_base.specs.declared.names.NodeId.TheVariants as nodes
use Rattle.msg.specs.declared.Pick.{Pick}
use Rattle.msg.specs.declared.Pick.TheVariants as pick
use Rattle.net_core.specs.declared.plan.PlanItem.{PlanItem}
use Rattle.net_core.specs.declared.plan.PlanWhat.{PlanWhat}
use Rattle.net_core.specs.declared.plan.PlanWhat.TheVariants as what
use Rattle.txn_print.specs.Piece.{Piece, Word, Name, Number, Symbol, Sign, lines_text}
use Rattle.txn_print.specs.Canonical.{Names, name_at, in_braces, block_pieces}
use Rattle.script.specs.declared.setup.Policy.{Policy}
use Rattle.script.specs.declared.setup.Policy.TheVariants as policy
use Rattle.script.specs.declared.setup.First.{First}
use Rattle.script.specs.declared.setup.NamedProg.{NamedProg}
use Rattle.script.specs.declared.setup.Txn.{Txn}
use Rattle.script.specs.declared.setup.Net.{Net}
use Rattle.script.specs.declared.setup.Net.TheVariants as net
use Rattle.script.specs.declared.setup.Setup.{Setup}
use Rattle.script.specs.Meaning.{Named, Script, prog_names, said_by}

-- a line of a setting
abbrev pub setting_line : List ℕ → ℕ → List Piece
setting_line word n = Word word ∷ Number n ∷ []

abbrev pub policy_line : Policy → List Piece
policy_line policy.Rewind = Word (codes "policy") ∷ Word (codes "rewind") ∷ []
policy_line policy.Abort = Word (codes "policy") ∷ Word (codes "abort") ∷ []

-- a number with its sign, if it has one
abbrev pub signed_pieces : ℤ → List Piece
signed_pieces (pos n) = Number n ∷ []
signed_pieces (negsuc n) = Sign ∷ Number (suc n) ∷ []

abbrev pub table_line : List ℕ → List Piece
table_line name = Word (codes "table") ∷ Name name ∷ []

abbrev pub first_line : Names → First → List Piece
first_line tables f =
    Word (codes "first") ∷ name_at tables f.key.table ∷ Symbol (codes "[") ∷ (signed_pieces f.key.index ++ Symbol (codes "]") ∷ signed_pieces f.value)

abbrev pub program_line : Names → Named → List Piece
program_line tables p = Word (codes "program") ∷ Name p.name ∷ block_pieces tables p.locals p.body

-- a transaction, by the name of its program; its time is always written
abbrev pub txn_pieces : Names → Txn → List Piece
txn_pieces programs t = name_at programs t.prog ∷ Word (codes "at") ∷ Number t.at ∷ []

-- transactions, with a semicolon between two
abbrev pub more_txns : Names → List Txn → List Piece
more_txns programs [] = []
more_txns programs (t ∷ ts) = Symbol (codes ";") ∷ (txn_pieces programs t ++ more_txns programs ts)

abbrev pub first_txns : Names → List Txn → List Piece
first_txns programs [] = []
first_txns programs (t ∷ ts) = txn_pieces programs t ++ more_txns programs ts

abbrev pub client_line : Names → ℕ → List Txn → List Piece
client_line programs number txns = Word (codes "client") ∷ Number number ∷ in_braces (first_txns programs txns)

-- clients are counted on from a number
abbrev pub client_lines : Names → ℕ → List (List Txn) → List (List Piece)
client_lines programs number [] = []
client_lines programs number (txns ∷ clients) = client_line programs number txns ∷ client_lines programs (number + 1) clients

abbrev pub net_line : Net → List Piece
net_line net.Fair = Word (codes "net") ∷ Word (codes "fair") ∷ []
net_line net.Listed = Word (codes "net") ∷ Word (codes "listed") ∷ []
net_line (net.Seeded seed late again hurry) =
    Word (codes "net") ∷ Word (codes "seeded") ∷ Number seed ∷ Word (codes "late") ∷ Number late ∷ Word (codes "repeat") ∷ Number again ∷
    Word (codes "hurry") ∷ Number hurry ∷ []

abbrev pub node_pieces : NodeId → List Piece
node_pieces (nodes.Client n) = Word (codes "client") ∷ Number n ∷ []
node_pieces (nodes.Replica n) = Word (codes "replica") ∷ Number n ∷ []
node_pieces (nodes.Warden n) = Word (codes "warden") ∷ Number n ∷ []

abbrev pub version_pieces : Version → List Piece
version_pieces v = Number v.ts ∷ Symbol (codes ".") ∷ Number v.client ∷ []

-- no script says Idle: it is printed as nothing
abbrev pub pick_pieces : Pick → List Piece
pick_pieces pick.Idle = []
pick_pieces (pick.Deliver n) = Word (codes "deliver") ∷ Number n ∷ []
pick_pieces pick.Go = Word (codes "go") ∷ []
pick_pieces pick.Hurry = Word (codes "hurry") ∷ []
pick_pieces (pick.Recover x) = Word (codes "recover") ∷ (version_pieces x.ver ++ Number x.eid ∷ [])
pick_pieces (pick.Truncate v) = Word (codes "truncate") ∷ version_pieces v
pick_pieces pick.Stop = Word (codes "stop") ∷ []

abbrev pub entry_pieces : PlanWhat → List Piece
entry_pieces (what.At now p) = pick_pieces p
entry_pieces (what.Wait n) = setting_line (codes "wait") n
entry_pieces (what.Next n) = setting_line (codes "next") n
entry_pieces (what.Newest n) = setting_line (codes "newest") n
entry_pieces (what.One p) = pick_pieces p

-- the line of a list has one entry
abbrev pub entry_line : NodeId → PlanWhat → List Piece
entry_line node entry = Word (codes "list") ∷ (node_pieces node ++ in_braces (entry_pieces entry))

abbrev pub plan_by : NodeId → PlanWhat → List Piece
plan_by node (what.At now p) = Word (codes "at") ∷ Number now ∷ (node_pieces node ++ pick_pieces p)
plan_by node entry = entry_line node entry

abbrev pub plan_line : PlanItem → List Piece
plan_line item = plan_by item.node item.what

-- the names of programs
abbrev pub program_names : List NamedProg → Names
program_names progs = map (λ p. p.name) progs

-- the lines before the tables: the version, and all settings
abbrev pub setting_lines : Script → List (List Piece)
setting_lines s =
    setting_line (codes "morty") 1 ∷
    setting_line (codes "replicas") s.replicas ∷
    setting_line (codes "wardens") s.wardens ∷
    setting_line (codes "tries") s.tries ∷
    setting_line (codes "execs") s.execs ∷
    setting_line (codes "gap") s.gap ∷
    setting_line (codes "turns") s.turns ∷
    policy_line s.policy ∷ []

-- the lines of a script
abbrev pub script_lines : Script → List (List Piece)
script_lines s =
    setting_lines s
    ++ map table_line s.tables
    ++ map (first_line s.tables) s.firsts
    ++ map (program_line s.tables) s.progs
    ++ client_lines (prog_names s) 1 s.clients
    ++ net_line s.net ∷ []
    ++ map plan_line s.plan
    ++ (Word (codes "end") ∷ []) ∷ []

-- the canonical text of a script, and of a setup
abbrev pub canonical : Script → List ℕ
canonical s = lines_text (script_lines s)

abbrev pub canonical_script : Setup → List ℕ
canonical_script s = canonical (said_by s)
