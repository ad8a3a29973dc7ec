-- What a setup says to the protocol, and with what it begins the link of each node.
use Rattle.std.specs.Prelude.{ℕ, List, [], ◌∷◌, map, Option, Some, None, if◌then◌else◌}
use Rattle.std.specs.List.{slice_get, filter_map}
use Rattle.morty_base.specs.declared.names.NodeId.{NodeId}
use Rattle.morty_base.specs.Names.{same_node}
use Rattle.net_core.specs.declared.plan.LinkKind.{LinkKind}
use Rattle.net_core.specs.declared.plan.LinkKind.TheVariants as kind
use Rattle.net_core.specs.declared.plan.LinkPlan.{LinkPlan}
use Rattle.net_core.specs.declared.plan.PlanItem.{PlanItem}
use Rattle.net_core.specs.declared.plan.PlanWhat.{PlanWhat}
use Rattle.txn_lang.specs.declared.tree.Stmt.TheVariants.{Abort as AbortStmt}
use Rattle.txn_lang.specs.Program.{Program}
use Rattle.protocol.specs.declared.First2.{First2}
use Rattle.protocol_plans.specs.Scripted.{Start, Scripted}
use Rattle.script.specs.declared.setup.Policy.{Policy}
use Rattle.script.specs.declared.setup.Policy.TheVariants.{Rewind, Abort}
use Rattle.script.specs.declared.setup.First.{First}
use Rattle.script.specs.declared.setup.NamedProg.{NamedProg}
use Rattle.script.specs.declared.setup.Txn.{Txn}
use Rattle.script.specs.declared.setup.Net.{Net}
use Rattle.script.specs.declared.setup.Net.TheVariants as net
use Rattle.script.specs.declared.setup.Setup.{Setup}

-- `{ abort }`, which stands for a program that a setup does not have
abbrev pub aborts : Program
aborts = record { names = []; body = record { stmts = AbortStmt ∷ [] } }

abbrev pub program_of : Option NamedProg → Program
program_of (Some p) = p.prog
program_of None = aborts

-- a transaction, with the program of its number
abbrev pub start_of : List NamedProg → Txn → Start
start_of ps t = record { program = program_of (slice_get ps t.prog); at = t.at }

abbrev pub first_of : First → First2
first_of f = record { key = f.key; value = f.value }

-- how many executions a try may have: a client that aborts its attempts at a missed write has one
abbrev pub execs_by : Policy → ℕ → ℕ
execs_by Rewind n = n
execs_by Abort n = 1

-- what a setup says to the protocol
abbrev pub scripted : Setup → Scripted
scripted s = record {
  replicas = s.replicas;
  wardens = s.wardens;
  clients = map (map (start_of s.progs)) s.clients;
  firsts = map first_of s.firsts;
  tries = s.tries;
  execs = execs_by s.policy s.execs;
  gap = s.gap;
}

-- by which rule the links of a setup pick
abbrev pub kind_of : Net → LinkKind
kind_of net.Fair = kind.Fair
kind_of net.Listed = kind.Listed
kind_of (net.Seeded seed late again hurry) = kind.Seeded

abbrev pub link_kind : Setup → LinkKind
link_kind s = kind_of s.net

-- what an item says to a node, if it is for that node
abbrev pub what_for : NodeId → PlanItem → Option PlanWhat
what_for node i = if same_node i.node node then Some i.what else None

-- what the plan items of a node say, in text order
abbrev pub planned_for : NodeId → List PlanItem → List PlanWhat
planned_for node items = filter_map (what_for node) items

-- the numbers of a seeded net, else zeros, with these items
abbrev pub plan_by : Net → List PlanWhat → LinkPlan
plan_by (net.Seeded seed late again hurry) items = record { net_seed = seed; late = late; repeat = again; hurry = hurry; items = items }
plan_by n items = record { net_seed = 0; late = 0; repeat = 0; hurry = 0; items = items }

-- with what the link of a node is begun
abbrev pub link_plan : Setup → NodeId → LinkPlan
link_plan s node = plan_by s.net (planned_for node s.plan)
