-- The script of a seed: transfers between accounts, by eight clients.
use Rattle.std.specs.Prelude.{ℕ, ◌+◌, ◌*◌, ◌%◌, ◌==◌, List, [], ◌∷◌, ◌++◌, map, codes, decimal, pos}
use Rattle.std.specs.List.{filter, range_with_len}
use Rattle.morty_base.specs.declared.names.NodeId.TheVariants as nodes
use Rattle.msg.specs.declared.Pick.TheVariants as pick
use Rattle.net_core.specs.declared.plan.PlanItem.{PlanItem}
use Rattle.net_core.specs.declared.plan.PlanWhat.TheVariants as what
use Rattle.txn_lang.specs.declared.tree.BinOp.TheVariants.{Add, Sub, Lt}
use Rattle.txn_lang.specs.Tree.{Term, Num, Local, Bin, Read, Write, Print, If, Abort, Commands, End, Then}
use Rattle.script.specs.declared.setup.Policy.TheVariants.{Rewind}
use Rattle.script.specs.declared.setup.First.{First}
use Rattle.script.specs.declared.setup.Txn.{Txn}
use Rattle.script.specs.declared.setup.Net.TheVariants.{Seeded}
use Rattle.script.specs.Meaning.{Named, Script}
use Rattle.lab.specs.declared.draws.TheConstants.{ACCOUNTS}
use Rattle.lab.specs.declared.generated.TheConstants.{CLIENTS, FIRST_VALUE}
use Rattle.lab.specs.declared.draws.Transfer.{Transfer}
use Rattle.lab.specs.Draws.{generator, transfers}

abbrev pub number : ℕ → Term
number n = Num (pos n)

-- what the first local has less the amount
abbrev pub left_over : Transfer → Term
left_over t = Bin Sub (Local 0) (number t.amount)

-- { read a acct[F]; if a < M { abort }; read b acct[T]; write acct[F] a - M; write acct[T] b + M; print a - M }
abbrev pub transfer_body : Transfer → Commands
transfer_body t =
    Then (Read 0 0 (number t.from))
    (Then (If (Bin Lt (Local 0) (number t.amount)) (Then Abort End) End)
    (Then (Read 1 0 (number t.to))
    (Then (Write 0 (number t.from) (left_over t))
    (Then (Write 0 (number t.to) (Bin Add (Local 1) (number t.amount)))
    (Then (Print (left_over t)) End)))))

-- the names of its two locals
abbrev pub transfer_locals : List (List ℕ)
transfer_locals = codes "a" ∷ codes "b" ∷ []

-- the program with this number
abbrev pub transfer_prog : ℕ → Transfer → Named
transfer_prog i t = record { name = codes "p" ++ decimal i; locals = transfer_locals; body = transfer_body t }

-- the programs of transfers, numbered on from a number
abbrev pub transfer_progs : ℕ → List Transfer → List Named
transfer_progs i [] = []
transfer_progs i (t ∷ ts) = transfer_prog i t ∷ transfer_progs (i + 1) ts

-- the transaction that runs the program at this place, from 0
abbrev pub transfer_txn : ℕ → Txn
transfer_txn i = record { prog = i; at = 10 * (i + 1) }

-- the transactions of the client at this place, from 0, where there are so many programs: the clients take turns
abbrev pub txns_of : ℕ → ℕ → List Txn
txns_of size client = filter (λ t. t.prog % CLIENTS == client) (map transfer_txn (range_with_len 0 size))

-- each account has this first value
abbrev pub account : ℕ → First
account i = record { key = record { table = 0; index = pos i }; value = FIRST_VALUE }

-- the last client is stopped early
abbrev pub stops : PlanItem
stops = record { node = nodes.Client CLIENTS; what = what.At 500 pick.Stop }

-- the script of a seed with so many programs
abbrev pub generated : ℕ → ℕ → Script
generated seed size = record {
  replicas = 3;
  wardens = 1;
  tries = 8;
  execs = 16;
  gap = 1000;
  turns = 20000;
  policy = Rewind;
  tables = codes "acct" ∷ [];
  firsts = map account (range_with_len 1 ACCOUNTS);
  progs = transfer_progs 1 (transfers size (generator seed));
  clients = map (txns_of size) (range_with_len 0 CLIENTS);
  net = Seeded seed 10 10 5;
  plan = stops ∷ [];
}
