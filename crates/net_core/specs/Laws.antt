-- Laws of histories.
use Rattle.std.specs.Prelude.{◌≡◌, ◌↔◌, ℕ, true, [], ◌∷◌, None}
use Rattle.std.specs.List.{list_all}
use Rattle.morty_base.specs.declared.names.NodeId.{NodeId}
use Rattle.morty_base.specs.declared.names.Ended.{Ended}
use Rattle.msg.specs.Events.{node_of}
use Rattle.net_core.specs.Machine.{Machine, History, has_node}
use Rattle.net_core.specs.Marks.{is_marked, is_quiet, end_of}
use Rattle.net_core.specs.Rounds.{due, is_over, InTurns, InRounds}
use Rattle.net_core.specs.Fair.{AllFair, IsFairRun}

-- no node is due exactly where the history is quiet
abbrev pub QuietOrDue : Type 0
QuietOrDue = (m : Machine) (h : History) → (is_quiet m h ≡ true) ↔ (due m h ≡ None)

-- two machines answer alike after a history, of each node that they have
pub record SameAnswers (m l : Machine) (h : History) : Type 0 where
  pub live : (n : NodeId) → has_node m n ≡ true → m.live h n ≡ l.live h n
  pub pending : (n : NodeId) → has_node m n ≡ true → m.pending h n ≡ l.pending h n
  pub menu : (n : NodeId) → has_node m n ≡ true → m.menu h n ≡ l.menu h n

-- and after each earlier one, where they also took each event alike
abbrev pub Agree : Machine → Machine → History → Type 0
Agree m l [] = SameAnswers m l []
Agree m l (e ∷ h) = SameAnswers m l (e ∷ h) × (m.effect h e ≡ l.effect h e) × Agree m l h

-- each event is of a node that the machine has
abbrev pub AreOfNodes : Machine → History → Type 0
AreOfNodes m h = list_all (λ e. has_node m (node_of e)) h ≡ true

-- what a history says by two machines is the same: which nodes are marked, which one is due, whether a run in rounds is
-- over there and how it has ended, whether each event was of the node that was due, whether it is such a run from end to
-- end, and whether each pick was the fair one
pub record SaysTheSame (m l : Machine) (h : History) : Type 0 where
  pub marked : (n : NodeId) → is_marked m h n ≡ is_marked l h n
  pub due_node : due m h ≡ due l h
  pub over : (turns : ℕ) → is_over m turns h ≡ is_over l turns h
  pub ended : (turns : ℕ) → end_of m turns h ≡ end_of l turns h
  pub in_turns : (turns : ℕ) → InTurns m turns h ↔ InTurns l turns h
  pub in_rounds : (turns : ℕ) → InRounds m turns h ↔ InRounds l turns h
  pub fair : AreOfNodes m h → AllFair m h ↔ AllFair l h

-- what a history says depends on its machine's answers at its own moments alone
abbrev pub AnswersDecide : Type 0
AnswersDecide = (m l : Machine) (h : History) → m.nodes ≡ l.nodes → Agree m l h → SaysTheSame m l h

-- so a fair run by one machine is one by the other
abbrev pub FairRunsAgree : Type 0
FairRunsAgree = (m l : Machine) (h : History) → m.nodes ≡ l.nodes → Agree m l h →
    (turns : ℕ) (ended : Ended) → IsFairRun m turns h ended ↔ IsFairRun l turns h ended
