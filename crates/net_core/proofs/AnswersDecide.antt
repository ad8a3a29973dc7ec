-- Machines that answer alike at each moment of a history, of the nodes that they have, make it the same run.
use Rattle.std.proofs.Common.{◌≡◌, ℕ, Bool, true, false, refl, ap, sym, ◌∙◌, subst, List, [], ◌∷◌, Option, Some, None}
use Rattle.std.specs.Prelude.{not, ◌&&◌, ◌||◌, nat_le, find}
use Rattle.std.specs.List.{list_all, list_any}
use Rattle.morty_base.specs.declared.names.NodeId.{NodeId}
use Rattle.morty_base.specs.declared.names.NodeId.TheVariants.{Client}
use Rattle.morty_base.specs.declared.names.Ended.{Ended}
use Rattle.morty_base.specs.Names.{same_node}
use Rattle.msg.specs.declared.Event.{Event}
use Rattle.msg.specs.declared.Event.TheVariants.{Picked, Ran}
use Rattle.msg.specs.Events.{node_of}
use Rattle.net_core.specs.Machine.{Machine, History, Effect, Menu, has_node}
use Rattle.net_core.specs.Marks.{picks, turns_made, mark_after, is_marked, is_refused, is_full, rests, is_quiet, is_out_of_turns, end_of}
use Rattle.net_core.specs.Rounds.{turn_order, due, is_used_up, is_over, IsTurnOf, InTurns, InRounds}
use Rattle.net_core.specs.Fair.{fair, AllFair, IsFairRun}
use Rattle.net_core.specs.Laws.{SameAnswers, Agree, AreOfNodes, AnswersDecide, FairRunsAgree}
use Rattle.net_core.proofs.TurnOrder.{any_in_order, found_among, find_same, all_same, any_same}

-- the node that is due is one of the machine's
due_is_node : (m : Machine) (h : History) (n : NodeId) → due m h ≡ Some n → has_node m n ≡ true
due_is_node m h n e = let i = found_among (λ k. not (rests m h k)) (turn_order m.nodes h) n e in let same = any_in_order (same_node n) m.nodes h in sym same ∙ i

-- each event of a run in turns is of one of its nodes
turns_of_nodes : (m : Machine) (turns : ℕ) (h : History) → InTurns m turns h → AreOfNodes m h
turns_of_nodes m turns [] t = refl
turns_of_nodes m turns (e ∷ h) t = both (has_node m (node_of e)) _ (of_turn e t.1) (turns_of_nodes m turns h t.2)
  where
    both : (a b : Bool) → a ≡ true → b ≡ true → (a && b) ≡ true
    both a b i j = rw (i, j) refl

    of_turn : (e : Event) → IsTurnOf m h e → has_node m (node_of e) ≡ true
    of_turn (Picked n pick) t = due_is_node m h n t.0
    of_turn (Ran c) t = due_is_node m h (Client c) t.0

and_first : (a b : Bool) → (a && b) ≡ true → a ≡ true
and_first true b e = refl
and_first false b e = cc

and_second : (a b : Bool) → (a && b) ≡ true → b ≡ true
and_second true b e = e
and_second false b e = cc

-- what one machine says of a history, the other says too
module _ (m l : Machine) (nodes : m.nodes ≡ l.nodes) where
  here : (h : History) → Agree m l h → SameAnswers m l h
  here [] a = a
  here (e ∷ h) a = a.0

  marked_same : (h : History) → Agree m l h → (n : NodeId) → is_marked m h n ≡ is_marked l h n
  marked_same [] a n = refl
  marked_same (e ∷ h) a n = ap (λ (f : Effect). mark_after n e f (is_marked m h n)) a.1 ∙ ap (mark_after n e (l.effect h e)) (marked_same h a.2 n)

  full_same : (h : History) → Agree m l h → is_full m h ≡ is_full l h
  full_same [] a = refl
  full_same (e ∷ h) a = ap is_refused a.1

  rests_same : (h : History) → Agree m l h → (n : NodeId) → has_node m n ≡ true → rests m h n ≡ rests l h n
  rests_same h a n i = let live = (here h a).live n i in let pending = (here h a).pending n i in let marked = marked_same h a n in cc

  due_same : (h : History) → Agree m l h → due m h ≡ due l h
  due_same h a =
      find_same (λ n. not (rests m h n)) (λ n. not (rests l h n)) (turn_order m.nodes h)
      (λ n i. ap not (rests_same h a n (sym (any_in_order (same_node n) m.nodes h) ∙ i)))
      ∙ ap (λ (ns : List NodeId). find (λ n. not (rests l h n)) (turn_order ns h)) nodes

  used_up_same : (h : History) → Agree m l h → (turns : ℕ) (o : Option NodeId) → due m h ≡ o → is_used_up m turns h o ≡ is_used_up l turns h o
  used_up_same h a turns None e = refl
  used_up_same h a turns (Some n) e = ap (λ b. not b && nat_le turns (turns_made n h)) ((here h a).pending n (due_is_node m h n e))

  over_same : (h : History) → Agree m l h → (turns : ℕ) → is_over m turns h ≡ is_over l turns h
  over_same h a turns =
      ap (λ b. b || is_used_up m turns h (due m h)) (full_same h a)
      ∙ ap (λ b. is_full l h || b) (used_up_same h a turns (due m h) refl ∙ ap (is_used_up l turns h) (due_same h a))

  turn_same : (h : History) → Agree m l h → (e : Event) → IsTurnOf m h e → IsTurnOf l h e
  turn_same h a (Picked n pick) t = (sym (due_same h a) ∙ t.0, sym ((here h a).pending n (due_is_node m h n t.0)) ∙ t.1)
  turn_same h a (Ran c) t = (sym (due_same h a) ∙ t.0, sym ((here h a).pending (Client c) (due_is_node m h (Client c) t.0)) ∙ t.1)

  turns_same : (turns : ℕ) (h : History) → Agree m l h → InTurns m turns h → InTurns l turns h
  turns_same turns [] a t = tt
  turns_same turns (e ∷ h) a t = (sym (over_same h a.2 turns) ∙ t.0, turn_same h a.2 e t.1, turns_same turns h a.2 t.2)

  rounds_same : (turns : ℕ) (h : History) → Agree m l h → InRounds m turns h → InRounds l turns h
  rounds_same turns h a run = record { turn_by_turn = turns_same turns h a run.turn_by_turn; over = sym (over_same h a turns) ∙ run.over }

  fair_same : (h : History) → Agree m l h → AreOfNodes m h → AllFair m h → AllFair l h
  fair_same [] a i f = tt
  fair_same (Picked n pick ∷ h) a i f = (
    f.0
        ∙ ap (λ (x : Menu). fair (picks n h) x) ((here h a.2).menu n (and_first (has_node m n) _ i)),
    fair_same h a.2 (and_second (has_node m n) _ i) f.1,
  )
  fair_same (Ran c ∷ h) a i f = fair_same h a.2 (and_second (has_node m (Client c)) _ i) f

  quiet_same : (h : History) → Agree m l h → is_quiet m h ≡ is_quiet l h
  quiet_same h a = all_same (rests m h) (rests l h) m.nodes (rests_same h a) ∙ ap (list_all (rests l h)) nodes

  out_same : (turns : ℕ) (h : History) → Agree m l h → (n : NodeId) → has_node m n ≡ true → is_out_of_turns m turns h n ≡ is_out_of_turns l turns h n
  out_same turns h a n i = let live = (here h a).live n i in let marked = marked_same h a n in cc

  some_out_same : (turns : ℕ) (h : History) → Agree m l h → list_any (is_out_of_turns m turns h) m.nodes ≡ list_any (is_out_of_turns l turns h) l.nodes
  some_out_same turns h a = any_same (is_out_of_turns m turns h) (is_out_of_turns l turns h) m.nodes (out_same turns h a)
      ∙ ap (list_any (is_out_of_turns l turns h)) nodes

  end_same : (turns : ℕ) (h : History) → Agree m l h → end_of m turns h ≡ end_of l turns h
  end_same turns h a = let full = full_same h a in let quiet = quiet_same h a in let out = some_out_same turns h a in cc

-- the other way round
node_along : (m l : Machine) → m.nodes ≡ l.nodes → (n : NodeId) → has_node m n ≡ has_node l n
node_along m l nodes n = ap (list_any (same_node n)) nodes

of_nodes_along : (m l : Machine) → m.nodes ≡ l.nodes → (h : History) → AreOfNodes m h → AreOfNodes l h
of_nodes_along m l nodes h i = subst (λ (ns : List NodeId). list_all (λ e. list_any (same_node (node_of e)) ns) h ≡ true) nodes i

alike_back : (m l : Machine) → m.nodes ≡ l.nodes → (h : History) → SameAnswers m l h → SameAnswers l m h
alike_back m l nodes h a = record {
  live = λ n i. sym (a.live n (node_along m l nodes n ∙ i));
  pending = λ n i. sym (a.pending n (node_along m l nodes n ∙ i));
  menu = λ n i. sym (a.menu n (node_along m l nodes n ∙ i));
}

agree_back : (m l : Machine) → m.nodes ≡ l.nodes → (h : History) → Agree m l h → Agree l m h
agree_back m l nodes [] a = alike_back m l nodes [] a
agree_back m l nodes (e ∷ h) a = (alike_back m l nodes (e ∷ h) a.0, sym a.1, agree_back m l nodes h a.2)

pub answers_decide : AnswersDecide
answers_decide m l h nodes a =
    let b = agree_back m l nodes h a in
    record {
      marked = marked_same m l nodes h a;
      due_node = due_same m l nodes h a;
      over = over_same m l nodes h a;
      ended = λ turns. end_same m l nodes turns h a;
      in_turns = λ turns. (turns_same m l nodes turns h a, turns_same l m (sym nodes) turns h b);
      in_rounds = λ turns. (rounds_same m l nodes turns h a, rounds_same l m (sym nodes) turns h b);
      fair = λ i. (fair_same m l nodes h a i, fair_same l m (sym nodes) h b (of_nodes_along m l nodes h i));
    }

-- a fair run goes over from one machine to the other
fair_run_along : (m l : Machine) (h : History) → m.nodes ≡ l.nodes → Agree m l h → (turns : ℕ) (ended : Ended) → IsFairRun m turns h ended →
    IsFairRun l turns h ended
fair_run_along m l h nodes a turns ended run = record {
  rounds = rounds_same m l nodes turns h a run.rounds;
  fair = fair_same m l nodes h a (turns_of_nodes m turns h run.rounds.turn_by_turn) run.fair;
  ends = sym (end_same m l nodes turns h a) ∙ run.ends;
}

pub fair_runs_agree : FairRunsAgree
fair_runs_agree m l h nodes a turns ended = (fair_run_along m l h nodes a turns ended, fair_run_along l m h (sym nodes) (agree_back m l nodes h a) turns ended)
