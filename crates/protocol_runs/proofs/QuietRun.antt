-- The script is within its limits, and its run in which all arrives computes, once its program is read as a tree.
use Rattle.std.proofs.Common.{◌≡◌, ℕ, ◌<◌, ◌⊎◌, inl, inr, refl, ap, sym, ◌∙◌, subst, false, [], ◌∷◌, lit<, lit≤, arith}
use Rattle.std.specs.Prelude.{zero, suc, pos, codes}
use Rattle.std.proofs.lemmas.List.Elements.{All-nil, All-cons}
use Rattle.std.specs.List.{IsDistinct}
use Rattle.std.proofs.lemmas.Bool.Decides.{nat_tests}
use Rattle.morty_base.specs.ScriptNames.{is_name, is_reserved, is_setting_word, is_item_word, is_net_word, is_plan_word, is_statement_word}
use Rattle.txn_lang.specs.declared.tree.BinOp.TheVariants.{Add}
use Rattle.txn_lang.specs.declared.tree.Expr.TheVariants as expr
use Rattle.txn_lang.specs.declared.tree.Stmt.TheVariants as stmt
use Rattle.txn_lang.specs.Tree.{Term, Num, Local, Bin, Read, Write, Print, Commands, term, command, commands}
use Rattle.txn_lang.specs.Limits.{IsWithin}
use Rattle.txn_lang.specs.Form.{IsWellFormed}
use Rattle.txn_lang.proofs.Trees.{term-Num, term-Local, term-Bin, command-Read, command-Write, command-Print}
use Rattle.protocol.specs.Words.{before, same_version, same_exec, same_key, key_before, same_wid, wid_before, same_node}
use Rattle.protocol.specs.Lists.{IsIn}
use Rattle.protocol.specs.Replica.Taken.{takes, after_taking}
use Rattle.protocol.specs.Replica.Votes.{conflicts, conflicts_with_base, verdict, may_vote}
use Rattle.protocol.specs.Replica.Held.{held, latest}
use Rattle.protocol.specs.Replica.Readers.{note_for, due}
use Rattle.protocol.specs.Replica.Says.{answer, says}
use Rattle.protocol.specs.Client.State.{Attempt, ClientState, content, fresh_client}
use Rattle.law_steps.proofs.Reach.{events_reach}
use Rattle.law_steps.proofs.Reach.From.{Begins}
use Rattle.law_safety.proofs.Absent.{absent_reach}
use Rattle.protocol.specs.Client.Attempts.{has_pending, prepare_if_ready, begin, go, wrote, ran}
use Rattle.protocol.specs.Client.Deciding.{conclude, decide}
use Rattle.protocol.specs.Client.Following.{note_on, note_running}
use Rattle.protocol.specs.Client.Counting.{tally_says, on_tally, counts_vote}
use Rattle.protocol.specs.Client.Step.{comes_running, comes_prepared, comes, on_ran, client_step}
use Rattle.protocol.specs.World.State.{Plan, World, first_world}
use Rattle.protocol.specs.World.Events.{replay_from, client_moves, replica_moves, pick_moves, enabled, after}
use Rattle.law_progress.specs.Apart.{IsApart}
use Rattle.protocol_plans.specs.Limits.{IsScript, IsClient, IsStart}
use Rattle.protocol_runs.specs.Samples.{only, plan, four}
use Rattle.protocol_runs.specs.SamplePrograms.{inc_tree, walk_tree}
use Rattle.protocol_runs.specs.QuietRun.{inc_program, quiet_script, quiet_events, IsQuietRun, QuietRun}

-- the tree of its program
sum : term (expr.Bin Add (expr.Local 0, expr.Num (pos 1))) ≡ Bin Add (Local 0) (Num (pos 1))
sum = term-Bin Add (expr.Local 0) (expr.Num (pos 1)) ∙ ap (λ (a : Term). Bin Add a (term (expr.Num (pos 1)))) (term-Local 0) ∙ ap (Bin Add (Local 0)) (term-Num (pos 1))

second : command (stmt.Write 0 (expr.Num (pos 1)) (expr.Bin Add (expr.Local 0, expr.Num (pos 1)))) ≡ Write 0 (Num (pos 1)) (Bin Add (Local 0) (Num (pos 1)))
second =
    command-Write 0 (expr.Num (pos 1)) (expr.Bin Add (expr.Local 0, expr.Num (pos 1)))
    ∙ ap (λ (i : Term). Write 0 i (term (expr.Bin Add (expr.Local 0, expr.Num (pos 1))))) (term-Num (pos 1)) ∙ ap (Write 0 (Num (pos 1))) sum

is_tree : commands inc_program.body ≡ inc_tree
is_tree =
    let one : command (stmt.Read 0 0 (expr.Num (pos 1))) ≡ Read 0 0 (Num (pos 1)) = command-Read 0 0 (expr.Num (pos 1)) ∙ ap (Read 0 0) (term-Num (pos 1)) in
    let two = second in
    let three : command (stmt.Print (expr.Local 0)) ≡ Print (Local 0) = command-Print (expr.Local 0) ∙ ap Print (term-Local 0) in
    cc

-- the script is within its limits
within : IsWithin 1 inc_tree
within = record {
  locals = lit≤ tt;
  steps_within = lit≤ tt;
  reads_within = lit≤ tt;
  writes_within = lit≤ tt;
  prints_within = lit≤ tt;
  depth_within = lit≤ tt;
  each = ((lit< tt, (tt, lit≤ tt)), (((tt, lit≤ tt), ((lit< tt, tt), lit≤ tt)), ((lit< tt, lit≤ tt), tt)));
}

formed : IsWellFormed (codes "a" ∷ []) inc_tree
unfolding IsDistinct is_name is_reserved is_setting_word is_item_word is_net_word is_plan_word is_statement_word
formed = record {
  named = refl;
  distinct = (tt, tt);
  filled = tt;
  formed = ((λ h. lit≤ tt, tt), ((tt, (λ h. h, tt)), (λ h. h, tt)));
  all_placed = refl;
}

limits : IsScript quiet_script
unfolding IsDistinct same_key
limits = record {
  replicas = inl refl;
  wardens = lit≤ tt;
  some_client = lit≤ tt;
  few_clients = lit≤ tt;
  clients = All-cons IsClient _ [] (record {
    few = lit≤ tt;
    each = All-cons IsStart _ [] (record {
      program = record {
        within = subst (λ (c : Commands). IsWithin 1 c) (sym is_tree) within;
        formed = subst (λ (c : Commands). IsWellFormed (codes "a" ∷ []) c) (sym is_tree) formed;
      };
      at = lit≤ tt;
    }) (All-nil IsStart);
  }) (All-nil IsClient);
  firsts = (tt, tt);
  some_try = lit≤ tt;
  few_tries = lit≤ tt;
  some_exec = lit≤ tt;
  few_execs = lit≤ tt;
  some_gap = lit≤ tt;
  small_gap = lit≤ tt;
}

-- the plan of the script, with the walk of a tree for that of its program
abbrev plan_with : Commands → Plan
plan_with tree = plan 1 0 (only (walk_tree tree 1) 10 ∷ []) four 1

abbrev quiet_plan : Plan
quiet_plan = plan_with inc_tree

abbrev End : World
End = replay_from quiet_plan first_world quiet_events

below_six : (i : ℕ) → i < 6 → IsIn i (0 ∷ 1 ∷ 2 ∷ 3 ∷ 4 ∷ 5 ∷ [])
below_six zero l = inl refl
below_six (suc zero) l = inr (inl refl)
below_six (suc (suc zero)) l = inr (inr (inl refl))
below_six (suc (suc (suc zero))) l = inr (inr (inr (inl refl)))
below_six (suc (suc (suc (suc zero)))) l = inr (inr (inr (inr (inl refl))))
below_six (suc (suc (suc (suc (suc zero))))) l = inr (inr (inr (inr (inr (inl refl)))))
below_six (suc (suc (suc (suc (suc (suc i)))))) l = absurd (omega arith)

-- no client but the first has done anything
others : (c : ℕ) → (c ≡ 1) ⊎ (End.client c ≡ fresh_client)
others c = elim ((absent_reach quiet_plan End (events_reach quiet_plan first_world first_world Begins quiet_events)).client c) [
  | inl e ↦ inr e
  | inr e ↦ inl (grind (arith, nat_tests))
]

idle : (c : ℕ) → has_pending (End.client c).phase ≡ false
unfolding before same_version same_exec same_key key_before same_wid wid_before same_node takes after_taking conflicts conflicts_with_base verdict may_vote
    held latest note_for due answer says content prepare_if_ready begin go wrote ran conclude decide note_on note_running tally_says on_tally counts_vote
    comes_running comes_prepared comes on_ran client_step client_moves replica_moves pick_moves enabled after
idle c = elim (others c) [
  | inl e ↦ subst (λ (d : ℕ). has_pending (End.client d).phase ≡ false) (sym e) refl
  | inr e ↦ subst (λ (s : ClientState). has_pending s.phase ≡ false) (sym e) refl
]

attempts : (c : ℕ) (a : Attempt) → IsIn a (End.client c).attempts → (c ≡ 1) × (a.txn ≡ 1)
unfolding before same_version same_exec same_key key_before same_wid wid_before same_node takes after_taking conflicts conflicts_with_base verdict may_vote
    held latest note_for due answer says content prepare_if_ready begin go wrote ran conclude decide note_on note_running tally_says on_tally counts_vote
    comes_running comes_prepared comes on_ran client_step client_moves replica_moves pick_moves enabled after
attempts c a i = elim (others c) [
  | inl e ↦ (e, only (subst (λ (d : ℕ). IsIn a (End.client d).attempts) e i))
  | inr e ↦ absurd (subst (λ (s : ClientState). IsIn a s.attempts) e i)
]
  where
    only : IsIn a (End.client 1).attempts → a.txn ≡ 1
    only (inl e) = ap (λ (b : Attempt). b.txn) e
    only (inr f) = absurd f

apart : IsApart End 1 1
apart k mine d m z = let a = attempts z.exec.ver.client z.attempt z.of.begun in (sym z.client ∙ a.0, sym z.txn ∙ a.1)

computed : IsQuietRun quiet_plan quiet_events
unfolding before same_version same_exec same_key key_before same_wid wid_before same_node takes after_taking conflicts conflicts_with_base verdict may_vote
    held latest note_for due answer says content prepare_if_ready begin go wrote ran conclude decide note_on note_running tally_says on_tally counts_vote
    comes_running comes_prepared comes on_ran client_step client_moves replica_moves pick_moves enabled after
computed = record {
  undisturbed = ((λ d. cc), ((λ d. cc), ((λ d. cc), ((λ d. cc), ((λ d. cc), ((λ d. cc), ((λ d. cc), ((λ d. cc), ((λ d. cc), tt)))))))));
  settled = record { delivered = below_six; idle = idle };
  begun = refl;
  apart = apart;
}

pub quiet_run : QuietRun
quiet_run = record { limits = limits; run = subst (λ (c : Commands). IsQuietRun (plan_with c) quiet_events) (sym is_tree) computed }
