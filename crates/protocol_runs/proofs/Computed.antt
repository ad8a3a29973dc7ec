-- The runs compute: the one list of what has to unfold stands here.
use Rattle.std.proofs.Common.{refl}
use Rattle.protocol.specs.Words.{before, same_version, same_exec, same_key, key_before, same_wid, wid_before, exec_before, same_node}
use Rattle.protocol.specs.Replica.Taken.{takes, after_taking}
use Rattle.protocol.specs.Replica.Votes.{conflicts, conflicts_with_base, verdict, may_vote}
use Rattle.protocol.specs.Replica.Held.{held, latest}
use Rattle.protocol.specs.Replica.Readers.{note_for, due}
use Rattle.protocol.specs.Replica.Says.{committed_upto, voted_upto, answer, says}
use Rattle.protocol.specs.Client.State.{content}
use Rattle.protocol.specs.Client.Attempts.{prepare_if_ready, begin, go, wrote, ran}
use Rattle.protocol.specs.Client.Deciding.{rewound, relabelled, next_execution, conclude, decide, give_up}
use Rattle.protocol.specs.Client.Following.{prepare_if_idle, rewind, follow_running, note_at, note_on, note_running, note_prepared}
use Rattle.protocol.specs.Client.Counting.{propose, tally_says, on_tally, counts_vote, counts_accept}
use Rattle.protocol.specs.Client.Step.{comes_running, comes_prepared, comes, on_ran, on_hurry, client_step}
use Rattle.protocol.specs.Warden.Recovery.{next_view, recover, fixed, proposes, take_told, decides, count_accept, recovery_hears}
use Rattle.protocol.specs.Warden.Base.{base_of}
use Rattle.protocol.specs.Warden.Truncation.{truncate, take_fenced, finish}
use Rattle.protocol.specs.Warden.Step.{warden_hears, warden_step}
use Rattle.protocol.specs.World.Events.{client_moves, warden_moves, replica_moves, pick_moves, enabled, after}
use Rattle.world_rows.specs.Machine.{effect_in, menu_in}
use Rattle.protocol_runs.specs.Commits.{FirstRun, FastPath, HurriedClient, FinalVote}
use Rattle.protocol_runs.specs.ReExecutions.{MissedWrite, ReExecution, VanishedWrite}
use Rattle.protocol_runs.specs.Recoveries.{ViewContest, WardenAbandons, ThreeViews}
use Rattle.protocol_runs.specs.Truncations.{Truncated, DroppedReader}
use Rattle.protocol_runs.specs.JournalRuns.{SmallRuns}

-- all runs that are computed alike
pub record AllRuns : Type 0 where
  pub first_run : FirstRun
  pub fast_path : FastPath
  pub hurried_client : HurriedClient
  pub final_vote : FinalVote
  pub missed_write : MissedWrite
  pub re_execution : ReExecution
  pub vanished_write : VanishedWrite
  pub view_contest : ViewContest
  pub warden_abandons : WardenAbandons
  pub three_views : ThreeViews
  pub truncated : Truncated
  pub dropped_reader : DroppedReader
  pub small_runs : SmallRuns

pub computes : AllRuns
unfolding before same_version same_exec same_key key_before same_wid wid_before exec_before same_node takes after_taking conflicts conflicts_with_base verdict
    may_vote held latest note_for due committed_upto voted_upto answer says content prepare_if_ready begin go wrote ran rewound relabelled next_execution
    conclude decide give_up prepare_if_idle rewind follow_running note_at note_on note_running note_prepared propose tally_says on_tally counts_vote
    counts_accept comes_running comes_prepared comes on_ran on_hurry client_step next_view recover fixed proposes take_told decides count_accept recovery_hears
    truncate base_of take_fenced finish warden_hears warden_step client_moves warden_moves replica_moves pick_moves enabled after effect_in menu_in
computes = record {
  first_run = record { mail = refl; events = refl; client = refl; replica = refl; fate = refl };
  fast_path = record { mail = refl; events = refl; client = refl; replica = refl };
  hurried_client = record { mail = refl; events = refl; decision = refl; over = refl };
  final_vote = record { mail = refl; events = refl; abandoned = refl; committed = refl; fate = refl };
  missed_write = record { mail = refl; events = refl; undecided = refl; idle = refl };
  re_execution = record { mail = refl; events = refl; earlier = refl; abandoned = refl; committed = refl };
  vanished_write = record { mail = refl; events = refl; abandoned = refl; decision = refl };
  view_contest = record { mail = refl; events = refl; decision = refl; undecided = refl };
  warden_abandons = record { mail = refl; events = refl; undecided = refl };
  three_views = record { mail = refl; events = refl; decision = refl };
  truncated = record { mail = refl; events = refl; decision = refl; abandoned = refl };
  dropped_reader = record { mail = refl; events = refl; decision = refl };
  small_runs = record {
    quiet = record {
      rounds = record {
        turn_by_turn = (
          refl,
          (refl, refl),
          (
            refl,
            (refl, refl),
            (
              refl,
              (refl, refl),
              (
                refl,
                (refl, refl),
                (
                  refl,
                  (refl, refl),
                  (
                    refl,
                    (refl, refl),
                    (
                      refl,
                      (refl, refl),
                      (
                        refl,
                        (refl, refl),
                        (
                          refl,
                          (refl, refl),
                          (
                            refl,
                            (refl, refl),
                            (refl, (refl, refl), (refl, (refl, refl), (refl, (refl, refl), (refl, (refl, refl), tt)))),
                          ),
                        ),
                      ),
                    ),
                  ),
                ),
              ),
            ),
          ),
        );
        over = refl;
      };
      fair = (refl, (refl, (refl, (refl, (refl, (refl, (refl, (refl, (refl, (refl, (refl, (refl, tt))))))))))));
      ends = refl;
    };
    quiet_events = refl;
    spent = record {
      rounds = record {
        turn_by_turn = (refl, (refl, refl), (refl, (refl, refl), (refl, (refl, refl), (refl, (refl, refl), tt))));
        over = refl;
      };
      fair = (refl, (refl, (refl, tt)));
      ends = refl;
    };
    spent_events = refl;
    idle = record {
      rounds = record {
        turn_by_turn = (refl, (refl, refl), (refl, (refl, refl), (refl, (refl, refl), (refl, (refl, refl), tt))));
        over = refl;
      };
      fair = (refl, (refl, (refl, (refl, tt))));
      ends = refl;
    };
  };
}
