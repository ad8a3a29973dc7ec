use Rattle.world_rows.proofs.HistoriesReplay as proved
use Rattle.world_rows.proofs.histories_replay.Goals as goal

pub returns : goal.returns
returns c = proved.histories_replay
