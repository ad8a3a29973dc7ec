use Rattle.std.proofs.Common.{refl}
use Rattle.protocol.specs.Words.{same_key}
use Rattle.protocol_runs.proofs.samples_are_programs.Goals as goal

pub returns : goal.returns
unfolding same_key
returns c = record { inc_asks = refl; inc_four = refl; inc_five = refl; look_asks = refl; look_zero = refl; look_seven = refl; put_ends = refl; half_asks = refl; two_asks = refl; two_zero = refl; two_seven = refl }
