use Rattle.std.proofs.Common.{refl}
use Rattle.morty_base.specs.Names.{same_key}
use Rattle.txn_lang.proofs.laws.worked_programs.Goals as goal

pub returns-clause-five : goal.returns-clause-five
unfolding same_key
returns-clause-five c = record { asks_first = refl; asks_fourth = refl; prints_sum = refl; ends = refl; begins = refl }

pub returns-clause-pay : goal.returns-clause-pay
unfolding same_key
returns-clause-pay c = record { ends = refl; made = refl; kept_none = refl }

pub returns-clause-twice : goal.returns-clause-twice
unfolding same_key
returns-clause-twice c = record { asks = refl; shows_first = refl }

pub returns-clause-own : goal.returns-clause-own
unfolding same_key
returns-clause-own c = record { shows_own = refl }
