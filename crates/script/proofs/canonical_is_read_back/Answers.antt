use Rattle.script.specs.Meaning.{said_by}
use Rattle.script.specs.Canonical.{canonical_script}
use Rattle.script.proofs.OneOutcome.{one_outcome}
use Rattle.script.proofs.CanonicalIsSaid.{canonical_is_said}
use Rattle.script.proofs.canonical_is_read_back.Goals as goal

pub returns : goal.returns
returns c = record {
  says = λ s is. canonical_is_said (said_by s) is;
  alone = λ s t is said. one_outcome.one_script (canonical_script s) t (said_by s) said (canonical_is_said (said_by s) is);
}
