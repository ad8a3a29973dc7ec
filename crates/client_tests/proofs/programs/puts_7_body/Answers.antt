-- The body has its tree.
use Rattle.std.proofs.Common.{◌∙◌}
use Rattle.client_tests.proofs.ProgramLemmas.{is_puts}
use Rattle.client_tests.proofs.programs.puts_7_body.Goals as goal

pub returns : goal.returns
returns c = is_puts 7 c.block.result (c.block.ensures ∙ c.in_ok-vec.ensures.items)
