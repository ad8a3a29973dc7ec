use Rattle.std.proofs.Common.{◌∙◌, ap, ◌&&◌}
use Rattle.std.specs.Prelude.{not}
use Rattle.protocol.specs.Replica.Taken.{is_above, version_of, lacks_content, takes}
use Rattle.replica.proofs.replica.Replica.takes.Goals as goal

pub returns : goal.returns
unfolding takes
returns c = λ firsts number told h k. c.takes.ensures ∙ ap (λ d. is_above d (version_of c.args.body.now) && not (lacks_content c.args.body.now)) k.dropped_is
