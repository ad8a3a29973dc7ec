-- Bytes that were read whole have what is due for them.
use Rattle.std.proofs.Common.{List, ℕ, map, subst}
use Rattle.morty_io.specs.Faults.{Rose}
use Rattle.script_cli.specs.Due.{IsTextDue, IsDue, Read}
use Rattle.script_cli.proofs.TaskLemmas.{if_task}
use Rattle.script_cli.proofs.made.of_source.Goals as goal

pub returns-in-Ok-clause-due : goal.returns-in-Ok-clause-due
returns-in-Ok-clause-due g c =
    let command = c.args.command.now in
    let handed = map g.L.Link.state_of c.args.links.items in
    let source = g.S.Source in
    if_task g.L.Link.state_of command handed _ (IsDue command (source.left c.args.src.now) (Rose (source.faults c.args.src.now) (source.faults c.read_whole.new.src)) handed) (λ d due.
    Read c.requires.reads c.in-Ok.text.items c.in-Ok.ensures.whole (subst (λ (bytes : List ℕ). IsTextDue command handed d bytes) c.as_slice.ensures.value due))
    c.of_text.result c.of_text.ensures
