use Rattle.std.proofs.Common.{◌≡◌, Some, sym}
use Rattle.std.specs.Prelude.{slice_get}
use Rattle.script.proofs.LastLine.{one_token}
use Rattle.script.proofs.stages.line_of_end.Goals as goal

pub last_line_from-requires-clause-placed : goal.last_line_from-requires-clause-placed
last_line_from-requires-clause-placed c =
    let last : slice_get c.args.toks.now _ ≡ Some c.in-Some.token.now = sym c.in-Some.ensures.value in
    one_token c.args.text.now 0 c.args.toks.now _ c.in-Some.token.now c.requires.in_order last
