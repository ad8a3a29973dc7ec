use Rattle.std.proofs.Common.{ap, ◌∙◌, map}
use Rattle.std.specs.Prelude.{slice_set}
use Rattle.std.proofs.lemmas.Result.{on_ok_weaker}
use Rattle.hub.proofs.Lists.{get_map, map_set}
use Rattle.script_cli.proofs.begin.begin_at.Goals as goal

pub returns-clause-ok : goal.returns-clause-ok
returns-clause-ok g c =
    let state = g.L.Link.state_of in
    let links = c.args.links.now.items in
    on_ok_weaker c.begin.result (λ is. (
      state c.index_mut.result.now,
      get_map state links c.args.slot c.index_mut.result.now c.requires c.index_mut.ensures.value,
      map_set state links c.args.slot c.begin.new.self ∙ ap (λ b. slice_set (map state links) c.args.slot b) is,
    )) c.begin.ensures.ok
