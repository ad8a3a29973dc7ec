use Rattle.hub.proofs.Lists.{get_map, map_set}
use Rattle.hub.proofs.Results.{ok_case}
use Rattle.hub.proofs.rooms.pick_at.Goals as goal

pub returns-clause-ok : goal.returns-clause-ok
returns-clause-ok g c =
    ok_case c.pick.result _ (λ p is o h n stands here.
    let shows = c.menu-menu.ensures o h n stands here in
    let picked = rw is at c.pick.ensures.ok in (
      g.L.Link.state_of c.index_mut.result.now,
      g.L.Link.state_of c.pick.new.self,
      get_map g.L.Link.state_of c.args.links.now.items c.args.slot c.index_mut.result.now c.requires.slots.0 c.index_mut.ensures.value,
      rw (← shows) picked,
      map_set g.L.Link.state_of c.args.links.now.items c.args.slot c.pick.new.self,
    ))
