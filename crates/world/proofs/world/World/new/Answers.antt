use Rattle.std.proofs.Common.{◌≤◌, [], refl, sym, ◌∙◌, subst}
use Rattle.menus.specs.Slots.{count_of}
use Rattle.world.specs.declared.origin.Origin.{Origin}
use Rattle.world.specs.Origin.{IsOrigin}
use Rattle.world.proofs.LimitsLemmas.{some_node}
use Rattle.world.proofs.SoundWorlds.{worlds_are_sound}
use Rattle.world.proofs.world.World.new.Goals as goal

pub returns : goal.returns
returns c =
    let o : Origin = record { setup = c.args.setup.now; kit = c.args.kit.now } in
    let is : IsOrigin o = record { says = c.requires.says; codes = c.requires.codes } in
    record {
      some_node = subst (λ v. 1 ≤ count_of v) (sym c.slots.ensures) (some_node c.args.setup.now c.requires.says);
      unbroken = refl;
      whole = worlds_are_sound o is [];
      slots = c.in_ok-parts.ensures.slots ∙ sym c.slots.ensures;
      after = record { origin = is; world = c.in_ok-parts.ensures.stands o is refl refl };
    }
