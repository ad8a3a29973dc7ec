use Rattle.world.proofs.SoundWorlds as proved
use Rattle.world.proofs.sound.worlds_are_sound.Goals as goal

pub returns : goal.returns
returns c = proved.worlds_are_sound
