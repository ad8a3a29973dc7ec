-- What a Note does to a read, as code says it.
use Rattle.protocol.specs.Client.Following as protocol
use Rattle.protocol.specs.Client.Following.Effect.{Nothing as NothingEffect, Sure as SureEffect, Follow as FollowEffect}
use Rattle.coordinator.specs.declared.following.Effect.{Effect}
use Rattle.coordinator.specs.declared.following.Effect.TheVariants.{Nothing, Sure, Follow}

abbrev pub effect_of : Effect → protocol.Effect
effect_of Nothing = NothingEffect
effect_of Sure = SureEffect
effect_of Follow = FollowEffect
