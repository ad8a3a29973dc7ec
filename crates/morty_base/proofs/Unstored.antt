-- How a count is stored: a struct with no field, which owns nothing.
use Rattle.std.proofs.Common.{List, [], ◌∷◌, refl}
use seplogic.Ra.Ura.{Ura}
use mir.Val.{Val, vstruct, vnil}
use types.Logic.{Logic}
use types.Kit.{Goal, Step, Item, ‵}
use denote.RattleType.{RattleType}
use denote.Laws.{Is}
use denote.Steps.{owned}
use denote.Struct.Owning as owning
use denote.Struct.Struct.{Struct, Struct-Makes}
use Rattle.morty_base.specs.contracts.steps.Count.{the_type}

-- the one machine value of a count
abbrev pub unstored : Val
unstored = vstruct vnil

-- the count without its number
abbrev pub Stored : RattleType
Stored = Struct (owning.shape the_type)

pub holds_nothing : {M : Type 1} {𝓤 : Ura M} {𝓛 : Logic 𝓤} {K : Type 0} {Γ : List (Item 𝓤)} {G : Goal 𝓤 𝓛.H} → K → Step K 𝓛 (‵ (Stored.own_val tt (unstored ∷ [])) ∷ Γ) G Γ G
holds_nothing {𝓛} t = owned t Stored (Is Stored) (Struct-Makes 𝓛 (owning.shape the_type) tt) tt (unstored ∷ []) (tt, (refl, tt))
