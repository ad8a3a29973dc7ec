mod FitsLemmas
mod Starts
mod ReadingRules
mod Found
mod RulesAreRead
mod RulesAnswer
mod RulesComplete
mod Stopping
mod GrammarFits
pub mod Taking
mod BlocksAreRead
pub mod OneOutcome
pub mod GroupLemmas
pub mod ListedLemmas
pub mod StageTwo
pub mod TextLemmas
pub mod SayLemmas
pub mod SaySettings
pub mod SayStores
pub mod SayPrograms
pub mod SayClients
pub mod SayPlans
pub mod SayItems
pub mod CanonicalPieces
pub mod CanonicalIsSaid
pub mod BuilderLemmas
pub mod ReadableItems
pub mod SayableSoFar
pub mod SayableSettings
pub mod SayableStores
pub mod SayablePrograms
pub mod SayableClients
pub mod SayablePlans
pub mod SaidIsSayable
pub mod ReadLemmas
pub mod LastLine
