pub mod Results
pub mod Placed
pub mod WardenTurns
pub mod TurnedWardens
pub mod ClientJobs
pub mod OneJob
pub mod NodesLemmas
pub mod PickLemmas
mod AttemptsKept
mod Keeping
mod Begun
mod SoundWorlds
mod LawsOfWorlds
mod PendingJobs
mod WorldLemmas
mod SetupLemmas
mod LimitsLemmas
mod NodeSlots
mod LoadingLemmas
mod Happening
mod Taking
mod Giving
mod ProgressLemmas
