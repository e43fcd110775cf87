mod EarlyLemmas
mod StepLemmas
mod RunLemmas
mod RoomLemmas
mod ReadyLemmas
mod MemoryLemmas
mod OneLogLemmas
mod BothLogsLemmas
pub mod UnreadLemmas
mod InTurnLemmas
mod AgreeLemmas
mod NoMemoryLemmas
mod RestLemmas
