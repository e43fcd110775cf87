pub mod DealLemmas
pub mod LotLemmas
pub mod MeetLemmas
pub mod PairLemmas
pub mod UnitLemmas
pub mod PairingLemmas
