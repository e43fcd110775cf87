pub mod CheckLemmas
pub mod ResolveLemmas
pub mod DraftLemmas
pub mod RisingLemmas
pub mod DealsOrFlawLemmas
