mod DigitLemmas
mod ShelfLemmas
