-- What the shares of a day tell of its symbols, beside what the whole day tells.
use Rattle.std.specs.Prelude.{◌≡◌, ◌<◌, ◌≤◌, ℕ, false, List, [], length, map, slice_get}
use Rattle.std.specs.List.{slice_index_or}
use Rattle.day_symbols.specs.Laws.{IsOnlyShare}
use Rattle.day_symbols.specs.Shares.{DayShare, index_in_share, indices_in, symbols_in}
use Rattle.day_verdicts.specs.declared.judging.JudgedSymbols.{JudgedSymbols}
use Rattle.day_verdicts.specs.SymbolAnswers.{SymbolAnswer, TellsSymbols}

-- where nothing is told
abbrev pub nothing_told : SymbolAnswer
nothing_told = record { accepted = false; text = [] }

-- what is told of the symbols of a share, where this is told of the symbols of the day, in order
abbrev pub told_in : DayShare → List SymbolAnswer → List SymbolAnswer
told_in share told =
    map (λ index. slice_index_or told index nothing_told) (indices_in share (length told))

-- Of the shares 1/count to count/count the symbol at this index of the day is in exactly one, and
-- there it stands with what is told of it in the day.
pub record IsToldInOneShare (count index : ℕ) (symbols : List (List ℕ)) (told : List SymbolAnswer)
    : Type 0 where
  pub number : ℕ
  pub only : IsOnlyShare count index number
  pub symbol_there : let share : DayShare = record { number = number; count = count } in
      slice_get (symbols_in share symbols) (index_in_share share index) ≡ slice_get symbols index
  pub told_there : let share : DayShare = record { number = number; count = count } in
      slice_get (told_in share told) (index_in_share share index) ≡ slice_get told index

-- There is one list of what is told of the symbols of the day. The whole day tells it; each share,
-- however many there are, tells of its symbols what that list has of them; and of any number of
-- shares each symbol is in exactly one, with what that list has of it.
pub record SharesTellTheDay (means : DayShare → JudgedSymbols → Type 0)
    (symbols : List (List ℕ)) (whole : JudgedSymbols) : Type 0 where
  pub told : List SymbolAnswer
  pub one_for_each : length told ≡ length symbols
  pub whole_tells : TellsSymbols symbols told whole
  pub shares_tell : (share : DayShare) (judged : JudgedSymbols) → means share judged
      → TellsSymbols (symbols_in share symbols) (told_in share told) judged
  pub in_one_share : (count index : ℕ) → 1 ≤ count → index < length symbols
      → IsToldInOneShare count index symbols told
