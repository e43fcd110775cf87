-- The share of a day that a word gives, as K/N.
use Rattle.std.specs.Prelude.{ℕ, Bool, ◌==◌, Option, List, option_and_then}
use Rattle.day_symbols.specs.Shares.{DayShare, day_share_of, most_shares}
use Rattle.command_words.specs.PhaseWords.{cut_at}
use Rattle.command_words.specs.WordForms.{unpadded_number}

-- the byte between K and N: the code of `/` is 47
abbrev pub is_slash : ℕ → Bool
is_slash byte = byte == 47

-- the share of a K and an N, where both are there and give one
abbrev pub share_of_numbers : Option ℕ → Option ℕ → Option DayShare
share_of_numbers number count =
    option_and_then (λ k. option_and_then (λ n. day_share_of k n) count) number

-- K/N is two decimal numbers without leading zeros, joined by the first `/`, where K is from 1
-- to N, and N at most the greatest number of shares
abbrev pub share_named : List ℕ → Option DayShare
share_named word =
    option_and_then (λ cut. share_of_numbers
    (unpadded_number most_shares cut.0) (unpadded_number most_shares cut.1))
    (cut_at is_slash word)
