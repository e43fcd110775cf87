-- What is broken, in words, by the word that a report has for the property.
use Rattle.std.specs.Prelude.{ℕ, Bool, List, [], ◌∷◌, ◌++◌, Option, None, Some, codes, find, option_map, if◌then◌else◌}
use Rattle.std.specs.Option.{option_or}
use Rattle.audit_base.specs.Least.{first_answer, only_if}
use Rattle.audit_base.specs.Words.{property_word}
use Rattle.audit_base.specs.declared.findings.Property.{Property}
use Rattle.audit_base.specs.declared.findings.Property.TheVariants as property
use Rattle.page_parts.specs.Wording.{broken_words}
use Rattle.day_page.specs.DayLines.{is_word}

-- all properties of the rules
abbrev pub named_properties : List Property
named_properties = property.DuplicateId ∷ property.TimeBack ∷ property.UnknownTarget
    ∷ property.Unpaired ∷ property.DuplicateTrade ∷ property.UnknownOrder ∷ property.Inactive
    ∷ property.Limit ∷ property.UniformPrice ∷ property.BuyQuantity ∷ property.SellQuantity
    ∷ property.BuyPriority ∷ property.SellPriority ∷ property.Volume ∷ property.Spread
    ∷ property.InstantOrder ∷ []

-- the property that has this word
abbrev pub property_of_word : List ℕ → Option Property
property_of_word word = find (λ one. is_word word (property_word one)) named_properties

-- what a trade does that fails one of the two further checks, by the check's word
abbrev pub further_words : List ℕ → Option (List ℕ)
further_words word = first_answer
    (only_if (is_word word (codes "resting-price"))
    (codes "trades at another price than the limit of its resting order")
    ∷ only_if (is_word word (codes "trade-time"))
    (codes "has an earlier time than the record of its bid or of its ask") ∷ [])

-- what a record does that breaks the property of this word; nothing where no property has it
abbrev pub record_words : List ℕ → Option (List ℕ)
record_words word = option_or (option_map broken_words (property_of_word word)) (further_words word)

-- the property of this word is that the volume is the greatest: no record breaks that
abbrev pub is_of_volume : List ℕ → Bool
is_of_volume word = is_word word (codes "volume")

-- what is broken: by a record, where it is said what that does; and else the word itself
abbrev pub broken_by_record : List ℕ → Option (List ℕ) → List ℕ
broken_by_record word None = word
broken_by_record word (Some words) = codes "a record " ++ words

abbrev pub what_is_broken : List ℕ → List ℕ
what_is_broken word = if is_of_volume word then codes "the volume is not the greatest"
    else broken_by_record word (record_words word)

-- what is said of a symbol that is rejected, with the word of the property
abbrev pub rejected_words : List ℕ → List ℕ
rejected_words word = codes "rejected: " ++ what_is_broken word ++ codes " (" ++ word ++ codes ")"
