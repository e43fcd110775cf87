-- The words of a casebook, and the commands that they ask for. LABEL and SYMBOL are names, and no
-- word of a command is `then`.
use Rattle.std.specs.Prelude.{ℕ, Bool, ◌&&◌, ◌==◌, Option, None, Some, option_and_then, option_map, List, [], ◌∷◌, codes, length, map, if◌then◌else◌}
use Rattle.std.specs.List.{position_or_len, slice_split}
use Rattle.audit_base.specs.Least.{first_answer, only_if}
use Rattle.audit_base.specs.Words.{property_word}
use Rattle.audit_base.specs.declared.findings.Property.{Property}
use Rattle.audit_base.specs.declared.findings.Property.TheVariants as property
use Rattle.command_words.specs.WordForms.{form_named, is_path, word_equals, rule_named, symbol_named, nth_word}
use Rattle.command_words.specs.Words.{when_some}
use Rattle.case_keeper.specs.declared.case.Filter.{Filter}
use Rattle.case_keeper.specs.declared.case.Mark.{Mark}
use Rattle.case_keeper.specs.declared.case.Mark.TheVariants.{Accepted, Broken}
use Rattle.case_run.specs.declared.commands.CaseCommand.{CaseCommand}
use Rattle.case_run.specs.declared.commands.CaseCommand.TheVariants as command

-- `file LABEL RULE SYMBOL FORM ORDERS TRADES`; LABEL is a name that does not begin with `-`, as
-- SYMBOL is
abbrev pub file_command : List (List ℕ) → Option CaseCommand
file_command words =
    if length words == 7 && word_equals (nth_word words 0) (codes "file")
    && is_path (nth_word words 5) && is_path (nth_word words 6) then
    when_some (symbol_named (nth_word words 1)) (λ label.
    when_some (rule_named (nth_word words 2)) (λ the_rule.
    when_some (symbol_named (nth_word words 3)) (λ symbol.
    when_some (form_named (nth_word words 4)) (λ form.
    Some (command.File (record {
      label = label;
      rule = the_rule;
      symbol = symbol;
      form = form;
      orders = nth_word words 5;
      trades = nth_word words 6;
    }))))))
    else None

-- the property of a history or of trades, looked at before any rule, that a word names
abbrev pub log_property : List ℕ → Option Property
log_property word = first_answer
    (only_if (word_equals word (property_word property.DuplicateId)) property.DuplicateId
    ∷ only_if (word_equals word (property_word property.TimeBack)) property.TimeBack
    ∷ only_if (word_equals word (property_word property.UnknownTarget)) property.UnknownTarget
    ∷ only_if (word_equals word (property_word property.InstantOrder)) property.InstantOrder
    ∷ only_if (word_equals word (property_word property.Unpaired)) property.Unpaired
    ∷ only_if (word_equals word (property_word property.DuplicateTrade)) property.DuplicateTrade
    ∷ only_if (word_equals word (property_word property.UnknownOrder)) property.UnknownOrder ∷ [])

-- the property of a rule that a word names
abbrev pub rule_property : List ℕ → Option Property
rule_property word = first_answer
    (only_if (word_equals word (property_word property.Inactive)) property.Inactive
    ∷ only_if (word_equals word (property_word property.Limit)) property.Limit
    ∷ only_if (word_equals word (property_word property.UniformPrice)) property.UniformPrice
    ∷ only_if (word_equals word (property_word property.BuyQuantity)) property.BuyQuantity
    ∷ only_if (word_equals word (property_word property.SellQuantity)) property.SellQuantity
    ∷ only_if (word_equals word (property_word property.BuyPriority)) property.BuyPriority
    ∷ only_if (word_equals word (property_word property.SellPriority)) property.SellPriority
    ∷ only_if (word_equals word (property_word property.Volume)) property.Volume
    ∷ only_if (word_equals word (property_word property.Spread)) property.Spread ∷ [])

-- the property that a word names, one of sixteen
abbrev pub property_named : List ℕ → Option Property
property_named word = first_answer (log_property word ∷ rule_property word ∷ [])

-- RESULT is `accepted` or the word of a property
abbrev pub mark_named : List ℕ → Option Mark
mark_named word =
    if word_equals word (codes "accepted") then Some Accepted
    else option_map Broken (property_named word)

-- the filter of a symbol, which must be one, and of a mark
abbrev pub filter_of : List ℕ → Option Mark → Option Filter
filter_of word mark =
    option_map (λ symbol. record { symbol = Some symbol; mark = mark }) (symbol_named word)

-- the words after `list`: none, SYMBOL, or SYMBOL and RESULT
abbrev pub filter_named : List (List ℕ) → Option Filter
filter_named [] = Some (record { symbol = None; mark = None })
filter_named (symbol ∷ []) = filter_of symbol None
filter_named (symbol ∷ result ∷ []) =
    option_and_then (λ mark. filter_of symbol (Some mark)) (mark_named result)
filter_named (symbol ∷ result ∷ more ∷ rest) = None

-- `list`, `list SYMBOL`, `list SYMBOL RESULT`
abbrev pub list_filter : List (List ℕ) → Option Filter
list_filter [] = None
list_filter (word ∷ words) =
    if word_equals word (codes "list") then filter_named words else None

-- the command that these words ask for
abbrev pub list_command : List (List ℕ) → Option CaseCommand
list_command words = option_map command.List (list_filter words)

-- `show LABEL`
abbrev pub show_command : List (List ℕ) → Option CaseCommand
show_command words =
    if length words == 2 && word_equals (nth_word words 0) (codes "show") then
    when_some (symbol_named (nth_word words 1)) (λ label. Some (command.Show label))
    else None

-- the command that words ask for; nothing where they are not well-formed
abbrev pub command_of : List (List ℕ) → Option CaseCommand
command_of words = first_answer (file_command words ∷ list_command words ∷ show_command words ∷ [])

-- the separator of commands
abbrev pub is_then : List ℕ → Bool
is_then word = word_equals word (codes "then")

-- how many words are before the first separator
abbrev pub part_length : List (List ℕ) → ℕ
part_length words = position_or_len is_then words

-- the first and then the others, where both are there
abbrev pub with_next : {A : Type 0} → Option A → Option (List A) → Option (List A)
with_next a rest = option_and_then (λ x. option_map (λ xs. x ∷ xs) rest) a

-- all of a list, where each is there, and else nothing
abbrev pub all_or_none : {A : Type 0} → List (Option A) → Option (List A)
all_or_none [] = Some []
all_or_none (a ∷ rest) = with_next a (all_or_none rest)

-- the commands that words ask for: one or more with `then` between them; nothing where they are not
-- well-formed
abbrev pub commands_of : List (List ℕ) → Option (List CaseCommand)
commands_of words = all_or_none (map command_of (slice_split is_then words))
