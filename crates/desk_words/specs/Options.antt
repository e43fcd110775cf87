-- The options of a command of `desk`: those of `audit` of `auditor`, `--share`, `--page`, and the
-- further checks. They follow the other words, in any order, each at most once, and the value of an
-- option is the next word.
use Rattle.std.specs.Prelude.{ℕ, Bool, true, false, not, ◌||◌, ◌&&◌, Option, None, Some, is_none, option_map, option_and_then, List, [], ◌∷◌, codes, if◌then◌else◌}
use Rattle.audit_base.specs.Least.{only_if}
use Rattle.day_symbols.specs.Shares.{DayShare}
use Rattle.command_words.specs.declared.options.Options.{Options}
use Rattle.command_words.specs.Options.{is_table_option, no_options, with_form_option, with_table}
use Rattle.command_words.specs.WordForms.{word_equals}
use Rattle.desk_words.specs.declared.options.DeskOptions.{DeskOptions}
use Rattle.desk_words.specs.FurtherWords.{is_check_option, with_check}
use Rattle.desk_words.specs.ShareWords.{share_named}
use Rattle.further_checks.specs.FurtherRules.{no_checks}

-- nothing is said by options
abbrev pub no_desk_options : DeskOptions
no_desk_options =
    record { common = no_options; share = None; checks = no_checks; page = false }

-- what is said, with this in the place of what the options say that `auditor` has too
abbrev pub with_common : DeskOptions → Options → DeskOptions
with_common said options = record said { common = options }

-- what is said with `--table` too, which was not said before
abbrev pub with_day_table : DeskOptions → Option DeskOptions
with_day_table said = option_map (with_common said) (with_table said.common)

-- what is said with a further check too, which was not asked for before
abbrev pub with_day_check : List ℕ → DeskOptions → Option DeskOptions
with_day_check word said =
    option_map (λ checks. record said { checks = checks }) (with_check word said.checks)

-- the option that asks for a page
abbrev pub is_page_option : List ℕ → Bool
is_page_option word = word_equals word (codes "--page")

-- what is said with `--page` too, which was not said before
abbrev pub with_day_page : DeskOptions → Option DeskOptions
with_day_page said = only_if (not said.page) (record said { page = true })

-- the options that have no value: `--table`, `--page`, and those that ask for a further check
unfoldable pub is_lone_option : List ℕ → Bool
is_lone_option word = is_table_option word || is_page_option word || is_check_option word

unfoldable pub with_lone_option : List ℕ → DeskOptions → Option DeskOptions
with_lone_option word said =
    if is_table_option word then with_day_table said
    else (if is_page_option word then with_day_page said else with_day_check word said)

-- what is said with a share too, where none was given before
abbrev pub with_share : DeskOptions → DayShare → Option DeskOptions
with_share said share = only_if (is_none said.share) (record said { share = Some share })

-- the options that have a value: `--share`, and the forms of the logs
abbrev pub with_value_option : List ℕ → List ℕ → DeskOptions → Option DeskOptions
with_value_option word value said =
    if word_equals word (codes "--share")
    then option_and_then (with_share said) (share_named value)
    else option_map (with_common said) (with_form_option word value said.common)

-- not both a table and a page are asked for
abbrev pub is_table_or_page : DeskOptions → Bool
is_table_or_page said = not (said.common.table && said.page)

-- what these words say as options, or nothing where a word is no option, a value is missing, or
-- an option is given twice
abbrev pub desk_options_in : List (List ℕ) → Option DeskOptions
desk_options_in [] = Some no_desk_options
desk_options_in (word ∷ []) =
    if is_lone_option word then with_lone_option word no_desk_options else None
desk_options_in (word ∷ value ∷ rest) =
    if is_lone_option word
    then option_and_then (with_lone_option word) (desk_options_in (value ∷ rest))
    else option_and_then (with_value_option word value) (desk_options_in rest)
