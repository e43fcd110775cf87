-- The options of `offences`: the forms of the logs, and three that have no value.
use Rattle.std.specs.Prelude.{ℕ, Bool, true, false, not, ◌||◌, Option, None, Some, option_map, option_and_then, List, [], ◌∷◌, codes, if◌then◌else◌}
use Rattle.audit_base.specs.declared.terms.Rule.{Rule}
use Rattle.audit_base.specs.Least.{only_if}
use Rattle.command_words.specs.Options.{no_options, with_form_option}
use Rattle.command_words.specs.WordForms.{word_equals}
use Rattle.command_words.specs.Words.{when_some}
use Rattle.further_checks.specs.FurtherRules.{no_checks}
use Rattle.desk_words.specs.declared.offence_words.OffenceOptions.{OffenceOptions}
use Rattle.desk_words.specs.FurtherWords.{checks_fit_rule, is_check_option, with_check}

-- nothing is said by options
abbrev pub no_offence_options : OffenceOptions
no_offence_options = record {
  forms = no_options;
  records = false;
  checks = no_checks;
}

-- the options that have no value: `--records`, and those that ask for a further check
abbrev pub is_records_option : List ℕ → Bool
is_records_option word = word_equals word (codes "--records")

abbrev pub is_flag : List ℕ → Bool
is_flag word = is_records_option word || is_check_option word

-- what is said with `--records` too, which was not said before
abbrev pub with_records : OffenceOptions → Option OffenceOptions
with_records said = only_if (not said.records) (record said { records = true })

-- what is said with a further check too, which was not asked for before
abbrev pub with_offence_check : List ℕ → OffenceOptions → Option OffenceOptions
with_offence_check word said =
    option_map (λ checks. record said { checks = checks }) (with_check word said.checks)

-- what is said with an option without a value too
abbrev pub with_flag : List ℕ → OffenceOptions → Option OffenceOptions
with_flag word said =
    if is_records_option word then with_records said else with_offence_check word said

-- the other options, `--orders-form` and `--trades-form`, have a form as value
abbrev pub with_form : List ℕ → List ℕ → OffenceOptions → Option OffenceOptions
with_form word value said =
    option_map (λ forms. record said { forms = forms }) (with_form_option word value said.forms)

-- what these words say as options, or nothing where a word is no option, a value is missing, or
-- an option is given twice
abbrev pub offence_options_in : List (List ℕ) → Option OffenceOptions
offence_options_in [] = Some no_offence_options
offence_options_in (word ∷ []) = if is_flag word then with_flag word no_offence_options else None
offence_options_in (word ∷ value ∷ rest) =
    if is_flag word then option_and_then (with_flag word) (offence_options_in (value ∷ rest))
    else option_and_then (with_form word value) (offence_options_in rest)

-- what these words say as options of `offences` by a rule
abbrev pub options_under : Rule → List (List ℕ) → Option OffenceOptions
options_under the_rule words = when_some (offence_options_in words)
    (λ said. only_if (checks_fit_rule said.checks the_rule) said)
