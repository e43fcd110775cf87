-- The options that ask for a further check. Neither has a value.
use Rattle.std.specs.Prelude.{ℕ, Bool, true, not, ◌||◌, Option, is_none, List, codes, if◌then◌else◌}
use Rattle.audit_base.specs.Least.{only_if}
use Rattle.audit_base.specs.RuleKinds.{call_rule}
use Rattle.audit_base.specs.declared.terms.Rule.{Rule}
use Rattle.command_words.specs.WordForms.{word_equals}
use Rattle.further_checks.specs.declared.findings.FurtherChecks.{FurtherChecks}

-- a word asks for the price of a resting order
abbrev pub is_price_option : List ℕ → Bool
is_price_option word = word_equals word (codes "--resting-price")

-- a word asks for one of the two checks
abbrev pub is_check_option : List ℕ → Bool
is_check_option word = is_price_option word || word_equals word (codes "--trade-times")

-- what is asked for with prices of resting orders too, which were not asked for before
abbrev pub with_prices : FurtherChecks → Option FurtherChecks
with_prices checks = only_if (not checks.resting_price) (record checks { resting_price = true })

-- what is asked for with times of trades too, which were not asked for before
abbrev pub with_times : FurtherChecks → Option FurtherChecks
with_times checks = only_if (not checks.trade_times) (record checks { trade_times = true })

-- what is asked for with the check that a word asks for too
abbrev pub with_check : List ℕ → FurtherChecks → Option FurtherChecks
with_check word checks = if is_price_option word then with_prices checks else with_times checks

-- the price of a resting order is looked at only where the rule is `continuous`
abbrev pub checks_fit_rule : FurtherChecks → Rule → Bool
checks_fit_rule checks the_rule = not checks.resting_price || is_none (call_rule the_rule)
