-- What the words of a command line without the program's name ask for, where they are
-- well-formed. The first word names the command; what the words of each command ask for has a
-- definition of its own.
use Rattle.std.specs.Prelude.{ℕ, Bool, not, ◌==◌, ◌&&◌, ◌||◌, ◌+◌, Option, None, Some, option_and_then, is_none, List, [], ◌∷◌, length, drop, codes, nat_le, if◌then◌else◌, IsTrue}
use Rattle.audit_base.specs.Least.{first_answer, only_if}
use Rattle.audit_base.specs.RuleKinds.{asks_for_greatest, has_table}
use Rattle.log_maker.specs.Generator.{IsCount, IsStart}
use Rattle.session_audit.specs.Phases.{ArePhases}
use Rattle.command_words.specs.declared.commands.Command.{Command}
use Rattle.command_words.specs.declared.commands.Command.TheVariants as command
use Rattle.command_words.specs.declared.commands.RuleWords.{RuleWords}
use Rattle.command_words.specs.declared.options.Options.{Options}
use Rattle.command_words.specs.declared.requests.Request.{Request}
use Rattle.command_words.specs.declared.requests.Request.TheVariants.{Audit, Expect, Convert, Generate, Certify, Verify, Session}
use Rattle.command_words.specs.Options.{options_in, or_csv}
use Rattle.command_words.specs.PhaseWords.{phases_named}
use Rattle.command_words.specs.WordForms.{form_named, is_path, word_equals, log_named, number_upto, rule_named, symbol_named, nth_word}

-- what is made of a value, where there is one
abbrev pub when_some : {A B : Type 0} → Option A → (A → Option B) → Option B
when_some answer make = option_and_then make answer

-- the same of two values that are given together
abbrev pub when_both : {A B C : Type 0} → Option (A × B) → (A → B → Option C) → Option C
when_both answers make = option_and_then (λ both. make both.0 both.1) answers

-- the command that a word names
abbrev pub command_named : List ℕ → Option Command
command_named word = first_answer (only_if (word_equals word (codes "audit")) command.Audit
    ∷ only_if (word_equals word (codes "expect")) command.Expect
    ∷ only_if (word_equals word (codes "convert")) command.Convert
    ∷ only_if (word_equals word (codes "generate")) command.Generate
    ∷ only_if (word_equals word (codes "certify")) command.Certify
    ∷ only_if (word_equals word (codes "verify")) command.Verify
    ∷ only_if (word_equals word (codes "session")) command.Session ∷ [])

-- ORDERS and TRADES, at a place and after it
abbrev pub names_logs : List (List ℕ) → ℕ → Bool
names_logs words place = is_path (nth_word words place) && is_path (nth_word words (place + 1))

-- SYMBOL, and what the words after all others say as options
abbrev pub symbol_and_options : List ℕ → List (List ℕ) → Option (List ℕ × Options)
symbol_and_options word option_words =
    when_some (symbol_named word) (λ symbol.
    when_some (options_in option_words) (λ options. Some (symbol, options)))

-- RULE and SYMBOL after the command, and what the words after all others say as options
abbrev pub rule_words : List (List ℕ) → List (List ℕ) → Option RuleWords
rule_words words option_words =
    when_some (rule_named (nth_word words 1)) (λ the_rule.
    when_both (symbol_and_options (nth_word words 2) option_words) (λ symbol options.
    Some (record { rule = the_rule; symbol = symbol; options = options })))

-- these words, where they pass a test
abbrev pub passing_words : (RuleWords → Bool) → Option RuleWords → Option RuleWords
passing_words test said = when_some said (λ w. only_if (test w) w)

-- of `audit`, `--table` where the rule has one
abbrev pub audit_words : List (List ℕ) → Option RuleWords
audit_words words = passing_words (λ w. not w.options.table || has_table w.rule)
    (rule_words words (drop 5 words))

-- `audit RULE SYMBOL ORDERS TRADES` and options
abbrev pub audit_asked : List (List ℕ) → Option Request
audit_asked words =
    if nat_le 5 (length words) && names_logs words 3 then
    when_some (audit_words words) (λ w.
    Some (Audit w.rule w.symbol (nth_word words 3) (nth_word words 4)
    (or_csv w.options.orders_form) (or_csv w.options.trades_form) w.options.table))
    else None

-- of `expect`, a rule with Expected trades, and of the options `--orders-form` alone
abbrev pub expect_words : List (List ℕ) → Option RuleWords
expect_words words = passing_words
    (λ w. has_table w.rule && is_none w.options.trades_form && not w.options.table)
    (rule_words words (drop 4 words))

-- `expect RULE SYMBOL ORDERS` and options
abbrev pub expect_asked : List (List ℕ) → Option Request
expect_asked words =
    if nat_le 4 (length words) && is_path (nth_word words 3) then
    when_some (expect_words words) (λ w.
    Some (Expect w.rule w.symbol (nth_word words 3) (or_csv w.options.orders_form)))
    else None

-- `convert LOG FORM PATH`
abbrev pub convert_asked : List (List ℕ) → Option Request
convert_asked words =
    if length words == 4 && is_path (nth_word words 3) then
    when_some (log_named (nth_word words 1)) (λ log.
    when_some (form_named (nth_word words 2)) (λ form.
    Some (Convert log form (nth_word words 3))))
    else None

-- `generate START COUNT`, START from 1 to 2,147,483,646 and COUNT from 1 to 1,000,000
abbrev pub generate_asked : List (List ℕ) → Option Request
generate_asked words =
    if length words == 3 then
    when_some (number_upto 2147483646 (nth_word words 1)) (λ start.
    when_some (number_upto 1000000 (nth_word words 2)) (λ count.
    Some (Generate start count)))
    else None

-- of `certify`, a rule that asks for a greatest volume, and of the options the forms alone
abbrev pub certify_words : List (List ℕ) → Option RuleWords
certify_words words = passing_words (λ w. asks_for_greatest w.rule && not w.options.table)
    (rule_words words (drop 5 words))

-- `certify RULE SYMBOL ORDERS TRADES` and options
abbrev pub certify_asked : List (List ℕ) → Option Request
certify_asked words =
    if nat_le 5 (length words) && names_logs words 3 then
    when_some (certify_words words) (λ w.
    Some (Certify w.rule w.symbol (nth_word words 3) (nth_word words 4)
    (or_csv w.options.orders_form) (or_csv w.options.trades_form)))
    else None

-- of `verify`, SYMBOL, and of the options the forms alone
abbrev pub verify_words : List (List ℕ) → Option (List ℕ × Options)
verify_words words =
    when_both (symbol_and_options (nth_word words 1) (drop 5 words)) (λ symbol options.
    only_if (not options.table) (symbol, options))

-- `verify SYMBOL ORDERS TRADES CERTIFICATE` and options
abbrev pub verify_asked : List (List ℕ) → Option Request
verify_asked words =
    if nat_le 5 (length words) && names_logs words 2 && is_path (nth_word words 4) then
    when_both (verify_words words) (λ symbol options.
    Some (Verify symbol (nth_word words 2) (nth_word words 3) (nth_word words 4)
    (or_csv options.orders_form) (or_csv options.trades_form)))
    else None

-- `session SYMBOL PHASES ORDERS TRADES` and options
abbrev pub session_asked : List (List ℕ) → Option Request
session_asked words =
    if nat_le 5 (length words) && names_logs words 3 then
    when_both (symbol_and_options (nth_word words 1) (drop 5 words)) (λ symbol options.
    when_some (phases_named (nth_word words 2)) (λ phases.
    Some (Session symbol phases (nth_word words 3) (nth_word words 4)
    (or_csv options.orders_form) (or_csv options.trades_form) options.table)))
    else None

-- what the words of a command ask for, one row a command
abbrev pub asked_by : Command → List (List ℕ) → Option Request
asked_by command.Audit words = audit_asked words
asked_by command.Expect words = expect_asked words
asked_by command.Convert words = convert_asked words
asked_by command.Generate words = generate_asked words
asked_by command.Certify words = certify_asked words
asked_by command.Verify words = verify_asked words
asked_by command.Session words = session_asked words

-- what words ask for, by the command that the first of them names; nothing where they are not
-- well-formed
abbrev pub request_of : List (List ℕ) → Option Request
request_of words =
    when_some (command_named (nth_word words 0)) (λ command. asked_by command words)

-- what well-formed words ask for is Expected trades of a rule that has such, a log of numbers
-- in their limits, a certificate of a rule that asks for a greatest volume, and phases that are
-- those of a day
abbrev pub MayBeAsked : Request → Type 0
MayBeAsked (Audit rule symbol orders trades orders_form trades_form table) = Unit {0}
MayBeAsked (Expect rule symbol orders orders_form) = IsTrue (has_table rule)
MayBeAsked (Convert log form path) = Unit {0}
MayBeAsked (Generate start count) = IsStart start × IsCount count
MayBeAsked (Certify rule symbol orders trades orders_form trades_form) =
    IsTrue (asks_for_greatest rule)
MayBeAsked (Verify symbol orders trades certificate orders_form trades_form) = Unit {0}
MayBeAsked (Session symbol phases orders trades orders_form trades_form table) =
    ArePhases phases
