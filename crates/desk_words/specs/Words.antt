-- What the words of a command line of `desk` without the program's name ask for, where they are
-- well-formed. The first word names the command; what the words of each command ask for has a
-- definition of its own.
use Rattle.std.specs.Prelude.{ℕ, Bool, not, ◌==◌, ◌&&◌, ◌||◌, ◌+◌, Option, None, Some, List, [], ◌∷◌, length, drop, codes, nat_le, if◌then◌else◌, IsTrue}
use Rattle.audit_base.specs.Least.{first_answer, only_if}
use Rattle.audit_base.specs.RuleKinds.{has_table}
use Rattle.audit_base.specs.declared.terms.Rule.{Rule}
use Rattle.log_maker.specs.Generator.{IsCount, IsStart}
use Rattle.session_audit.specs.Phases.{ArePhases}
use Rattle.command_words.specs.declared.options.Options.{Options}
use Rattle.command_words.specs.Options.{options_in, or_csv}
use Rattle.command_words.specs.PhaseWords.{phases_named}
use Rattle.command_words.specs.WordForms.{is_path, nth_word, rule_named, word_equals}
use Rattle.command_words.specs.Words.{names_logs, when_both, when_some}
use Rattle.desk_words.specs.declared.commands.DeskCommand.{DeskCommand}
use Rattle.desk_words.specs.declared.commands.DeskCommand.TheVariants as command
use Rattle.desk_words.specs.declared.commands.OffenceWords.{OffenceWords}
use Rattle.desk_words.specs.declared.options.DeskOptions.{DeskOptions}
use Rattle.desk_words.specs.declared.requests.NamedLogs.{NamedLogs}
use Rattle.desk_words.specs.declared.requests.DeskRequest.{DeskRequest}
use Rattle.desk_words.specs.declared.requests.DeskRequest.TheVariants.{Early, Whole}
use Rattle.desk_words.specs.declared.requests.EarlyRequest.{EarlyRequest}
use Rattle.desk_words.specs.declared.requests.EarlyRequest.TheVariants.{Orders, Plain}
use Rattle.desk_words.specs.declared.requests.WholeRequest.{WholeRequest}
use Rattle.desk_words.specs.declared.requests.WholeRequest.TheVariants.{Audit, Session, Offences, Digest, Convert, Contents, Help, Version}
use Rattle.desk_words.specs.DressWords.{dress_named, HasSohWord}
use Rattle.desk_words.specs.FurtherWords.{checks_fit_rule}
use Rattle.desk_words.specs.LogWords.{desk_convert_asked, orders_asked}
use Rattle.desk_words.specs.OffenceWords.{options_under}
use Rattle.desk_words.specs.Options.{desk_options_in, is_table_or_page}
use Rattle.desk_words.specs.WordOrder.{marked_at, plain_order, symbol_behind}

-- the command that a word names
abbrev pub desk_command_named : List ℕ → Option DeskCommand
desk_command_named word = first_answer (only_if (word_equals word (codes "audit")) command.Audit
    ∷ only_if (word_equals word (codes "session")) command.Session
    ∷ only_if (word_equals word (codes "offences")) command.Offences
    ∷ only_if (word_equals word (codes "page")) command.Page
    ∷ only_if (word_equals word (codes "digest")) command.Digest
    ∷ only_if (word_equals word (codes "file")) command.File
    ∷ only_if (word_equals word (codes "file-all")) command.FileAll
    ∷ only_if (word_equals word (codes "check")) command.Check
    ∷ only_if (word_equals word (codes "orders")) command.Orders
    ∷ only_if (word_equals word (codes "convert")) command.Convert
    ∷ only_if (word_equals word (codes "plain")) command.Plain
    ∷ only_if (word_equals word (codes "contents")) command.Contents
    ∷ only_if (word_equals word (codes "help")) command.Help ∷ [])

-- ORDERS and TRADES, at an index of the words and after it, with the forms that options give them
abbrev pub named_logs : List (List ℕ) → ℕ → Options → NamedLogs
named_logs words index said = record {
  orders = nth_word words index;
  trades = nth_word words (index + 1);
  orders_form = or_csv said.orders_form;
  trades_form = or_csv said.trades_form;
}

-- a table is asked for only where the rule has one
abbrev pub table_fits_rule : Bool → Rule → Bool
table_fits_rule table the_rule = not table || has_table the_rule

-- RULE, and what the words after all others say as options, `--table` where the rule has one and no
-- page is asked for, and `--resting-price` where the rule is `continuous`
abbrev pub rule_and_options : List ℕ → List (List ℕ) → Option (Rule × DeskOptions)
rule_and_options word option_words =
    when_some (rule_named word) (λ the_rule.
    when_some (desk_options_in option_words) (λ said.
    only_if (table_fits_rule said.common.table the_rule && checks_fit_rule said.checks the_rule
    && is_table_or_page said) (the_rule, said)))

-- `audit RULE ORDERS TRADES` and options
abbrev pub desk_audit_asked : List (List ℕ) → Option DeskRequest
desk_audit_asked words =
    if nat_le 4 (length words) && names_logs words 2 then
    when_both (rule_and_options (nth_word words 1) (drop 4 words)) (λ the_rule said.
    Some (Whole (Audit the_rule (named_logs words 2 said.common) said.common.table said.share
    said.checks said.page)))
    else None

-- what these words say as options of `session`, where no price of a resting order is asked for, nor
-- both a table and a page
abbrev pub session_options_in : List (List ℕ) → Option DeskOptions
session_options_in words =
    when_some (desk_options_in words) (λ said.
    only_if (not (said.checks.resting_price || not (is_table_or_page said))) said)

-- `session PHASES ORDERS TRADES` and options
abbrev pub desk_session_asked : List (List ℕ) → Option DeskRequest
desk_session_asked words =
    if nat_le 4 (length words) && names_logs words 2 then
    when_some (session_options_in (drop 4 words)) (λ said.
    when_some (phases_named (nth_word words 1)) (λ phases.
    Some (Whole (Session phases (named_logs words 2 said.common) said.common.table said.share
    said.checks said.page))))
    else None

-- of `offences`, RULE, SYMBOL, which may stand behind `--`, and what other words say as options by
-- that rule
abbrev pub offence_words : Option ℕ → List (List ℕ) → List (List ℕ) → Option OffenceWords
offence_words mark words option_words =
    when_some (rule_named (nth_word words 1)) (λ the_rule.
    when_some (symbol_behind mark (nth_word words 2)) (λ symbol.
    when_some (options_under the_rule option_words) (λ said.
    Some (record { rule = the_rule; symbol = symbol; said = said }))))

-- `offences RULE SYMBOL ORDERS TRADES`, and these words as options
abbrev pub offences_with : Option ℕ → List (List ℕ) → List (List ℕ) → Option DeskRequest
offences_with mark words option_words =
    if names_logs words 3 then
    when_some (offence_words mark words option_words) (λ asked.
    Some (Whole (Offences asked.rule asked.symbol (named_logs words 3 asked.said.forms)
    asked.said.records asked.said.checks)))
    else None

-- `offences RULE SYMBOL ORDERS TRADES` and options
abbrev pub offences_asked : Option ℕ → List (List ℕ) → Option DeskRequest
offences_asked mark words =
    if nat_le 5 (length words) then offences_with mark words (drop 5 words) else None

-- the same, or `offences OPTIONS -- RULE SYMBOL ORDERS TRADES`
abbrev pub offences_in_order : List (List ℕ) → Option DeskRequest
offences_in_order words = offences_asked (marked_at 4 words) (plain_order 4 words)

-- `digest ORDERS TRADES`
abbrev pub digest_asked : List (List ℕ) → Option DeskRequest
digest_asked words =
    if length words == 3 && names_logs words 1
    then Some (Whole (Digest (nth_word words 1) (nth_word words 2))) else None

-- `plain DAY` and options
abbrev pub plain_asked : List (List ℕ) → Option DeskRequest
plain_asked words =
    if nat_le 2 (length words) && is_path (nth_word words 1) then
    when_some (dress_named (drop 2 words)) (λ dress.
    Some (Early (Plain (nth_word words 1) dress)))
    else None

-- what these words say as options, where that is nothing but the forms of the logs
abbrev pub form_options_in : List (List ℕ) → Option Options
form_options_in words = when_some (options_in words) (λ said. only_if (not said.table) said)

-- `contents ORDERS TRADES` and options
abbrev pub contents_asked : List (List ℕ) → Option DeskRequest
contents_asked words =
    if nat_le 3 (length words) && names_logs words 1 then
    when_some (form_options_in (drop 3 words)) (λ said.
    Some (Whole (Contents (named_logs words 1 said))))
    else None

-- `help`, or `help COMMAND`
abbrev pub help_asked : List (List ℕ) → Option DeskRequest
help_asked words =
    if length words == 1 then Some (Whole (Help None))
    else (if length words == 2 then
    when_some (desk_command_named (nth_word words 1)) (λ about. Some (Whole (Help (Some about))))
    else None)

-- what the words of a command ask for, one row a command; those of `page`, `file`, `file-all` and
-- `check` ask for nothing here, since other calls read them (`desk_page`, `desk_filing`)
abbrev pub desk_asked_by : DeskCommand → List (List ℕ) → Option DeskRequest
desk_asked_by command.Audit words = desk_audit_asked words
desk_asked_by command.Session words = desk_session_asked words
desk_asked_by command.Offences words = offences_in_order words
desk_asked_by command.Page words = None
desk_asked_by command.Digest words = digest_asked words
desk_asked_by command.File words = None
desk_asked_by command.FileAll words = None
desk_asked_by command.Check words = None
desk_asked_by command.Orders words = orders_asked words
desk_asked_by command.Convert words = desk_convert_asked words
desk_asked_by command.Plain words = plain_asked words
desk_asked_by command.Contents words = contents_asked words
desk_asked_by command.Help words = help_asked words

-- a word names a command whose words another call reads (`desk_filing`)
abbrev pub is_filing_word : List ℕ → Bool
is_filing_word word = word_equals word (codes "file") || word_equals word (codes "file-all")
    || word_equals word (codes "check")

-- the first of the words names such a command
abbrev pub asks_filing : List (List ℕ) → Bool
asks_filing words = is_filing_word (nth_word words 0)

-- the first of the words is `page` (`desk_page`)
abbrev pub asks_page : List (List ℕ) → Bool
asks_page words = word_equals (nth_word words 0) (codes "page")

-- what a word asks for that is no command and is the only word: `--help`, as `help`,
-- and `--version`
abbrev pub lone_word_asks : List ℕ → Option DeskRequest
lone_word_asks word = first_answer (only_if (word_equals word (codes "--help"))
    (Whole (Help None))
    ∷ only_if (word_equals word (codes "--version")) (Whole Version) ∷ [])

-- what words ask for whose first names no command
abbrev pub asked_without_command : List (List ℕ) → Option DeskRequest
asked_without_command words =
    if length words == 1 then lone_word_asks (nth_word words 0) else None

-- what words ask for by the command that the first of them names, if it names one
abbrev pub asked_by_first : Option DeskCommand → List (List ℕ) → Option DeskRequest
asked_by_first None words = asked_without_command words
asked_by_first (Some named) words = desk_asked_by named words

-- what words ask for; nothing where they are not well-formed
abbrev pub desk_request_of : List (List ℕ) → Option DeskRequest
desk_request_of words = asked_by_first (desk_command_named (nth_word words 0)) words

-- what the words of a command that makes its whole answer first ask for is a table only of a rule
-- that has one, phases that are those of a day, and the prices of resting orders only where there
-- are such
abbrev pub MayBeAskedWhole : WholeRequest → Type 0
MayBeAskedWhole (Audit rule logs table share checks page) = IsTrue (table_fits_rule table rule)
MayBeAskedWhole (Session phases logs table share checks page) = ArePhases phases
MayBeAskedWhole (Offences rule symbol logs records checks) = IsTrue (checks_fit_rule checks rule)
MayBeAskedWhole (Digest orders trades) = Unit {0}
MayBeAskedWhole (Convert log from path into) = Unit {0}
MayBeAskedWhole (Contents logs) = Unit {0}
MayBeAskedWhole (Help about) = Unit {0}
MayBeAskedWhole Version = Unit {0}

-- what the words of a command that writes early ask for is a log of numbers in their limits, and a
-- word of 1 to 5 bytes from 0x21 to 0x7E in the place of SOH
abbrev pub MayBeAskedEarly : EarlyRequest → Type 0
MayBeAskedEarly (Orders start count form) = IsStart start × IsCount count
MayBeAskedEarly (Plain day dress) = HasSohWord dress

-- what well-formed words ask for may be asked, by when its answer is written
abbrev pub MayBeAskedOfDesk : DeskRequest → Type 0
MayBeAskedOfDesk (Whole request) = MayBeAskedWhole request
MayBeAskedOfDesk (Early request) = MayBeAskedEarly request
