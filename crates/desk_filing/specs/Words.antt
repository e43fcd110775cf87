-- The words of `file`, `file-all` and `check`, and what they ask for.
use Rattle.std.specs.Prelude.{ℕ, Bool, ◌&&◌, ◌+◌, Option, None, Some, List, [], ◌∷◌, codes, drop, length, nat_le, if◌then◌else◌}
use Rattle.audit_base.specs.Least.{first_answer}
use Rattle.command_words.specs.WordForms.{is_path, nth_word, rule_named, symbol_named, word_equals}
use Rattle.command_words.specs.Words.{names_logs, when_some}
use Rattle.desk_words.specs.WordOrder.{marked_at, plain_order, symbol_behind}
use Rattle.desk_words.specs.Words.{named_logs, form_options_in}
use Rattle.desk_filing.specs.declared.requests.FilingCommand.{FilingCommand}
use Rattle.desk_filing.specs.declared.requests.FilingCommand.TheVariants as command
use Rattle.desk_filing.specs.declared.requests.FilingRequest.{FilingRequest}

-- LABEL is a name that does not begin with `-`, and is not the word that stands between two
-- commands of a casebook
abbrev pub label_named : List ℕ → Option (List ℕ)
label_named word = if word_equals word (codes "then") then None else symbol_named word

-- of `file`, RULE and SYMBOL, which may stand behind `--`
abbrev pub file_named : Option ℕ → List (List ℕ) → Option FilingCommand
file_named mark words =
    when_some (rule_named (nth_word words 3)) (λ the_rule.
    when_some (symbol_behind mark (nth_word words 4)) (λ symbol.
    Some (command.File the_rule symbol)))

-- `file-all DATABASE LABEL RULE`, and ORDERS and TRADES behind them
abbrev pub file_all_named : List (List ℕ) → Option FilingCommand
file_all_named words =
    if nat_le 6 (length words) && word_equals (nth_word words 0) (codes "file-all") then
    when_some (rule_named (nth_word words 3)) (λ the_rule. Some (command.FileAll the_rule))
    else None

-- `check DATABASE LABEL`, and ORDERS and TRADES behind them
abbrev pub check_named : List (List ℕ) → Option FilingCommand
check_named words =
    if nat_le 5 (length words) && word_equals (nth_word words 0) (codes "check")
    then Some command.Check else None

-- the command beside `file` that words name
abbrev pub other_named : List (List ℕ) → Option FilingCommand
other_named words = first_answer (file_all_named words ∷ check_named words ∷ [])

-- the index of ORDERS among the words of a command, from 0
abbrev pub index_of_logs : FilingCommand → ℕ
index_of_logs (command.File the_rule symbol) = 5
index_of_logs (command.FileAll the_rule) = 4
index_of_logs command.Check = 3

-- the request for a command: DATABASE, LABEL, the logs at this index, and these words as options: in
-- any order and each at most once, `--orders-form FORM` and `--trades-form FORM`
abbrev pub request_with : FilingCommand → ℕ → List (List ℕ) → List (List ℕ) → Option FilingRequest
request_with the_command index words option_words =
    if is_path (nth_word words 1) && names_logs words index then
    when_some (label_named (nth_word words 2)) (λ label.
    when_some (form_options_in option_words) (λ said.
    Some (record {
      command = the_command;
      database = nth_word words 1;
      label = label;
      logs = named_logs words index said;
    })))
    else None

-- the request for a command whose logs are at this index, and its options behind them
abbrev pub request_for : FilingCommand → ℕ → List (List ℕ) → Option FilingRequest
request_for the_command index words =
    request_with the_command index words (drop (index + 2) words)

-- `file DATABASE LABEL RULE SYMBOL ORDERS TRADES`, and these words as options
abbrev pub file_with : Option ℕ → List (List ℕ) → List (List ℕ) → Option FilingRequest
file_with mark words option_words =
    when_some (file_named mark words) (λ the_command.
    request_with the_command 5 words option_words)

-- `file DATABASE LABEL RULE SYMBOL ORDERS TRADES` and options
abbrev pub file_asked : Option ℕ → List (List ℕ) → Option FilingRequest
file_asked mark words =
    if nat_le 7 (length words) then file_with mark words (drop 7 words) else None

-- the same, or `file OPTIONS -- DATABASE LABEL RULE SYMBOL ORDERS TRADES`
abbrev pub file_in_order : List (List ℕ) → Option FilingRequest
file_in_order words = file_asked (marked_at 6 words) (plain_order 6 words)

-- what the words of `file-all` and `check` ask for
abbrev pub other_asked : List (List ℕ) → Option FilingRequest
other_asked words =
    when_some (other_named words) (λ the_command.
    request_for the_command (index_of_logs the_command) words)

-- the first of the words is `file`
abbrev pub asks_file : List (List ℕ) → Bool
asks_file words = word_equals (nth_word words 0) (codes "file")

-- what words ask for; nothing where they are not well-formed
abbrev pub filing_request_of : List (List ℕ) → Option FilingRequest
filing_request_of words = if asks_file words then file_in_order words else other_asked words
