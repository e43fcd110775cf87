-- The words of `page`, and what they ask for.
use Rattle.std.specs.Prelude.{ℕ, ◌&&◌, Option, None, Some, List, codes, drop, length, nat_le, if◌then◌else◌}
use Rattle.command_words.specs.WordForms.{nth_word, rule_named, symbol_named, word_equals}
use Rattle.command_words.specs.Words.{names_logs, when_some}
use Rattle.desk_words.specs.Words.{named_logs, form_options_in}
use Rattle.desk_page.specs.declared.requests.PageRequest.{PageRequest}
use Rattle.desk_page.specs.declared.words.PageWords.{PageWords}

-- RULE, SYMBOL, and what the words behind both logs say as options
abbrev pub page_words : List (List ℕ) → Option PageWords
page_words words =
    when_some (rule_named (nth_word words 1)) (λ the_rule.
    when_some (symbol_named (nth_word words 2)) (λ symbol.
    when_some (form_options_in (drop 5 words)) (λ said.
    Some (record { rule = the_rule; symbol = symbol; said = said }))))

-- what the words behind `page` ask for, of which there are four or more
abbrev pub request_behind : List (List ℕ) → Option PageRequest
request_behind words =
    if names_logs words 3 then
    when_some (page_words words) (λ asked.
    Some (record { rule = asked.rule; symbol = asked.symbol; logs = named_logs words 3 asked.said }))
    else None

-- `page RULE SYMBOL ORDERS TRADES`, and behind them, in any order and each at most once,
-- `--orders-form FORM` and `--trades-form FORM`; nothing where the words are not well-formed
abbrev pub page_request_of : List (List ℕ) → Option PageRequest
page_request_of words =
    if nat_le 5 (length words) && word_equals (nth_word words 0) (codes "page")
    then request_behind words else None
