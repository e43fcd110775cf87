-- The words of the commands that write logs: `orders`, which generates one, and `convert`.
use Rattle.std.specs.Prelude.{ℕ, ◌==◌, ◌&&◌, Option, None, Some, List, length, drop, codes, nat_le, if◌then◌else◌}
use Rattle.audit_base.specs.declared.terms.Form.{Form}
use Rattle.audit_base.specs.declared.terms.Form.TheVariants.{Csv}
use Rattle.command_words.specs.WordForms.{form_named, is_path, log_named, nth_word, number_upto, word_equals}
use Rattle.command_words.specs.Words.{when_some}
use Rattle.desk_words.specs.declared.requests.DeskRequest.{DeskRequest}
use Rattle.desk_words.specs.declared.requests.DeskRequest.TheVariants.{Early, Whole}
use Rattle.desk_words.specs.declared.requests.EarlyRequest.TheVariants.{Orders}
use Rattle.desk_words.specs.declared.requests.WholeRequest.TheVariants.{Convert}

-- the form that a log is to be written in, by the words after all others: csv where there are
-- none, or that of `--form FORM`
abbrev pub form_option_in : List (List ℕ) → Option Form
form_option_in words =
    if length words == 0 then Some Csv
    else (if length words == 2 && word_equals (nth_word words 0) (codes "--form")
    then form_named (nth_word words 1) else None)

-- `orders START COUNT` and an option, START from 1 to 2,147,483,646 and COUNT from 1 to 1,000,000
abbrev pub orders_asked : List (List ℕ) → Option DeskRequest
orders_asked words =
    if nat_le 3 (length words) then
    when_some (number_upto 2147483646 (nth_word words 1)) (λ start.
    when_some (number_upto 1000000 (nth_word words 2)) (λ count.
    when_some (form_option_in (drop 3 words)) (λ form. Some (Early (Orders start count form)))))
    else None

-- `convert LOG FORM PATH FORM`: the form of the log that is read, its path, and the form that it
-- is written in
abbrev pub desk_convert_asked : List (List ℕ) → Option DeskRequest
desk_convert_asked words =
    if length words == 5 && is_path (nth_word words 3) then
    when_some (log_named (nth_word words 1)) (λ log.
    when_some (form_named (nth_word words 2)) (λ from.
    when_some (form_named (nth_word words 4)) (λ into.
    Some (Whole (Convert log from (nth_word words 3) into)))))
    else None
