-- How a verdict is seen again: the words of `desk offences` for its question, and the digests.
use Rattle.std.specs.Prelude.{ℕ, List, [], ◌∷◌, ◌++◌, codes}
use Rattle.std.specs.List.{flat_map}
use Rattle.audit_base.specs.declared.terms.Form.{Form}
use Rattle.audit_base.specs.declared.terms.Form.TheVariants.{Csv, Fix}
use Rattle.audit_base.specs.Words.{rule_word}
use Rattle.page_markup.specs.declared.words.Tag.TheVariants as tag
use Rattle.page_parts.specs.Elements.{text_element}
use Rattle.page_parts.specs.declared.repeats.PageLogs.{PageLogs}
use Rattle.page_parts.specs.declared.sentences.VerdictInWords.{VerdictInWords}
use Rattle.page_parts.specs.ShellWords.{next_word}

-- the words of the option that names the form of a log, which CSV needs not
abbrev pub form_option : List ℕ → Form → List (List ℕ)
form_option option Csv = []
form_option option Fix = option ∷ codes "fix" ∷ []

-- the options of both logs
abbrev pub form_options : PageLogs → List (List ℕ)
form_options logs = form_option (codes "--orders-form") logs.orders_form
    ++ form_option (codes "--trades-form") logs.trades_form

-- the words that ask `desk` for the verdict, with the offences of a log that it rejects
abbrev pub command_words : VerdictInWords → PageLogs → List (List ℕ)
command_words said logs = codes "offences" ∷ rule_word said.rule ∷ said.symbol ∷ logs.orders.now
    ∷ logs.trades.now ∷ form_options logs

-- a command of `desk` as it is typed into a shell
abbrev pub typed_command : List (List ℕ) → List ℕ
typed_command words = codes "desk" ++ flat_map next_word words

-- the command that gives the verdict
abbrev pub command_text : VerdictInWords → PageLogs → List ℕ
command_text said logs = typed_command (command_words said logs)

-- the digest of a log behind its name
abbrev pub digest_part : List ℕ → List ℕ → List ℕ
digest_part words digits = text_element tag.Paragraph words ++ text_element tag.Code digits

-- how the verdict is seen again
abbrev pub repeat_text : VerdictInWords → PageLogs → List ℕ
repeat_text said logs = text_element tag.Code (command_text said logs)
    ++ digest_part (codes "SHA-256 of the order log") logs.orders_digest.now
    ++ digest_part (codes "SHA-256 of the trade log") logs.trades_digest.now
