-- What `desk` writes for words alone: how its command line is used, what each command does, and
-- which version it is. Each line ends with LF, whose code is 10.
use Rattle.std.specs.Prelude.{ℕ, Option, None, Some, List, [], ◌∷◌, ◌++◌, codes}
use Rattle.desk_words.specs.declared.commands.DeskCommand.{DeskCommand}
use Rattle.desk_words.specs.declared.commands.DeskCommand.TheVariants as command

-- how the command line is used
abbrev pub desk_usage_line : List ℕ
desk_usage_line = codes "usage: audit RULE ORDERS TRADES"
    ++ codes " | session PHASES ORDERS TRADES"
    ++ codes " | offences RULE SYMBOL ORDERS TRADES"
    ++ codes " | page RULE SYMBOL ORDERS TRADES" ++ codes " | digest ORDERS TRADES"
    ++ codes " | file DATABASE LABEL RULE SYMBOL ORDERS TRADES"
    ++ codes " | file-all DATABASE LABEL RULE ORDERS TRADES"
    ++ codes " | check DATABASE LABEL ORDERS TRADES"
    ++ codes " | orders START COUNT" ++ codes " | convert orders|trades csv|fix PATH csv|fix"
    ++ codes " | plain DAY" ++ codes " | contents ORDERS TRADES" ++ codes " | help [COMMAND]"
    ++ 10 ∷ []

-- these lines, each with its end
abbrev pub text_of_lines : List (List ℕ) → List ℕ
text_of_lines [] = []
text_of_lines (line ∷ lines) = line ++ 10 ∷ text_of_lines lines

-- what `audit` does, with its words, its options and an example
unfoldable pub audit_help : List ℕ
audit_help = text_of_lines (
    codes "audit RULE ORDERS TRADES"
    ∷ codes "    Judges the trades of each symbol of a day by a rule. Writes how many symbols are"
    ∷ codes "    accepted and rejected, then each symbol's report, the symbol before each line."
    ∷ codes "    RULE                matching, fair, uniform, maximum or continuous"
    ∷ codes "    ORDERS              the path of the order log"
    ∷ codes "    TRADES              the path of the trade log"
    ∷ codes "    --orders-form FORM  the form of the order log: csv, as without it, or fix"
    ∷ codes "    --trades-form FORM  the form of the trade log: csv, as without it, or fix"
    ∷ codes "    --table             adds what each order of an accepted symbol traded, or, under"
    ∷ codes "                        continuous, each pair of orders; not with matching or fair"
    ∷ codes "    --share K/N         judges only the symbols with the numbers K, K + N, K + 2N and"
    ∷ codes "                        so on, counted from 1 as they appear; 1 <= K <= N <= 65536"
    ∷ codes "    --trade-times       rejects an accepted symbol at its first trade that is earlier than"
    ∷ codes "                        the record of its bid or of its ask"
    ∷ codes "    --resting-price     rejects it at its first trade with another price than the limit of"
    ∷ codes "                        the order that came first; only with continuous"
    ∷ codes "    --page              writes all of it as one HTML page, a row for each symbol; not with"
    ∷ codes "                        --table"
    ∷ codes "    Example: desk audit uniform orders.csv trades.csv --share 1/4"
    ∷ [])

-- what `session` does, with its words, its options and an example
unfoldable pub session_help : List ℕ
session_help = text_of_lines (
    codes "session PHASES ORDERS TRADES"
    ∷ codes "    Judges the trades of each symbol by the phases of a day. Writes how many symbols"
    ∷ codes "    are accepted and rejected, then each symbol's report, the symbol before each line."
    ∷ codes "    PHASES              1 to 64 parts KIND@FIRST, joined by commas: KIND is uniform,"
    ∷ codes "                        maximum or continuous, and FIRST the place of the order record"
    ∷ codes "                        with which the phase begins; the first is 1, and they rise"
    ∷ codes "    ORDERS              the path of the order log"
    ∷ codes "    TRADES              the path of the trade log"
    ∷ codes "    --orders-form FORM  the form of the order log: csv, as without it, or fix"
    ∷ codes "    --trades-form FORM  the form of the trade log: csv, as without it, or fix"
    ∷ codes "    --table             adds what each order of an accepted symbol traded over the day"
    ∷ codes "    --share K/N         judges only the symbols with the numbers K, K + N, K + 2N and"
    ∷ codes "                        so on, counted from 1 as they appear; 1 <= K <= N <= 65536"
    ∷ codes "    --trade-times       rejects an accepted symbol at its first trade that is earlier than"
    ∷ codes "                        the record of its bid or of its ask"
    ∷ codes "    --page              writes all of it as one HTML page, a row for each symbol; not with"
    ∷ codes "                        --table"
    ∷ codes "    Example: desk session uniform@1,continuous@5001 orders.csv trades.csv"
    ∷ [])

-- what `offences` does, with its words, its options and an example
unfoldable pub offences_help : List ℕ
offences_help = text_of_lines (
    codes "offences RULE SYMBOL ORDERS TRADES"
    ∷ codes "    Judges the trades of one symbol by a rule, and writes the report of an audit. Where"
    ∷ codes "    it is rejected, a line follows for each offence, and one with their number."
    ∷ codes "    RULE                matching, fair, uniform, maximum or continuous"
    ∷ codes "    SYMBOL              the symbol, as the logs have it; where it begins with -, options"
    ∷ codes "                        stand before the other words, and -- between them"
    ∷ codes "    ORDERS              the path of the order log"
    ∷ codes "    TRADES              the path of the trade log"
    ∷ codes "    --orders-form FORM  the form of the order log: csv, as without it, or fix"
    ∷ codes "    --trades-form FORM  the form of the trade log: csv, as without it, or fix"
    ∷ codes "    --records           writes behind each offence the records that it is about, as CSV"
    ∷ codes "    --resting-price     with continuous, where the rule accepts: tells each trade whose"
    ∷ codes "                        price is not the limit of its resting order"
    ∷ codes "    --trade-times       where the rule accepts: tells each trade that is earlier than"
    ∷ codes "                        the record of one of its orders"
    ∷ codes "    Example: desk offences continuous Z orders.csv trades.csv --records"
    ∷ [])

-- what `page` does, with its words, its options and an example
unfoldable pub page_help : List ℕ
page_help = text_of_lines (
    codes "page RULE SYMBOL ORDERS TRADES"
    ∷ codes "    Judges the trades of one symbol by a rule, and writes the verdict as one HTML page:"
    ∷ codes "    the answer, what shows it, the picture of the rule, how to see it again, and the"
    ∷ codes "    SHA-256 digest of each log."
    ∷ codes "    RULE                matching, fair, uniform, maximum or continuous"
    ∷ codes "    SYMBOL              the symbol, as the logs have it"
    ∷ codes "    ORDERS              the path of the order log"
    ∷ codes "    TRADES              the path of the trade log"
    ∷ codes "    --orders-form FORM  the form of the order log: csv, as without it, or fix"
    ∷ codes "    --trades-form FORM  the form of the trade log: csv, as without it, or fix"
    ∷ codes "    Example: desk page uniform Z orders.csv trades.csv >Z.html"
    ∷ [])

-- what `digest` does, with its words and an example
unfoldable pub digest_help : List ℕ
digest_help = text_of_lines (
    codes "digest ORDERS TRADES"
    ∷ codes "    Writes the SHA-256 digest of each log, whatever is in it, in the 64 hexadecimal"
    ∷ codes "    digits that sha256sum writes of the same file. By these a copy of a log can be"
    ∷ codes "    compared with the log that was judged. No record is read, and no log is kept."
    ∷ codes "    ORDERS              the path of the order log"
    ∷ codes "    TRADES              the path of the trade log"
    ∷ codes "    Example: desk digest orders.csv trades.csv"
    ∷ [])

-- what `file` does, with its words, its options and an example
unfoldable pub file_help : List ℕ
file_help = text_of_lines (
    codes "file DATABASE LABEL RULE SYMBOL ORDERS TRADES"
    ∷ codes "    Files the verdict of a rule on a symbol under a label, with the SHA-256 digests of"
    ∷ codes "    both logs, and writes its line. Where the label has a case, known and that case's"
    ∷ codes "    line are written, and nothing is filed; of a symbol that is in neither log, absent"
    ∷ codes "    and the symbol are."
    ∷ codes "    DATABASE            the path of the database; it is made if it is not there"
    ∷ codes "    LABEL               the label: 1 to 64 bytes, not begun by -, and not the word then"
    ∷ codes "    RULE                matching, fair, uniform, maximum or continuous"
    ∷ codes "    SYMBOL              the symbol; where it begins with -, options stand before the"
    ∷ codes "                        other words, and -- between them"
    ∷ codes "    ORDERS              the path of the order log"
    ∷ codes "    TRADES              the path of the trade log"
    ∷ codes "    --orders-form FORM  the form of the order log: csv, as without it, or fix"
    ∷ codes "    --trades-form FORM  the form of the trade log: csv, as without it, or fix"
    ∷ codes "    Example: desk file cases.db c1 uniform Z orders.csv trades.csv"
    ∷ [])

-- what `file-all` does, with its words, its options and an example
unfoldable pub file_all_help : List ℕ
file_all_help = text_of_lines (
    codes "file-all DATABASE LABEL RULE ORDERS TRADES"
    ∷ codes "    Files the verdict of a rule on each symbol of a day, under LABEL/SYMBOL, as file"
    ∷ codes "    does, and writes their lines: all of them, or none where one of the labels has a"
    ∷ codes "    case or would have more than 64 bytes (longlabel)."
    ∷ codes "    DATABASE            the path of the database; it is made if it is not there"
    ∷ codes "    LABEL               what the labels begin with, as a label of file"
    ∷ codes "    RULE                matching, fair, uniform, maximum or continuous"
    ∷ codes "    ORDERS              the path of the order log"
    ∷ codes "    TRADES              the path of the trade log"
    ∷ codes "    --orders-form FORM  the form of the order log: csv, as without it, or fix"
    ∷ codes "    --trades-form FORM  the form of the trade log: csv, as without it, or fix"
    ∷ codes "    Example: desk file-all cases.db 2024-01-02 uniform orders.csv trades.csv"
    ∷ [])

-- what `check` does, with its words, its options and an example
unfoldable pub check_help : List ℕ
check_help = text_of_lines (
    codes "check DATABASE LABEL ORDERS TRADES"
    ∷ codes "    Audits two logs by the rule and on the symbol of a case, and tells whether they are"
    ∷ codes "    its logs: same, or differs with the first of orders, trades and verdict that does."
    ∷ codes "    nodigest is a case that was filed by casebook, and nocase a label that has none."
    ∷ codes "    Each log is read twice, so it must be in a file."
    ∷ codes "    DATABASE            the path of the database; none is made"
    ∷ codes "    LABEL               the label of the case"
    ∷ codes "    ORDERS              the path of the order log"
    ∷ codes "    TRADES              the path of the trade log"
    ∷ codes "    --orders-form FORM  the form of the order log: csv, as without it, or fix"
    ∷ codes "    --trades-form FORM  the form of the trade log: csv, as without it, or fix"
    ∷ codes "    Example: desk check cases.db c1 orders.csv trades.csv"
    ∷ [])

-- what `orders` does, with its words, its option and an example
unfoldable pub orders_help : List ℕ
orders_help = text_of_lines (
    codes "orders START COUNT"
    ∷ codes "    Writes a generated order log of one symbol, GEN, the same at each run, to feed an"
    ∷ codes "    engine with and to audit the trades that come out. Each tenth record is a cancel,"
    ∷ codes "    every other one an order with a limit. No log is read."
    ∷ codes "    START        from 1 to 2147483646: where the generator begins"
    ∷ codes "    COUNT        how many records, from 1 to 1000000"
    ∷ codes "    --form FORM  the form of the log: csv, as without it, or fix"
    ∷ codes "    Example: desk orders 7 100000 >orders.csv"
    ∷ [])

-- what `convert` does, with its words and an example
unfoldable pub convert_help : List ℕ
convert_help = text_of_lines (
    codes "convert orders|trades csv|fix PATH csv|fix"
    ∷ codes "    Writes the records of a log in the second form: canonical CSV, or FIX messages. What"
    ∷ codes "    is written has the same records, so it has the same verdicts."
    ∷ codes "    orders|trades  which log it is"
    ∷ codes "    csv|fix        the form of the log, and behind PATH the form to write it in"
    ∷ codes "    PATH           the path of the log"
    ∷ codes "    Example: desk convert trades csv trades.csv fix >trades.fix"
    ∷ [])

-- what `plain` does, with its word, its options and an example
unfoldable pub plain_help : List ℕ
plain_help = text_of_lines (
    codes "plain DAY"
    ∷ codes "    Writes the messages of a day as a FIX log that the other commands read: the same"
    ∷ codes "    bodies in the same order, one on a line, each as FIX.4.4 with a length and a"
    ∷ codes "    checksum of its own. What a message means is not read."
    ∷ codes "    DAY                 the path of the day: FIX 4.0 to 4.4 or FIXT 1.1, one message"
    ∷ codes "                        right after another"
    ∷ codes "    --lines             finds the messages on lines, behind anything, from 8=FIX on;"
    ∷ codes "                        lines without a message are passed over"
    ∷ codes "    --soh TEXT          with --lines: TEXT, 1 to 5 bytes from 0x21 to 0x7E, is for SOH"
    ∷ codes "    --skip              with --lines: leaves bad messages out, each with the rest of its"
    ∷ codes "                        line, where else the first of them ends the day"
    ∷ codes "    --bad               with --lines: writes where the bad messages are and why, how many"
    ∷ codes "                        there are, and how many messages in all; not with --skip"
    ∷ codes "    Example: desk plain day.log --lines --soh '|' >orders.fix"
    ∷ [])

-- what `contents` does, with its words, its options and an example
unfoldable pub contents_help : List ℕ
contents_help = text_of_lines (
    codes "contents ORDERS TRADES"
    ∷ codes "    Writes how many messages or records of each kind each log has, those that are"
    ∷ codes "    passed over too, with why. Then which were passed over though they change what of"
    ∷ codes "    an order may trade, how many symbols there are, and from when to when records are."
    ∷ codes "    ORDERS              the path of the order log"
    ∷ codes "    TRADES              the path of the trade log"
    ∷ codes "    --orders-form FORM  the form of the order log: csv, as without it, or fix"
    ∷ codes "    --trades-form FORM  the form of the trade log: csv, as without it, or fix"
    ∷ codes "    Example: desk contents orders.fix trades.fix --orders-form fix --trades-form fix"
    ∷ [])

-- what `help` does, with its word and an example
unfoldable pub help_help : List ℕ
help_help = text_of_lines (
    codes "help [COMMAND]"
    ∷ codes "    Writes what each command does, or what COMMAND does: audit, session, offences,"
    ∷ codes "    page, digest, file, file-all, check, orders, convert, plain, contents or help."
    ∷ codes "    --help alone does as help, and --version writes the version of the program and the"
    ∷ codes "    kit that it is proved with."
    ∷ codes "    Example: desk help audit"
    ∷ [])

-- what a command does
abbrev pub command_help : DeskCommand → List ℕ
command_help command.Audit = audit_help
command_help command.Session = session_help
command_help command.Offences = offences_help
command_help command.Page = page_help
command_help command.Digest = digest_help
command_help command.File = file_help
command_help command.FileAll = file_all_help
command_help command.Check = check_help
command_help command.Orders = orders_help
command_help command.Convert = convert_help
command_help command.Plain = plain_help
command_help command.Contents = contents_help
command_help command.Help = help_help

-- what each command about logs and cases does, with an empty line between two
abbrev pub judging_help : List ℕ
judging_help = audit_help ++ 10 ∷ session_help ++ 10 ∷ offences_help ++ 10 ∷ page_help
    ++ 10 ∷ digest_help ++ 10 ∷ file_help ++ 10 ∷ file_all_help ++ 10 ∷ check_help

-- the same of each command that writes or reads logs, and judges none, and of `help`
abbrev pub log_help : List ℕ
log_help = orders_help ++ 10 ∷ convert_help ++ 10 ∷ plain_help ++ 10 ∷ contents_help
    ++ 10 ∷ help_help

-- what each command does, with an empty line between two
abbrev pub whole_help : List ℕ
whole_help = judging_help ++ 10 ∷ log_help

-- what is written for `help`, or for `help` and a command
abbrev pub help_text : Option DeskCommand → List ℕ
help_text None = whole_help
help_text (Some about) = command_help about

-- the version of the program, and the line of the kit that it is proved with
abbrev pub version_text : List ℕ
version_text = text_of_lines (
    codes "desk (Mekdrox) 1.0.0"
    ∷ codes "rattle-kit-13f logic dac8208d650f15bf"
    ∷ [])
