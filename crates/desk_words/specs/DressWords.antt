-- How the messages of a day are dressed, as the words after DAY say it.
use Rattle.std.specs.Prelude.{ℕ, Bool, true, false, not, ◌&&◌, ◌||◌, Option, None, Some, is_none, is_some, option_map, option_and_then, List, [], ◌∷◌, length, codes, nat_le, if◌then◌else◌, IfSome, IsTrue}
use Rattle.std.specs.List.{list_all}
use Rattle.std.specs.Char.{is_ascii_graphic}
use Rattle.audit_base.specs.Least.{first_answer, only_if}
use Rattle.command_words.specs.WordForms.{word_equals}
use Rattle.desk_words.specs.declared.dress_words.BadMessages.{BadMessages}
use Rattle.desk_words.specs.declared.dress_words.BadMessages.TheVariants.{EndDay, LeftOut, Reported}
use Rattle.desk_words.specs.declared.dress_words.DayDress.{DayDress}
use Rattle.desk_words.specs.declared.dress_words.DayDress.TheVariants.{Framed, OnLines}
use Rattle.desk_words.specs.declared.dress_words.DressOptions.{DressOptions}

-- TEXT is 1 to 5 bytes from 0x21 to 0x7E
abbrev pub is_soh_word : List ℕ → Bool
is_soh_word word =
    nat_le 1 (length word) && nat_le (length word) 5 && list_all is_ascii_graphic word

-- the option that says that each message is on a line
abbrev pub is_lines_option : List ℕ → Bool
is_lines_option word = word_equals word (codes "--lines")

-- what is done with bad messages, as an option says it: `--skip`, or `--bad`
abbrev pub bad_messages_named : List ℕ → Option BadMessages
bad_messages_named word = first_answer (only_if (word_equals word (codes "--skip")) LeftOut
    ∷ only_if (word_equals word (codes "--bad")) Reported ∷ [])

-- What options say of the messages of a day.
pub record SaidOfDay : Type 0 where
  pub lines : Bool
  pub soh : Option (List ℕ)
  pub bad : Option BadMessages

-- the same, as it was read
abbrev pub said_of_day : DressOptions → SaidOfDay
said_of_day said =
    record { lines = said.lines; soh = option_map (λ text. text.now) said.soh; bad = said.bad }

-- nothing is said by options
abbrev pub nothing_said : SaidOfDay
nothing_said = record { lines = false; soh = None; bad = None }

-- the options that have no value
unfoldable pub is_lone_dress_option : List ℕ → Bool
is_lone_dress_option word = is_lines_option word || is_some (bad_messages_named word)

-- what is said with `--lines` too, which was not said before
abbrev pub with_lines : SaidOfDay → Option SaidOfDay
with_lines said = only_if (not said.lines) (record said { lines = true })

-- what is said with `--skip` or `--bad` too, where neither was said before
abbrev pub with_bad_messages : List ℕ → SaidOfDay → Option SaidOfDay
with_bad_messages word said =
    if is_none said.bad
    then option_map (λ bad. record said { bad = Some bad }) (bad_messages_named word)
    else None

-- what is said with an option that has no value too
unfoldable pub with_lone_dress_option : List ℕ → SaidOfDay → Option SaidOfDay
with_lone_dress_option word said =
    if is_lines_option word then with_lines said else with_bad_messages word said

-- what is said with `--soh TEXT` too, where no text was given before
abbrev pub with_soh : List ℕ → List ℕ → SaidOfDay → Option SaidOfDay
with_soh word text said =
    only_if (word_equals word (codes "--soh") && is_soh_word text && is_none said.soh)
    (record said { soh = Some text })

-- what these words say as options of `plain`, or nothing where a word is no option, a value is
-- missing, an option is given twice, or `--skip` with `--bad`
abbrev pub said_in : List (List ℕ) → Option SaidOfDay
said_in [] = Some nothing_said
said_in (word ∷ []) =
    if is_lone_dress_option word then with_lone_dress_option word nothing_said else None
said_in (word ∷ value ∷ rest) =
    if is_lone_dress_option word
    then option_and_then (with_lone_dress_option word) (said_in (value ∷ rest))
    else option_and_then (with_soh word value) (said_in rest)

-- the first bad message ends the day, where nothing else is said
abbrev pub or_ends_day : Option BadMessages → BadMessages
or_ends_day None = EndDay
or_ends_day (Some bad) = bad

-- how a day is dressed by what is said of it: the other options are given with `--lines` alone
abbrev pub dress_said : SaidOfDay → Option DayDress
dress_said said =
    if said.lines then Some (OnLines said.soh (or_ends_day said.bad))
    else only_if (is_none said.soh && is_none said.bad) Framed

-- how a day is dressed, by the words after DAY
abbrev pub dress_named : List (List ℕ) → Option DayDress
dress_named words = option_and_then dress_said (said_in words)

-- where a word is given for SOH, it is 1 to 5 bytes from 0x21 to 0x7E
abbrev pub IsSohWordIfGiven : Option (List ℕ) → Type 0
IsSohWordIfGiven soh = IfSome soh (λ text. IsTrue (is_soh_word text))

-- where a word stands for SOH, it is such a one
abbrev pub HasSohWord : DayDress → Type 0
HasSohWord Framed = Unit {0}
HasSohWord (OnLines soh bad) = IsSohWordIfGiven soh
