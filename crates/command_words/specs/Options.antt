-- The options of a command. They follow its positional words, in any order, each at most once,
-- and the value of an option is the next word.
use Rattle.std.specs.Prelude.{ℕ, Bool, true, false, not, Option, None, Some, is_none, option_and_then, unwrap_or, List, [], ◌∷◌, codes, if◌then◌else◌}
use Rattle.audit_base.specs.Least.{only_if}
use Rattle.audit_base.specs.declared.terms.Form.{Form}
use Rattle.audit_base.specs.declared.terms.Form.TheVariants.{Csv}
use Rattle.command_words.specs.declared.options.Options.{Options}
use Rattle.command_words.specs.WordForms.{form_named, word_equals}

-- nothing is said by options
abbrev pub no_options : Options
no_options = record { orders_form = None; trades_form = None; table = false }

-- a form that is not given is csv
abbrev pub or_csv : Option Form → Form
or_csv form = unwrap_or form Csv

-- what is said with `--table` too, which was not said before
abbrev pub with_table : Options → Option Options
with_table said = only_if (not said.table) (record said { table = true })

-- what is said with the form of the order log too, where none was given before
abbrev pub with_orders_form : Options → Form → Option Options
with_orders_form said form =
    only_if (is_none said.orders_form) (record said { orders_form = Some form })

-- what is said with the form of the trade log too, where none was given before
abbrev pub with_trades_form : Options → Form → Option Options
with_trades_form said form =
    only_if (is_none said.trades_form) (record said { trades_form = Some form })

-- `--table` has no value
abbrev pub is_table_option : List ℕ → Bool
is_table_option word = word_equals word (codes "--table")

-- the other options, `--orders-form` and `--trades-form`, have a form as value
abbrev pub with_form_option : List ℕ → List ℕ → Options → Option Options
with_form_option word value said =
    if word_equals word (codes "--orders-form")
    then option_and_then (with_orders_form said) (form_named value)
    else (if word_equals word (codes "--trades-form")
    then option_and_then (with_trades_form said) (form_named value)
    else None)

-- what these words say as options, or nothing where a word is no option, a value is missing, or
-- an option is given twice
abbrev pub options_in : List (List ℕ) → Option Options
options_in [] = Some no_options
options_in (word ∷ []) = if is_table_option word then with_table no_options else None
options_in (word ∷ value ∷ rest) =
    if is_table_option word then option_and_then with_table (options_in (value ∷ rest))
    else option_and_then (with_form_option word value) (options_in rest)
