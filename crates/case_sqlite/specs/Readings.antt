-- What rows say, column by column.
use Rattle.std.specs.Prelude.{ℕ, ◌==◌, ◌&&◌, ◌^◌, ℤ, pos, negsuc, nat_lt, find, Bool, not, List, [], ◌∷◌, length, Option, None, Some, Result, Ok, Err, option_map, option_and_then, if◌then◌else◌}
use Rattle.std.specs.Option.{ok_or}
use Rattle.audit_base.specs.Least.{only_if}
use Rattle.audit_base.specs.Names.{name_form}
use Rattle.audit_base.specs.declared.findings.Property.{Property}
use Rattle.audit_base.specs.declared.findings.Property.TheVariants as property
use Rattle.audit_base.specs.declared.terms.Rule.{Rule}
use Rattle.audit_base.specs.declared.terms.Rule.TheVariants as rule
use Rattle.audit_base.specs.declared.terms.Which.{Which}
use Rattle.audit_base.specs.declared.terms.Which.TheVariants as log
use Rattle.case_keeper.specs.declared.case.Case.{Case}
use Rattle.case_keeper.specs.declared.case.Offence.{Offence}
use Rattle.case_keeper.specs.declared.keeper.KeepFault.{KeepFault}
use Rattle.case_keeper.specs.declared.keeper.KeepFault.TheVariants.{Failed}
use Rattle.sqlite_value.specs.Order.{Row, column}
use Rattle.sqlite_value.specs.declared.value.Value.{Value}
use Rattle.sqlite_value.specs.declared.value.Value.TheVariants.{Null, Int, Real, Text, Blob}
use Rattle.case_sqlite.specs.Codes.{rule_number, property_number, log_number}

-- all rules
abbrev pub all_rules : List Rule
all_rules = rule.Matching ∷ rule.Fair ∷ rule.Uniform ∷ rule.Maximum ∷ rule.Continuous ∷ []

-- all properties
abbrev pub all_properties : List Property
all_properties = property.DuplicateId ∷ property.TimeBack ∷ property.UnknownTarget
    ∷ property.Unpaired ∷ property.DuplicateTrade ∷ property.UnknownOrder ∷ property.Inactive
    ∷ property.Limit ∷ property.UniformPrice ∷ property.BuyQuantity ∷ property.SellQuantity
    ∷ property.BuyPriority ∷ property.SellPriority ∷ property.Volume ∷ property.Spread
    ∷ property.InstantOrder ∷ []

-- both logs
abbrev pub all_logs : List Which
all_logs = log.Orders ∷ log.Trades ∷ []

-- the rule with this number
abbrev pub rule_of_number : ℕ → Option Rule
rule_of_number n = find (λ r. rule_number r == n) all_rules

-- the property with this number
abbrev pub property_of_number : ℕ → Option Property
property_of_number n = find (λ p. property_number p == n) all_properties

-- the log with this number
abbrev pub log_of_number : ℕ → Option Which
log_of_number n = find (λ w. log_number w == n) all_logs

-- the number of 32 bits that an integer is
abbrev pub small_number : ℤ → Option ℕ
small_number (pos n) = only_if (nat_lt n (2 ^ 32)) n
small_number (negsuc n) = None

-- the number of 32 bits in a column
abbrev pub number_in_column : Value → Option ℕ
number_in_column (Int n) = small_number n
number_in_column Null = None
number_in_column (Real x) = None
number_in_column (Text t) = None
number_in_column (Blob b) = None

-- the name in a column
abbrev pub name_in_column : Value → Option (List ℕ)
name_in_column (Text t) = name_form t
name_in_column Null = None
name_in_column (Int n) = None
name_in_column (Real x) = None
name_in_column (Blob b) = None

-- the offence of a property, a log and a place
abbrev pub offence_of_numbers : ℕ → ℕ → ℕ → Option Offence
offence_of_numbers property log place =
    option_and_then (λ p. option_and_then
    (λ w. only_if (not (place == 0)) (record { property = p; log = w; place = place }))
    (log_of_number log)) (property_of_number property)

-- what three numbers say of an offence: that there is none, or which it is
abbrev pub offence_form : ℕ → ℕ → ℕ → Option (Option Offence)
offence_form property log place =
    if property == 0 && log == 0 && place == 0 then Some None
    else option_map Some (offence_of_numbers property log place)

-- the offence in columns 3 to 5
abbrev pub offence_in_row : Row → Option (Option Offence)
offence_in_row row =
    option_and_then (λ p. option_and_then (λ w.
    option_and_then (offence_form p w) (number_in_column (column row 5)))
    (number_in_column (column row 4))) (number_in_column (column row 3))

-- the rule in column 1
abbrev pub rule_in_row : Row → Option Rule
rule_in_row row = option_and_then rule_of_number (number_in_column (column row 1))

-- the case in the first six columns
abbrev pub case_in_columns : Row → Option Case
case_in_columns row =
    option_and_then (λ label. option_and_then (λ rule. option_and_then (λ symbol. option_map
    (λ offence. record { label = label; rule = rule; symbol = symbol; offence = offence })
    (offence_in_row row))
    (name_in_column (column row 2))) (rule_in_row row)) (name_in_column (column row 0))

-- the case in a row of exactly six columns
abbrev pub case_form : Row → Option Case
case_form row = if length row == 6 then case_in_columns row else None

-- the case in a row of six columns, if it passes a test
abbrev pub case_that : (Case → Bool) → Row → Option Case
case_that test row = option_and_then (λ case. only_if (test case) case) (case_form row)

-- the cases in the rows, if each row has one that passes a test
abbrev pub cases_that : (Case → Bool) → List Row → Option (List Case)
cases_that test [] = Some []
cases_that test (row ∷ rows) =
    option_and_then (λ case. option_map (λ cases. case ∷ cases) (cases_that test rows))
    (case_that test row)

-- what the rows with a label say: no case where there is none, the case of the one row, and
-- else it is a failure
abbrev pub one_case_that : (Case → Bool) → List Row → Result (Option Case) KeepFault
one_case_that test [] = Ok None
one_case_that test (row ∷ []) = ok_or (option_map Some (case_that test row)) Failed
one_case_that test (row ∷ next ∷ rows) = Err Failed
