-- What a statement that was committed, or rows that were shown, are by other names.
use Rattle.std.proofs.Common.{◌≡◌, List, [], ◌∷◌, map, Ok, Err, Some, None, refl, ap, ap₂, ◌∙◌, subst}
use Rattle.std.specs.Prelude.{Result, OnOk, OnErr, IfOk}
use Rattle.case_keeper.specs.declared.case.Case.{Case}
use Rattle.case_keeper.specs.declared.case.Filter.{Filter}
use Rattle.case_keeper.specs.declared.case.Mark.TheVariants.{Accepted, Broken}
use Rattle.sqlite.specs.Values.{bound, bound_value}
use Rattle.sqlite_value.specs.Value.{owned}
use Rattle.sqlite_value.specs.declared.value.Value.TheVariants.{Text}
use Rattle.sqlite_value.specs.declared.value.ValueRef.{ValueRef}
use Rattle.case_sqlite.specs.CaseRows.{case_columns, offence_columns, integer_value}
use Rattle.case_sqlite.specs.Codes.{rule_number}
use Rattle.case_sqlite.specs.Statements.{symbol_value, property_value, filter_values}

pub on_ok_then : {T E P Q : Type 0} (result : Result T E) → OnOk result P → (P → Q) → OnOk result Q
on_ok_then (Ok x) h f = f h
on_ok_then (Err e) h f = tt

pub on_err_then : {T E P Q : Type 0} (result : Result T E) → OnErr result P → (P → Q) → OnErr result Q
on_err_then (Ok x) h f = tt
on_err_then (Err e) h f = f h

-- what holds of a value holds of the value that it is
pub moved : {X : Type 0} (P : X → Type 0) (a b : X) → a ≡ b → P a → P b
moved P a b same h = subst P same h

-- the values that are bound are those of the list
bound_owned : (values : List ValueRef) → bound values ≡ map bound_value (map owned values)
bound_owned [] = refl
bound_owned (v ∷ vs) = ap (λ rest. bound_value (owned v) ∷ rest) (bound_owned vs)

-- the columns of a case are bound as they are
case_bound : (case : Case) → map bound_value (case_columns case) ≡ case_columns case
case_bound case = ap (λ rest. Text case.label ∷ integer_value (rule_number case.rule) ∷ Text case.symbol ∷ rest) (offence case.offence)
  where
    offence : (o : _) → map bound_value (offence_columns o) ≡ offence_columns o
    offence None = refl
    offence (Some o) = refl

pub bound_columns : (values : List ValueRef) (case : Case) → map owned values ≡ case_columns case → bound values ≡ case_columns case
bound_columns values case is = bound_owned values ∙ ap (map bound_value) is ∙ case_bound case

-- and so are the values of a filter
symbol_bound : (wanted : Filter) → bound_value (symbol_value wanted) ≡ symbol_value wanted
symbol_bound wanted = named wanted.symbol
  where
    named : (symbol : _) → bound_value (symbol_value (record wanted { symbol = symbol })) ≡ symbol_value (record wanted { symbol = symbol })
    named None = refl
    named (Some symbol) = refl

property_bound : (wanted : Filter) → bound_value (property_value wanted) ≡ property_value wanted
property_bound wanted = marked wanted.mark
  where
    marked : (mark : _) → bound_value (property_value (record wanted { mark = mark })) ≡ property_value (record wanted { mark = mark })
    marked None = refl
    marked (Some Accepted) = refl
    marked (Some (Broken property)) = refl

pub bound_filter : (symbol property : ValueRef) (wanted : Filter) → owned symbol ≡ symbol_value wanted → owned property ≡ property_value wanted
    → bound (symbol ∷ property ∷ []) ≡ filter_values wanted
bound_filter symbol property wanted is_symbol is_property =
    ap₂ (λ s p. s ∷ p ∷ []) (ap bound_value is_symbol ∙ symbol_bound wanted) (ap bound_value is_property ∙ property_bound wanted)
