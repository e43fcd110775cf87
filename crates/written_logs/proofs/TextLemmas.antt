-- The generated log, cut between two records.
use Rattle.std.proofs.Common.{◌≡◌, ◌∙◌, ap, refl, sym, zero, suc, ℕ, ◌+◌, ◌-◌, ◌≤◌, List, [], ◌∷◌, ◌++◌, append_assoc, arith}
use Rattle.std.proofs.lemmas.Grind.{flat_map-append}
use Rattle.std.proofs.lemmas.List.{append-nil}
use Rattle.std.proofs.lemmas.List.FromFn.{map-range_with_len_more}
use Rattle.std.proofs.Math.Numerals.{add-one}
use Rattle.audit_base.specs.declared.records.OrderRecord.{OrderRecord}
use Rattle.audit_base.specs.declared.terms.Form.{Form}
use Rattle.audit_base.specs.declared.terms.Form.TheVariants.{Csv, Fix}
use Rattle.csv_logs.specs.Written.{csv_line_text, order_row}
use Rattle.fix_messages.specs.Written.{order_message}
use Rattle.log_maker.specs.Generator.{generated_record, generated_records, generated_records_after, state_at}
use Rattle.written_logs.specs.Texts.{order_head, order_lines, orders_text}
use Rattle.written_logs.specs.GeneratedTexts.{generated_text}

-- the records behind the first ones with one more, and the first ones with one more
after-more : (start first n : ℕ) → generated_records_after start first (n + 1) ≡ generated_records_after start first n ++ generated_record start (1 + first + n) ∷ []
after-more start first n = map-range_with_len_more (generated_record start) (1 + first) n (1 + first + n) refl

records-more : (start n : ℕ) → generated_records start (n + 1) ≡ generated_records start n ++ generated_record start (1 + n) ∷ []
records-more start n = map-range_with_len_more (generated_record start) 1 n (1 + n) refl

-- the first records and those behind them
pub records-split : (start first n : ℕ) → generated_records start (first + n) ≡ generated_records start first ++ generated_records_after start first n
records-split start first zero = ap (generated_records start) none ∙ sym (append-nil (generated_records start first))
  where
    none : first + 0 ≡ first
    none = omega arith
records-split start first (suc n) =
    let here : 1 + (first + n) ≡ 1 + first + n = omega arith in
    let on : first + suc n ≡ first + n + 1 = omega arith in
    ap (generated_records start) on
    ∙ records-more start (first + n)
    ∙ (λ i. records-split start first n i ++ generated_record start (here i) ∷ [])
    ∙ append_assoc (generated_records start first) (generated_records_after start first n) (generated_record start (1 + first + n) ∷ [])
    ∙ ap (λ (l : List OrderRecord). generated_records start first ++ l) (sym (after-more start first n))
    ∙ ap (λ (m : ℕ). generated_records start first ++ generated_records_after start first m) (add-one n)

-- the lines of two lists of orders
pub lines-append : (form : Form) (xs ys : List OrderRecord) → order_lines form (xs ++ ys) ≡ order_lines form xs ++ order_lines form ys
lines-append Csv xs ys = flat_map-append (λ entry. csv_line_text (order_row entry)) xs ys
lines-append Fix xs ys = flat_map-append order_message xs ys

-- a log is what it begins with, and the lines of its orders
pub text-is : (form : Form) (entries : List OrderRecord) → orders_text form entries ≡ order_head form ++ order_lines form entries
text-is Csv entries = refl
text-is Fix entries = refl

no-lines : (form : Form) → order_lines form [] ≡ []
no-lines Csv = refl
no-lines Fix = refl

-- what is written of the first records
abbrev pub front_of : Form → ℕ → ℕ → List ℕ
front_of form start first = order_head form ++ order_lines form (generated_records start first)

pub front-none : (form : Form) (start : ℕ) → order_head form ≡ front_of form start 0
front-none form start = sym (append-nil (order_head form)) ∙ ap (λ (l : List ℕ). order_head form ++ l) (sym (no-lines form))

pub front-more : (form : Form) (start first n : ℕ) → front_of form start first ++ order_lines form (generated_records_after start first n) ≡ front_of form start (first + n)
front-more form start first n =
    append_assoc (order_head form) (order_lines form (generated_records start first)) (order_lines form (generated_records_after start first n))
    ∙ ap (λ (l : List ℕ). order_head form ++ l) (sym (lines-append form (generated_records start first) (generated_records_after start first n)) ∙ ap (order_lines form) (sym (records-split start first n)))

pub front-all : (form : Form) (start count : ℕ) → front_of form start count ≡ generated_text form start count
front-all form start count = sym (text-is form (generated_records start count))

-- the front of the first records, and what is behind it
pub text-cut : (form : Form) (start first count : ℕ) → first ≤ count → generated_text form start count ≡ front_of form start first ++ order_lines form (generated_records_after start first (count - first))
text-cut form start first count few =
    let all : first + (count - first) ≡ count = omega (arith, few) in
    sym (front-all form start count) ∙ ap (front_of form start) (sym all) ∙ sym (front-more form start first (count - first))

pub state-first : (start : ℕ) → start ≡ state_at start 0
unfolding state_at
state-first start = refl
