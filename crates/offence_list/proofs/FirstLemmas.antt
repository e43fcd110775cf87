-- The first of the offences is the first offence, and the finding of the verdict.
use Rattle.std.proofs.Common.{◌≡◌, ◌<◌, ◌∙◌, sym, ap, refl, subst, ℕ, Bool, true, false, List, [], ◌∷◌, length, Option, None, Some, Result, inl, inr, All}
use Rattle.std.specs.Option.{option_or}
use Rattle.std.specs.Prelude.{◌==◌, slice_get, is_some, MatchOption}
use Rattle.std.proofs.lemmas.Bool.{cases_Bool, eqb-true, eq-eqb, both_ways}
use Rattle.audit_base.specs.declared.terms.Rule.{Rule}
use Rattle.audit_base.specs.declared.terms.Rule.TheVariants as rule
use Rattle.audit_base.specs.declared.terms.VolumeRule.{VolumeRule}
use Rattle.audit_base.specs.declared.terms.VolumeRule.TheVariants as of_volume
use Rattle.audit_base.specs.declared.records.OrderRecord.{OrderRecord}
use Rattle.audit_base.specs.declared.records.TradeRecord.{TradeRecord}
use Rattle.audit_base.specs.declared.orders.Order.{Order}
use Rattle.audit_base.specs.declared.orders.Deal.{Deal}
use Rattle.audit_base.specs.declared.findings.Finding.{Finding}
use Rattle.audit_base.specs.Least.{least_answer, any_below, first_answer}
use Rattle.audit_base.specs.Orders.{place_at, IsOrderList}
use Rattle.audit_base.specs.Deals.{NamesOrders, DealsInRange}
use Rattle.audit_base.specs.Histories.{history_finding, order_list}
use Rattle.audit_base.specs.Trades.{trades_finding, deals_of_symbol}
use Rattle.audit_base.specs.CallOffences.{matching_finding, matching_offence, fair_offence, IsVolumeOffence}
use Rattle.audit_base.specs.ContinuousOffences.{IsContinuousOffence}
use Rattle.audit_base.specs.Verdicts.{IsRuleFinding, instant_finding_of_rule, pairing_finding, paired_trades, finding_before_rule}
use Rattle.audit_base.proofs.LeastLemmas.{cases_Option, none_some, option_or-parts, option_or-cases, least-none, least-at, any-found, none-any}
use Rattle.audit_base.proofs.OrderLemmas.{place-rises}
use Rattle.audit_base.proofs.HistoryLemmas.{order_list-is}
use Rattle.audit_base.proofs.TradeLemmas.{sound-names, deals-ranges}
use Rattle.offence_list.specs.declared.kinds.OffenceKind.{OffenceKind}
use Rattle.offence_list.specs.declared.kinds.OffenceKind.TheVariants.{Alone, OfDeal, OfPriority}
use Rattle.offence_list.specs.CallLists.{matching_offences, priority_finding, priority_offences}
use Rattle.offence_list.specs.ContinuousLists.{offence_at_place, continuous_offences}
use Rattle.offence_list.specs.Offences.{offence_kind, call_offences_of, continuous_offences_of, offences_of, rule_offences, record_offences}
use Rattle.offence_list.specs.Laws.{OffencesBeginWithTheFirst, OffencesBeginWithTheVerdict, NoOffenceWhereAccepted, OffencesAreAtOrders, OffencesAreFailures, OffenceAfterCalm}
use Rattle.offence_list.proofs.ListLemmas.{answers-first}
use Rattle.offence_list.proofs.KindLemmas.{holds-least, IsOfKind, matching-kind, priority-kind, volume-kind, with-all, place-kind}
use Rattle.offence_list.proofs.PlaceLemmas.{calm-offence, conforms-no_offence, no-offence}

match-some : {A : Type 0} (o : Option A) (P : Type 0) (Q : A → Type 0) (x : A) → o ≡ Some x → MatchOption o P Q → Q x
match-some o P Q x e h = subst (λ p. MatchOption p P Q) e h

match-none : {A : Type 0} (o : Option A) (P : Type 0) (Q : A → Type 0) → o ≡ None → MatchOption o P Q → P
match-none o P Q e h = subst (λ p. MatchOption p P Q) e h

module _ (uniform : Bool) (orders : List Order) (deals : List Deal) where
  -- the list of a call begins with its first finding, for each kind
  abbrev begins : Finding → Type 0
  begins f = slice_get (call_offences_of (offence_kind f.property) uniform orders deals f) 0 ≡ Some f

  of-kind : (kind : OffenceKind) (f : Finding) → IsOfKind kind f → slice_get (call_offences_of kind uniform orders deals f) 0 ≡ Some f → begins f
  of-kind kind f is h = subst (λ (k : OffenceKind). slice_get (call_offences_of k uniform orders deals f) 0 ≡ Some f) (sym is) h

  matching-begins : (f : Finding) → matching_offence uniform orders deals ≡ Some f → begins f
  unfolding matching_offences
  matching-begins f e = of-kind OfDeal f ((holds-least (IsOfKind OfDeal) _ (length deals) (matching-kind uniform orders deals)).told f e)
      (answers-first (matching_finding uniform orders deals) (length deals) ∙ e)

  priority-begins : (f : Finding) → fair_offence orders deals ≡ Some f → begins f
  unfolding priority_offences
  priority-begins f e = of-kind OfPriority f ((holds-least (IsOfKind OfPriority) _ (length deals) (priority-kind orders deals)).told f e)
      (answers-first (priority_finding orders deals) (length deals) ∙ e)

  volume-begins : (r : VolumeRule) (count : ℕ) (f : Finding) → IsVolumeOffence r orders deals count f → begins f
  volume-begins r count f o = of-kind Alone f (volume-kind r orders deals count f o) refl

  matching-rule : (count : ℕ) (f : Finding) → MatchOption (matching_offence uniform orders deals) ⊥ (λ g. f ≡ g) → begins f
  matching-rule count f o = elim (cases_Option (matching_offence uniform orders deals)) [
    | inl none ↦ absurd (match-none _ _ _ none o)
    | inr (g, some) ↦ subst begins (sym (match-some _ _ _ g some o)) (matching-begins g some)
  ]

  both-begin : (f : Finding) → option_or (matching_offence uniform orders deals) (fair_offence orders deals) ≡ Some f → begins f
  both-begin f e = elim (option_or-cases _ _ f e) [
    | inl some ↦ matching-begins f some
    | inr later ↦ priority-begins f later.1
  ]

  fair-rule : (P : Type 0) (f : Finding) → (P → begins f) → MatchOption (option_or (matching_offence uniform orders deals) (fair_offence orders deals)) P (λ g. f ≡ g) → begins f
  fair-rule P f late o = elim (cases_Option (option_or (matching_offence uniform orders deals) (fair_offence orders deals))) [
    | inl none ↦ late (match-none _ _ _ none o)
    | inr (g, some) ↦ subst begins (sym (match-some _ _ _ g some o)) (both-begin g some)
  ]

-- an order stands at a place with an offence
at-order : (orders : List Order) (deals : List Deal) (i : ℕ) (f : Finding) → All (NamesOrders orders) deals → offence_at_place orders deals i ≡ Some f
    → (k : ℕ) × (k < length orders) × (place_at orders k ≡ i)
at-order orders deals i f named e = elim (cases_Bool (any_below (λ k. place_at orders k == i) (length orders))) [
  | inl t ↦ let r = any-found (λ k. place_at orders k == i) (length orders) t in (r.0, r.1, eqb-true _ _ r.2)
  | inr none ↦ none_some (offence_at_place orders deals i) f
      (no-offence orders deals named i (λ x lt same. both_ways _ (none-any (λ k. place_at orders k == i) (length orders) none x lt) (eq-eqb _ _ same))) e
]

continuous-begins : (orders : List Order) (deals : List Deal) (f : Finding) → IsOrderList orders → All (NamesOrders orders) deals → DealsInRange deals → IsContinuousOffence orders deals f
    → slice_get (continuous_offences_of (offence_kind f.property) orders deals f) 0 ≡ Some f
unfolding continuous_offences
continuous-begins orders deals f list named ranges o =
    let kind = with-all orders deals f ((place-kind orders deals o.place).told f o.here) in
    let here : offence_at_place orders deals o.place ≡ Some f = calm-offence orders deals o.place o.before ∙ o.here in
    let at = at-order orders deals o.place f named here in
    let answer : ℕ → Option Finding = λ order. offence_at_place orders deals (place_at orders order) in
    let calm : least_answer answer at.0 ≡ None = least-none answer at.0 (λ j lt.
    let rise = place-rises orders list j at.0 lt at.1 in
    conforms-no_offence orders deals named ranges (place_at orders j) (o.before (place_at orders j) (subst (λ (p : ℕ). place_at orders j < p) at.2 rise))) in
    ap (λ (fs : List Finding). slice_get fs 0) kind ∙ answers-first answer (length orders)
    ∙ least-at answer (length orders) at.0 f at.1 calm (ap (offence_at_place orders deals) at.2 ∙ here)

first-begins : (the_rule : Rule) (orders : List Order) (deals : List Deal) (count : ℕ) (f : Finding) → IsOrderList orders → All (NamesOrders orders) deals → DealsInRange deals
    → IsRuleFinding the_rule orders deals count (Some f) → slice_get (offences_of the_rule orders deals f) 0 ≡ Some f
first-begins rule.Matching orders deals count f list named ranges o = matching-rule false orders deals count f o
first-begins rule.Fair orders deals count f list named ranges o = fair-rule false orders deals ⊥ f (λ none. absurd none) o
first-begins rule.Uniform orders deals count f list named ranges o = fair-rule true orders deals (IsVolumeOffence of_volume.Uniform orders deals count f) f (volume-begins true orders deals of_volume.Uniform count f) o
first-begins rule.Maximum orders deals count f list named ranges o = fair-rule false orders deals (IsVolumeOffence of_volume.Maximum orders deals count f) f (volume-begins false orders deals of_volume.Maximum count f) o
first-begins rule.Continuous orders deals count f list named ranges o = continuous-begins orders deals f list named ranges o

pub begin_with_the_first : OffencesBeginWithTheFirst
begin_with_the_first the_rule orders deals count None list named ranges o = refl
begin_with_the_first the_rule orders deals count (Some f) list named ranges o = first-begins the_rule orders deals count f list named ranges o

-- a finding that is looked for before the rule stands alone
early : (the_rule : Rule) (symbol : List ℕ) (entries : List OrderRecord) (trades : Result (List TradeRecord) Finding) (found : Option Finding) (f : Finding)
    → finding_before_rule the_rule symbol entries trades ≡ Some f → found ≡ Some f → slice_get (record_offences the_rule symbol entries trades found) 0 ≡ found
early the_rule symbol entries trades None f some is = cc
early the_rule symbol entries trades (Some g) f some is =
    let t : is_some (finding_before_rule the_rule symbol entries trades) ≡ true = ap (λ (o : Option Finding). is_some o) some in
    rw t refl

late : (the_rule : Rule) (symbol : List ℕ) (entries : List OrderRecord) (trades : Result (List TradeRecord) Finding) (found : Option Finding)
    → finding_before_rule the_rule symbol entries trades ≡ None
    → let orders = order_list symbol entries in slice_get (rule_offences the_rule orders (deals_of_symbol orders symbol (paired_trades trades)) found) 0 ≡ found
    → slice_get (record_offences the_rule symbol entries trades found) 0 ≡ found
late the_rule symbol entries trades None none h = refl
late the_rule symbol entries trades (Some g) none h =
    let f : is_some (finding_before_rule the_rule symbol entries trades) ≡ false = ap (λ (o : Option Finding). is_some o) none in
    rw f h

pub begin_with_the_verdict : OffencesBeginWithTheVerdict
begin_with_the_verdict the_rule symbol entries trades found lt ranges v = elim (cases_Option (finding_before_rule the_rule symbol entries trades)) [
  | inr (f, some) ↦ early the_rule symbol entries trades found f some (match-some _ _ _ f some v)
  | inl none ↦
      let orders = order_list symbol entries in
      let later = option_or-parts (history_finding symbol entries) (first_answer (instant_finding_of_rule the_rule orders ∷ pairing_finding trades ∷ trades_finding orders symbol (paired_trades trades) ∷ [])) none in
      let latest = option_or-parts (instant_finding_of_rule the_rule orders) (first_answer (pairing_finding trades ∷ trades_finding orders symbol (paired_trades trades) ∷ [])) later.1 in
      let last = option_or-parts (pairing_finding trades) (first_answer (trades_finding orders symbol (paired_trades trades) ∷ [])) latest.1 in
      let sound = (option_or-parts (trades_finding orders symbol (paired_trades trades)) None last.1).0 in
      late the_rule symbol entries trades found none
      (begin_with_the_first the_rule orders (deals_of_symbol orders symbol (paired_trades trades)) (length (paired_trades trades)) found
      (order_list-is symbol entries lt) (sound-names orders symbol (paired_trades trades) sound) (deals-ranges orders symbol (paired_trades trades) ranges)
      (match-none _ _ _ none v))
]

pub no_offence_where_accepted : NoOffenceWhereAccepted
no_offence_where_accepted the_rule symbol entries trades found lt ranges v = (
  λ e. sym (begin_with_the_verdict the_rule symbol entries trades found lt ranges v) ∙ ap (λ (fs : List Finding). slice_get fs 0) e,
  λ e. ap (record_offences the_rule symbol entries trades) e,
)

pub at_orders : OffencesAreAtOrders
at_orders orders deals place named away = no-offence orders deals named place away

pub are_failures : OffencesAreFailures
are_failures orders deals place f named ranges e c = none_some (offence_at_place orders deals place) f (conforms-no_offence orders deals named ranges place c) e

pub after_calm : OffenceAfterCalm
after_calm orders deals place calm = calm-offence orders deals place calm
