-- There is one verdict: a rule doesn't both hold and have a first offence, and has at most one.
use Rattle.std.proofs.Common.{◌≡◌, ℕ, List, [], ◌∷◌, length, true, false, Option, Some, None, Result, refl, sym, ap, ◌∙◌, arith, inl, inr, All, subst}
use Rattle.std.specs.Prelude.{MatchOption, IsSomeAnd}
use Rattle.std.proofs.lemmas.Bool.{cases_order}
use Rattle.audit_base.specs.declared.terms.Rule.{Rule}
use Rattle.audit_base.specs.declared.terms.Rule.TheVariants as rule
use Rattle.audit_base.specs.declared.terms.CallRule.{CallRule}
use Rattle.audit_base.specs.declared.terms.CallRule.TheVariants as call
use Rattle.audit_base.specs.declared.terms.VolumeRule.{VolumeRule}
use Rattle.audit_base.specs.declared.terms.VolumeRule.TheVariants as of_volume
use Rattle.audit_base.specs.RuleKinds.{rule_of_call, rule_of_volume, volume_rule_of_call}
use Rattle.audit_base.specs.declared.records.OrderRecord.{OrderRecord}
use Rattle.audit_base.specs.declared.records.TradeRecord.{TradeRecord}
use Rattle.audit_base.specs.declared.orders.Order.{Order}
use Rattle.audit_base.specs.declared.orders.Deal.{Deal}
use Rattle.audit_base.specs.declared.findings.Finding.{Finding}
use Rattle.audit_base.specs.Bounds.{IsBoundPrice}
use Rattle.audit_base.specs.Deals.{NamesOrders, DealsInRange}
use Rattle.audit_base.specs.Rules.{Conforms, Only}
use Rattle.audit_base.specs.CallOffences.{offence_before_volume, IsGreatestUnder, IsVolumeOffence, IsCallOffence}
use Rattle.audit_base.specs.ContinuousOffences.{finding_at_place, IsContinuousOffence}
use Rattle.audit_base.specs.Least.{first_answer}
use Rattle.audit_base.specs.Histories.{history_finding, order_list}
use Rattle.audit_base.specs.Trades.{TradesInRange, trades_finding, deals_of_symbol}
use Rattle.audit_base.specs.Verdicts.{IsFirstOffence, IsRuleFinding, instant_finding_of_rule, pairing_finding, paired_trades, finding_before_rule, IsRecordFinding}
use Rattle.audit_base.proofs.LeastLemmas.{cases_Option, none_some, one-least, option_or-parts}
use Rattle.audit_base.proofs.OffenceLemmas.{option_or-none_both, matching-no_offence, fair-no_offence}
use Rattle.audit_base.proofs.ContinuousOffenceLemmas.{conforms-no_fault, offence-fails}
use Rattle.audit_base.proofs.TradeLemmas.{sound-names, deals-ranges}

-- an option that is something decides what `MatchOption` says of it
match-some : {A : Type 0} (o : Option A) (P : Type 0) (Q : A → Type 0) (x : A) → o ≡ Some x → MatchOption o P Q → Q x
match-some o P Q x e h = subst (λ p. MatchOption p P Q) e h

match-none : {A : Type 0} (o : Option A) (P : Type 0) (Q : A → Type 0) → o ≡ None → MatchOption o P Q → P
match-none o P Q e h = subst (λ p. MatchOption p P Q) e h

-- the third part of a first offence, which only a rule that asks for the greatest volume has
abbrev IsLate : CallRule → List Order → List Deal → ℕ → Finding → Type 0
IsLate r orders deals count f = IsSomeAnd (volume_rule_of_call r) (λ v. IsVolumeOffence v orders deals count f)

-- each order has one due
pub one-due : (r : Rule) (orders : List Order) (i m n : ℕ) → Only r orders i m → Only r orders i n → m ≡ n
one-due r orders i m n a b = sym (a.each b.some b.ranges b.conforms) ∙ b.each b.some b.ranges b.conforms

-- there is one greatest volume
pub one-greatest : (r : VolumeRule) (orders : List Order) (u v : ℕ) → IsGreatestUnder r orders u → IsGreatestUnder r orders v → u ≡ v
one-greatest of_volume.Uniform orders u v a b =
    let le = a.greatest b.deals b.ranges b.matching b.one_price in
    let ge = b.greatest a.deals a.ranges a.matching a.one_price in
    let x = a.reached in
    let y = b.reached in
    omega arith
one-greatest of_volume.Maximum orders u v a b =
    let le = a.greatest b.deals b.ranges b.matching in
    let ge = b.greatest a.deals a.ranges a.matching in
    let x = a.reached in
    let y = b.reached in
    omega arith

-- a volume has one bound
pub one-bound : (r : VolumeRule) (orders : List Order) (reached a b : ℕ) → IsBoundPrice r orders reached a → IsBoundPrice r orders reached b → a ≡ b
one-bound of_volume.Uniform orders reached a b x y = one-least _ a b x y
one-bound of_volume.Maximum orders reached a b x y = one-least _ a b x y

some-one : {A : Type 0} (o : Option A) (x y : A) → o ≡ Some x → o ≡ Some y → x ≡ y
some-one o x y e f = some-same x y (sym e ∙ f)
  where
    some-same : {A : Type 0} (x y : A) → Some x ≡ Some y → x ≡ y
    some-same x y e = cc

-- a volume offence shows one thing
pub one-volume_offence : (r : VolumeRule) (orders : List Order) (deals : List Deal) (count : ℕ) (f g : Finding) → IsVolumeOffence r orders deals count f → IsVolumeOffence r orders deals count g → f ≡ g
one-volume_offence r orders deals count f g a b =
    let most = one-greatest r orders a.most b.most a.greatest b.greatest in
    let bid = some-one _ a.bid b.bid a.short_bid b.short_bid in
    let ask = some-one _ a.ask b.ask a.short_ask b.short_ask in
    let bid_due = one-due (rule_of_volume r) orders b.bid a.bid_due b.bid_due (subst (λ i. Only (rule_of_volume r) orders i a.bid_due) bid a.only_bid) b.only_bid in
    let ask_due = one-due (rule_of_volume r) orders b.ask a.ask_due b.ask_due (subst (λ i. Only (rule_of_volume r) orders i a.ask_due) ask a.only_ask) b.only_ask in
    a.shows ∙ (cc) ∙ sym b.shows

-- a call has at most one first offence
pub one-call_offence : (r : CallRule) (orders : List Order) (deals : List Deal) (count : ℕ) (f g : Finding) → IsCallOffence r orders deals count f → IsCallOffence r orders deals count g → f ≡ g
one-call_offence r orders deals count f g a b = elim (cases_Option (offence_before_volume r orders deals)) [
  | inl none ↦ late r (match-none _ _ _ none a) (match-none _ _ _ none b)
  | inr (x, some) ↦ match-some _ _ _ x some a ∙ sym (match-some _ _ _ x some b)
]
  where
    late : (r : CallRule) → IsLate r orders deals count f → IsLate r orders deals count g → f ≡ g
    late call.Matching a b = absurd a
    late call.Fair a b = absurd a
    late (call.Greatest r) a b = one-volume_offence r orders deals count f g a b

-- a call that conforms has no offence before the volume
pub conforms-no_early_offence : (r : CallRule) (orders : List Order) (deals : List Deal) → DealsInRange deals → Conforms (rule_of_call r) orders deals → offence_before_volume r orders deals ≡ None
conforms-no_early_offence call.Matching orders deals ranges c = matching-no_offence false orders deals c (λ t. cc)
conforms-no_early_offence call.Fair orders deals ranges c =
    option_or-none_both _ _ (matching-no_offence false orders deals c.matching (λ t. cc)) (fair-no_offence orders deals ranges c.matching c.fair)
conforms-no_early_offence (call.Greatest of_volume.Uniform) orders deals ranges c =
    option_or-none_both _ _ (matching-no_offence true orders deals c.matching (λ t. c.one_price)) (fair-no_offence orders deals ranges c.matching c.fair)
conforms-no_early_offence (call.Greatest of_volume.Maximum) orders deals ranges c =
    option_or-none_both _ _ (matching-no_offence false orders deals c.matching (λ t. cc)) (fair-no_offence orders deals ranges c.matching c.fair)

-- nor a volume offence
pub conforms-no_volume_offence : (r : VolumeRule) (orders : List Order) (deals : List Deal) (count : ℕ) (f : Finding) → Conforms (rule_of_volume r) orders deals → IsVolumeOffence r orders deals count f → ⊥
conforms-no_volume_offence of_volume.Uniform orders deals count f c o =
    let g = o.greatest in let le = c.greatest g.deals g.ranges g.matching g.one_price in let e = g.reached in let lt = o.below in absurd (omega arith)
conforms-no_volume_offence of_volume.Maximum orders deals count f c o =
    let g = o.greatest in let le = c.greatest g.deals g.ranges g.matching in let e = g.reached in let lt = o.below in absurd (omega arith)

pub call_offence-fails : (r : CallRule) (orders : List Order) (deals : List Deal) (count : ℕ) (f : Finding) → DealsInRange deals
    → IsCallOffence r orders deals count f → Conforms (rule_of_call r) orders deals → ⊥
call_offence-fails r orders deals count f ranges o c =
    late r c (match-none _ _ _ (conforms-no_early_offence r orders deals ranges c) o)
  where
    late : (r : CallRule) → Conforms (rule_of_call r) orders deals → IsLate r orders deals count f → ⊥
    late call.Matching c o = o
    late call.Fair c o = o
    late (call.Greatest r) c o = conforms-no_volume_offence r orders deals count f c o

-- continuous trading has at most one first offence
pub one-continuous_offence : (orders : List Order) (deals : List Deal) (f g : Finding) → All (NamesOrders orders) deals → DealsInRange deals
    → IsContinuousOffence orders deals f → IsContinuousOffence orders deals g → f ≡ g
one-continuous_offence orders deals f g named ranges a b = elim (cases_order a.place b.place) [
  | inl same ↦ some-one _ f g (subst (λ i. finding_at_place orders deals i ≡ Some f) same a.here) b.here
  | inr ne ↦ elim ne [
    | inl less ↦ none_some (finding_at_place orders deals a.place) f (conforms-no_fault orders deals named ranges a.place (b.before a.place less)) a.here
    | inr more ↦ none_some (finding_at_place orders deals b.place) g (conforms-no_fault orders deals named ranges b.place (a.before b.place more)) b.here
  ]
]

-- a rule has at most one first offence, and none where it holds
pub one-offence : (r : Rule) (orders : List Order) (deals : List Deal) (count : ℕ) (f g : Finding) → All (NamesOrders orders) deals → DealsInRange deals
    → IsFirstOffence r orders deals count f → IsFirstOffence r orders deals count g → f ≡ g
one-offence rule.Continuous orders deals count f g named ranges a b = one-continuous_offence orders deals f g named ranges a b
one-offence rule.Matching orders deals count f g named ranges a b = one-call_offence call.Matching orders deals count f g a b
one-offence rule.Fair orders deals count f g named ranges a b = one-call_offence call.Fair orders deals count f g a b
one-offence rule.Uniform orders deals count f g named ranges a b = one-call_offence (call.Greatest of_volume.Uniform) orders deals count f g a b
one-offence rule.Maximum orders deals count f g named ranges a b = one-call_offence (call.Greatest of_volume.Maximum) orders deals count f g a b

pub first_offence-fails : (r : Rule) (orders : List Order) (deals : List Deal) (count : ℕ) (f : Finding) → All (NamesOrders orders) deals → DealsInRange deals
    → IsFirstOffence r orders deals count f → Conforms r orders deals → ⊥
first_offence-fails rule.Continuous orders deals count f named ranges o c = offence-fails orders deals f named ranges o c
first_offence-fails rule.Matching orders deals count f named ranges o c = call_offence-fails call.Matching orders deals count f ranges o c
first_offence-fails rule.Fair orders deals count f named ranges o c = call_offence-fails call.Fair orders deals count f ranges o c
first_offence-fails rule.Uniform orders deals count f named ranges o c = call_offence-fails (call.Greatest of_volume.Uniform) orders deals count f ranges o c
first_offence-fails rule.Maximum orders deals count f named ranges o c = call_offence-fails (call.Greatest of_volume.Maximum) orders deals count f ranges o c

-- so there is one verdict of a rule
pub one-rule_verdict : (r : Rule) (orders : List Order) (deals : List Deal) (count : ℕ) (v w : Option Finding) → All (NamesOrders orders) deals → DealsInRange deals
    → IsRuleFinding r orders deals count v → IsRuleFinding r orders deals count w → v ≡ w
one-rule_verdict r orders deals count None None named ranges a b = refl
one-rule_verdict r orders deals count None (Some g) named ranges a b = absurd (first_offence-fails r orders deals count g named ranges b a)
one-rule_verdict r orders deals count (Some f) None named ranges a b = absurd (first_offence-fails r orders deals count f named ranges a b)
one-rule_verdict r orders deals count (Some f) (Some g) named ranges a b = ap (λ (x : Finding). Some x) (one-offence r orders deals count f g named ranges a b)

-- and one verdict on two logs that have been read, where the deals of sound trades are in range
pub one-verdict-of_deals : (r : Rule) (symbol : List ℕ) (entries : List OrderRecord) (trades : Result (List TradeRecord) Finding) (v w : Option Finding)
    → (trades_finding (order_list symbol entries) symbol (paired_trades trades) ≡ None → DealsInRange (deals_of_symbol (order_list symbol entries) symbol (paired_trades trades)))
    → IsRecordFinding r symbol entries trades v → IsRecordFinding r symbol entries trades w → v ≡ w
one-verdict-of_deals r symbol entries trades v w ranges a b = elim (cases_Option (finding_before_rule r symbol entries trades)) [
  | inr (f, some) ↦ match-some _ _ _ f some a ∙ sym (match-some _ _ _ f some b)
  | inl none ↦
      let orders = order_list symbol entries in
      let later = option_or-parts (history_finding symbol entries) (first_answer (instant_finding_of_rule r orders ∷ pairing_finding trades ∷ trades_finding orders symbol (paired_trades trades) ∷ [])) none in
      let latest = option_or-parts (instant_finding_of_rule r orders) (first_answer (pairing_finding trades ∷ trades_finding orders symbol (paired_trades trades) ∷ [])) later.1 in
      let last = option_or-parts (pairing_finding trades) (first_answer (trades_finding orders symbol (paired_trades trades) ∷ [])) latest.1 in
      let sound = (option_or-parts (trades_finding orders symbol (paired_trades trades)) None last.1).0 in
      one-rule_verdict r orders (deals_of_symbol orders symbol (paired_trades trades)) (length (paired_trades trades)) v w
      (sound-names orders symbol (paired_trades trades) sound) (ranges sound)
      (match-none _ _ _ none a) (match-none _ _ _ none b)
]

pub one-verdict : (r : Rule) (symbol : List ℕ) (entries : List OrderRecord) (trades : Result (List TradeRecord) Finding) (v w : Option Finding) → TradesInRange (paired_trades trades)
    → IsRecordFinding r symbol entries trades v → IsRecordFinding r symbol entries trades w → v ≡ w
one-verdict r symbol entries trades v w ranges a b =
    one-verdict-of_deals r symbol entries trades v w (λ _. deals-ranges (order_list symbol entries) symbol (paired_trades trades) ranges) a b
