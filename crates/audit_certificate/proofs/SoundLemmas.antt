-- A certificate that agrees shows that the deals conform.
use Rattle.std.proofs.Common.{◌≡◌, ◌≤◌, ◌<◌, ◌+◌, ℕ, suc, List, length, Option, None, Some, refl, sym, ◌∙◌, arith, inl, inr, subst}
use Rattle.std.specs.Prelude.{IsSomeAnd, min}
use Rattle.std.proofs.lemmas.Bool.{cases_eq, cases_lt}
use Rattle.audit_base.specs.declared.terms.VolumeRule.{VolumeRule}
use Rattle.audit_base.specs.declared.terms.VolumeRule.TheVariants as of_volume
use Rattle.audit_base.specs.declared.terms.Side.{Side}
use Rattle.audit_base.specs.declared.terms.Side.TheVariants.{Buy, Sell}
use Rattle.audit_base.specs.declared.orders.Order.{Order}
use Rattle.audit_base.specs.declared.orders.Deal.{Deal}
use Rattle.audit_base.specs.Orders.{quantity_at, IsUncancelledOn, IsOrderList}
use Rattle.audit_base.specs.Priority.{Better}
use Rattle.audit_base.specs.Deals.{traded, volume}
use Rattle.audit_base.specs.Calls.{Matching, Fair, Greatest, GreatestUniform}
use Rattle.audit_base.specs.Bounds.{demand, supply, supply_below}
use Rattle.audit_base.specs.Rules.{Conforms}
use Rattle.audit_base.specs.RuleKinds.{rule_of_volume}
use Rattle.audit_base.proofs.PriorityLemmas.{Better-onward, Better-total}
use Rattle.audit_base.proofs.VolumeLemmas.{demand-falls, supply-under}
use Rattle.call_laws.specs.Optimum.{OnePriceIsBounded}
use Rattle.volume_bound.specs.Laws.{CutBoundsVolume}
use Rattle.audit_certificate.specs.Laws.{CertificateSoundness}
use Rattle.audit_certificate.specs.Lines.{ended_line, text_after_lines}
use Rattle.audit_certificate.specs.Agreement.{IsHeadLine, IsBoundLine, IsLastLine, IsLastOf, IsOrderLineOrEnd, IsOrderLine, OnePriceIfUniform, ShowsNoGreaterVolume, Agrees}

begins-some : (Test : List ℕ → Type 0) (line : Option (List ℕ)) → IsSomeAnd line Test → (text : List ℕ) × Test text
begins-some Test None begins = absurd begins
begins-some Test (Some text) begins = (text, begins)

module _ (cuts : CutBoundsVolume) (bounded : OnePriceIsBounded) (the_rule : VolumeRule) (symbol : List ℕ) (orders : List Order) (deals : List Deal) (bytes : List ℕ) (list : IsOrderList orders) (agrees : Agrees the_rule symbol orders deals bytes) where
  head : (text : List ℕ) × IsHeadLine the_rule symbol orders deals text
  head = begins-some (IsHeadLine the_rule symbol orders deals) (ended_line (text_after_lines 0 bytes)) (agrees 1 (omega arith))

  bound : (text : List ℕ) × IsBoundLine the_rule orders (volume deals) text
  bound = begins-some (IsBoundLine the_rule orders (volume deals)) (ended_line (text_after_lines 1 bytes)) (agrees 2 (omega arith))

  last : (side : Side) → (text : List ℕ) × IsLastLine orders deals side text
  last Buy = begins-some (IsLastLine orders deals Buy) (ended_line (text_after_lines 2 bytes)) (agrees 3 (omega arith))
  last Sell = begins-some (IsLastLine orders deals Sell) (ended_line (text_after_lines 3 bytes)) (agrees 4 (omega arith))

  order-at : (i : ℕ) → i < length orders → IsOrderLineOrEnd orders deals i (text_after_lines (4 + i) bytes)
  order-at i lt = agrees (suc (suc (suc (suc (suc i))))) (omega arith)

  matching : Matching orders deals
  matching = record {
    kept = head.1.kept;
    within = λ i lt. let line = begins-some (IsOrderLine orders deals i) (ended_line (text_after_lines (4 + i) bytes)) ((order-at i lt).line lt) in line.1.within;
  }

  -- an order that is better than one that trades is better than the last one, or is ahead of it
  filled : (side : Side) (l : Option ℕ) → IsLastOf orders deals side l → (i j : ℕ) → IsUncancelledOn orders side i → IsUncancelledOn orders side j → Better orders i j → 0 < traded deals j → traded deals i ≡ quantity_at orders i
  filled side None none i j s t over some = let nothing = none j t in absurd (omega arith)
  filled side (Some l) is i j s t over some = elim (cases_eq j l) [
    | inl e ↦ is.better i s (subst (Better orders i) e over)
    | inr ne ↦ elim (Better-total orders list j l t.inside is.stands.inside (t.of_side ∙ sym is.stands.of_side) ne) [
      | inl ahead ↦ is.better i s (Better-onward orders i j l over ahead)
      | inr after ↦ let nothing = is.worse j t after in absurd (omega arith)
    ]
  ]

  fair : Fair orders deals
  fair = record { fills = λ side i j s t over some. let line = (last side).1 in filled side line.last line.is_last i j s t over some }

  greatest : (q : ℕ) → demand orders q + supply_below orders q ≡ volume deals → Greatest orders deals
  greatest q shows others ranges m = let most = cuts orders others m q in omega arith

  greatest_uniform : (q : ℕ) → demand orders q ≤ volume deals → supply_below orders q ≤ volume deals → GreatestUniform orders deals
  greatest_uniform q d s others ranges m one =
      let most : volume others ≤ min (demand orders one.price) (supply orders one.price) = bounded orders others one.price m one.each in
      elim (cases_lt one.price q) [
        | inl lt ↦ let under = supply-under orders one.price q lt in omega arith
        | inr ge ↦ let falls = demand-falls orders q one.price ge in omega arith
      ]

sound-by : (the_rule : VolumeRule) (orders : List Order) (deals : List Deal) (reached q : ℕ) → reached ≡ volume deals → Matching orders deals → Fair orders deals
    → OnePriceIfUniform the_rule deals → ShowsNoGreaterVolume the_rule orders reached q
    → ((p : ℕ) → demand orders p + supply_below orders p ≡ volume deals → Greatest orders deals)
    → ((p : ℕ) → demand orders p ≤ volume deals → supply_below orders p ≤ volume deals → GreatestUniform orders deals)
    → Conforms (rule_of_volume the_rule) orders deals
sound-by of_volume.Uniform orders deals reached q e m f one shows g u = record { matching = m; fair = f; one_price = one; greatest = u q (omega (arith, e, shows.0)) (omega (arith, e, shows.1)) }
sound-by of_volume.Maximum orders deals reached q e m f one shows g u = record { matching = m; fair = f; greatest = g q (shows ∙ e) }

pub soundness : CutBoundsVolume → OnePriceIsBounded → CertificateSoundness
soundness cuts bounded the_rule symbol orders deals bytes list agrees =
    let line = (bound cuts bounded the_rule symbol orders deals bytes list agrees).1 in
    sound-by the_rule orders deals (volume deals) line.price refl (matching cuts bounded the_rule symbol orders deals bytes list agrees) (fair cuts bounded the_rule symbol orders deals bytes list agrees)
    (head cuts bounded the_rule symbol orders deals bytes list agrees).1.one_price line.shows
    (greatest cuts bounded the_rule symbol orders deals bytes list agrees) (greatest_uniform cuts bounded the_rule symbol orders deals bytes list agrees)
