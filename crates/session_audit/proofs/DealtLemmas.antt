-- The deals that the code picks for a phase are those of the phase.
use Rattle.std.proofs.Common.{◌≡◌, ◌≤◌, ◌+◌, ℕ, zero, suc, List, [], ◌∷◌, ◌++◌, length, take, Bool, true, false, refl, ap, sym, ◌∙◌, arith, cond, add-one}
use Rattle.std.specs.Prelude.{filter}
use Rattle.std.proofs.lemmas.List.{take_all, take_more}
use Rattle.std.proofs.lemmas.List.Elements.{filter-append}
use Rattle.audit_base.specs.declared.orders.Order.{Order}
use Rattle.audit_base.specs.declared.orders.Deal.{Deal}
use Rattle.audit_base.specs.Deals.{deal_at, deal_past_end, number_at}
use Rattle.audit_base.specs.Continuous.{cause}
use Rattle.session_audit.specs.declared.phases.Phase.{Phase}
use Rattle.session_audit.specs.Phases.{first_place, end_place, phase_deals}
use Rattle.session_audit.specs.Dealing.{causes_below, is_between, deals_if, deals_between}
use Rattle.session_audit.proofs.ListBelowLemmas.{list_below-at}

one : (b : Bool) (d : Deal) → cond b (d ∷ []) [] ≡ deals_if b d
one true d = refl
one false d = refl

module _ (first last : ℕ) (orders : List Order) (deals : List Deal) (causes : List ℕ) (are : causes ≡ causes_below orders deals (length deals)) where
  abbrev test : Deal → Bool
  test d = is_between first last (cause orders d)

  picked : (n : ℕ) → n ≤ length deals → deals_between deals causes first last n ≡ filter test (take n deals)
  picked zero le = refl
  picked (suc n) le =
      let front : deals_between deals causes first last n ≡ filter test (take n deals) = picked n (omega arith) in
      let at : number_at causes n ≡ cause orders (deal_at deals n) = ap (λ (ns : List ℕ). number_at ns n) are ∙ list_below-at (λ j. cause orders (deal_at deals j)) (length deals) n 0 (omega arith) in
      let step : filter test (take (n + 1) deals) ≡ filter test (take n deals) ++ filter test (deal_at deals n ∷ []) =
      ap (filter test) (take_more deals n deal_past_end (omega arith)) ∙ filter-append test (take n deals) (deal_at deals n ∷ []) in
      (λ j. front j ++ deals_if (is_between first last (at j)) (deal_at deals n))
      ∙ ap (λ (ds : List Deal). filter test (take n deals) ++ ds) (sym (one (test (deal_at deals n)) (deal_at deals n)))
      ∙ sym step ∙ ap (λ (m : ℕ). filter test (take m deals)) (add-one n)

  whole : deals_between deals causes first last (length deals) ≡ filter test deals
  whole = picked (length deals) (omega arith) ∙ ap (filter test) (take_all (length deals) deals (omega arith))

pub dealt : (phases : List Phase) (orders : List Order) (deals : List Deal) (causes : List ℕ) (k first last : ℕ) → causes ≡ causes_below orders deals (length deals) → first ≡ first_place phases k → last ≡ end_place phases k
    → deals_between deals causes first last (length deals) ≡ phase_deals phases orders deals k
unfolding phase_deals
dealt phases orders deals causes k first last are first_is last_is =
    (λ j. deals_between deals causes (first_is j) (last_is j) (length deals)) ∙ whole (first_place phases k) (end_place phases k) orders deals causes are
