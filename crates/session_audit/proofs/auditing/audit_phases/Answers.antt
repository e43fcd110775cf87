use Rattle.std.proofs.Common.{◌≡◌, ◌∙◌, ℕ, None, Ok, length, ap, arith}
use Rattle.std.specs.Prelude.{replicate}
use Rattle.audit_base.specs.Deals.{deal_at}
use Rattle.audit_base.specs.Continuous.{cause}
use Rattle.session_audit.specs.Phases.{phase_deals}
use Rattle.session_audit.specs.PhaseOrders.{phase_list_at}
use Rattle.session_audit.proofs.ListBelowLemmas.{length-list_below}
use Rattle.session_audit.proofs.BrokenLemmas.{broken-phase}
use Rattle.session_audit.proofs.DayLemmas.{IsReady, no-phases, small-so_far, long-so_far, ready, phase-passed}
use Rattle.session_audit.proofs.DealtLemmas.{dealt}
use Rattle.session_audit.proofs.TotalLemmas.{day-conforms}
use Rattle.session_audit.proofs.auditing.audit_phases.Goals as goal

pub loop-index-init : goal.loop-index-init
loop-index-init c = no-phases c.args.phases.now c.args.orders.now c.args.deals.now c.in_ok-so_far.so_far.traded.items c.in_ok-so_far.so_far.left.items (c.in_ok-so_far.ensures.traded ∙ ap (λ (n : ℕ). replicate n 0) c.len.ensures) c.in_ok-so_far.ensures.left

pub deals_between-requires : goal.deals_between-requires
deals_between-requires c = ap length (c.deref.ensures.value ∙ c.in_ok-causes.ensures.causes) ∙ length-list_below (λ j. cause c.args.orders.now (deal_at c.args.deals.now j)) (length c.args.deals.now)

pub list_phase-requires-clause-one_total_per_order : goal.list_phase-requires-clause-one_total_per_order
list_phase-requires-clause-one_total_per_order c =
    long-so_far c.args.phases.now c.requires.phases c.args.orders.now c.requires.order_list c.args.deals.now c.requires.deal_list.named c.loop-index.index c.loop-index-test.true
    c.loop-index.so_far.traded.items c.loop-index.so_far.left.items c.loop-index.invariant

pub list_phase-requires-clause-totals_bounded : goal.list_phase-requires-clause-totals_bounded
list_phase-requires-clause-totals_bounded c =
    small-so_far c.args.phases.now c.requires.phases c.args.orders.now c.requires.order_list c.args.deals.now c.requires.deal_list.named c.loop-index.index c.loop-index-test.true
    c.loop-index.so_far.traded.items c.loop-index.so_far.left.items c.loop-index.invariant c.deals_in_range.ensures c.requires.deal_list.fits_indices

pub judge_phase-requires : goal.judge_phase-requires
judge_phase-requires c =
    let phases = c.args.phases.now in
    let orders = c.args.orders.now in
    let deals = c.args.deals.now in
    let k = c.loop-index.index in
    let here : c.list-own.result ≡ phase_list_at phases orders deals k = c.list-own.ensures ∙ c.in_ok-list.ensures deals c.loop-index.invariant in
    let picked : c.deref-in-loop-index.result.now ≡ phase_deals phases orders deals k = c.deref-in-loop-index.ensures.value ∙ c.in_ok-dealt.ensures
    ∙ dealt phases orders deals c.deref.result.now k c.first_place-first.result c.end_place-last.result (c.deref.ensures.value ∙ c.in_ok-causes.ensures.causes) c.first_place-first.ensures c.end_place-last.ensures in
    let is : IsReady orders c.list-own.result c.deref-in-loop-index.result.now c.end_place-last.result = ready phases c.requires.phases orders c.requires.order_list c.requires.regular deals c.requires.deal_list c.deals_in_range.ensures k c.loop-index-test.true
    c.list-own.result c.deref-in-loop-index.result.now c.end_place-last.result here picked c.end_place-last.ensures in
    let long = long-so_far phases c.requires.phases orders c.requires.order_list deals c.requires.deal_list.named k c.loop-index-test.true c.loop-index.so_far.traded.items c.loop-index.so_far.left.items c.loop-index.invariant in
    record {
      order_list = is.order_list;
      regular = is.regular;
      deal_list = is.deal_list;
      trade_count_fits = c.requires.fits_places;
      causes_end_by_last = is.ends;
      phase_totals_bounded = is.more;
      old_totals_bounded = small-so_far phases c.requires.phases orders c.requires.order_list deals c.requires.deal_list.named k c.loop-index-test.true c.loop-index.so_far.traded.items c.loop-index.so_far.left.items c.loop-index.invariant c.deals_in_range.ensures c.requires.deal_list.fits_indices;
      one_total_per_order = let f = is.few in omega arith;
    }

pub returns-in-Some : goal.returns-in-Some
returns-in-Some c =
    let phases = c.args.phases.now in
    let orders = c.args.orders.now in
    let deals = c.args.deals.now in
    let k = c.loop-index.index in
    let here : c.list-own.result ≡ phase_list_at phases orders deals k = c.list-own.ensures ∙ c.in_ok-list.ensures deals c.loop-index.invariant in
    let picked : c.deref-in-loop-index.result.now ≡ phase_deals phases orders deals k = c.deref-in-loop-index.ensures.value ∙ c.in_ok-dealt.ensures
    ∙ dealt phases orders deals c.deref.result.now k c.first_place-first.result c.end_place-last.result (c.deref.ensures.value ∙ c.in_ok-causes.ensures.causes) c.first_place-first.ensures c.end_place-last.ensures in
    broken-phase phases orders deals c.args.count k c.in-Some.finding c.requires.admitted c.loop-index-test.true c.loop-index.so_far.traded.items c.loop-index.so_far.left.items c.loop-index.invariant
    c.list-own.result c.deref-in-loop-index.result.now c.phase_kind-kind.result here picked c.phase_kind-kind.ensures (c.judge_phase.ensures.found c.in-Some.finding (c.in_ok-finding.was ∙ ap Ok c.in-Some.is))

pub loop-index-preserved : goal.loop-index-preserved
loop-index-preserved c =
    let phases = c.args.phases.now in
    let orders = c.args.orders.now in
    let deals = c.args.deals.now in
    let k = c.loop-index.index in
    let here : c.list-own.result ≡ phase_list_at phases orders deals k = c.list-own.ensures ∙ c.in_ok-list.ensures deals c.loop-index.invariant in
    let picked : c.deref-in-loop-index.result.now ≡ phase_deals phases orders deals k = c.deref-in-loop-index.ensures.value ∙ c.in_ok-dealt.ensures
    ∙ dealt phases orders deals c.deref.result.now k c.first_place-first.result c.end_place-last.result (c.deref.ensures.value ∙ c.in_ok-causes.ensures.causes) c.first_place-first.ensures c.end_place-last.ensures in
    let none : c.in_ok-finding.field-0 ≡ None = c.in_default.is in
    phase-passed phases c.requires.phases orders c.requires.order_list deals c.requires.deal_list.named k c.loop-index-test.true c.loop-index.so_far.traded.items c.loop-index.so_far.left.items c.loop-index.invariant
    c.list-own.result c.deref-in-loop-index.result.now c.phase_kind-kind.result c.end_place-last.result c.judge_phase.new.so_far.traded.items c.judge_phase.new.so_far.left.items
    here picked c.phase_kind-kind.ensures c.end_place-last.ensures (c.judge_phase.ensures.passed (c.in_ok-finding.was ∙ ap Ok none))

pub returns : goal.returns
returns c =
    day-conforms c.args.phases.now c.requires.phases c.args.orders.now c.requires.order_list c.args.deals.now c.requires.deal_list c.in_ok-causes.ensures.fits c.requires.admitted
    c.loop-index.index (let out = c.loop-index-test.false in let end = c.loop-index.auto.index-end in omega arith) c.loop-index.so_far.traded.items c.loop-index.so_far.left.items c.of.result (c.of.ensures ∙ ap (λ (v : ℕ). (c.loop-index.so_far.traded.items, v)) c.volume_of.ensures) c.loop-index.invariant
