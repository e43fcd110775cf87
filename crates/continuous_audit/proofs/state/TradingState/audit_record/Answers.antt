use Rattle.std.proofs.Common.{◌≡◌, ◌∙◌, ℕ, Option, Some, None, IfSome, option_map, sym, ap, subst, arith}
use Rattle.audit_base.specs.declared.flaws.Flaw.{Flaw}
use Rattle.audit_base.specs.Flaws.{IsEvidenceInside, finding_of}
use Rattle.audit_base.specs.Orders.{place_at, side_at}
use Rattle.audit_base.specs.ContinuousOffences.{spread_finding}
use Rattle.audit_base.specs.Deals.{number_at}
use Rattle.audit_base.proofs.OffenceLemmas.{get_or-default}
use Rattle.continuous_audit.specs.Flaws.{IsFlawAt, shown_number, spread_flaw_after, order_with_shown}
use Rattle.continuous_audit.specs.Spreads.{IsAfterOwn}
use Rattle.continuous_audit.proofs.BooksLemmas.{hold-below}
use Rattle.continuous_audit.proofs.FlawLemmas.{shown-there, spread-after, spread-inside}
use Rattle.continuous_audit.proofs.ReadyLemmas.{left-next, next-above, next-first}
use Rattle.continuous_audit.proofs.RecordLemmas.{spread-shown, none-shown}
use Rattle.continuous_audit.proofs.StandLemmas.{quiet-apart}
use Rattle.continuous_audit.proofs.VerdictLemmas.{calm-next}
use Rattle.continuous_audit.proofs.state.TradingState.audit_record.Goals as goal

pub drop_own-requires-clause-dropped : goal.drop_own-requires-clause-dropped
drop_own-requires-clause-dropped c =
    (c.trade.ensures.after_deals c.in_default.is).dropped

pub spread_of-requires-clause-earlier : goal.spread_of-requires-clause-earlier
spread_of-requires-clause-earlier c =
    hold-below c.args.market.now.orders.now c.requires.market.order_list c.args.market.now.deals.now c.requires.market.deal_list.named c.args.order c.requires.order c.drop_own.new.self.books (c.drop_own.ensures.holds c.args.market.now.deals.now c.requires.market.deal_list.named (c.trade.ensures.after_deals c.in_default.is).holds)

pub enter_own-requires-clause-earlier : goal.enter_own-requires-clause-earlier
enter_own-requires-clause-earlier c =
    hold-below c.args.market.now.orders.now c.requires.market.order_list c.args.market.now.deals.now c.requires.market.deal_list.named c.args.order c.requires.order c.drop_own.new.self.books (c.drop_own.ensures.holds c.args.market.now.deals.now c.requires.market.deal_list.named (c.trade.ensures.after_deals c.in_default.is).holds)

pub returns-in-Some-clause-found : goal.returns-in-Some-clause-found
returns-in-Some-clause-found c = subst (λ (f : Option Flaw). IfSome f (IsFlawAt c.args.market.now c.args.order)) c.in-Some.is c.trade.ensures.found

pub spread_flaw-requires-clause-own : goal.spread_flaw-requires-clause-own
spread_flaw-requires-clause-own c = shown-there c.args.market.now c.args.order c.requires.order c.trade.new.self.numbers (c.trade.ensures.after_deals c.in_default.is).dealt c.args.order (omega arith)

pub spread_flaw-requires-clause-other : goal.spread_flaw-requires-clause-other
spread_flaw-requires-clause-other c = shown-there c.args.market.now c.args.order c.requires.order c.trade.new.self.numbers (c.trade.ensures.after_deals c.in_default.is).dealt c.in-Some-spread_of.other (c.spread_of.ensures.upto c.in-Some-spread_of.other c.in-Some-spread_of.is)

pub returns-in-Some-spread_of-clause-found : goal.returns-in-Some-spread_of-clause-found
returns-in-Some-spread_of-clause-found c =
    let orders = c.args.market.now.orders.now in
    let deals = c.args.market.now.deals.now in
    let n = c.args.order in
    let numbers = c.trade.new.self.numbers in
    let other = c.in-Some-spread_of.other in
    let after_deals = c.trade.ensures.after_deals c.in_default.is in
    let left = after_deals.dealt.known.left in
    let left_is : c.index-left.result.now ≡ number_at numbers.order_numbers.left.items n = c.index-left.ensures ∙ get_or-default numbers.order_numbers.left.items n c.index-left.result.now 0 (let count = left.count in let inside = c.requires.order in omega arith) in
    let own : IsAfterOwn orders deals n c.index-left.result.now c.drop_own.new.self.books = record { named = c.requires.market.deal_list.named; left_is = left_is ∙ left.is n (omega arith); holds = c.drop_own.ensures.holds deals c.requires.market.deal_list.named after_deals.holds } in
    let is = c.spread_of.ensures.finding deals own c.requires.ready.calm.apart in
    let found = spread-shown orders deals (place_at orders n) _ after_deals.dealt.conserved after_deals.ranked (is ∙ ap (option_map (λ (x : ℕ). finding_of orders (spread_flaw_after orders deals n x))) c.in-Some-spread_of.is) in
    let upto = c.spread_of.ensures.upto other c.in-Some-spread_of.is in
    record {
      inside = subst (λ (f : Flaw). IsEvidenceInside orders f.evidence) (sym c.spread_flaw.ensures) (spread-inside orders (side_at orders n) (order_with_shown (shown_number numbers) n) (order_with_shown (shown_number numbers) other) c.requires.order (let inside = c.requires.order in omega arith));
      same = found ∙ ap (λ (f : Flaw). Some (finding_of orders f)) (sym (c.spread_flaw.ensures ∙ spread-after c.args.market.now n c.requires.order numbers after_deals.dealt other upto));
    }

pub returns-clause-ready : goal.returns-clause-ready
returns-clause-ready c =
    let orders = c.args.market.now.orders.now in
    let deals = c.args.market.now.deals.now in
    let n = c.args.order in
    let after_deals = c.trade.ensures.after_deals c.in_default.is in
    let left = after_deals.dealt.known.left in
    let left_is : c.index-left.result.now ≡ number_at c.trade.new.self.numbers.order_numbers.left.items n = c.index-left.ensures ∙ get_or-default c.trade.new.self.numbers.order_numbers.left.items n c.index-left.result.now 0 (let count = left.count in let inside = c.requires.order in omega arith) in
    let own : IsAfterOwn orders deals n c.index-left.result.now c.drop_own.new.self.books = record { named = c.requires.market.deal_list.named; left_is = left_is ∙ left.is n (omega arith); holds = c.drop_own.ensures.holds deals c.requires.market.deal_list.named after_deals.holds } in
    let spread_none : spread_finding orders deals (place_at orders n) ≡ None = c.spread_of.ensures.finding deals own c.requires.ready.calm.apart
    ∙ ap (option_map (λ (x : ℕ). finding_of orders (spread_flaw_after orders deals n x))) c.in_default-spread_of.is in
    λ e. record {
      calm = calm-next c.args.market.now.orders.now c.requires.market.order_list c.args.market.now.deals.now c.requires.market.deal_list.named c.args.order c.requires.order _ (next-above orders c.requires.market.order_list n c.requires.order) (next-first orders c.requires.market.order_list n c.requires.order) c.requires.ready.calm
          (none-shown orders deals (place_at orders n) after_deals.dealt.conserved after_deals.ranked spread_none)
          (quiet-apart orders c.requires.market.order_list deals n c.requires.order c.drop_own.new.self.books own.holds c.requires.ready.calm.apart spread_none);
      known = record {
        chain_traded = after_deals.dealt.known.chain_traded;
        chain_ended = after_deals.dealt.known.chain_ended;
        sizes = after_deals.dealt.known.sizes;
        left = left-next c.args.market.now.orders.now c.requires.market.order_list c.args.market.now.deals.now c.requires.market.deal_list.named c.args.order c.requires.order c.trade.new.self.numbers.order_numbers.left.items left;
        running = after_deals.dealt.known.running;
      };
      books = c.drop_before_next.ensures.holds deals c.requires.market.deal_list.named (c.in_ok-enter_own.ensures.entered deals own);
      dropped = c.drop_before_next.ensures.dropped;
    }
