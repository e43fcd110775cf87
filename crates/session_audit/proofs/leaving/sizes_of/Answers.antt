use Rattle.std.proofs.Common.{◌≡◌, ◌<◌, subst, ◌++◌, ◌∷◌, [], ◌∙◌, ℕ, List, length, ap, arith}
use Rattle.std.proofs.lemmas.List.{length-append}
use Rattle.audit_base.specs.Deals.{number_at}
use Rattle.session_audit.specs.Numbers.{total_of_chain}
use Rattle.session_audit.proofs.ListBelowLemmas.{length-list_below, list_below-at}
use Rattle.session_audit.proofs.LeavingLemmas.{sizes-more}
use Rattle.session_audit.specs.Leaving.{has_resting_target}
use Rattle.session_audit.proofs.leaving.sizes_of.Goals as goal

pub bounds-before-index : goal.bounds-before-index
bounds-before-index c =
    let long : length c.args.before.now ≡ length c.args.orders.now = ap length c.requires.before ∙ length-list_below (total_of_chain c.args.orders.now c.args.traded.now) (length c.args.orders.now) in
    let lt = c.loop-index-test.true in
    let end = c.len-index-end.ensures in
    omega arith

pub loop-index-preserved : goal.loop-index-preserved
loop-index-preserved c =
    let orders = c.args.orders.now in
    let i = c.loop-index.index in
    let lt : i < length orders = subst (λ (n : ℕ). c.loop-index.index < n) c.len-index-end.ensures c.loop-index-test.true in
    record {
      long = let e = c.in_ok-push.ensures.items in let a = length-append c.loop-index.sizes.items (c.size_if_target_rests.result ∷ []) in let l = c.loop-index.invariant.long in let f = ap length e in omega arith;
      are = λ deals is.
          let there : c.has_resting_target-target_rests.result ≡ has_resting_target orders c.args.traded.now c.loop-index.sizes.items i = c.has_resting_target-target_rests.ensures ∙ ap (λ ns. has_resting_target orders c.args.traded.now ns i) c.deref.ensures.value in
          let spent : number_at c.args.before.now i ≡ total_of_chain orders c.args.traded.now i = ap (λ (ns : List ℕ). number_at ns i) c.requires.before ∙ list_below-at (total_of_chain orders c.args.traded.now) (length orders) i 0 lt in
          c.in_ok-push.ensures.items ∙ ap (λ (m : ℕ). c.loop-index.sizes.items ++ m ∷ []) c.size_if_target_rests.ensures
          ∙ sizes-more orders c.requires.order_list c.requires.regular deals c.args.traded.now is i c.loop-index.sizes.items _ c.has_resting_target-target_rests.result _ lt (c.loop-index.invariant.are deals is) c.at.ensures there spent;
    }
