use Rattle.std.proofs.Common.{◌≡◌, ◌<◌, ◌++◌, ◌∷◌, [], ◌∙◌, ℕ, length, ap, arith}
use Rattle.session_audit.specs.Entering.{amount_by_earlier}
use Rattle.session_audit.proofs.EnteringLemmas.{amounts-more}
use Rattle.session_audit.proofs.entering.amounts_of.Goals as goal

pub loop-index-preserved : goal.loop-index-preserved
loop-index-preserved c =
    let so_far = c.loop-index.amounts.items in
    let lt : c.loop-index.index < length c.args.orders.now = let m = c.requires.inside in let t = c.loop-index-test.true in omega arith in
    let n : c.amount_by_earlier.result ≡ amount_by_earlier c.args.orders.now c.args.first c.args.left.now c.args.chain_traded.now so_far c.loop-index.index = c.amount_by_earlier.ensures ∙ ap (λ ns. amount_by_earlier c.args.orders.now c.args.first c.args.left.now c.args.chain_traded.now ns c.loop-index.index) c.deref.ensures.value in
    c.in_ok-push.ensures.items ∙ ap (λ (m : ℕ). so_far ++ m ∷ []) n
    ∙ amounts-more c.args.orders.now c.requires.order_list c.args.first c.args.left.now c.args.chain_traded.now c.loop-index.index so_far lt c.loop-index.invariant
