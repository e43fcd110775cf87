use Rattle.std.proofs.Common.{◌≡◌, ◌<◌, ◌∙◌, sym, subst, arith, ℕ, length, ◌+◌, ◌/◌, ◌^◌}
use Rattle.std.specs.Prelude.{slice_set}
use Rattle.audit_base.specs.Deals.{number_at}
use Rattle.audit_base.proofs.OffenceLemmas.{get_or-default}
use Rattle.order_arrivals.specs.PrefixSums.{IsAdding, total_in}
use Rattle.order_arrivals.proofs.PrefixLemmas.{adding-fits, adding-next}
use Rattle.order_arrivals.proofs.prefix_sums.PrefixSums.add.Goals as goal

pub overflow_add-index_mut : goal.overflow_add-index_mut
overflow_add-index_mut c =
    let s = c.args.self.now in
    let xs = c.loop-node.self.nodes.items in
    let a = c.loop-node.invariant.adding in
    let count = a.count in
    let whole = c.requires.tree.count in
    let within = a.inside in
    let inside : c.loop-node.node < length xs = omega arith in
    let value : c.index_mut.result.now ≡ number_at xs c.loop-node.node = c.index_mut.ensures.value ∙ get_or-default xs c.loop-node.node c.index_mut.result.now 0 inside in
    let fit = adding-fits s.nodes.items s.width c.args.index c.args.amount c.loop-node.node xs c.requires.tree.sums a c.loop-node-test.true in
    let small : total_in s + c.args.amount < 2 ^ 128 = c.requires.fits in
    omega arith

pub loop-node-preserved : goal.loop-node-preserved
loop-node-preserved c =
    let s = c.args.self.now in
    let xs = c.loop-node.self.nodes.items in
    let a = c.loop-node.invariant.adding in
    let count = a.count in
    let whole = c.requires.tree.count in
    let within = a.inside in
    let inside : c.loop-node.node < length xs = omega arith in
    let value : c.index_mut.result.now ≡ number_at xs c.loop-node.node = c.index_mut.ensures.value ∙ get_or-default xs c.loop-node.node c.index_mut.result.now 0 inside in
    record {
      width = c.loop-node.invariant.width;
      adding = subst (λ (v : ℕ). IsAdding s.nodes.items s.width c.args.index c.args.amount (c.loop-node.node / 2) (slice_set xs c.loop-node.node (v + c.args.amount))) (sym value)
          (adding-next s.nodes.items s.width c.args.index c.args.amount c.loop-node.node xs a whole c.loop-node-test.true);
    }
