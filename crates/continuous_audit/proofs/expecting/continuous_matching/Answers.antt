use Rattle.std.proofs.Common.{ℕ, List, length, sym, ap, subst, arith, All}
use Rattle.std.proofs.lemmas.Result.{IfOk-weaker}
use Rattle.continuous_audit.specs.declared.pairs.FillPair.{FillPair}
use Rattle.continuous_audit.specs.Endings.{AreEndings}
use Rattle.continuous_audit.specs.Matching.{AreTradesAtStart}
use Rattle.continuous_audit.specs.Pairs.{AreFillPairDeals, IsFillPairInRange}
use Rattle.continuous_audit.proofs.ExpectingLemmas.{matched-first, sorted-dealt, sorted-length, made-expected, made-conforms, made-listed}
use Rattle.continuous_audit.proofs.expecting.continuous_matching.Goals as goal

pub expect_records-requires-clause-endings : goal.expect_records-requires-clause-endings
expect_records-requires-clause-endings c = subst (AreEndings c.args.orders.now) (sym c.deref.ensures.value) c.in_ok-endings.ensures

pub expect_records-requires-clause-matched : goal.expect_records-requires-clause-matched
expect_records-requires-clause-matched c = λ deals is. matched-first c.args.orders.now c.requires.order_list c.in_ok-so_far.so_far (subst (λ (n : ℕ). AreTradesAtStart n c.in_ok-so_far.so_far) c.len.ensures c.in_ok-so_far.ensures) deals

pub number_pairs-requires-clause-fits_indices : goal.number_pairs-requires-clause-fits_indices
number_pairs-requires-clause-fits_indices c =
    let pairs = c.expect_records.new.so_far.pairs.items in
    let sorted = c.sort_pairs.new.pairs.items in
    let same = sorted-length c.args.orders.now c.requires.order_list c.requires.regular pairs sorted c.in_ok-sort_pairs.ensures.moved c.in_ok-sort_pairs.ensures.sorted (λ deals is. (c.in_ok-expect_records.ensures.matched deals is).pairs) c.in_ok-expect_records.ensures.counted.dealt in
    let few = c.in_ok-expect_records.ensures.counted.within in
    let orders_few = c.requires.order_list.fits_indices in
    let long = ap (λ (ps : List FillPair). length ps) c.deref-2.ensures.value in
    omega arith

pub number_pairs-requires-clause-dealt : goal.number_pairs-requires-clause-dealt
number_pairs-requires-clause-dealt c =
    let pairs = c.expect_records.new.so_far.pairs.items in
    let sorted = c.sort_pairs.new.pairs.items in
    subst (All (IsFillPairInRange (length c.args.orders.now))) (sym c.deref-2.ensures.value)
    (sorted-dealt c.args.orders.now c.requires.order_list c.requires.regular pairs sorted c.in_ok-sort_pairs.ensures.moved c.in_ok-sort_pairs.ensures.sorted (λ deals is. (c.in_ok-expect_records.ensures.matched deals is).pairs) c.in_ok-expect_records.ensures.counted.dealt)

pub returns-clause-expected : goal.returns-clause-expected
returns-clause-expected c =
    let pairs = c.expect_records.new.so_far.pairs.items in
    let sorted = c.sort_pairs.new.pairs.items in
    IfOk-weaker c.number_pairs.result _ _ (λ made numbers. made-expected c.args.orders.now c.requires.order_list c.requires.regular pairs sorted c.in_ok-sort_pairs.ensures.moved c.in_ok-sort_pairs.ensures.sorted (λ deals is. (c.in_ok-expect_records.ensures.matched deals is).pairs) c.in_ok-expect_records.ensures.counted.dealt made.items
    (subst (λ (ps : List FillPair). AreFillPairDeals c.args.orders.now ps made.items) c.deref-2.ensures.value numbers)) c.number_pairs.ensures.numbered

pub returns-clause-conforms : goal.returns-clause-conforms
returns-clause-conforms c =
    let pairs = c.expect_records.new.so_far.pairs.items in
    let sorted = c.sort_pairs.new.pairs.items in
    IfOk-weaker c.number_pairs.result _ _ (λ made numbers. made-conforms c.args.orders.now c.requires.order_list c.requires.regular pairs sorted c.in_ok-sort_pairs.ensures.moved c.in_ok-sort_pairs.ensures.sorted (λ deals is. (c.in_ok-expect_records.ensures.matched deals is).pairs) c.in_ok-expect_records.ensures.counted.dealt made.items
    (subst (λ (ps : List FillPair). AreFillPairDeals c.args.orders.now ps made.items) c.deref-2.ensures.value numbers)) c.number_pairs.ensures.numbered

pub returns-clause-deal_list : goal.returns-clause-deal_list
returns-clause-deal_list c =
    let pairs = c.expect_records.new.so_far.pairs.items in
    let sorted = c.sort_pairs.new.pairs.items in
    let same = sorted-length c.args.orders.now c.requires.order_list c.requires.regular pairs sorted c.in_ok-sort_pairs.ensures.moved c.in_ok-sort_pairs.ensures.sorted (λ deals is. (c.in_ok-expect_records.ensures.matched deals is).pairs) c.in_ok-expect_records.ensures.counted.dealt in
    let few = c.in_ok-expect_records.ensures.counted.within in
    let orders_few = c.requires.order_list.fits_indices in
    IfOk-weaker c.number_pairs.result _ _ (λ made numbers. made-listed c.args.orders.now c.requires.order_list c.requires.regular pairs sorted c.in_ok-sort_pairs.ensures.moved c.in_ok-sort_pairs.ensures.sorted (λ deals is. (c.in_ok-expect_records.ensures.matched deals is).pairs) c.in_ok-expect_records.ensures.counted.dealt made.items
    (subst (λ (ps : List FillPair). AreFillPairDeals c.args.orders.now ps made.items) c.deref-2.ensures.value numbers) (omega arith)) c.number_pairs.ensures.numbered
