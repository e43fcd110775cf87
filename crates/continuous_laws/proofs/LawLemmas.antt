-- The laws.
use Rattle.continuous_laws.specs.Laws.{OneStepFill, ContinuousUniqueness, OnlyPairs, ExpectedConform, ExpectedExist, ExpectedAreOne}
use Rattle.continuous_laws.proofs.FillStep.{share-fills, fill-share}
use Rattle.continuous_laws.proofs.UniqueLemmas.{unique}
use Rattle.continuous_laws.proofs.ExistLemmas.{conforms}
use Rattle.continuous_laws.proofs.RuleLemmas.{is_placed, to-holds-all, from-holds-all}
use Rattle.continuous_laws.proofs.ExpectedLemmas.{expected-shares, expected-exist}
use Rattle.continuous_laws.proofs.OneExpectedLemmas.{one-expected}

pub step_fill : OneStepFill
step_fill count better q size r = (share-fills count better r q size, λ f F. fill-share count better q size f r F)

pub uniqueness : ContinuousUniqueness
uniqueness orders ds es list regular c d = unique orders ds es (is_placed orders list) regular (to-holds-all orders ds list c) (to-holds-all orders es list d)

pub only_pairs : OnlyPairs
only_pairs orders deals list regular ranges c bid ask = record { some = deals; ranges = ranges; conforms = c; each = λ es r d. uniqueness orders es deals list regular d c bid ask }

pub expected_conform : ExpectedConform
expected_conform orders deals list regular e = from-holds-all orders deals list (conforms orders deals (is_placed orders list) regular (expected-shares orders deals (is_placed orders list) e))

pub expected_exist : ExpectedExist
expected_exist = expected-exist

pub expected_one : ExpectedAreOne
expected_one orders ds es list = one-expected orders (is_placed orders list) ds es
