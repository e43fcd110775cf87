use Rattle.std.proofs.Common.{drop, arith}
use Rattle.std.proofs.lemmas.List.{length-take-le}
use Rattle.fix_fields.proofs.SearchLemmas.{absent, none_before}
use Rattle.fix_fields.proofs.values.delimited_size.Goals as goal

pub returns-in_err-size-clause-none : goal.returns-in_err-size-clause-none
returns-in_err-size-clause-none c =
    rw c.from_residual.ensures (λ value more is. absent 1 (drop c.args.from c.args.body.now) c.in_err-size.ensures.first value more)

pub returns-then-size-gt0-clause-form : goal.returns-then-size-gt0-clause-form
returns-then-size-gt0-clause-form c =
    let bytes = drop c.args.from c.args.body.now in
    let size = c.in_ok-size.size in
    let found = c.in_ok-size.ensures.first in
    let within = length-take-le size bytes (omega (arith, found.0.high)) in
    record { nonempty = omega arith; no_end = none_before 1 bytes size (omega (arith, found.0.high)) found.0.before }
