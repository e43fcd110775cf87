use Rattle.std.proofs.Common.{◌∙◌, sym, arith}
use Rattle.std.proofs.lemmas.Result.{err_from_is_err_and}
use Rattle.fix_framing.proofs.HeaderLemmas.{header-inside, header-few}
use Rattle.fix_framing.proofs.HeaderTestLemmas.{passed-header}
use Rattle.fix_framing.proofs.TestLemmas.{fault-header, fault-length, fault-trailer}
use Rattle.fix_framing.proofs.frames.message_places.Goals as goal

pub returns-in_err-header-clause-err : goal.returns-in_err-header-clause-err
returns-in_err-header-clause-err g c =
    let p = err_from_is_err_and c.from_residual.result c.from_residual.ensures.1 in
    rw (p.1, p.2) (fault-header g.H.Headers.headers c.args.text.now _ (sym c.in_err-header.ensures.tests))

pub find_places-requires-clause-inside : goal.find_places-requires-clause-inside
find_places-requires-clause-inside g c =
    let found = passed-header g.H.Headers.headers c.args.text.now (sym c.in_ok-header.ensures.tests) in
    omega (arith, header-inside g.H.Headers.headers c.args.text.now found, c.in_ok-header.ensures.size)

pub find_places-requires-clause-bounded : goal.find_places-requires-clause-bounded
find_places-requires-clause-bounded g c =
    let found = passed-header g.H.Headers.headers c.args.text.now (sym c.in_ok-header.ensures.tests) in
    omega (arith, header-few g.H.Headers.headers c.args.text.now c.are_headers.ensures found, c.in_ok-header.ensures.size)

pub returns-in_err-places-clause-err : goal.returns-in_err-places-clause-err
returns-in_err-places-clause-err g c =
    let p = err_from_is_err_and c.from_residual-in_err-places.result c.from_residual-in_err-places.ensures.1 in
    let fault = rw c.in_ok-header.ensures.size at c.in_err-places.ensures.err in
    rw (p.1, p.2) (fault-length g.H.Headers.headers c.args.text.now _ (sym c.in_ok-header.ensures.tests) fault)

pub returns-in_err-check_trailer-clause-err : goal.returns-in_err-check_trailer-clause-err
returns-in_err-check_trailer-clause-err g c =
    let p = err_from_is_err_and c.from_residual-in_err-check_trailer.result c.from_residual-in_err-check_trailer.ensures.1 in
    let places = rw c.in_ok-header.ensures.size at c.in_ok-places.ensures.ok in
    rw (p.1, p.2) (fault-trailer g.H.Headers.headers c.args.text.now (sym c.in_ok-header.ensures.tests) places.0 ∙ sym (c.in_err-check_trailer.ensures.tests _ places.2))

pub returns-clause-ok : goal.returns-clause-ok
returns-clause-ok g c =
    let places = rw c.in_ok-header.ensures.size at c.in_ok-places.ensures.ok in
    (fault-trailer g.H.Headers.headers c.args.text.now (sym c.in_ok-header.ensures.tests) places.0 ∙ sym (c.in_ok-check_trailer.ensures.tests _ places.2), places.1, places.2)
