use Rattle.std.proofs.Common.{arith}
use Rattle.std.proofs.lemmas.List.{take_rest}
use Rattle.fix_framing.proofs.MessageLemmas.{found-at, IsFrameWith-no_fault, IsFrameWith-size, IsFrameWith-body_size}
use Rattle.fix_framing.proofs.frames.frame_at.Goals as goal

pub returns-in_err-places-clause-only : goal.returns-in_err-places-clause-only
returns-in_err-places-clause-only g c =
    λ text body more frame whole.
    let none = IsFrameWith-no_fault g.H.Headers.headers text body more c.are_headers.ensures frame in
    let fault = rw (take_rest c.args.bytes.now c.args.at, whole, none) at c.in_err-places.ensures.err in
    absurd (cc)

pub returns-clause-found : goal.returns-clause-found
returns-clause-found g c =
    let places = rw (take_rest c.args.bytes.now c.args.at) at c.in_ok-places.ensures.ok in
    found-at g.H.Headers.headers c.args.bytes.now c.args.at c.in_ok-places.places.body c.in_ok-places.places.trailer c.requires places.0 places.1 places.2

pub returns-clause-only : goal.returns-clause-only
returns-clause-only g c =
    λ text body more frame whole.
    let places = rw (take_rest c.args.bytes.now c.args.at, whole) at c.in_ok-places.ensures.ok in
    let all = IsFrameWith-size g.H.Headers.headers text body more c.are_headers.ensures frame in
    let part = IsFrameWith-body_size g.H.Headers.headers text body more c.are_headers.ensures frame in
    (omega arith, omega arith)
