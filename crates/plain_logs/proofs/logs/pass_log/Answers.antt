use Rattle.std.proofs.Common.{arith, ℕ}
use Rattle.std.proofs.lemmas.Result.{err_from_is_err_and}
use Rattle.plain_logs.proofs.PassLemmas.{nothing-read, stops-after, stops-at-piece}
use Rattle.plain_logs.proofs.logs.pass_log.Goals as goal

pub returns-in_err-start-clause-stops : goal.returns-in_err-start-clause-stops
returns-in_err-start-clause-stops g c =
    let p = err_from_is_err_and c.from_residual.result c.from_residual.ensures.1 in
    rw (p.1, p.2) (nothing-read g.F.Shelf g.D.DayFeed.writes g.D.DayFeed.reads c.args.day.now.which c.args.day.now.name.now c.args.shelf.now c.start.new.self (g.K.Sink.state c.args.out.now))

pub returns-in_err-count-clause-stops : goal.returns-in_err-count-clause-stops
returns-in_err-count-clause-stops g c =
    let p = err_from_is_err_and c.from_residual-in_err-count.result c.from_residual-in_err-count.ensures.1 in
    let i = c.pieces.invariant in
    let count = i.count in
    let before = i.taken_is in
    let after = c.in_err-count.ensures.slot.taken in
    rw (p.1, p.2) (stops-after g.F.Shelf g.D.DayFeed.writes g.D.DayFeed.reads c.args.day.now.which c.args.day.now.name.now c.args.shelf.now c.read.new.self (g.K.Sink.state c.args.out.now) (g.K.Sink.state c.pieces.out) _ i.read i.bodies i.wrote i.quiet i.begins (omega (arith, count, before, after)) i.known)

pub returns-then-count-day-clause-stops : goal.returns-then-count-day-clause-stops
returns-then-count-day-clause-stops g c =
    let i = c.pieces.invariant in
    let count = i.count in
    let before = i.taken_is in
    let after = c.in_ok-count.ensures.slot.taken in
    stops-after g.F.Shelf g.D.DayFeed.writes g.D.DayFeed.reads c.args.day.now.which c.args.day.now.name.now c.args.shelf.now c.read.new.self (g.K.Sink.state c.args.out.now) (g.K.Sink.state c.pieces.out) _ i.read i.bodies i.wrote i.quiet i.begins (omega (arith, count, before, after)) i.known

pub returns-in_err-spare-clause-stops : goal.returns-in_err-spare-clause-stops
returns-in_err-spare-clause-stops g c =
    let p = err_from_is_err_and c.from_residual-in_err-spare.result c.from_residual-in_err-spare.ensures.1 in
    let i = c.pieces.invariant in
    let count = i.count in
    let before = i.taken_is in
    let after = c.in_ok-count.ensures.slot.taken in
    rw (p.1, p.2) (stops-at-piece g.F.Shelf g.D.DayFeed.writes g.D.DayFeed.reads c.args.day.now.which c.args.day.now.name.now c.args.shelf.now c.read.new.self ℕ g.D.DayFeed.has_read c.pieces.feed c.pass_piece.new.feed c.in_ok-count.count c.read.new.buf (g.K.Sink.state c.args.out.now)
    (g.K.Sink.state c.pieces.out) (g.K.Sink.state c.pass_piece.new.out) _ _ i.read i.bodies c.in_err-spare.field-0.0 c.in_err-spare.ensures.passes i.has i.stays i.wrote i.quiet i.begins (omega (arith, count, before, after)) i.known c.in_ok-count.ensures.slot.bytes.0)
