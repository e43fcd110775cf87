use Rattle.std.proofs.Common.{arith}
use Rattle.std.proofs.lemmas.Result.{err_from_is_err_and}
use Rattle.written_logs.proofs.TextLemmas.{state-first}
use Rattle.written_logs.proofs.WriteLemmas.{all-written, block-fails, first-more, first-none, head-fails, stays-same}
use Rattle.written_logs.proofs.generating.write_generated.Goals as goal

pub returns-in_err-write_head-clause-writes : goal.returns-in_err-write_head-clause-writes
returns-in_err-write_head-clause-writes g c =
    let p = err_from_is_err_and c.from_residual.result c.from_residual.ensures.1 in
    let old = g.K.Sink.state c.args.out.now in
    rw (p.1, p.2) (head-fails c.args.form c.args.start c.args.count (Unit {0}) (Unit {0}) old (g.K.Sink.state c.write_head.new.out) c.in_err-write_head.field-0.0 (stays-same old) c.in_err-write_head.ensures.writes)

pub loop-written-init : goal.loop-written-init
loop-written-init g c = (
  omega arith,
  first-none c.args.form c.args.start c.args.count (g.K.Sink.state c.args.out.now) (g.K.Sink.state c.write_head.new.out) c.in_ok-write_head.ensures.stays c.in_ok-write_head.ensures.writes (state-first c.args.start),
)

pub returns-in_err-state-clause-writes : goal.returns-in_err-state-clause-writes
returns-in_err-state-clause-writes g c =
    let p = err_from_is_err_and c.from_residual-in_err-state.result c.from_residual-in_err-state.ensures.1 in
    let some = c.loop-written-test.true in
    let most = c.next_count-next.ensures.most in
    let has = c.loop-written.invariant.1 in
    rw (p.1, p.2) (block-fails c.args.form c.args.start c.args.count (Unit {0}) c.loop-written.written c.next_count-next.result c.loop-written.state (g.K.Sink.state c.args.out.now) (g.K.Sink.state c.loop-written.out) (g.K.Sink.state c.write_block.new.out)
    c.in_err-state.field-0.0 (omega (arith, some, most)) has (c.in_err-state.ensures.writes c.args.start has.state_is))

pub loop-written-preserved : goal.loop-written-preserved
loop-written-preserved g c =
    let some = c.loop-written-test.true in
    let most = c.next_count-next.ensures.most in
    let has = c.loop-written.invariant.1 in (
      omega (arith, some, most),
      first-more c.args.form c.args.start c.args.count c.loop-written.written c.next_count-next.result c.loop-written.state c.in_ok-state.state (g.K.Sink.state c.args.out.now) (g.K.Sink.state c.loop-written.out) (g.K.Sink.state c.write_block.new.out)
          has c.in_ok-state.ensures.stays (c.in_ok-state.ensures.writes c.args.start has.state_is),
    )

pub returns-clause-writes : goal.returns-clause-writes
returns-clause-writes g c =
    let all = c.loop-written-test.false in
    let few = c.loop-written.invariant.0 in
    all-written c.args.form c.args.start c.args.count c.loop-written.written c.loop-written.state (g.K.Sink.state c.args.out.now) (g.K.Sink.state c.loop-written.out) (omega (arith, all, few)) c.loop-written.invariant.1
