-- A write takes the front of what is left, and one that fails leaves a part written.
use Rattle.std.proofs.Common.{rules, ◌<◌, ◌++◌, length, take, arith, sym, ap, ◌∙◌, length-append}
use Rattle.std.proofs.KnownBytes.{Appends-trans}
use Rattle.log_source.proofs.WriteLemmas.{Stays-trans, cut_more, put_failed}
use Rattle.log_source.proofs.put.put_all.Goals as goal

pub returns-in_err-count-clause-put : goal.returns-in_err-count-clause-put
returns-in_err-count-clause-put g c =
    let i = c.loop-rest.invariant in
    let more : 0 < length c.loop-rest.rest.now = search rules in
    put_failed _ _ _ _ _ _ i.written _ c.from_residual.ensures.0 i.stays i.cut more i.appended c.in_err-count.ensures

pub loop-rest-preserved : goal.loop-rest-preserved
loop-rest-preserved g c =
    let i = c.loop-rest.invariant in
    let w = c.in_ok-count.ensures in
    let more : 0 < length c.loop-rest.rest.now = search rules in
    record {
      stays = Stays-trans _ _ _ i.stays w.stays;
      quiet = w.quiet ∙ i.quiet;
      written = i.written ++ take c.in_ok-count.count c.loop-rest.rest.now;
      cut = cut_more _ i.written c.loop-rest.rest.now c.in_ok-count.count i.cut;
      appended = Appends-trans _ _ _ i.written _ i.appended w.bytes;
      untouched = λ e. absurd (omega (arith, ap length (sym i.cut ∙ e), length-append i.written c.loop-rest.rest.now));
    }
