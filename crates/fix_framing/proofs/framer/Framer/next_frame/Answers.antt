use Rattle.std.proofs.Common.{◌≡◌, ◌≢◌, Some, sym, ◌∙◌, ap, refl, rules}
use Rattle.fix_framing.specs.declared.frames.FrameFault.TheVariants.{Truncated}
use Rattle.fix_framing.specs.Framing.{next_text}
use Rattle.fix_framing.proofs.FramerLemmas.{gives-so, waits-so, unfinished-cut, next-offset-so}
use Rattle.fix_framing.proofs.StayLemmas.{fault-stays}
use Rattle.fix_framing.proofs.framer.Framer.next_frame.Goals as goal

pub returns-in-Ok-clause-answers : goal.returns-in-Ok-clause-answers
returns-in-Ok-clause-answers g c =
    let skip = rw c.deref.ensures.value at c.skip_breaks-at.ensures in
    let found = rw c.deref-2.ensures.value at c.in-Ok.ensures.found in
    gives-so g.H.Headers.headers c.args.self.now _ c.skip_breaks-at.result c.in-Ok.frame skip.low skip.high skip.passed found refl refl refl

pub returns-in-Ok-clause-waits : goal.returns-in-Ok-clause-waits
returns-in-Ok-clause-waits g c =
    let skip = rw c.deref.ensures.value at c.skip_breaks-at.ensures in
    let none = rw (c.deref-2.ensures.value, skip.rest) at c.in-Ok.ensures.fault in
    (λ e. cc, λ unfinished. let cut = unfinished-cut g.H.Headers.headers c.args.self.now c.are_headers.ensures unfinished in cc)

pub returns-in-Err-clause-answers : goal.returns-in-Err-clause-answers
returns-in-Err-clause-answers g c =
    let skip = rw c.deref.ensures.value at c.skip_breaks-at.ensures in
    let fault = rw (c.deref-2.ensures.value, skip.rest) at c.in-Err.ensures.fault in
    let other = c.if-ne.ensures in
    let bad : c.in-Err.fault ≢ Truncated = λ e. (let was = rw e at other in cc) in
    record {
      failing = sym fault;
      bad = bad;
      place = next-offset-so g.H.Headers.headers c.args.self.now c.skip_breaks-at.result skip.high skip.rest;
      stays = λ more. fault-stays g.H.Headers.headers (next_text c.args.self.now) more c.in-Err.fault c.are_headers.ensures (sym fault) bad;
      again = refl;
    }

pub returns-in-Err-clause-waits : goal.returns-in-Err-clause-waits
returns-in-Err-clause-waits g c =
    let skip = rw c.deref.ensures.value at c.skip_breaks-at.ensures in
    let fault = rw (c.deref-2.ensures.value, skip.rest) at c.in-Err.ensures.fault in
    let other = c.if-ne.ensures in
    let bad : c.in-Err.fault ≢ Truncated = λ e. (let was = rw e at other in cc) in
    (λ e. cc, λ unfinished. let cut = unfinished-cut g.H.Headers.headers c.args.self.now c.are_headers.ensures unfinished in absurd (bad cc))

pub returns-in-Err-2-clause-answers : goal.returns-in-Err-2-clause-answers
returns-in-Err-2-clause-answers g c =
    let skip = rw c.deref.ensures.value at c.skip_breaks-at.ensures in
    let fault = rw c.deref-2.ensures.value at c.in-Err.ensures.fault in
    let same : c.in-Err.fault ≡ Truncated = search (rules, c.if-ne.ensures) in
    waits-so g.H.Headers.headers c.args.self.now _ c.skip_breaks-at.result skip.low skip.high skip.passed skip.rest (sym fault ∙ ap Some same) c.drop_front.ensures refl refl
