use Rattle.std.proofs.Common.{◌≡◌, ◌+◌, ◌-◌, ◌*◌, sym, ap, subst, ◌∙◌, arith}
use Rattle.std.specs.Prelude.{slice_get}
use Rattle.day_symbols.specs.Shares.{DayShare, IsDayShare}
use Rattle.day_symbols.proofs.KeptLemmas.{symbol-at}
use Rattle.day_symbols.proofs.shares.DayShare.symbol_at.Goals as goal

pub overflow_mul-share_index : goal.overflow_mul-share_index
overflow_mul-share_index c =
    let shares : IsDayShare c.args.self = subst IsDayShare c.self.view_is c.self.invariant in
    let at = symbol-at c.args.self c.args.symbols.now c.args.share_index shares c.requires in
    let same : c.args.share_index * c.self.inside.count ≡ c.args.share_index * c.args.self.count = ap (λ (share : DayShare). c.args.share_index * share.count) c.self.view_is in
    omega (arith, at.within, same, c.len.ensures)

pub overflow_add-share_index : goal.overflow_add-share_index
overflow_add-share_index c =
    let shares : IsDayShare c.args.self = subst IsDayShare c.self.view_is c.self.invariant in
    let at = symbol-at c.args.self c.args.symbols.now c.args.share_index shares c.requires in
    let same : c.args.share_index * c.self.inside.count + (c.self.inside.number - 1) ≡ c.args.share_index * c.args.self.count + (c.args.self.number - 1) =
    ap (λ (share : DayShare). c.args.share_index * share.count + (share.number - 1)) c.self.view_is in
    omega (arith, at.within, same, c.len.ensures)

pub returns : goal.returns
returns c =
    let shares : IsDayShare c.args.self = subst IsDayShare c.self.view_is c.self.invariant in
    let at = symbol-at c.args.self c.args.symbols.now c.args.share_index shares c.requires in
    let same : c.args.share_index * c.self.inside.count + (c.self.inside.number - 1) ≡ c.args.share_index * c.args.self.count + (c.args.self.number - 1) =
    ap (λ (share : DayShare). c.args.share_index * share.count + (share.number - 1)) c.self.view_is in
    c.at.ensures ∙ ap (slice_get c.args.symbols.now) same ∙ sym at.is
