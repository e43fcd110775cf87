use Rattle.std.proofs.Common.{◌/◌, sym, ap, subst, ◌∙◌}
use Rattle.day_symbols.specs.Shares.{DayShare, IsDayShare}
use Rattle.day_symbols.proofs.PlaceLemmas.{place-is}
use Rattle.day_symbols.proofs.shares.DayShare.index_in_share.Goals as goal

pub returns : goal.returns
returns c =
    let shares : IsDayShare c.args.self = subst IsDayShare c.self.view_is c.self.invariant in
    ap (λ (share : DayShare). c.args.index / share.count) c.self.view_is ∙ sym (place-is c.args.self c.args.index shares c.requires)
