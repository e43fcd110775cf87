use Rattle.std.proofs.Common.{◌∙◌}
use Rattle.fix_messages.proofs.TagLemmas.{type-is}
use Rattle.fix_messages.proofs.message.Message.kind.Goals as goal

pub returns : goal.returns
returns c =
    let s = c.self.inside in
    c.first.ensures ∙ type-is s.body.now s.notes.now c.args.self.now c.self.invariant c.self.view_is
