use Rattle.std.proofs.Common.{sym, ap, ◌∙◌}
use Rattle.std.specs.Prelude.{option_map}
use Rattle.audit_base.specs.Orders.{same_key}
use Rattle.order_list.specs.KeptSeen.{seen_from}
use Rattle.order_list.specs.Keys.{kept_in}
use Rattle.order_list.proofs.KeyLemmas.{seen-put, seen-none}
use Rattle.order_list.proofs.keys.Keys.add.Goals as goal

pub returns-clause-earlier : goal.returns-clause-earlier
returns-clause-earlier c = c.seen_of.ensures ∙ ap (option_map seen_from) c.in_ok-put.ensures.earlier

pub returns-clause-adds : goal.returns-clause-adds
returns-clause-adds c = λ other.
    ap (option_map seen_from) (c.in_ok-put.ensures.puts other)
    ∙ seen-put (same_key c.args.key.now other) c.in_ok-kept.kept c.args.seen (kept_in c.args.self.now other) c.in_ok-kept.ensures

pub returns-clause-number : goal.returns-clause-number
returns-clause-number c = λ none. c.in_ok-put.ensures.number (seen-none c.in_ok-put.put.earlier (sym c.seen_of.ensures ∙ none))
