use Rattle.std.proofs.Common.{◌∙◌, ap, sym}
use Rattle.std.proofs.lemmas.Result.{IfOk-weaker}
use Rattle.audit_base.specs.declared.terms.Rule.{Rule}
use Rattle.offence_list.specs.Offences.{offences_of}
use Rattle.symbol_offences.proofs.RuleLemmas.{call-rule_is, no-call_rule_is}
use Rattle.symbol_offences.proofs.listing.all_offences.Goals as goal

pub returns-in-Some-clause-list : goal.returns-in-Some-clause-list
returns-in-Some-clause-list c =
    IfOk-weaker c.call_offences.result _ _
    (λ listing is. is ∙ ap (λ (r : Rule). offences_of r c.args.orders.now c.args.deals.now c.args.first.now) (call-rule_is c.args.rule c.in-Some.rule (sym c.call_rule.ensures ∙ c.in-Some.is)))
    c.call_offences.ensures.list

pub returns-in-None-clause-list : goal.returns-in-None-clause-list
returns-in-None-clause-list c =
    IfOk-weaker c.all_continuous_offences.result _ _
    (λ listing is. is ∙ ap (λ (r : Rule). offences_of r c.args.orders.now c.args.deals.now c.args.first.now) (no-call_rule_is c.args.rule (sym c.call_rule.ensures ∙ c.in-None.is)))
    c.all_continuous_offences.ensures.list
