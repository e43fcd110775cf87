-- What is answered of all offences under a rule of a call.
use Rattle.std.specs.Prelude.{◌≡◌, Bool, false, List, [], ◌∷◌}
use Rattle.audit_base.specs.declared.terms.CallRule.{CallRule}
use Rattle.audit_base.specs.declared.terms.CallRule.TheVariants as call
use Rattle.audit_base.specs.declared.orders.Order.{Order}
use Rattle.audit_base.specs.declared.orders.Deal.{Deal}
use Rattle.audit_base.specs.declared.findings.Finding.{Finding}
use Rattle.audit_base.specs.RuleKinds.{asks_one_price, rule_of_call}
use Rattle.offence_list.specs.ListedOffences.{findings_of_offences}
use Rattle.offence_list.specs.Offences.{offences_of}
use Rattle.call_offences.specs.declared.listing.Listing.{Listing}
use Rattle.call_offences.specs.declared.listing.Listing.TheVariants.{Alone, Listed}

-- of the rules of a call `uniform` alone asks for one price
abbrev pub call_asks_one_price : CallRule → Bool
call_asks_one_price call.Matching = false
call_asks_one_price call.Fair = false
call_asks_one_price (call.Greatest the_rule) = asks_one_price the_rule

-- the findings of a listing: the first one alone, or those of its offences
abbrev pub findings_of_listing : List Order → Finding → Listing → List Finding
findings_of_listing orders first Alone = first ∷ []
findings_of_listing orders first (Listed found) = findings_of_offences orders found.items

-- they are all offences of the deals under the rule
abbrev pub IsListingOf : CallRule → List Order → List Deal → Finding → Listing → Type 0
IsListingOf the_rule orders deals first listing =
    findings_of_listing orders first listing ≡ offences_of (rule_of_call the_rule) orders deals first
