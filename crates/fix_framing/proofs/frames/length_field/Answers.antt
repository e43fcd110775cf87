use Rattle.std.proofs.Common.{◌∙◌, sym}
use Rattle.fix_framing.proofs.LengthLemmas.{none-cut, none-part, none-long, some-part, some-field}
use Rattle.fix_framing.proofs.frames.length_field.Goals as goal

pub returns-in-Some-clause-ok : goal.returns-in-Some-clause-ok
returns-in-Some-clause-ok c =
    let window = c.length_window-window.ensures in
    let found = rw window at c.in-Some.ensures in
    let each = rw window at (sym c.are_digits.ensures ∙ c.if-are_digits.true) in
    some-field c.args.header c.args.text.now c.in-Some.digits found.0 found.1 c.if-digits-gt0.true each

pub returns-in_default-clause-err : goal.returns-in_default-clause-err
returns-in_default-clause-err c =
    let window = c.length_window-window.ensures in
    let found = rw window at c.in-Some.ensures in
    let part = rw window at (sym c.are_digits.ensures ∙ c.if-are_digits.false) in
    some-part c.args.header c.args.text.now c.in-Some.digits found.0 part

pub returns-in_default-3-clause-err : goal.returns-in_default-3-clause-err
returns-in_default-3-clause-err c =
    let window = c.length_window-window.ensures in
    let nowhere = rw window at c.in-None.ensures in
    let part = rw window at (sym c.are_digits-then-window-lt10.ensures ∙ c.if-are_digits-2.false) in
    none-part c.args.header c.args.text.now nowhere part

pub returns-in_default-4-clause-err : goal.returns-in_default-4-clause-err
returns-in_default-4-clause-err c =
    let window = c.length_window-window.ensures in
    let nowhere = rw window at c.in-None.ensures in
    let ten = rw window at c.if-window-lt10.false in
    none-long c.args.header c.args.text.now nowhere ten

pub returns-in-None-clause-err : goal.returns-in-None-clause-err
returns-in-None-clause-err c =
    let window = c.length_window-window.ensures in
    let few = rw window at c.if-window-lt10.true in
    let each = rw window at (sym c.are_digits-then-window-lt10.ensures ∙ c.if-are_digits-2.true) in
    none-cut c.args.header c.args.text.now c.requires few each
