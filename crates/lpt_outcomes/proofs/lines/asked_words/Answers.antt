-- What is written is what the form says.
use Rattle.std.proofs.Common.{◌≡◌, sym, subst, IfOk}
use Rattle.std.specs.String.{string_bytes}
use Rattle.lpt_list.specs.declared.form.Form.{Form}
use Rattle.lpt_list.specs.Items.{items_text}
use Rattle.lpt_outcomes.specs.Lines.{asked_items}
use Rattle.lpt_outcomes.proofs.lines.asked_words.Goals as goal

pub returns-in-Text : goal.returns-in-Text
returns-in-Text c = subst
    (λ (form : Form). IfOk c.format.result
    (λ t. string_bytes t ≡ items_text form (asked_items c.args.asked.now)))
    (sym c.in-Text.is) c.format.ensures.ok

pub returns-in-Json : goal.returns-in-Json
returns-in-Json c = subst
    (λ (form : Form). IfOk c.format-in-Json.result
    (λ t. string_bytes t ≡ items_text form (asked_items c.args.asked.now)))
    (sym c.in-Json.is) c.format-in-Json.ensures.ok
