-- What is added is what the form says.
use Rattle.std.proofs.Common.{◌≡◌, sym, subst, ◌++◌, OnOk}
use Rattle.std.specs.String.{string_bytes}
use Rattle.lpt_list.specs.declared.form.Form.{Form}
use Rattle.lpt_list.specs.Items.{fault_items, items_text}
use Rattle.lpt_list.proofs.heads.add_fault.Goals as goal

pub returns-in-Json : goal.returns-in-Json
returns-in-Json c = subst
    (λ (form : Form). OnOk c.write-in-Json.result (string_bytes c.write-in-Json.new.self
    ≡ string_bytes c.args.text.now ++ items_text form (fault_items c.args.code c.args.name.now)))
    (sym c.in-Json.is) c.write-in-Json.ensures.bytes
