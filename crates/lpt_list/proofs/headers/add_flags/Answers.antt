-- Item behind item.
use Rattle.std.proofs.Common.{◌≡◌, subst, List, ℕ, OnOk}
use Rattle.std.specs.String.{string_bytes}
use Rattle.lpt_list.proofs.ItemLemmas.{added-three}
use Rattle.lpt_list.proofs.headers.add_flags.Goals as goal

pub returns : goal.returns
returns c = subst
    (λ (l : List ℕ). OnOk c.add_number-3.result (string_bytes c.add_number-3.new.text ≡ l))
    (added-three (string_bytes c.args.text.now) (string_bytes c.add_number.new.text)
    (string_bytes c.add_number-2.new.text) _ _ _ c.in_ok-add_number.ensures
    c.in_ok-add_number-2.ensures) c.add_number-3.ensures
