-- Item behind item, the first with the type's word.
use Rattle.std.proofs.Common.{◌≡◌, ◌∙◌, ap, subst, ◌++◌, ◌∷◌, [], List, ℕ, OnOk}
use Rattle.std.specs.Prelude.{codes}
use Rattle.std.specs.String.{string_bytes}
use Rattle.lpt_list.specs.Items.{Alone, items_text}
use Rattle.lpt_list.proofs.ItemLemmas.{added-three}
use Rattle.lpt_list.proofs.headers.add_primary.Goals as goal

pub returns : goal.returns
returns c = subst
    (λ (l : List ℕ). OnOk c.add_number-2.result (string_bytes c.add_number-2.new.text ≡ l))
    (added-three (string_bytes c.args.text.now) (string_bytes c.add_named.new.text)
    (string_bytes c.add_number.new.text) _ _ _
    (c.in_ok-add_named.ensures ∙ ap (λ (w : List ℕ). string_bytes c.args.text.now
    ++ items_text c.args.form (Alone (codes "packet_type") w ∷ [])) c.type_word.ensures)
    c.in_ok-add_number.ensures) c.add_number-2.ensures
