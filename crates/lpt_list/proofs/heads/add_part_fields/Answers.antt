-- Item behind item, the first with the kind's word.
use Rattle.std.proofs.Common.{◌≡◌, ◌∙◌, ap, subst, ◌++◌, ◌∷◌, [], List, ℕ, OnOk}
use Rattle.std.specs.Prelude.{codes}
use Rattle.std.specs.String.{string_bytes}
use Rattle.lpt_list.specs.Items.{Word, items_text}
use Rattle.lpt_list.proofs.ItemLemmas.{added-four}
use Rattle.lpt_list.proofs.heads.add_part_fields.Goals as goal

pub returns : goal.returns
returns c = subst
    (λ (l : List ℕ). OnOk c.add_number-3.result (string_bytes c.add_number-3.new.text ≡ l))
    (added-four (string_bytes c.args.text.now) (string_bytes c.add_word.new.text)
    (string_bytes c.add_number.new.text) (string_bytes c.add_number-2.new.text) _ _ _ _
    (c.in_ok-add_word.ensures ∙ ap (λ (w : List ℕ). string_bytes c.args.text.now
    ++ items_text c.args.form (Word (codes "part") (codes "part") w ∷ [])) c.word.ensures)
    c.in_ok-add_number.ensures c.in_ok-add_number-2.ensures) c.add_number-3.ensures
