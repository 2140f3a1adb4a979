-- The text of items.
use Rattle.std.proofs.Common.{◌≡◌, ◌∙◌, ap, sym, refl, ℕ, List, [], ◌∷◌, ◌++◌, append-nil, append_assoc}
use Rattle.lpt_list.specs.declared.form.Form.{Form}
use Rattle.lpt_list.specs.Items.{Item, item_text, items_text}
use Rattle.lpt_list.specs.Lists.{closing, line_of, opening}

-- items behind others are written behind them
pub items_append : (form : Form) (xs ys : List Item)
    → items_text form (xs ++ ys) ≡ items_text form xs ++ items_text form ys
items_append form [] ys = refl
items_append form (x ∷ []) [] = sym (append-nil (item_text form x))
items_append form (x ∷ []) (y ∷ ys) = refl
items_append form (x ∷ z ∷ xs) ys =
    ap (λ l. item_text form x ++ l) (items_append form (z ∷ xs) ys)
    ∙ sym (append_assoc (item_text form x) (items_text form (z ∷ xs)) (items_text form ys))

-- items behind others that were added to a text are added as one list
pub behind : (form : Form) (text : List ℕ) (xs ys : List Item)
    → (text ++ items_text form xs) ++ items_text form ys ≡ text ++ items_text form (xs ++ ys)
behind form text xs ys =
    append_assoc text (items_text form xs) (items_text form ys)
    ∙ ap (λ l. text ++ l) (sym (items_append form xs ys))

-- a line is its opening, its items in two lists, and its end
pub line_parts : (form : Form) (place : ℕ) (xs ys : List Item)
    → ((opening form place ++ items_text form xs) ++ items_text form ys) ++ closing form
    ≡ line_of form place (xs ++ ys)
line_parts form place xs ys =
    ap (λ l. l ++ closing form) (behind form (opening form place) xs ys)
    ∙ append_assoc (opening form place) (items_text form (xs ++ ys)) (closing form)

-- three pieces that are added one by one
pub added-three : (old s1 s2 x y z : List ℕ)
    → s1 ≡ old ++ x
    → s2 ≡ s1 ++ y
    → s2 ++ z ≡ old ++ (x ++ (y ++ z))
added-three old s1 s2 x y z a b =
    ap (λ l. l ++ z) (b ∙ ap (λ l. l ++ y) a ∙ append_assoc old x y)
    ∙ append_assoc old (x ++ y) z
    ∙ ap (λ l. old ++ l) (append_assoc x y z)

-- and four
pub added-four : (old s1 s2 s3 w x y z : List ℕ)
    → s1 ≡ old ++ w
    → s2 ≡ s1 ++ x
    → s3 ≡ s2 ++ y
    → s3 ++ z ≡ old ++ (w ++ (x ++ (y ++ z)))
added-four old s1 s2 s3 w x y z a b c =
    added-three s1 s2 s3 x y z b c
    ∙ ap (λ l. l ++ (x ++ (y ++ z))) a
    ∙ append_assoc old w (x ++ (y ++ z))
