-- What always holds of the entries of the open messages.
use Rattle.std.proofs.Common.{◌≡◌, ℕ, ◌+◌, ◌-◌, Bool, true, false, cond, if◌then◌else◌, List, [], length, Option, Some, None, is_some, sym, ap, subst, ◌∙◌, arith}
use Rattle.std.specs.FinMap as map
use Rattle.std.specs.Ordering.{eq_by_cmp}
use Rattle.lpt_packet.proofs.NameLemmas.{name_cmp_total}
use Rattle.lpt_packet.proofs.NamedLemmas.{value_of, get-by_name, Puts, get-put, by_name-insert, by_name-remove}
use Rattle.lpt_packet.specs.Names.{Name, name_cmp}
use Rattle.lpt_node.specs.Nodes.{MessageFits}
use Rattle.lpt_node.specs.OutgoingInside.{messages_of, IsOutgoing}

abbrev Entries : Type 0
Entries = List (Name × List ℕ)

module _ (es fs : Entries) (name : Name) where
  module _ (p : ℕ) (k : IsOutgoing p es) where
    either : (b : Bool) (x r : Option (List ℕ)) (m : List ℕ)
        → (x ≡ Some m → MessageFits p (length m))
        → (r ≡ Some m → MessageFits p (length m))
        → cond b x r ≡ Some m
        → MessageFits p (length m)
    either true x r m f g h = f h
    either false x r m f g h = g h

    fits : (x : Option (List ℕ))
        → ((m : List ℕ) → x ≡ Some m → MessageFits p (length m))
        → Puts es fs name x
        → (q : Name) (m : List ℕ)
        → map.get (messages_of fs) q ≡ Some m
        → MessageFits p (length m)
    fits x f put q m h =
        either (eq_by_cmp name_cmp q name) x (map.get (messages_of es) q) m (f m) (k.fits q m)
        (sym (get-put es fs name x q put) ∙ h)

    -- what always holds of the entries holds with a message of a new name
    pub IsOutgoing-insert : (m : List ℕ) (old : Option (List ℕ))
        → MessageFits p (length m)
        → old ≡ None
        → map.get (messages_of es) name ≡ None
        → length fs ≡ length es + (if is_some old then 0 else 1)
        → Puts es fs name (Some m)
        → IsOutgoing p fs
    IsOutgoing-insert m old fit none absent len put = record {
      counted = ap (λ m. map.len m) (by_name-insert es fs name m put)
          ∙ map.len-insert name_cmp_total (messages_of es) name m
          ∙ ap (λ (x : Option (List ℕ)).
          cond (is_some x) (map.len (messages_of es)) (map.len (messages_of es) + 1)) absent
          ∙ ap (λ (n : ℕ). n + 1) k.counted
          ∙ sym (len ∙ ap (λ (x : Option (List ℕ)). length es + (if is_some x then 0 else 1)) none);
      fits = fits (Some m) (λ n h.
          let same : m ≡ n = cc in subst (λ (n : List ℕ). MessageFits p (length n)) same fit) put;
    }

    -- and without a name's message
    pub IsOutgoing-remove : (old : Option (List ℕ))
        → old ≡ value_of es name
        → length fs + (if is_some old then 1 else 0) ≡ length es
        → Puts es fs name None
        → IsOutgoing p fs
    IsOutgoing-remove old was len put = record {
      counted = ap (λ m. map.len m) (by_name-remove es fs name put)
          ∙ map.len-remove name_cmp_total (messages_of es) name
          ∙ ap (λ (x : Option (List ℕ)).
          cond (is_some x) (map.len (messages_of es) - 1) (map.len (messages_of es)))
          (get-by_name es name ∙ sym was)
          ∙ ap (λ (n : ℕ). cond (is_some old) (n - 1) n) k.counted
          ∙ less (is_some old) len;
      fits = fits None (λ n h. absurd cc) put;
    } where
      less : (b : Bool)
          → length fs + (if b then 1 else 0) ≡ length es
          → cond b (length es - 1) (length es) ≡ length fs
      less true h = omega arith
      less false h = omega arith

-- what always holds of the entries holds of none
pub IsOutgoing-nil : (p : ℕ) → IsOutgoing p []
IsOutgoing-nil p = record {
  counted = map.len-empty name_cmp (List ℕ);
  fits = λ name m h.
      let never : None ≡ Some m = sym (map.get-empty name_cmp name) ∙ h in absurd cc;
}
