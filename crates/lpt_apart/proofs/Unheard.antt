-- What is given up is the open reception of a name, so of none that its receiver has freed.
use Rattle.std.proofs.Common.{◌≡◌, ◌∙◌, ap, sym, subst, refl, Bool, true, false, if◌then◌else◌, Option, Some, None, is_some}
use Rattle.std.specs.FinMap as maps
use Rattle.lpt_packet.specs.Names.{Name}
use Rattle.lpt_events.specs.declared.config.Config.{Config}
use Rattle.lpt_node.specs.Nodes.{NodeData}
use Rattle.lpt_node.specs.Receivers.{table_in}
use Rattle.lpt_node.specs.Receiving.{receiver_of}
use Rattle.lpt_node.specs.Times.{due, which_ends}
use Rattle.lpt_table.specs.Deadlines.{IsDue}
use Rattle.lpt_table.specs.Tables.{TableEntry}
use Rattle.lpt_table.proofs.DueLemmas.{due_of_is}

-- a receiver gives up no reception of a freed name
pub not_freed : (c : Config) (n : NodeData) (gone : Name → Bool) (which : Option Name)
    → ((name : Name) → gone name ≡ true → maps.get n.receiving.entries name ≡ None)
    → (name : Name)
    → which_ends c n which ≡ Some name
    → gone name ≡ false
not_freed c n gone (Some i) none name is =
    elim (is_some (maps.get n.receiving.entries i)) as (λ b.
    is_some (maps.get n.receiving.entries i) ≡ b
    → ◌≡◌ {A = Option Name} (if b then Some i else None) (Some name)
    → gone name ≡ false) [
      | true ↦ λ has e.
          let same : i ≡ name = cc in
          let there : is_some (maps.get n.receiving.entries name) ≡ true =
          ap (λ (j : Name). is_some (maps.get n.receiving.entries j)) (sym same) ∙ has in
          elim (gone name) as (λ b. gone name ≡ b → b ≡ false) [
            | true ↦ λ t.
                absurd (let no : false ≡ true = sym (ap is_some (none name t)) ∙ there in cc)
            | false ↦ λ t. refl
          ] refl
      | false ↦ λ has e. absurd cc
    ] refl is
not_freed c n gone None none name is = go (gone name) refl where
  open_one : (o : Option Name)
      → IsDue (table_in (receiver_of c n.receiving)) n.clock o
      → o ≡ Some name
      → (x : TableEntry) × (maps.get n.receiving.entries name ≡ Some x)
  open_one None it e = absurd cc
  open_one (Some i) it e =
      let same : i ≡ name = cc in
      (it.0, subst (λ (j : Name). maps.get n.receiving.entries j ≡ Some it.0) same it.1.present)

  go : (b : Bool) → gone name ≡ b → b ≡ false
  go false e = refl
  go true e =
      let there = open_one (due c n) (due_of_is (table_in (receiver_of c n.receiving)) n.clock)
      is
      in
      absurd (let both : None ≡ Some there.0 = sym (none name e) ∙ there.1 in cc)
