-- A report of an abortion that nobody put out does no more than finish a message.
use Rattle.std.proofs.Common.{◌≡◌, ◌∙◌, ap, sym, subst, refl, List, Option, Some, None}
use Rattle.std.specs.FinMap as maps
use Rattle.lpt_packet.specs.declared.direction.Direction.{Direction}
use Rattle.lpt_packet.specs.declared.direction.Direction.TheVariants.{Up, Down}
use Rattle.lpt_packet.specs.Names.{Name, IsName}
use Rattle.lpt_memory.specs.Memories.{Contents}
use Rattle.lpt_events.specs.Configs.{IsConfig}
use Rattle.lpt_events.specs.declared.config.Config.{Config}
use Rattle.lpt_events.specs.declared.entry.Opening.{Opening}
use Rattle.lpt_acts.specs.Acts.{Act}
use Rattle.lpt_events.specs.declared.side.Side.TheVariants.{Ground, Craft}
use Rattle.lpt_ledger.specs.Marks.{Marks}
use Rattle.lpt_ledger.specs.States.{state_of, state_at}
use Rattle.lpt_ledger.specs.declared.state.State.{State as Known}
use Rattle.lpt_ledger.specs.declared.state.State.TheVariants as known
use Rattle.lpt_node.specs.Sending.{refusal_finish_in, sender_closed, closed_by}
use Rattle.lpt_model.specs.State.{State}
use Rattle.lpt_refinement.specs.Shows.{mark_of}
use Rattle.lpt_journal.specs.Journal.{History}
use Rattle.lpt_journal.specs.Legal.{Legal}
use Rattle.lpt_journal.specs.Replies.{history_after}
use Rattle.lpt_journal.specs.Senders.{sender, sender_of, current, is_over}
use Rattle.lpt_journal.proofs.HeadlineLemmas.{every}
use Rattle.lpt_journal.specs.Whole.{came}
use Rattle.lpt_apart.specs.Ends.{PutOut, with_node, Log}
use Rattle.lpt_apart.proofs.Events.{finish}
use Rattle.lpt_apart.proofs.Ties.{ends_of, IsTied, Came, Leads}

-- an open name is one
open_named : (c : Config) (first : Contents) (es : List Act) (d : Direction) (name : Name)
    (m : Marks)
    → IsConfig c
    → Legal c first es
    → maps.get m name ≡ mark_of (sender (history_after c first es) d name)
    → state_at m name ≡ known.Open
    → IsName name
open_named c first es d name m good legal shown opened = go (current h d name) refl where
  h : History
  h = history_after c first es

  go : (o : Option Opening) → current h d name ≡ o → IsName name
  go None e =
      let free : state_at m name ≡ known.Free =
      ap state_of (shown
      ∙ ap (λ (o : Option Opening). mark_of (sender_of o (is_over h d name))) e) in
      absurd (let both : known.Free ≡ known.Open = sym free ∙ opened in cc)
  go (Some o) e = ((every c first es good legal).0.openings d name o e).is_name

module _ (c : Config) (first : Contents) (usual : Type 0) (s : State) (ways : List PutOut)
    (log : Log)
    (es : List Act)
    (good : IsConfig c) (t : IsTied c first usual s ways log es) where
  abbrev had : Came
  had = came c (history_after c first es)

  same : Leads c first usual (ends_of s ways log) had
  same = record {
    follows = record { state = s; events = es; tied = t; is = refl };
    comes = λ d name k. refl;
  }

  pub closed_up : (name : Name)
      → Leads c first usual
      (with_node (ends_of s ways log) Ground (sender_closed s.on_ground name)) had
  closed_up name = go (state_at s.on_ground.sending.ledger name) refl where
    go : (k : Known)
        → state_at s.on_ground.sending.ledger name ≡ k
        → Leads c first usual
        (with_node (ends_of s ways log) Ground (sender_closed s.on_ground name)) had
    go known.Open e =
        finish c first usual s ways log es good t Up name (
          open_named c first es Up name s.on_ground.sending.ledger good t.legal
              (t.shown.ground.sending.ledger name) e,
          ap refusal_finish_in e,
        )
    go known.Free e =
        subst (λ (k : Known). Leads c first usual (with_node (ends_of s ways log) Ground
        (record s.on_ground { sending = closed_by k s.on_ground.sending name })) had) (sym e) same
    go known.Closed e =
        subst (λ (k : Known). Leads c first usual (with_node (ends_of s ways log) Ground
        (record s.on_ground { sending = closed_by k s.on_ground.sending name })) had) (sym e) same

  pub closed_down : (name : Name)
      → Leads c first usual (with_node (ends_of s ways log) Craft (sender_closed s.on_craft name))
      had
  closed_down name = go (state_at s.on_craft.sending.ledger name) refl where
    go : (k : Known)
        → state_at s.on_craft.sending.ledger name ≡ k
        → Leads c first usual
        (with_node (ends_of s ways log) Craft (sender_closed s.on_craft name)) had
    go known.Open e =
        finish c first usual s ways log es good t Down name (
          open_named c first es Down name s.on_craft.sending.ledger good t.legal
              (t.shown.craft.sending.ledger name) e,
          ap refusal_finish_in e,
        )
    go known.Free e =
        subst (λ (k : Known). Leads c first usual (with_node (ends_of s ways log) Craft
        (record s.on_craft { sending = closed_by k s.on_craft.sending name })) had) (sym e) same
    go known.Closed e =
        subst (λ (k : Known). Leads c first usual (with_node (ends_of s ways log) Craft
        (record s.on_craft { sending = closed_by k s.on_craft.sending name })) had) (sym e) same
