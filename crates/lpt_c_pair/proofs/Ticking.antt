-- Many ticks at once are as many calls.
use Rattle.std.proofs.Common.{◌≡◌, ◌∙◌, ap, sym, refl, ℕ, zero, suc, ◌+◌, ◌==◌, ◌<◌, ◌≤◌, nat_lt, Bool, true, false, if◌then◌else◌, Option, Some, None, arith}
use Rattle.lpt_c_end.specs.Changes.{IsTickedBy, ticked_by}
use Rattle.lpt_c_end.specs.Codes.{clock_end, node_code}
use Rattle.lpt_c_end.specs.Kept.{sizes_in}
use Rattle.lpt_c_end.specs.Refusals.{ticks_refusal, tick_refusal}
use Rattle.lpt_c_end.specs.declared.end.End.{End}
use Rattle.lpt_c_end.proofs.ReadyLemmas.{ready_ticked_by}
use Rattle.lpt_c_pair.specs.Ticks.{AreTicks, ManyTicksAreTicks}
use Rattle.lpt_events.specs.Counts.{greatest_clock}
use Rattle.lpt_node.specs.Nodes.{NodeData, NodeView}
use Rattle.lpt_node.specs.Times.{clock_ticked}
use Rattle.lpt_node.specs.declared.fault.NodeFault.TheVariants.{ClockEnd}
use Rattle.lpt_packet.proofs.Readings.{eq_false, not_lt}

-- a node a tick later
abbrev next_view : NodeView → NodeView
next_view v = record v { at = clock_ticked v.at }

-- an end a tick later
abbrev next : End → End
next e = record e {
  node = next_view e.node;
  same_side = e.same_side;
  same_config = e.same_config;
  ready = ready_ticked_by e.node (next_view e.node) (sizes_in e.memories) 1 refl refl e.ready;
}

-- the clock has so many ticks left
left : (ticks : ℕ) (e : End)
    → ticks_refusal ticks e ≡ None
    → e.node.at.clock + ticks ≤ greatest_clock
left ticks e none = go (nat_lt greatest_clock (e.node.at.clock + ticks)) refl none where
  go : (b : Bool)
      → nat_lt greatest_clock (e.node.at.clock + ticks) ≡ b
      → (if b then Some clock_end else None) ≡ None
      → e.node.at.clock + ticks ≤ greatest_clock
  go true is none = absurd cc
  go false is none = not_lt greatest_clock (e.node.at.clock + ticks) is

-- so it isn't refused to tick
free : (e : End) → e.node.at.clock < greatest_clock → tick_refusal e ≡ None
free e less =
    ap (λ (b : Bool). node_code (if b then Some ClockEnd else None))
    (eq_false e.node.at.clock greatest_clock (λ same. absurd (omega (arith, same, less))))

-- the same clock at other words
at_clock : (d : NodeData) (k n : ℕ) → k ≡ n → record d { clock = k } ≡ record d { clock = n }
at_clock d k n same = ap (λ (m : ℕ). record d { clock = m }) same

pub many_ticks_are_ticks : ManyTicksAreTicks
many_ticks_are_ticks zero e new none done = record {
  node = done.node ∙ at_clock e.node.at (e.node.at.clock + 0) e.node.at.clock (omega arith);
  released = done.released;
  outbox = done.outbox;
  fixed = done.fixed;
}
many_ticks_are_ticks (suc zero) e new none done =
    (free e (omega (arith, left 1 e none)), done)
many_ticks_are_ticks (suc (suc n)) e new none done =
    let clock : ℕ = e.node.at.clock in
    let same : (clock + 1) + suc n ≡ clock + suc (suc n) = omega arith in (
      next e,
      (
        (
          free e (omega (arith, left (suc (suc n)) e none)),
          record {
            node = refl;
            released = refl;
            outbox = refl;
            fixed = record { side = refl; config = refl; memories = refl };
          },
        ),
        many_ticks_are_ticks (suc n) (next e) new
            (ap (λ (k : ℕ). if nat_lt greatest_clock k then Some clock_end else None) same ∙ none)
            (record {
              node = done.node
                  ∙ at_clock e.node.at (clock + suc (suc n)) ((clock + 1) + suc n) (sym same);
              released = done.released;
              outbox = done.outbox;
              fixed = record {
                side = done.fixed.side;
                config = done.fixed.config;
                memories = done.fixed.memories;
              };
            }),
      ),
    )
