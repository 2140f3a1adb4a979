-- Nothing that came whole is withheld: in every legal journal it was released, unless it was
-- aborted.
use Rattle.std.proofs.Common.{◌≡◌, ◌∙◌, ap, refl, ℕ, zero, suc, ◌≤◌, Bool, true, false, ◌&&◌, ◌==◌, if◌then◌else◌, inl, inr, List, length, Some, arith}
use Rattle.std.specs.Option.{is_some}
use Rattle.std.specs.FinMap as map
use Rattle.lpt_packet.specs.declared.direction.Direction.{Direction}
use Rattle.lpt_packet.specs.Names.{Name}
use Rattle.lpt_packet.proofs.BoolLemmas.{and_both, some_is}
use Rattle.lpt_packet.proofs.Readings.{eq_true, eq_false}
use Rattle.lpt_part.specs.declared.kind.Kind.TheVariants.{First, Middle, Last}
use Rattle.lpt_part.specs.Splitting.{kind_at, part_count, part_of}
use Rattle.lpt_part.proofs.SplitLemmas.{part_count-two}
use Rattle.lpt_reception.specs.Received.{Parts, is_last, has_all_to, is_whole}
use Rattle.lpt_reception.specs.PartsOf.{IsPartsOf, IsMessage}
use Rattle.lpt_reception.proofs.SetLemmas.{none_there}
use Rattle.lpt_memory.specs.Memories.{Contents}
use Rattle.lpt_events.specs.Configs.{IsConfig}
use Rattle.lpt_events.specs.declared.config.Config.{Config}
use Rattle.lpt_events.specs.declared.entry.Opening.{Opening}
use Rattle.lpt_acts.specs.Acts.{Act}
use Rattle.lpt_journal.specs.Legal.{Legal}
use Rattle.lpt_journal.specs.Receivers.{heard, is_closed}
use Rattle.lpt_journal.specs.Replies.{history_after}
use Rattle.lpt_journal.specs.Senders.{current}
use Rattle.lpt_journal.specs.Whole.{came, WasReleased, NothingIsWithheld}
use Rattle.lpt_journal.proofs.CameLemmas.{came_kept, never_whole}
use Rattle.lpt_journal.proofs.Deliveries.{heard_parts}
use Rattle.lpt_journal.proofs.EndedLemmas.{every_ended}
use Rattle.lpt_journal.proofs.HeadlineLemmas.{every}

all_to : (s : Parts) (n : ℕ)
    → ((k : ℕ) → 1 ≤ k → k ≤ n → is_some (map.get s k) ≡ true)
    → has_all_to s n ≡ true
all_to s zero all = refl
all_to s (suc n) all =
    and_both (is_some (map.get s (suc n))) (has_all_to s n)
    (all (suc n) (omega arith) (omega arith))
    (all_to s n (λ k a b. all k a (omega arith)))

-- the last of several parts is of that kind
kind_last : (n : ℕ) → 2 ≤ n → kind_at n n ≡ Last
kind_last n some =
    ap (λ b. if b then First else if n == n then Last else Middle)
    (eq_false n 1 (λ one. omega (arith, some, one)))
    ∙ ap (λ b. if b then Last else Middle) (eq_true n n refl)

-- parts of a message that aren't whole aren't all of them
not_all : (m : List ℕ) (p : ℕ) (s : Parts)
    → 1 ≤ p
    → IsMessage m p
    → IsPartsOf m p s
    → is_whole s ≡ false
    → ¬ ((k : ℕ) → 1 ≤ k → k ≤ part_count (length m) p → is_some (map.get s k) ≡ true)
not_all m p s size message are unwhole all =
    let n : ℕ = part_count (length m) p in
    let two : 2 ≤ n = part_count-two (length m) p (omega arith) message.long in
    let w = some_is (map.get s n) (all n (omega arith) (omega arith)) in
    let last : is_last w.0 ≡ true =
    ap is_last (are n w.0 w.1).is
    ∙ ap (λ k. is_last record { kind = k; octets = part_of m p n })
    (kind_last n two) in
    let no : (is_last w.0 && has_all_to s n) ≡ false =
    none_there (λ e. is_last e.1 && has_all_to s e.0) s n w.0 unwhole w.1 in
    let yes = and_both (is_last w.0) (has_all_to s n) last (all_to s n all) in cc

-- what was last opened under a name and hasn't ended didn't come whole
pub not_whole : (c : Config) (first : Contents) (es : List Act) (d : Direction) (name : Name)
    (o : Opening)
    → IsConfig c
    → Legal c first es
    → current (history_after c first es) d name ≡ Some o
    → is_closed (history_after c first es) d name ≡ false
    → ¬ ((k : ℕ) → 1 ≤ k → k ≤ part_count (length o.message) c.part_size
    → came c (history_after c first es) d name k ≡ true)
not_whole c first es d name o good legal now is_open all =
    let h = history_after c first es in
    let sound = (every c first es good legal).0 in
    not_all o.message c.part_size (heard c h d name)
    (omega (arith, good.part_size_fits.0))
    (sound.openings d name o now).splits (heard_parts c h d name o sound now)
    (never_whole c first es d name)
    (λ k a b. came_kept c first es d name o now is_open k (all k a b))

-- what was last opened under a name, and all of which came, was released unless it was aborted
pub nothing_is_withheld : NothingIsWithheld
nothing_is_withheld c first es good legal d name o now all unaborted =
    go (is_closed (history_after c first es) d name) refl where
      go : (b : Bool)
          → is_closed (history_after c first es) d name ≡ b
          → WasReleased c (history_after c first es) o
      go true shut = elim ((every_ended c first es good legal).ended d name o now shut) [
        | inl released ↦ released
        | inr aborted ↦ absurd (unaborted aborted)
      ]
      go false is_open = absurd (not_whole c first es d name o good legal now is_open all)
