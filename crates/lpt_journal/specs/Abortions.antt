-- The receptions that expired or were broken off, and what holds of them in every legal journal.
use Rattle.std.specs.Prelude.{◌≡◌, ℕ, true, false, List, [], ◌∷◌, length, slice_get, Option, Some, is_some}
use Rattle.lpt_packet.specs.declared.direction.Direction.{Direction}
use Rattle.lpt_packet.specs.Names.{Name}
use Rattle.lpt_memory.specs.Memories.{Contents}
use Rattle.lpt_events.specs.declared.config.Config.{Config}
use Rattle.lpt_acts.specs.Acts.{Act, Deliver}
use Rattle.lpt_events.specs.declared.reply.Answer.{Answer}
use Rattle.lpt_events.specs.Lanes.{lane_direction}
use Rattle.lpt_events.specs.declared.outcome.Outcome.TheVariants.{Broken}
use Rattle.lpt_events.specs.declared.reply.Answer.TheVariants.{Delivered, Expired}
use Rattle.lpt_events.specs.declared.entry.Opening.{Opening}
use Rattle.lpt_events.specs.declared.entry.Release.{Release}
use Rattle.lpt_journal.specs.Headline.{before, opening_of, IsSameOpening}
use Rattle.lpt_journal.specs.Journal.{History, with_all}
use Rattle.lpt_journal.specs.Receivers.{heard, has_parts, is_closed}
use Rattle.lpt_journal.specs.Releases.{releases}
use Rattle.lpt_events.specs.Configs.{IsConfig}
use Rattle.lpt_journal.specs.Replies.{history_after}
use Rattle.lpt_journal.specs.Legal.{Legal}
use Rattle.lpt_journal.specs.Senders.{current}

-- the place of an entry at which a reception expired or was broken off, and its transaction
pub record Abortion : Type 0 where
  pub place : ℕ
  pub direction : Direction
  pub name : Name

-- the reception that expired or was broken off by an event at this place, if one was
abbrev pub abortion_at : (place : ℕ) → Act → Answer → List Abortion
abortion_at place (Deliver l) (Delivered (Broken name reason)) =
    record { place = place; direction = lane_direction l; name = name } ∷ []
abortion_at place e (Expired d name) = record { place = place; direction = d; name = name } ∷ []
abortion_at place _ _ = []

-- all receptions that expired or were broken off, in order of place
abbrev pub abortions : History → List Abortion
abortions [] = []
abortions (x ∷ h) = with_all (abortions h) (abortion_at (length h) x.event x.reply.answer)

-- the opening that was the last one of the transaction when its reception ended so
abbrev pub opening_of_abortion : History → Abortion → Option Opening
opening_of_abortion h e = current (before e.place h) e.direction e.name

-- each reception that expired or was broken off was of an opening
abbrev pub EachHasOpening : History → Type 0
EachHasOpening h =
    (j : ℕ) (e : Abortion)
    → slice_get (abortions h) j ≡ Some e
    → is_some (opening_of_abortion h e) ≡ true

-- no release is of the opening of a reception that expired or was broken off
abbrev pub NoneIsReleased : Config → History → Type 0
NoneIsReleased c h =
    (j k : ℕ) (e : Abortion) (r : Release) (o u : Opening)
    → slice_get (abortions h) j ≡ Some e → slice_get (releases c h) k ≡ Some r
    → opening_of_abortion h e ≡ Some o → opening_of h r ≡ Some u
    → ¬ (IsSameOpening o u)

-- of a transaction whose reception has ended nothing is kept
abbrev pub NothingIsKept : Config → History → Type 0
NothingIsKept c h =
    (d : Direction) (name : Name)
    → is_closed h d name ≡ true
    → has_parts (heard c h d name) ≡ false

-- of a transaction whose last opening was released nothing is kept
abbrev pub ReleasedIsUnheard : Config → History → Type 0
ReleasedIsUnheard c h =
    (k : ℕ) (r : Release) (o u : Opening) (d : Direction) (name : Name)
    → slice_get (releases c h) k ≡ Some r
    → opening_of h r ≡ Some o
    → current h d name ≡ Some u
    → IsSameOpening o u
    → has_parts (heard c h d name) ≡ false

-- An opening whose reception expired or was broken off is never released, and one that was released
-- is never heard again; of an ended reception nothing is kept.
pub record EndsAreFinal (c : Config) (h : History) : Type 0 where
  pub opened : EachHasOpening h
  pub unreleased : NoneIsReleased c h
  pub unheard : NothingIsKept c h
  pub not_again : ReleasedIsUnheard c h

-- it holds of every legal journal
abbrev pub AbortionIsFinal : Type 0
AbortionIsFinal =
    (c : Config) (first : Contents) (es : List Act)
    → IsConfig c
    → Legal c first es
    → EndsAreFinal c (history_after c first es)
