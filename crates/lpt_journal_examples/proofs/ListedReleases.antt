-- The releases, with the kept parts as lists in the order of numbers: these compute.
use Rattle.std.proofs.Common.{◌≡◌, ◌∙◌, ap, refl, ℕ, List, [], ◌∷◌, length, reverse, Some, None}
use Rattle.std.specs.FinMap as map
use Rattle.lpt_packet.specs.declared.direction.Direction.{Direction}
use Rattle.lpt_packet.specs.Names.{Name}
use Rattle.lpt_reception.specs.Received.{Parts}
use Rattle.lpt_events.specs.declared.lane.Lane.{Lane}
use Rattle.lpt_events.specs.Lanes.{lane_direction}
use Rattle.lpt_events.specs.declared.config.Config.{Config}
use Rattle.lpt_events.specs.declared.outcome.Outcome.TheVariants.{Released, PlainReleased}
use Rattle.lpt_events.specs.Arrivals.{Arrival, ARequest, APart}
use Rattle.lpt_acts.specs.Acts.{Act, Deliver}
use Rattle.lpt_events.specs.declared.reply.Answer.{Answer}
use Rattle.lpt_events.specs.declared.reply.Answer.TheVariants.{Delivered}
use Rattle.lpt_events.specs.declared.entry.Release.{Release}
use Rattle.lpt_journal.specs.Journal.{History, with_all}
use Rattle.lpt_journal.specs.Hands.{in_hand}
use Rattle.lpt_journal.specs.Receivers.{with_piece, heard}
use Rattle.lpt_journal.specs.Releases.{released_now, release_after, released_by, releases}
use Rattle.lpt_journal_examples.proofs.ListedSets.{Listed, with_listed, spelled_listed, entries-with_piece, listed, entries-heard}
use Rattle.lpt_journal.specs.Replies.{answer}
use Rattle.lpt_journal_examples.proofs.Listed.{recorded_listed, recorded_is}
use Rattle.lpt_journal_examples.specs.Passes.{pass_history}

abbrev released_list : (place : ℕ) → Direction → Answer → (Name → Listed) → Arrival → List Release
released_list place d (Delivered (Released name len)) s (APart q) =
    record { place = place; of = Some (d, name); message = spelled_listed (with_listed (s name) q) }
    ∷ []
released_list place d (Delivered (PlainReleased len)) s (ARequest b) =
    record { place = place; of = None; message = b } ∷ []
released_list place d answer s arrived = []

abbrev release_list : Act
    → (place : ℕ)
    → Answer
    → (Direction → Name → Listed)
    → (Lane → Arrival)
    → List Release
release_list (Deliver l) place answer s arrived =
    released_list place (lane_direction l) answer (s (lane_direction l)) (arrived l)
release_list _ place answer s arrived = []

-- all releases, by the lists
abbrev pub releases_listed : Config → History → List Release
releases_listed c [] = []
releases_listed c (x ∷ h) =
    with_all (releases_listed c h)
    (release_list x.event (length h) x.reply.answer (listed c h) (in_hand c h))

released_is : (place : ℕ) (d : Direction) (o : Answer) (s : Name → Parts) (t : Name → Listed)
    (a : Arrival)
    → ((name : Name) → map.entries (s name) ≡ t name)
    → released_now place d o s a ≡ released_list place d o t a
released_is place d (Delivered (Released name len)) s t (APart q) is =
    let e : map.entries (with_piece (s name) q) ≡ with_listed (t name) q =
    entries-with_piece (s name) q ∙ ap (λ es. with_listed es q) (is name) in
    λ i. record { place = place; of = Some (d, name); message = spelled_listed (e i) } ∷ []
released_is place d (Delivered (PlainReleased len)) s t (ARequest b) is = refl
released_is place d o s t a is = refl

release_is : (e : Act) (place : ℕ) (o : Answer) (s : Direction → Name → Parts)
    (t : Direction → Name → Listed) (arrived : Lane → Arrival)
    → ((d : Direction) (name : Name) → map.entries (s d name) ≡ t d name)
    → release_after e place o s arrived ≡ release_list e place o t arrived
release_is (Deliver l) place o s t arrived is =
    released_is place (lane_direction l) o (s (lane_direction l)) (t (lane_direction l)) (arrived l)
    (is (lane_direction l))
release_is e place o s t arrived is = refl

-- the releases are the same by the lists
pub releases_is : (c : Config) (h : History) → releases c h ≡ releases_listed c h
releases_is c [] = refl
releases_is c (x ∷ h) =
    let now : released_by c x h ≡ release_list x.event (length h) x.reply.answer (listed c h)
    (in_hand c h)
    = release_is x.event (length h) x.reply.answer (heard c h) (listed c h) (in_hand c h)
    (entries-heard c h) in
    λ i. with_all (releases_is c h i) (now i)

-- the releases of a pass, by the lists
pub releases_passed : (c : Config) (es : List Act)
    → releases c (pass_history c es) ≡ releases_listed c (recorded_listed c (reverse es))
releases_passed c es =
    ap (releases c) (recorded_is c (reverse es)) ∙ releases_is c (recorded_listed c (reverse es))
