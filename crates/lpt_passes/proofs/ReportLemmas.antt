-- The packets of an execution's reports are read as those reports.
use Rattle.std.proofs.Common.{◌≡◌, ◌∙◌, ap, sym, subst, refl, ℕ, zero, suc, ◌+◌, ◌^◌, ◌<◌, ◌≤◌, ◌==◌, ◌&&◌, Bool, true, false, not, if◌then◌else◌, List, [], ◌∷◌, ◌++◌, length, map, take, Option, Some, None, arith}
use Rattle.std.specs.List.{slice_get, filter, AllByRecursion}
use Rattle.std.specs.Option.{option_map_or}
use Rattle.std.specs.Result.{result_ok}
use Rattle.lpt_packet.specs.declared.direction.Direction.TheVariants.{Down}
use Rattle.lpt_packet.specs.Names.{Name}
use Rattle.lpt_packet.proofs.Readings.{eq_true}
use Rattle.lpt_packet.proofs.SightLemmas.{seen_again}
use Rattle.lpt_pus.specs.Telemetry.{Telemetry, TelemetryFits, tm_packet_of, telemetry_in}
use Rattle.lpt_pus.proofs.TelemetryLemmas.{InRange-tm_packet_of, tm_verdict-ok, telemetry_in-found, telemetry_in-spelling}
use Rattle.lpt_part.specs.declared.kind.Kind.{Kind}
use Rattle.lpt_events.specs.declared.config.Config.{Config}
use Rattle.lpt_events.specs.declared.side.Side.TheVariants.{Ground}
use Rattle.lpt_events.specs.declared.telemetry.TelemetryKind.{TelemetryKind}
use Rattle.lpt_events.specs.declared.telemetry.TelemetryKind.TheVariants.{Accepted}
use Rattle.lpt_events.specs.Arrivals.{NotRead, Foreign, AReport, carried_kind, part_arrival, abort_arrival, report_arrival, telemetry_arrival, packet_arrival, sight_arrival, arrival, arrival_in}
use Rattle.lpt_events.specs.Configs.{IsConfig}
use Rattle.lpt_events.specs.MadePackets.{telemetry_made}
use Rattle.lpt_events.specs.TelemetryKinds.{service_of, subtype_of}
use Rattle.lpt_execution.specs.declared.ending.Report.{Report}
use Rattle.lpt_execution.specs.Endings.{is_small}
use Rattle.lpt_execution.specs.Reporting.{link_packets, large_packets, opened_of}
use Rattle.lpt_journal.specs.Executions.{report_after}
use Rattle.lpt_journal.specs.Executions as executions
use Rattle.lpt_journal.specs.Journal.{SentPacket, with_all}
use Rattle.lpt_journal.specs.Senders.{count_after, counter_after}
use Rattle.lpt_journal.proofs.SentReports.{IsSendable}
use Rattle.lpt_journal.proofs.TestLemmas.{no_place}

-- ---- lists

-- what stood before a place stands there as the list grows
pub take_with_all : {A : Type 0} (xs ys : List A) (k : ℕ) (y : A)
    → slice_get xs k ≡ Some y
    → take k (with_all xs ys) ≡ take k xs
take_with_all xs [] k y e = refl
take_with_all {A} xs (z ∷ ys) k y e = go xs k e where
  go : (xs : List A) (k : ℕ) → slice_get xs k ≡ Some y → take k (xs ++ z ∷ ys) ≡ take k xs
  go [] k e = absurd (no_place k y e)
  go (x ∷ xs) zero e = refl
  go (x ∷ xs) (suc k) e = ap (λ rest. x ∷ rest) (go xs k e)

pub take_front : {A : Type 0} (xs ys : List A) → take (length xs + 0) (xs ++ ys) ≡ xs
take_front [] ys = refl
take_front (x ∷ xs) ys =
    let more : suc (length xs) + 0 ≡ suc (length xs + 0) = omega arith in
    ap (λ n. take n (x ∷ xs ++ ys)) more ∙ ap (λ rest. x ∷ rest) (take_front xs ys)

-- ---- telemetry on ground

-- telemetry of a service other than that of parts arrives as a report
pub telemetry_reports : (c : Config) (b : List ℕ) (t : Telemetry)
    → telemetry_in c.apid b ≡ Some t
    → (t.service == 13) ≡ false
    → arrival_in c Down b ≡ AReport t.service t.subtype
unfolding arrival
telemetry_reports c b t e other =
    let found = telemetry_in-found c.apid b t e in
    let f = found.packet in
    let p = c.part_size in
    let read = tm_verdict-ok f t found.is_telemetry in
    let apid : f.apid ≡ c.apid = ap (λ (u : Telemetry). u.apid) read.3 ∙ found.is_for in
    ap (sight_arrival Ground c.apid p b) found.is_packet
    ∙ ap (λ s. if s then packet_arrival Ground p b f else Foreign) (eq_true f.apid c.apid apid)
    ∙ ap (λ r. option_map_or (telemetry_arrival p) (result_ok r) NotRead) found.is_telemetry
    ∙ ap (λ (o : Option Kind). option_map_or (part_arrival p t.destination t.body) o
    (report_arrival t)) (carries_none t.service t.subtype other)
    ∙ ap (λ s.
    if s && (t.subtype == 16) then abort_arrival t.destination t.body else AReport t.service
    t.subtype) other
  where
    carries_none : (service subtype : ℕ)
        → (service == 13) ≡ false
        → carried_kind Down service subtype ≡ None
    carries_none service subtype n = rw n refl

-- ---- a report's packet

-- the packet is telemetry to this destination, of this report's kind, with its body
pub record IsReadAs (c : Config) (to : ℕ) (r : Report) (b : List ℕ) : Type 0 where
  pub telemetry : Telemetry
  pub is_read : telemetry_in c.apid b ≡ Some telemetry
  pub goes_to : telemetry.destination ≡ to
  pub of_service : telemetry.service ≡ service_of r.kind
  pub of_subtype : telemetry.subtype ≡ subtype_of r.kind
  pub of_body : telemetry.body ≡ r.body

service_small : (k : TelemetryKind) → service_of k < 256
service_small Accepted = omega arith
service_small k = omega arith

subtype_small : (k : TelemetryKind) → subtype_of k < 256
subtype_small Accepted = omega arith
subtype_small k = omega arith

read_as : (c : Config) (peer : ℕ) (packets : List (List ℕ)) (time : ℕ) (r : Report)
    → IsConfig c
    → peer < 65536
    → time < 2 ^ 32
    → length r.body ≤ 65523
    → IsReadAs c peer r (report_after c peer packets time r)
read_as c peer packets time r good to t short =
    let service = service_of r.kind in
    let subtype = subtype_of r.kind in
    let it : Telemetry =
    telemetry_made c peer (count_after packets) (counter_after packets service subtype) time
    service subtype r.body in
    let fits : TelemetryFits it = record {
      head_fits =
          record {
            apid_fits = good.apid_fits;
            count_fits = omega arith;
            status_fits =
                omega arith;
          };
      service_fits = service_small r.kind;
      subtype_fits = subtype_small r.kind;
      counter_fits = omega arith;
      destination_fits = to;
      time_fits = t;
      body_fits = short;
    } in
    record {
      telemetry = it;
      is_read =
          telemetry_in-spelling it fits (seen_again
          (tm_packet_of it) (InRange-tm_packet_of it fits));
      goes_to = refl;
      of_service = refl;
      of_subtype = refl;
      of_body = refl;
    }

-- ---- all of them

-- what holds of each of them holds of the one at a place
pub at_place : {A : Type 0} (P : A → Type 0) (xs : List A) (k : ℕ) (y : A)
    → AllByRecursion P xs
    → slice_get xs k ≡ Some y
    → P y
at_place P [] k y all f = absurd (no_place k y f)
at_place P (x ∷ xs) zero y all f = let same : x ≡ y = cc in subst P same all.0
at_place P (x ∷ xs) (suc k) y all f = at_place P xs k y all.1 f

-- it is one of these
abbrev pub IsOneOf : {A : Type 0} → List A → A → Type 0
IsOneOf xs y = (k : ℕ) × (slice_get xs k ≡ Some y)

-- each of them is
pub each_is_one : {A : Type 0} (xs : List A) → AllByRecursion (IsOneOf xs) xs
each_is_one {A} xs =
    go xs 0 (λ k y f. ap (slice_get xs) (let same : k + 0 ≡ k = omega arith in same) ∙ f)
  where
    go : (ys : List A) (n : ℕ)
        → ((k : ℕ) (y : A) → slice_get ys k ≡ Some y → slice_get xs (k + n) ≡ Some y)
        → AllByRecursion (IsOneOf xs) ys
    go [] n at = tt
    go (y ∷ ys) n at = (
      (0 + n, at 0 y refl),
      go ys (suc n) (λ k z f. ap (slice_get xs) (let e : k + suc n ≡ suc k + n = omega arith in e)
          ∙ at (suc k) z f),
    )

-- a report with its packet: this holds of the report, and the packet is read as it
abbrev pub IsReadWith : Config → (to : ℕ) → (Report → Type 0) → Report × List ℕ → Type 0
IsReadWith c to P x = P x.0 × IsReadAs c to x.0 x.1

pub all_read : (c : Config) (P : Report → Type 0) (peer : ℕ) (packets : List (List ℕ)) (time : ℕ)
    (rs : List Report)
    → IsConfig c
    → peer < 65536
    → time < 2 ^ 32
    → AllByRecursion IsSendable rs
    → AllByRecursion P rs
    → AllByRecursion (IsReadWith c peer P) (executions.reports_after c peer packets time rs)
all_read c P peer packets time [] good to t send all = tt
all_read c P peer packets time (r ∷ rs) good to t send all = (
  (all.0, read_as c peer packets time r good to t send.0.fits),
  all_read c P peer (with_all packets (report_after c peer packets time r ∷ [])) time rs good to t
      send.1 all.1,
)

-- a packet that goes on the link is one of theirs
pub on_link : (Q : Report × List ℕ → Type 0) (size : ℕ) (xs : List (Report × List ℕ))
    → AllByRecursion Q xs
    → (k : ℕ) (p : SentPacket)
    → slice_get (map (λ b. record { direction = Down; octets = b }) (link_packets size xs)) k
    ≡ Some p
    → (x : Report × List ℕ) × Q x × (p.octets ≡ x.1)
on_link Q size [] all k p f = absurd (no_place k p f)
on_link Q size (x ∷ xs) all k p f =
    go (is_small size (length x.0.body)) k f (on_link Q size xs all.1)
  where
    go : (b : Bool) (k : ℕ)
        → slice_get (map (λ b. record { direction = Down; octets = b })
        (map (λ x. x.1) (if b then x ∷ filter (λ x. is_small size (length x.0.body)) xs
        else filter (λ x. is_small size (length x.0.body)) xs))) k ≡ Some p
        → ((k : ℕ) (p : SentPacket) → slice_get (map (λ b. record { direction = Down; octets = b })
        (link_packets size xs)) k ≡ Some p → (x : Report × List ℕ) × Q x × (p.octets ≡ x.1))
        → (x : Report × List ℕ) × Q x × (p.octets ≡ x.1)
    go true zero f others =
        let same : record { direction = Down; octets = x.1 } ≡ p = cc in
        (x, all.0, ap (λ (y : SentPacket). y.octets) (sym same))
    go true (suc k) f others = others k p f
    go false k f others = others k p f

-- what is opened of them is too
pub too_long : (Q : Report × List ℕ → Type 0) (size : ℕ) (xs : List (Report × List ℕ))
    → AllByRecursion Q xs
    → (free : Option Name) (y : Name × List ℕ)
    → opened_of free (large_packets size xs) ≡ Some y
    → (x : Report × List ℕ) × Q x × (y.1 ≡ x.1)
too_long Q size xs all None y e = absurd cc
too_long Q size [] all (Some name) y e = absurd cc
too_long Q size (x ∷ xs) all (Some name) y e =
    go (is_small size (length x.0.body)) e (too_long Q size xs all.1 (Some name) y)
  where
    go : (b : Bool)
        → opened_of (Some name)
        (map (λ x. x.1) (if not b then x ∷ filter (λ x. not (is_small size (length x.0.body))) xs
        else filter (λ x. not (is_small size (length x.0.body))) xs)) ≡ Some y
        → (opened_of (Some name) (large_packets size xs) ≡ Some y
        → (x : Report × List ℕ) × Q x × (y.1 ≡ x.1))
        → (x : Report × List ℕ) × Q x × (y.1 ≡ x.1)
    go true e others = others e
    go false e others =
        let same : (name, x.1) ≡ y = cc in
        (x, all.0, ap (λ (z : Name × List ℕ). z.1) (sym same))
