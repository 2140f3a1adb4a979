-- The counts of the packets that a node has made.
use Rattle.std.proofs.Common.{◌≡◌, ◌≢◌, ◌∙◌, ap, sym, refl, ℕ, ◌+◌, ◌%◌, ◌<◌, ◌==◌, Bool, true, false, ◌&&◌, if◌then◌else◌, List, [], ◌∷◌, ◌++◌, length, get_or, arith, length-append, get_or-set_same, get_or-set_other, length-set}
use Rattle.std.specs.List.{filter}
use Rattle.std.proofs.lemmas.List.Elements.{filter-append}
use Rattle.lpt_packet.proofs.Readings.{true_eq, false_eq}
use Rattle.lpt_packet.specs.Packets.{spelling}
use Rattle.lpt_pus.specs.Telemetry.{tm_field}
use Rattle.lpt_events.specs.declared.config.Config.{Config}
use Rattle.lpt_events.specs.declared.side.Side.TheVariants.{Ground, Craft}
use Rattle.lpt_events.specs.declared.telemetry.TelemetryKind.{TelemetryKind}
use Rattle.lpt_events.specs.declared.telemetry.TelemetryKind.TheVariants.{Accepted}
use Rattle.lpt_events.specs.TelemetryKinds.{service_of, subtype_of, place_of}
use Rattle.lpt_node.specs.Counting.{next_count, next_types, counter_of}
use Rattle.lpt_node.specs.Nodes.{Sending}
use Rattle.lpt_node.specs.Sending.{packet_counted, counted_kind}
use Rattle.lpt_events.specs.MadePackets.{tm_made}
use Rattle.lpt_journal.specs.Senders.{is_report}
use Rattle.lpt_refinement.specs.Shows.{ShowsReports, ShowsSending}
use Rattle.lpt_refinement.specs.Views.{SendingView}

-- ---- sequence counts

-- one more packet raises the count
count_more : (n : ℕ) (made : List (List ℕ)) (b : List ℕ)
    → n ≡ length made % 16384
    → next_count n ≡ length (made ++ b ∷ []) % 16384
count_more n made b e =
    let more : length (made ++ b ∷ []) ≡ length made + 1 = length-append made (b ∷ []) in
    omega arith

-- a telecommand was made
pub command_made : {x : Sending} {y : SendingView} (b : List ℕ)
    → ShowsSending Ground x y
    → ShowsSending Ground (packet_counted x) (record y { made = y.made ++ b ∷ [] })
command_made {x = x} {y = y} b k = record {
  ledger = k.ledger;
  messages = k.messages;
  count = count_more x.count y.made b k.count;
  types = tt;
}

-- ---- message type counters

-- octets that are telemetry of this kind
abbrev pub IsReportOf : TelemetryKind → List ℕ → Type 0
IsReportOf kind b =
    (s t : ℕ) → is_report s t b ≡ ((service_of kind == s) && ((subtype_of kind == t) && true))

-- the service and message subtype stand behind a telemetry packet's first seven octets
pub is_report-made : (c : Config) (peer count counter time service subtype : ℕ) (body : List ℕ)
    (s t : ℕ)
    → is_report s t (tm_made c peer count counter time service subtype body)
    ≡ ((service == s) && ((subtype == t) && true))
unfolding spelling tm_field
is_report-made c peer count counter time service subtype body s t = refl

-- kinds of telemetry have one place where they have one service and message subtype
same_kind_by : (kind k : TelemetryKind)
    → ((service_of kind == service_of k) && ((subtype_of kind == subtype_of k) && true))
    ≡ (place_of k == place_of kind)
same_kind_by Accepted Accepted = refl
same_kind_by kind Accepted = refl
same_kind_by kind k = refl

within : (k : TelemetryKind) → place_of k < 11
within Accepted = omega arith
within k = omega arith

-- one more element is counted where it passes
length-filter_more : {A : Type 0} (p : A → Bool) (xs : List A) (x : A) (t : Bool)
    → p x ≡ t
    → length (filter p (xs ++ x ∷ [])) ≡ length (filter p xs) + (if t then 1 else 0)
length-filter_more p xs x t e =
    ap length (filter-append p xs (x ∷ []))
    ∙ length-append (filter p xs) (filter p (x ∷ []))
    ∙ ap (λ n. length (filter p xs) + n)
    (ap (λ u. length (if u then x ∷ [] else [])) e ∙ go t) where
      go : (t : Bool) → length (if t then x ∷ [] else []) ≡ (if t then 1 else 0)
      go true = refl
      go false = refl

-- one more telemetry packet of a kind raises its counter alone
types_more : (types : List ℕ) (made : List (List ℕ)) (kind : TelemetryKind) (b : List ℕ)
    → IsReportOf kind b
    → ShowsReports types made
    → ShowsReports (next_types types kind) (made ++ b ∷ [])
types_more types made kind b is k = record {
  eleven = length-set types (place_of kind) _ ∙ k.eleven;
  counter = λ x. go x (place_of x == place_of kind) refl;
} where
  go : (x : TelemetryKind) (t : Bool)
      → (place_of x == place_of kind) ≡ t
      → counter_of (next_types types kind) x
      ≡ length (filter (is_report (service_of x) (subtype_of x)) (made ++ b ∷ [])) % 65536
  go x true e =
      let p = is_report (service_of x) (subtype_of x) in
      let same : place_of x ≡ place_of kind = true_eq (place_of x) (place_of kind) e in
      let more : length (filter p (made ++ b ∷ [])) ≡ length (filter p made) + 1 =
      length-filter_more p made b true
      (is (service_of x) (subtype_of x) ∙ same_kind_by kind x ∙ e) in
      let there : place_of kind < length types =
      let w : place_of kind < 11 = within kind in omega (arith, k.eleven) in
      let here : counter_of (next_types types kind) x ≡ (counter_of types kind + 1) % 65536 =
      ap (λ i. get_or (next_types types kind) i 0) same
      ∙ get_or-set_same types (place_of kind) _ 0 there in
      let before : counter_of types kind ≡ length (filter p made) % 65536 =
      ap (λ i. get_or types i 0) (sym same) ∙ k.counter x in
      here ∙ omega arith
  go x false e =
      let p = is_report (service_of x) (subtype_of x) in
      let other : place_of x ≢ place_of kind = false_eq (place_of x) (place_of kind) e in
      let more : length (filter p (made ++ b ∷ [])) ≡ length (filter p made) + 0 =
      length-filter_more p made b false
      (is (service_of x) (subtype_of x) ∙ same_kind_by kind x ∙ e) in
      let here : counter_of (next_types types kind) x ≡ counter_of types x =
      get_or-set_other types (place_of kind) (place_of x) _ 0 other in
      here ∙ k.counter x ∙ omega arith

-- telemetry of a kind was made
pub report_made : {x : Sending} {y : SendingView} (kind : TelemetryKind) (b : List ℕ)
    → IsReportOf kind b
    → ShowsSending Craft x y
    → ShowsSending Craft (counted_kind x kind) (record y { made = y.made ++ b ∷ [] })
report_made {x = x} {y = y} kind b is k = record {
  ledger = k.ledger;
  messages = k.messages;
  count = count_more x.count y.made b k.count;
  types = types_more x.types y.made kind b is k.types;
}
