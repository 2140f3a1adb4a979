-- What a request owes that leaves, and that it pays it.
use Rattle.std.proofs.Common.{◌≡◌, ◌∙◌, ap, sym, subst, refl, ℕ, zero, suc, ◌+◌, nat_lt, ◌≤◌, ◌<◌, Bool, true, false, not, if◌then◌else◌, inl, List, [], ◌∷◌, length, map, Option, Some, None, arith}
use Rattle.std.proofs.lemmas.Bool.Decides.{nat_tests}
use Rattle.std.specs.List.{slice_get, find, filter, AllByRecursion}
use Rattle.std.specs.Option.{is_some, option_map_or, option_map}
use Rattle.lpt_packet.specs.declared.direction.Direction.{Direction}
use Rattle.lpt_packet.specs.declared.direction.Direction.TheVariants.{Down}
use Rattle.lpt_packet.specs.Names.{Name, IsName, named_by}
use Rattle.lpt_reception.specs.PartsOf.{IsMessage}
use Rattle.lpt_ledger.specs.LeastFree.{name_count, first_of_numbers}
use Rattle.lpt_ledger.proofs.FirstLemmas.{IsFirst, IsFirst-first_of_numbers}
use Rattle.lpt_memory.specs.Effects.{AnswerFits}
use Rattle.lpt_memory.specs.Memories.{Contents}
use Rattle.lpt_events.specs.declared.config.Config.{Config}
use Rattle.lpt_events.specs.Arrivals.{AReport, APart, part_name}
use Rattle.lpt_events.specs.Configs.{IsConfig}
use Rattle.lpt_events.specs.TelemetryKinds.{service_of, subtype_of}
use Rattle.lpt_events.specs.declared.entry.Opening.{Opening}
use Rattle.lpt_events.specs.declared.entry.Release.{Release}
use Rattle.lpt_acts.specs.Acts.{Leaving, Execute, Refuse, Drop, ending_by, Apply}
use Rattle.lpt_events.specs.declared.side.Side.TheVariants.{Craft}
use Rattle.lpt_execution.specs.declared.ending.Ending.{Ending}
use Rattle.lpt_execution.specs.Endings.{is_small}
use Rattle.lpt_execution.specs.Reporting.{message_reports, request_source, link_packets, large_packets, opened_of}
use Rattle.lpt_execution.specs.declared.ending.Report.{Report}
use Rattle.lpt_journal.specs.Executions.{effect_of, ending_of, front_reports, front_source, front_packets, opened_down}
use Rattle.lpt_journal.specs.Jobs.{front_job, memories}
use Rattle.lpt_journal.specs.Journal.{SentPacket, History}
use Rattle.lpt_journal.specs.Receivers.{clock, limits}
use Rattle.lpt_journal.specs.Replies.{entry}
use Rattle.lpt_journal.specs.Senders.{is_opening_of, sender, is_free, least_free, open_count, current, packets_made}
use Rattle.lpt_journal.proofs.Events.{free_current, only_opening}
use Rattle.lpt_journal.proofs.SentReports.{IsSendable, IsReportMade, EndingFits, all_made, message_sendable, ending_fits}
use Rattle.lpt_journal.proofs.Steps.{IsRead, IsPut, IsSound, IsNew, Owes, opening_found}
use Rattle.lpt_journal.proofs.TestLemmas.{no_place}

-- the packet of a report is read, and is no part
report_sound : (c : Config) (g : History) (how : Leaving) (x : Report × List ℕ)
    → IsReportMade c x
    → IsPut c g (Apply how) (record { direction = Down; octets = x.1 })
report_sound c g how x it = record {
  sound = record {
    is_read = subst (λ a. IsRead a) (sym it.arrives) tt;
    part = λ q e.
        let no : AReport (service_of x.0.kind) (subtype_of x.0.kind) ≡ APart q =
        sym it.arrives ∙ e in absurd cc;
  };
  name = ap part_name it.arrives;
}

-- all packets that go on the link are
puts_sound : (c : Config) (g : History) (how : Leaving) (xs : List (Report × List ℕ))
    → AllByRecursion (IsReportMade c) xs
    → (k : ℕ) (p : SentPacket)
    → slice_get (map (λ b. record { direction = Down; octets = b }) (link_packets c.part_size xs)) k
    ≡ Some p
    → IsPut c g (Apply how) p
puts_sound c g how [] all k p f = absurd (no_place k p f)
puts_sound c g how (x ∷ xs) all k p f =
    go (is_small c.part_size (length x.0.body)) k f (puts_sound c g how xs all.1)
  where
    rest : List SentPacket
    rest = map (λ b. record { direction = Down; octets = b }) (link_packets c.part_size xs)

    go : (b : Bool) (k : ℕ)
        → slice_get (map (λ b. record { direction = Down; octets = b })
        (map (λ x. x.1) (if b then x ∷ filter (λ x. is_small c.part_size (length x.0.body)) xs
        else filter (λ x. is_small c.part_size (length x.0.body)) xs))) k ≡ Some p
        → ((k : ℕ) (p : SentPacket) → slice_get (map (λ b. record { direction = Down; octets = b })
        (link_packets c.part_size xs)) k ≡ Some p → IsPut c g (Apply how) p)
        → IsPut c g (Apply how) p
    go true zero f others =
        let same : record { direction = Down; octets = x.1 } ≡ p = cc in
        subst (λ y. IsPut c g (Apply how) y) same (report_sound c g how x all.0)
    go true (suc k) f others = others k p f
    go false k f others = others k p f

-- a packet that is too long for the link can be split
large_splits : (p len total : ℕ)
    → is_small p len ≡ false
    → len ≤ 65523
    → total ≡ len + 19
    → (p < total) × (total ≤ 65542)
large_splits p len total large fits long =
    (grind (arith, nat_tests), omega (arith, fits, long))

large_message : (c : Config) (xs : List (Report × List ℕ)) (b : List ℕ) (bs : List (List ℕ))
    → AllByRecursion (IsReportMade c) xs
    → large_packets c.part_size xs ≡ b ∷ bs
    → IsMessage b c.part_size
large_message c [] b bs all e = absurd cc
large_message c (x ∷ xs) b bs all e =
    go (is_small c.part_size (length x.0.body)) refl e (large_message c xs b bs all.1)
  where
    go : (t : Bool)
        → is_small c.part_size (length x.0.body) ≡ t
        → map (λ x. x.1) (if not t
        then x ∷ filter (λ x. not (is_small c.part_size (length x.0.body))) xs
        else filter (λ x. not (is_small c.part_size (length x.0.body))) xs) ≡ b ∷ bs
        → (large_packets c.part_size xs ≡ b ∷ bs → IsMessage b c.part_size)
        → IsMessage b c.part_size
    go true s f others = others f
    go false s f others =
        let same : x.1 ≡ b = cc in
        let fits = large_splits c.part_size (length x.0.body) (length x.1) s all.0.fits all.0.long in
        subst (λ m. IsMessage m c.part_size) same (record { long = fits.0; short = fits.1 })

-- the least free name is free
least_is_free : (h : History) (d : Direction) (source : ℕ) (name : Name)
    → source < 65536
    → least_free h d source ≡ Some name
    → (is_free (sender h d name) ≡ true) × IsName name
least_is_free h d source name fits e =
    go (first_of_numbers name_count 0 (λ i. is_free (sender h d (named_by source i))))
    (IsFirst-first_of_numbers name_count 0 (λ i. is_free (sender h d (named_by source i)))) e
  where
    go : (o : Option ℕ)
        → IsFirst name_count 0 (λ i. is_free (sender h d (named_by source i))) o
        → option_map (named_by source) o ≡ Some name
        → (is_free (sender h d name) ≡ true) × IsName name
    go None first k = absurd cc
    go (Some i) first k =
        let same : named_by source i ≡ name = cc in
        subst (λ n. (is_free (sender h d n) ≡ true) × IsName n) same
        (first.passes, record { source_fits = fits; id_fits = omega (arith, first.to) })

opens_new : (c : Config) (h : History) (source : ℕ) (xs : List (Report × List ℕ))
    → source < 65536
    → AllByRecursion (IsReportMade c) xs
    → (d : Direction) (name : Name) (o : Opening)
    → find (is_opening_of d name)
    (opened_down (length h) (opened_of (least_free h Down source) (large_packets c.part_size xs)))
    ≡ Some o
    → IsNew c h d name o
opens_new c h source xs from all d name o f =
    go (least_free h Down source) (large_packets c.part_size xs) refl refl f
  where
    go : (i : Option Name) (bs : List (List ℕ))
        → least_free h Down source ≡ i
        → large_packets c.part_size xs ≡ bs
        → find (is_opening_of d name) (opened_down (length h) (opened_of i bs)) ≡ Some o
        → IsNew c h d name o
    go None bs free large k = absurd cc
    go (Some i) [] free large k = absurd cc
    go (Some i) (b ∷ bs) free large k =
        let u : Opening =
        record { place = length h; direction = Down; name = i; message = b } in
        let found = opening_found d name (u ∷ []) o k in
        let same : u ≡ o = only_opening d name u o k in
        let least = least_is_free h Down source i from free in
        record {
          is_name = subst (λ n. IsName n) (ap (λ (v : Opening). v.name) same ∙ found.1) least.1;
          free =
              (λ j. current h (sym found.0 j) (sym found.1 j))
              ∙ ap (λ (v : Opening). current h v.direction v.name) (sym same)
              ∙ free_current h Down i least.0;
          place = ap (λ (v : Opening). v.place) (sym same);
          splits =
              subst (λ (v : Opening). IsMessage v.message c.part_size) same
              (large_message c xs b bs all large);
        }

-- so it is of any request that leaves
pub ending_by_fits : (how : Leaving) (end : Ending)
    → EndingFits end
    → EndingFits (ending_by how end)
ending_by_fits Execute end fits = fits
ending_by_fits (Refuse code) end fits = tt
ending_by_fits Drop end fits = tt

-- a request that leaves pays what it owes, where the answer to the oldest request fits a packet,
-- and so does the source that its reports go to
pub apply_owes : (c : Config) (first : Contents) (h : History) (how : Leaving)
    → IsConfig c
    → IsSound c h
    → ((r : Release)
    → front_job c h ≡ Some r
    → AnswerFits (effect_of c (memories c first h) r.message)
    × (request_source c.apid r.message < 65536))
    → Owes c h (entry c first h (Apply how))
apply_owes c first h how good sound fits =
    let xs = front_packets c first h how in
    let all : AllByRecursion (IsReportMade c) xs =
    all_made c (front_source c h) (packets_made h Down) (clock c h Craft)
    (front_reports c first h how) good to
    (sound.clocks Craft) (sendable (front_job c h) refl) in
    record {
      opens = opens_new c h (front_source c h) xs to all;
      retires = λ e i r. absurd cc;
      puts = puts_sound c (entry c first h (Apply how) ∷ h) how xs all;
      takes = λ l n f. inl f;
      hears = λ e i. inl refl;
      clocks = sound.clocks;
    }
  where
    small : (o : Option Release)
        → front_job c h ≡ o
        → option_map_or (λ (r : Release). request_source c.apid r.message) o 0 < 65536
    small None e = omega arith
    small (Some r) e = (fits r e).1

    to : front_source c h < 65536
    to = small (front_job c h) refl

    sendable : (o : Option Release)
        → front_job c h ≡ o
        → AllByRecursion IsSendable
        (option_map_or (λ (r : Release). message_reports c.apid r.message
        (ending_of c first h how r.message)) o [])
    sendable None e = tt
    sendable (Some r) e =
        message_sendable c.apid r.message (ending_of c first h how r.message)
        (ending_by_fits how _
        (ending_fits c.part_size (is_some (least_free h Down (request_source c.apid r.message)))
        (nat_lt (open_count h Down) (limits c h Craft).outgoing)
        (effect_of c (memories c first h) r.message)
        (fits r e).0))
