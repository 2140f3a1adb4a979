-- A report that is opened as a message has a name and a length that messages may have.
use Rattle.std.proofs.Common.{◌≡◌, ◌∙◌, ap, sym, subst, refl, ℕ, ◌+◌, ◌<◌, ◌≤◌, nat_lt, Bool, true, false, not, if◌then◌else◌, List, [], ◌∷◌, length, map, filter, Option, Some, None, is_some, arith}
use Rattle.std.proofs.lemmas.Bool.Decides.{nat_tests}
use Rattle.std.specs.List.{AllByRecursion}
use Rattle.std.specs.FinMap as maps
use Rattle.lpt_packet.specs.Names.{Name, IsName, name_cmp}
use Rattle.lpt_packet.specs.Numbers.{IsOctets}
use Rattle.lpt_pus.proofs.TelemetryLemmas.{length-spelling_tm}
use Rattle.lpt_events.specs.MadePackets.{telemetry_made}
use Rattle.lpt_events.specs.TelemetryKinds.{service_of, subtype_of}
use Rattle.lpt_events.specs.declared.config.Config.{Config}
use Rattle.lpt_execution.specs.declared.ending.Report.{Report}
use Rattle.lpt_execution.specs.Endings.{is_small}
use Rattle.lpt_execution.specs.Reporting.{large_packets, message_reports, opened_of, request_source}
use Rattle.lpt_ledger.specs.LeastFree.{IsLeastFree, least_free_in}
use Rattle.lpt_ledger.specs.Marks.{Marks, Opened}
use Rattle.lpt_ledger.specs.States.{state_at, state_of}
use Rattle.lpt_ledger.specs.declared.state.State.TheVariants.{Open}
use Rattle.lpt_ledger.proofs.FirstLemmas.{IsLeastFree-least_free_in}
use Rattle.lpt_jobs.specs.Jobs.{head_of, without_front}
use Rattle.lpt_jobs.specs.declared.job.Job.{Job}
use Rattle.lpt_jobs.specs.declared.job.Job.TheVariants.{Committed}
use Rattle.lpt_memory.specs.Effects.{answer, AnswerFits}
use Rattle.lpt_memory.specs.Meanings.{meaning}
use Rattle.lpt_memory.specs.Memories.{Contents, sizes_of}
use Rattle.lpt_memory.specs.Readings.{Source, source_meaning}
use Rattle.lpt_node.specs.Counting.{counter_of}
use Rattle.lpt_node.specs.Jobs.{ending_at, job_executed, executed_of, executed_ending, report_packets, reports_made, with_opened}
use Rattle.lpt_node.specs.Nodes.{NodeData, Sending, message_at}
use Rattle.lpt_node.specs.Sending.{counted_kind}
use Rattle.lpt_node.proofs.MapLemmas.{get_insert}
use Rattle.lpt_packet.proofs.NameLemmas.{same_name-refl}
use Rattle.lpt_journal.proofs.AnswerLengths.{answer_fits, source_fits}
use Rattle.lpt_journal.proofs.SentReports.{IsSendable, ending_fits, message_sendable}

-- each packet is 19 octets longer than its report's body, which fits a packet
abbrev AreMade : List (Report × List ℕ) → Type 0
AreMade xs =
    AllByRecursion (λ (x : Report × List ℕ). (length x.0.body ≤ 65523) ×
    (length x.1 ≡ length x.0.body + 19)) xs

made_reports : (c : Config) (peer : ℕ) (s : Sending) (clock : ℕ) (rs : List Report)
    → AllByRecursion IsSendable rs
    → AreMade (report_packets c peer s clock rs)
made_reports c peer s clock [] all = tt
made_reports c peer s clock (r ∷ rs) all = (
  (
    all.0.fits,
    length-spelling_tm (telemetry_made c peer s.count (counter_of s.types r.kind) clock
        (service_of r.kind)
        (subtype_of r.kind) r.body),
  ),
  made_reports c peer (counted_kind s r.kind) clock rs all.1,
)

large_length : (p len total : ℕ)
    → is_small p len ≡ false
    → len ≤ 65523
    → total ≡ len + 19
    → (p < total) × (total ≤ 65542)
large_length p len total large fits long =
    (grind (arith, nat_tests), omega (arith, fits, long))

-- the first that is too long for the link is longer than a part, and no longer than a packet
large_fits : (p : ℕ) (xs : List (Report × List ℕ)) (b : List ℕ) (bs : List (List ℕ))
    → AreMade xs
    → large_packets p xs ≡ b ∷ bs
    → (p < length b) × (length b ≤ 65542)
large_fits p [] b bs all e = absurd cc
large_fits p (x ∷ xs) b bs all e =
    go (is_small p (length x.0.body)) refl e (large_fits p xs b bs all.1)
  where
    go : (t : Bool)
        → is_small p (length x.0.body) ≡ t
        → map (λ x. x.1) (if not t
        then x ∷ filter (λ x. not (is_small p (length x.0.body))) xs
        else filter (λ x. not (is_small p (length x.0.body))) xs) ≡ b ∷ bs
        → (large_packets p xs ≡ b ∷ bs → (p < length b) × (length b ≤ 65542))
        → (p < length b) × (length b ≤ 65542)
    go true s f others = others f
    go false s f others =
        let same : x.1 ≡ b = cc in
        subst (λ m. (p < length m) × (length m ≤ 65542)) same
        (large_length p (length x.0.body) (length x.1) s all.0.0 all.0.1)

opened_or : Option (Name × List ℕ) → Name × List ℕ → Name × List ℕ
opened_or None y = y
opened_or (Some z) y = z

the_opened : (y z : Name × List ℕ) → Some y ≡ Some z → y ≡ z
unfolding opened_or
the_opened y z f = ap (λ o. opened_or o y) f

-- what is opened, of a least free name and packets
opened_is : (o : Option Name) (bs : List (List ℕ)) (x : Name × List ℕ)
    → opened_of o bs ≡ Some x
    → (o ≡ Some x.0) × ((rest : List (List ℕ)) × (bs ≡ x.1 ∷ rest))
opened_is None [] x e = absurd cc
opened_is None (b ∷ bs) x e = absurd cc
opened_is (Some name) [] x e = absurd cc
opened_is (Some name) (b ∷ bs) x e =
    let same = the_opened (name, b) x e in
    (ap (λ (y : Name × List ℕ). Some y.0) same, (bs, ap (λ (y : Name × List ℕ). y.1 ∷ bs) same))

least_name : (m : Marks) (source : ℕ) (o : Option Name) (name : Name)
    → source < 65536
    → IsLeastFree m source o
    → o ≡ Some name
    → IsName name
least_name m source None name fits least e = absurd cc
least_name m source (Some found) name fits least e =
    let same : found ≡ name = cc in
    subst IsName same
    (record {
      source_fits = subst (λ n. n < 65536) (sym least.of_source) fits;
      id_fits =
          least.in_range;
    })

-- what a message that was opened is, at the node after it
pub record IsOpenedAt (c : Config) (d : NodeData) (x : Name × List ℕ) : Type 0 where
  pub is_name : IsName x.0
  pub long : c.part_size < length x.1
  pub short : length x.1 ≤ 65542
  pub state : state_at d.sending.ledger x.0 ≡ Open
  pub message : message_at d x.0 ≡ Some x.1

-- a name is the same as itself, so what was put under it is there
there : {A : Type 0} (m : maps.FinMap name_cmp A) (name : Name) (x : A)
    → maps.get (maps.insert m name x) name ≡ Some x
there m name x =
    get_insert m name x name ∙ ap (λ b. if b then Some x else maps.get m name) (same_name-refl name)

-- the execution of a reading
opened_at : (c : Config) (d : NodeData) (ms : Contents) (r : Source) (x : Name × List ℕ)
    → IsOctets r.message
    → r.sizes ≡ sizes_of ms
    → (executed_ending c d r (ending_at c d ms r)).1.opened ≡ Some x
    → IsOpenedAt c (executed_ending c d r (ending_at c d ms r)).0 x
opened_at c d ms r x octets sizes e =
    let peer = request_source r.apid r.message in
    let end = ending_at c d ms r in
    let rs = message_reports r.apid r.message end in
    let xs = report_packets c peer d.sending d.clock rs in
    let free = least_free_in d.sending.ledger peer in
    let fits = subst (λ s. AnswerFits (answer (meaning r.apid s r.message) ms)) (sym sizes)
    (answer_fits r.apid ms r.message octets) in
    let made = made_reports c peer d.sending d.clock rs
    (message_sendable r.apid r.message end
    (ending_fits c.part_size (is_some free) (nat_lt (maps.len d.sending.messages) d.outgoing)
    (answer (source_meaning r) ms) fits)) in
    let is = opened_is free (large_packets c.part_size xs) x e in
    let long = large_fits c.part_size xs x.1 is.1.0 made is.1.1 in
    let before : NodeData = record d {
      sending = reports_made d.sending rs;
      jobs = without_front d.jobs;
    } in
    subst (λ o. IsOpenedAt c (with_opened before o) x) (sym e) (record {
      is_name = least_name d.sending.ledger peer free x.0 (source_fits r.apid r.message octets)
          (IsLeastFree-least_free_in d.sending.ledger peer) is.0;
      long = long.0;
      short = long.1;
      state = ap state_of (there before.sending.ledger x.0 Opened);
      message = there before.sending.messages x.0 x.1;
    })

-- the execution of a request that was read alone
pub executed-opened : (c : Config) (d : NodeData) (ms : Contents) (m : List ℕ) (x : Name × List ℕ)
    → IsOctets m
    → d.jobs.jobs ≡ Committed (record { apid = c.apid; sizes = sizes_of ms; message = m }) ∷ []
    → (job_executed c d ms).0.1.opened ≡ Some x
    → IsOpenedAt c (job_executed c d ms).0.0 x
executed-opened c d ms m x octets is =
    let r : Source = record { apid = c.apid; sizes = sizes_of ms; message = m } in
    subst (λ (js : List Job). (executed_of c d ms (head_of js)).0.1.opened ≡ Some x
    → IsOpenedAt c (executed_of c d ms (head_of js)).0.0 x) (sym is)
    (opened_at c d ms r x octets refl)
