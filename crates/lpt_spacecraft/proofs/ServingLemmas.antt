-- What the spacecraft's end makes, step by step.
use Rattle.std.proofs.Common.{◌≡◌, ◌∙◌, ap, sym, subst, refl, inl, inr, ℕ, ◌+◌, ◌-◌, ◌≤◌, ◌==◌, append-nil, suc, set, Bool, true, false, if◌then◌else◌, List, [], ◌∷◌, Option, Some, None, ◌++◌, drop, arith}
use Rattle.std.proofs.lemmas.Bool.Decides.{nat_tests}
use Rattle.std.specs.Prelude.{Result, Ok, Err, IfErr, OnOk, option_to_list}
use Rattle.std.specs.Io.KnownBytes.{Appends}
use Rattle.lpt_events.specs.declared.config.Config.{Config}
use Rattle.lpt_events.specs.declared.side.Side.{Side}
use Rattle.lpt_events.specs.declared.side.Side.TheVariants.{Craft}
use Rattle.lpt_packet.specs.Names.{Name}
use Rattle.lpt_events.specs.Arrivals.{arrival}
use Rattle.lpt_node.specs.Accepting.{packet_accepted}
use Rattle.lpt_node.specs.declared.accepted.Accepted.{Accepted}
use Rattle.lpt_node.specs.Nodes.{NodeData, message_at}
use Rattle.lpt_node.specs.Sending.{part_sent, sent_of}
use Rattle.lpt_node.specs.Times.{due, reception_expired}
use Rattle.lpt_stream.specs.Streams.{all_octets}
use Rattle.lpt_jobs.specs.Jobs.{Jobs, after_claim, after_commit}
use Rattle.lpt_jobs.specs.declared.job.Job.{Job}
use Rattle.lpt_jobs.specs.declared.job.Job.TheVariants.{Waiting, Claimed, Committed}
use Rattle.lpt_memory.specs.Memories.{Contents, sizes_of}
use Rattle.lpt_memory.specs.Readings.{Source, source_meaning}
use Rattle.lpt_memory.specs.Readings.{Job as Ticket}
use Rattle.lpt_jobs.specs.Jobs.{head_of}
use Rattle.lpt_node.specs.Jobs.{Execution, FrontIsFor, job_claimed, job_committed, job_executed, executed_of, with_opened}
use Rattle.lpt_spacecraft.specs.Serving.{Onboard, after, after_accepted, all_sent, behind, first_expired, first_sent, then_expired, then_sent, read_over, packet_taken, request_worked, worked_if}
use Rattle.lpt_spacecraft.proofs.WritingLemmas.{appends-one, appends-list, part-behind, part-first, part-grown}
use Rattle.lpt_spacecraft.specs.Streams.{Breaks}
use Rattle.lpt_spacecraft.specs.Telling.{done_if, done_in, first_given_up, front_done, gave_up, taken_in, taken_of, work_done, written_at, written_by}
use Rattle.lpt_spacecraft.specs.declared.told.Done.{Done}
use Rattle.lpt_spacecraft.specs.declared.told.Taken.{Taken}
use Rattle.lpt_text.specs.Streams.{AppendsPart}
use Rattle.lpt_text.proofs.StreamLemmas.{part_unchanged, part_whole}

-- ---- parts

pub first_sent-next : (c : Config) (d : NodeData) (id : Name) (k : ℕ)
    → first_sent c d id (k + 1) ≡ then_sent c id (k + 1) (first_sent c d id k)
first_sent-next c d id k =
    let e : k + 1 ≡ suc k = omega arith in
    subst (λ n. first_sent c d id n ≡ then_sent c id n (first_sent c d id k)) (sym e) refl

sent_of-jobs : (c : Config) (d : NodeData) (id : Name) (k : ℕ) (m : Option (List ℕ))
    → (sent_of Craft c d id k m).0.jobs ≡ d.jobs
sent_of-jobs c d id k None = refl
sent_of-jobs c d id k (Some m) = refl

-- a part that is sent changes no job
pub sent-jobs : (c : Config) (d : NodeData) (id : Name) (k : ℕ)
    → (part_sent Craft c d id k).0.jobs ≡ d.jobs
sent-jobs c d id k = sent_of-jobs c d id k (message_at d id)

-- one part more was written
pub sent-next : (c : Config) (d : NodeData) (id : Name) (k : ℕ) (old mid new : Option (List ℕ))
    (p : List ℕ)
    → Appends old mid (all_octets (first_sent c d id k).1)
    → Appends mid new p
    → p ≡ (part_sent Craft c (first_sent c d id k).0 id (k + 1)).1
    → Appends old new (all_octets (first_sent c d id (k + 1)).1)
sent-next c d id k old mid new p h more is =
    subst (λ (z : NodeData × List (List ℕ)). Appends old new (all_octets z.1))
    (sym (first_sent-next c d id k))
    (appends-one old mid new (first_sent c d id k).1 _ h (subst (Appends mid new) is more))

-- a front part of some parts is one of all
pub sent-some : (c : Config) (d : NodeData) (id : Name) (k n : ℕ) (old new : Option (List ℕ))
    → k ≤ n
    → Appends old new (all_octets (first_sent c d id k).1)
    → AppendsPart old new (all_octets (first_sent c d id n).1)
sent-some c d id k n old new le h =
    part-grown (λ j. (first_sent c d id j).1)
    (λ j. ((part_sent Craft c (first_sent c d id j).0 id (suc j)).1 ∷ [], refl)) old new k n le
    (part_whole old new (all_octets (first_sent c d id k).1) h)

-- and so is one of the next part behind them
pub sent-part : (c : Config) (d : NodeData) (id : Name) (k n : ℕ) (old mid new : Option (List ℕ))
    (p : List ℕ)
    → k + 1 ≤ n
    → Appends old mid (all_octets (first_sent c d id k).1)
    → AppendsPart mid new p
    → p ≡ (part_sent Craft c (first_sent c d id k).0 id (k + 1)).1
    → AppendsPart old new (all_octets (first_sent c d id n).1)
sent-part c d id k n old mid new p le h part is =
    let x = (part_sent Craft c (first_sent c d id k).0 id (k + 1)).1 in
    part-grown (λ j. (first_sent c d id j).1)
    (λ j. ((part_sent Craft c (first_sent c d id j).0 id (suc j)).1 ∷ [], refl)) old new (k + 1) n
    le
    (subst (λ (z : NodeData × List (List ℕ)). AppendsPart old new (all_octets z.1))
    (sym (first_sent-next c d id k))
    (part-behind old mid new (first_sent c d id k).1 (x ∷ []) h
    (subst (AppendsPart mid new) (is ∙ sym (append-nil x)) part)))

-- ---- what is given up

pub expired-next : (c : Config) (d : NodeData) (k : ℕ)
    → first_expired c d (k + 1) ≡ then_expired c (first_expired c d k)
expired-next c d k =
    let e : k + 1 ≡ suc k = omega arith in
    subst (λ n. first_expired c d n ≡ then_expired c (first_expired c d k)) (sym e) refl

pub given_up-next : (c : Config) (d : NodeData) (k : ℕ)
    → first_given_up c d (k + 1)
    ≡ first_given_up c d k ++ gave_up (due c (first_expired c d k).0)
given_up-next c d k =
    let e : k + 1 ≡ suc k = omega arith in
    subst (λ n. first_given_up c d n
    ≡ first_given_up c d k ++ gave_up (due c (first_expired c d k).0)) (sym e) refl

-- one more was given up
pub expired-step : (c : Config) (d at : NodeData) (k : ℕ) (old mid new : Option (List ℕ))
    → at ≡ (first_expired c d k).0
    → Appends old mid (all_octets (first_expired c d k).1)
    → Appends mid new (all_octets (then_expired c (at, [])).1)
    → Appends old new (all_octets (first_expired c d (k + 1)).1)
expired-step c d at k old mid new is h more =
    subst (λ (z : NodeData × List (List ℕ)). Appends old new (all_octets z.1))
    (sym (expired-next c d k))
    (appends-list old mid new (first_expired c d k).1
    (option_to_list (reception_expired Craft c (first_expired c d k).0).1.packet) h
    (subst (λ (n : NodeData). Appends mid new (all_octets
    (option_to_list (reception_expired Craft c n).1.packet))) is more))

-- a front part of what it makes was written
pub expired-part : (c : Config) (d at : NodeData) (k n : ℕ) (old mid new : Option (List ℕ))
    → k + 1 ≤ n
    → at ≡ (first_expired c d k).0
    → Appends old mid (all_octets (first_expired c d k).1)
    → AppendsPart mid new (all_octets (then_expired c (at, [])).1)
    → AppendsPart old new (all_octets (first_expired c d n).1)
expired-part c d at k n old mid new le is h part =
    part-grown (λ j. (first_expired c d j).1)
    (λ j. (option_to_list (reception_expired Craft c (first_expired c d j).0).1.packet, refl)) old
    new (k + 1)
    n le
    (subst (λ (z : NodeData × List (List ℕ)). AppendsPart old new (all_octets z.1))
    (sym (expired-next c d k))
    (part-behind old mid new (first_expired c d k).1
    (option_to_list (reception_expired Craft c (first_expired c d k).0).1.packet) h
    (subst (λ (n : NodeData). AppendsPart mid new (all_octets
    (option_to_list (reception_expired Craft c n).1.packet))) is part)))

-- ---- a request

-- a request that waits alone is read: its reading stands alone
pub read_over-jobs : (c : Config) (ms : Contents) (d : NodeData) (m : List ℕ)
    → d.jobs.jobs ≡ Waiting m ∷ []
    → (read_over c ms d).jobs.jobs
    ≡ Committed (record { apid = c.apid; sizes = sizes_of ms; message = m }) ∷ []
read_over-jobs c ms d m is =
    subst (λ (q : Jobs). (read_over c ms (record d { jobs = q })).jobs.jobs
    ≡ Committed (record { apid = c.apid; sizes = sizes_of ms; message = m }) ∷ []) (sym whole) alone
  where
    q : Jobs
    q = record { first = d.jobs.first; jobs = Waiting m ∷ [] }

    whole : d.jobs ≡ q
    whole = ap (λ (js : List Job). record { first = d.jobs.first; jobs = js }) is

    r : Source
    r = record { apid = c.apid; sizes = sizes_of ms; message = m }

    at : (n : ℕ) → n ≡ 0 → set (Claimed ∷ []) n (Committed r) ≡ Committed r ∷ []
    at n e = ap (λ k. set (Claimed ∷ []) k (Committed r)) e

    read : Bool → NodeData × Bool
    read b = if b then (record d { jobs = after_commit (after_claim q) (d.jobs.first + 0) r }, true)
        else (record d { jobs = after_claim q }, false)

    go : (b : Bool) → b ≡ true → (read b).0.jobs.jobs ≡ Committed r ∷ []
    go true e = at (d.jobs.first + 0 - d.jobs.first) (omega arith)
    go false e = absurd cc

    same : (d.boot == d.boot) ≡ true
    same = grind (arith, nat_tests)

    alone : (read_over c ms (record d { jobs = q })).jobs.jobs ≡ Committed r ∷ []
    alone = go (d.boot == d.boot) same

-- a job was claimed, and its reading handed in
pub read-over : (c : Config) (ms : Contents) (d at new : NodeData) (t : Ticket) (boot job : ℕ)
    (r : Source) (b : Bool)
    → (at, t) ≡ job_claimed d
    → boot ≡ t.boot
    → job ≡ t.job
    → r ≡ record { apid = c.apid; sizes = sizes_of ms; message = t.message }
    → (new, b) ≡ job_committed at boot job r
    → new ≡ read_over c ms d
read-over c ms d at new t boot job r b claim boots jobs reads commit =
    ap (λ (x : NodeData × Bool). x.0) commit
    ∙ (λ i. (job_committed at (boots i) (jobs i) (reads i)).0)
    ∙ ap (λ (x : NodeData × Ticket). (job_committed x.0 x.1.boot x.1.job
    (record { apid = c.apid; sizes = sizes_of ms; message = x.1.message })).0) claim

-- what was read can be executed
pub ready-read : (c : Config) (ms : Contents) (d new : NodeData) (m : List ℕ)
    → d.jobs.jobs ≡ Waiting m ∷ []
    → new ≡ read_over c ms d
    → FrontIsFor (head_of new.jobs.jobs) c.apid ms
ready-read c ms d new m waits is =
    subst (λ (js : List Job). FrontIsFor (head_of js) c.apid ms)
    (sym (ap (λ (x : NodeData). x.jobs.jobs) is ∙ read_over-jobs c ms d m waits)) (refl, refl)

opened-jobs : (d : NodeData) (o : Option (Name × List ℕ)) → (with_opened d o).jobs ≡ d.jobs
opened-jobs d None = refl
opened-jobs d (Some x) = refl

-- the only job was executed
pub executed-jobs : (c : Config) (d : NodeData) (ms : Contents) (r : Source)
    → d.jobs.jobs ≡ Committed r ∷ []
    → (job_executed c d ms).0.0.jobs.jobs ≡ []
executed-jobs c d ms r is =
    ap (λ (js : List Job). (executed_of c d ms (head_of js)).0.0.jobs.jobs) is
    ∙ ap (λ (q : Jobs). q.jobs) (opened-jobs _ _) ∙ ap (λ (js : List Job). drop 1 js) is

-- a request was read and executed, and its reports sent
pub worked-writes : (c : Config) (s t : Onboard) (d : NodeData)
    (x : (NodeData × Execution) × Contents)
    (old mid new : Option (List ℕ))
    → d ≡ read_over c s.memories s.node
    → x ≡ job_executed c d s.memories
    → Appends old mid (all_octets x.0.1.packets)
    → t.node ≡ (all_sent c x.0.0 x.0.1.opened).0
    → t.memories ≡ x.1
    → Appends mid new (all_octets (all_sent c x.0.0 x.0.1.opened).1)
    → (t ≡ (request_worked c s).0) × Appends old new (all_octets (request_worked c s).1)
worked-writes c s t d x old mid new reads runs first node memories more =
    subst (λ (z : (NodeData × Execution) × Contents).
    (t ≡ (behind z.0.1.packets z.1 (all_sent c z.0.0 z.0.1.opened)).0)
    × Appends old new (all_octets (behind z.0.1.packets z.1 (all_sent c z.0.0 z.0.1.opened)).1))
    (runs ∙ ap (λ (n : NodeData). job_executed c n s.memories) reads) (
      (λ i. record { node = node i; memories = memories i }),
      appends-list old mid new x.0.1.packets
          (all_sent c x.0.0 x.0.1.opened).1 first more,
    )

-- what became of it
pub done-is : (c : Config) (s : Onboard) (d : NodeData) (x : (NodeData × Execution) × Contents)
    (wrote : Option ℕ) (r : Done)
    → d ≡ read_over c s.memories s.node
    → x ≡ job_executed c d s.memories
    → wrote ≡ written_at (head_of d.jobs.jobs)
    → r ≡ done_in c wrote x.0.1
    → r ≡ work_done c s
done-is c s d x wrote r reads runs writes is =
    is ∙ (λ i. done_in c (writes i) (runs i).0.1) ∙ ap (front_done c s.memories) reads

-- the message of a request that waits alone is claimed
pub claimed-message : (d : NodeData) (m : List ℕ)
    → d.jobs.jobs ≡ Waiting m ∷ []
    → (job_claimed d).1.message ≡ m
claimed-message d m is =
    subst (λ (q : Jobs). (job_claimed (record d { jobs = q })).1.message ≡ m)
    (sym (ap (λ (js : List Job). record { first = d.jobs.first; jobs = js }) is)) refl

-- the memory that it writes to
pub written-front : (apid : ℕ) (ms : Contents) (js : List Job) (wrote : Option ℕ) (r : Source)
    (message m : List ℕ)
    → wrote ≡ written_by (source_meaning r)
    → r ≡ record { apid = apid; sizes = sizes_of ms; message = message }
    → message ≡ m
    → js ≡ Committed (record { apid = apid; sizes = sizes_of ms; message = m }) ∷ []
    → wrote ≡ written_at (head_of js)
written-front apid ms js wrote r message m writes reads same alone =
    writes
    ∙ ap (λ (x : Source). written_by (source_meaning x))
    (reads ∙ (λ i. record { apid = apid; sizes = sizes_of ms; message = same i }))
    ∙ sym (ap (λ (l : List Job). written_at (head_of l)) alone)

-- what follows from what a call answers where it is done
pub on-ok : {A E : Type 0} {P Q : Type 0} (r : Result A E) → OnOk r P → (P → Q) → OnOk r Q
on-ok (Ok x) h f = f h
on-ok (Err e) h f = tt

-- and where it failed
pub on-err : {A E : Type 0} {P Q : Type 0} (r : Result A E) → IfErr r (λ _. P) → (P → Q) → IfErr r
    (λ _. Q)
on-err (Ok x) h f = tt
on-err (Err e) h f = f h

-- ---- a packet

-- a packet was taken, its report written, and what was released executed
pub taken-writes : (c : Config) (ms : Contents) (x : NodeData × Accepted) (y : NodeData × Accepted)
    (t : Onboard)
    (old mid new : Option (List ℕ))
    → x ≡ y
    → Appends old mid (all_octets (option_to_list x.1.packet))
    → t ≡ (worked_if c (record { node = x.0; memories = ms }) x.1.released).0
    → Appends mid new (all_octets (worked_if c (record { node = x.0; memories = ms })
    x.1.released).1)
    → (t ≡ (after_accepted c ms y).0) × Appends old new (all_octets (after_accepted c ms y).1)
taken-writes c ms x y t old mid new is first state more =
    subst (λ (z : NodeData × Accepted). (t ≡ (after_accepted c ms z).0) × Appends old new
    (all_octets (after_accepted c ms z).1)) is (
      state,
      appends-list old mid new (option_to_list x.1.packet)
          (worked_if c (record { node = x.0; memories = ms }) x.1.released).1 first more,
    )

-- the same, of a spacecraft's node, whichever names its side and its configuration go by
pub accepted-same : (side : Side) (k c : Config) (d : NodeData) (b : List ℕ)
    (x : NodeData × Accepted)
    → side ≡ Craft
    → k ≡ c
    → x ≡ packet_accepted side k d (arrival side k.apid k.part_size b)
    → x ≡ packet_accepted Craft c d (arrival Craft c.apid c.part_size b)
accepted-same side k c d b x is same h =
    subst (λ (s : Side). x ≡ packet_accepted s c d (arrival s c.apid c.part_size b)) is
    (subst (λ (z : Config). x ≡ packet_accepted side z d (arrival side z.apid z.part_size b)) same
    h)

pub taken-all : (c : Config) (s t : Onboard) (b : List ℕ) (at : NodeData) (r : Accepted)
    (old mid new : Option (List ℕ))
    → (at, r) ≡ packet_accepted Craft c s.node (arrival Craft c.apid c.part_size b)
    → Appends old mid (all_octets (option_to_list r.packet))
    → (t ≡ (worked_if c (record { node = at; memories = s.memories }) r.released).0)
    × Appends mid new (all_octets (worked_if c (record { node = at; memories = s.memories })
    r.released).1)
    → (t ≡ (packet_taken c s b).0) × Appends old new (all_octets (packet_taken c s b).1)
taken-all c s t b at r old mid new is first done =
    taken-writes c s.memories (at, r)
    (packet_accepted Craft c s.node (arrival Craft c.apid c.part_size b))
    t old mid new is first done.0 done.1

-- what became of it, and of what it released
pub taken-is : (c : Config) (s : Onboard) (b : List ℕ) (at : NodeData) (r : Accepted) (t : Taken)
    → (at, r) ≡ packet_accepted Craft c s.node (arrival Craft c.apid c.part_size b)
    → t.outcome ≡ r.outcome
    → t.done ≡ done_if c (record { node = at; memories = s.memories }) r.released
    → t ≡ taken_in c s b
taken-is c s b at r t is outcome done =
    let first : t ≡ taken_of c s.memories (at, r) =
    λ i. record { outcome = outcome i; done = done i } in
    first ∙ ap (taken_of c s.memories) is

-- ---- what is left where work breaks off

-- before a request was executed
pub breaks-nothing : (before : Contents) (x : Onboard × List (List ℕ)) (old : Option (List ℕ))
    → Breaks before x before old old
breaks-nothing before x old = (inl refl, part_unchanged old (all_octets x.1))

-- while the first packets were written
pub breaks-first : (before now : Contents) (front : List (List ℕ)) (x : Onboard × List (List ℕ))
    (old new : Option (List ℕ))
    → now ≡ before
    → AppendsPart old new (all_octets front)
    → Breaks before (after front x) now old new
breaks-first before now front x old new same part = (inl same, part-first old new front x.1 part)

-- behind them
pub breaks-behind : (before now : Contents) (front : List (List ℕ)) (x : Onboard × List (List ℕ))
    (old mid new : Option (List ℕ))
    → Appends old mid (all_octets front)
    → Breaks before x now mid new
    → Breaks before (after front x) now old new
breaks-behind before now front x old mid new first h =
    (h.0, part-behind old mid new front x.1 first h.1)

-- a request was executed, and a front part of its reports written
pub worked-breaks : (c : Config) (s : Onboard) (d : NodeData)
    (x : (NodeData × Execution) × Contents)
    (now : Contents) (old new : Option (List ℕ))
    → d ≡ read_over c s.memories s.node
    → x ≡ job_executed c d s.memories
    → now ≡ x.1
    → AppendsPart old new (all_octets (x.0.1.packets ++ (all_sent c x.0.0 x.0.1.opened).1))
    → Breaks s.memories (request_worked c s) now old new
worked-breaks c s d x now old new reads runs memories part =
    subst (λ (z : (NodeData × Execution) × Contents).
    Breaks s.memories (behind z.0.1.packets z.1 (all_sent c z.0.0 z.0.1.opened)) now old new)
    (runs ∙ ap (λ (n : NodeData). job_executed c n s.memories) reads) (inr memories, part)

-- a packet was taken, and work broke off behind that
pub taken-breaks : (c : Config) (s : Onboard) (b : List ℕ) (at : NodeData) (r : Accepted)
    (now : Contents)
    (old new : Option (List ℕ))
    → (at, r) ≡ packet_accepted Craft c s.node (arrival Craft c.apid c.part_size b)
    → Breaks s.memories (after (option_to_list r.packet)
    (worked_if c (record { node = at; memories = s.memories }) r.released)) now old new
    → Breaks s.memories (packet_taken c s b) now old new
taken-breaks c s b at r now old new is h =
    subst (λ (z : NodeData × Accepted). Breaks s.memories (after_accepted c s.memories z) now old
    new) is h
