-- What is written is read, one spelling stands for each state, and none begins another.
use Rattle.std.proofs.Common.{◌≡◌, ◌∙◌, refl, ap, sym, ℕ, ◌+◌, ◌*◌, ◌<◌, ◌≤◌, ◌^◌, Bool, true, false, List, [], ◌∷◌, ◌++◌, length, arith, Result, Ok, Err, Option, Some, None, cond, length-append}
use Rattle.std.specs.FinMap.{empty, get, get-empty, same_map}
use Rattle.std.specs.List.{list_any}
use Rattle.std.specs.Ordering.{eq_by_cmp}
use Rattle.lpt_events.specs.declared.config.Config.{Config}
use Rattle.lpt_events.specs.declared.side.Side.{Side}
use Rattle.lpt_ledger.specs.declared.run.NameRun.{NameRun}
use Rattle.lpt_ledger.specs.declared.state.State.{State}
use Rattle.lpt_ledger.specs.declared.state.State.TheVariants.{Free, Open, Closed}
use Rattle.lpt_ledger.specs.Marks.{Mark, Marks, Opened, Shut, all_closed, shut_mark}
use Rattle.lpt_ledger.specs.Runs.{ascend, closed_by, names_in, runs_of}
use Rattle.lpt_ledger.specs.States.{state_of, state_at}
use Rattle.lpt_ledger.proofs.AscendLemmas.{runs_ascend, runs_of-closed_by}
use Rattle.lpt_ledger.proofs.ClosingLemmas.{get-all_closed}
use Rattle.lpt_ledger.proofs.RunsLemmas.{closed_by-runs_of, few_runs, get-shut_names}
use Rattle.lpt_node.specs.Nodes.{NodeData, NodeView, is_open}
use Rattle.lpt_node.specs.Restarts.{node_restarted, node_resumed, NoneOpen, node_within, limits_at}
use Rattle.lpt_packet.proofs.BoolLemmas.{and_both, and_left, and_right}
use Rattle.lpt_packet.proofs.Bursts.{burst_shows, sealed_is_zero}
use Rattle.lpt_packet.proofs.NameLemmas.{name_cmp_total, name_cmp-IsAntisymmetric}
use Rattle.lpt_packet.specs.Names.{Name, name_cmp}
use Rattle.lpt_packet.specs.Bursts.{DifferInBurst}
use Rattle.lpt_packet.specs.Checksums.{checksum}
use Rattle.lpt_packet.specs.Numbers.{IsOctets, be}
use Rattle.lpt_packet.specs.Packets.{octets_sealed}
use Rattle.lpt_state.specs.declared.fault.StateFault.{StateFault}
use Rattle.lpt_state.specs.Lastings.{after, lasting_of, names_used, restarted_node, IsEnd, Lasting, IsBoundAlike, restarted_as}
use Rattle.lpt_state.specs.Spellings.{front, length_with, state_spelled, spelling, config_octets, mode_octet, tag, version, side_octet, number_octets, runs_octets}
use Rattle.lpt_state.specs.Verdicts.{end_after, lasting_at, reading, received_count, sent_count, verdict_told, verdict}
use Rattle.lpt_state.proofs.NumberLemmas.{great_before}
use Rattle.lpt_state.proofs.ReadingLemmas.{passed, spelled_again, Passed}
use Rattle.lpt_state.proofs.SpellingLemmas.{length-spelling, written_again}
use Rattle.lpt_acts.specs.Acts.{Limits, limits_of}

-- ---- ledgers in which none is open

shut_closed : (o : Option Mark) → is_open (state_of o) ≡ false → shut_mark o ≡ o
shut_closed None h = refl
shut_closed (Some Opened) h = absurd cc
shut_closed (Some Shut) h = refl

-- to close all changes nothing there
all_closed-same : (m : Marks) → NoneOpen m → all_closed m ≡ m
all_closed-same m none =
    same_map name_cmp_total name_cmp-IsAntisymmetric (all_closed m) m
    (λ q. get-all_closed m q ∙ shut_closed (get m q) (none q))

never_open : (b : Bool) → is_open (state_of (cond b (Some Shut) None)) ≡ false
never_open true = refl
never_open false = refl

-- none is open where runs were closed
pub none_open : (rs : List NameRun) → NoneOpen (closed_by rs)
none_open rs q =
    ap (λ (o : Option Mark). is_open (state_of o)) (get-shut_names (names_in rs) empty q
    ∙ ap (cond (list_any (eq_by_cmp name_cmp q) (names_in rs)) (Some Shut)) (get-empty name_cmp q))
    ∙ never_open (list_any (eq_by_cmp name_cmp q) (names_in rs))

-- ---- what is written is read

-- what is made of what outlasts is what a restart leaves within these limits
after-lasting_of : (l : Limits) (d : NodeData)
    → NoneOpen d.receiving.ledger
    → after l (lasting_of d) ≡ node_within l (node_restarted d)
after-lasting_of l d none = λ i. node_resumed l (d.boot + 1) d.clock
    (closed_by-runs_of d.sending.ledger i)
    ((closed_by-runs_of d.receiving.ledger ∙ all_closed-same d.receiving.ledger none) i)

made : (side : Side) (c : Config) (d e : NodeData)
    → d ≡ e
    → ◌≡◌ {A = Result NodeView StateFault}
    (Ok (record { side = side; config = c; at = d }))
    (Ok (record { side = side; config = c; at = e }))
made side c d e same = λ i. Ok (record { side = side; config = c; at = same i })

-- configurations that bind alike have one spelling
spelling-alike : (side : Side) (c d : Config) (s : Lasting)
    → IsBoundAlike c d
    → spelling side c s ≡ spelling side d s
unfolding spelling
spelling-alike side c d s k =
    let octets : config_octets c ≡ config_octets d =
    λ i. be (k.apid i) 2 ++ be (k.source i) 2 ++ be (k.part_size i) 4 ++ mode_octet (k.mode i) ∷ []
    in
    ap (λ os. octets_sealed (tag ++ version ∷ side_octet side ∷ [] ++ os
    ++ number_octets s.boot s.clock (length s.sent) (length s.received)
    ++ runs_octets s.sent ++ runs_octets s.received)) octets

pub written_is_read_as : (v : NodeView) (c : Config)
    → IsEnd v
    → v.at.boot + 1 < 2 ^ 64
    → IsBoundAlike v.config c
    → reading v.side c (state_spelled v) ≡ Ok (restarted_as c v)
written_is_read_as v c is next alike =
    let s : Lasting = lasting_of v.at in
    let ascends = and_both (ascend s.sent) (ascend s.received) (runs_ascend v.at.sending.ledger)
    (runs_ascend v.at.receiving.ledger) in
    ap (reading v.side c) (spelling-alike v.side v.config c s alike)
    ∙ ap (verdict_told v.side c) (written_again v.side c s is.fits next ascends)
    ∙ made v.side c (after (limits_of c) s) (node_within (limits_of c) (node_restarted v.at))
    (after-lasting_of (limits_of c) v.at is.none_open)

pub written_is_read : (v : NodeView)
    → IsEnd v
    → v.at.boot + 1 < 2 ^ 64
    → reading v.side v.config (state_spelled v) ≡ Ok (restarted_node v)
written_is_read v is next =
    let alike : IsBoundAlike v.config v.config =
    record { apid = refl; source = refl; part_size = refl; mode = refl } in
    written_is_read_as v v.config is next alike
    ∙ made v.side v.config (node_within (limits_of v.config) (node_restarted v.at))
    (node_restarted v.at)
    (ap (λ (l : Limits). node_within l (node_restarted v.at)) (sym is.own_limits))

-- ---- one spelling

-- what is told of a verdict was found
told_says : (side : Side) (c : Config) (r : Result Lasting StateFault) (v : NodeView)
    → verdict_told side c r ≡ Ok v
    → (s : Lasting) × (r ≡ Ok s) × (end_after side c s ≡ v)
told_says side c (Ok s) v h = (s, refl, cc)
told_says side c (Err e) v h = absurd cc

-- of one end one thing outlasts
one_lasting : (side : Side) (c : Config) (s t : Lasting)
    → ascend s.sent ≡ true
    → ascend s.received ≡ true
    → ascend t.sent ≡ true
    → ascend t.received ≡ true
    → end_after side c s ≡ end_after side c t
    → s ≡ t
one_lasting side c s t a b d e same =
    let boots : s.boot + 1 ≡ t.boot + 1 = ap (λ (v : NodeView). v.at.boot) same in
    let boot : s.boot ≡ t.boot = omega (arith, boots) in
    let sent : s.sent ≡ t.sent =
    sym (runs_of-closed_by s.sent a) ∙ ap (λ (v : NodeView). runs_of v.at.sending.ledger) same
    ∙ runs_of-closed_by t.sent d in
    let received : s.received ≡ t.received =
    sym (runs_of-closed_by s.received b) ∙ ap (λ (v : NodeView). runs_of v.at.receiving.ledger) same
    ∙ runs_of-closed_by t.received e in
    λ i. record { boot = boot i; clock = (same i).at.clock; sent = sent i; received = received i }

pub has_one_spelling : (side : Side) (c : Config) (a b : List ℕ) (v : NodeView)
    → IsOctets a
    → IsOctets b
    → reading side c a ≡ Ok v
    → reading side c b ≡ Ok v
    → a ≡ b
has_one_spelling side c a b v o p h k =
    let x = told_says side c (verdict side c a) v h in
    let y = told_says side c (verdict side c b) v k in
    let s : Lasting = x.0 in
    let t : Lasting = y.0 in
    let f : Passed side c a s = passed side c a s x.1 in
    let g : Passed side c b t = passed side c b t y.1 in
    let same : s ≡ t = one_lasting side c s t
    (and_left (ascend s.sent) (ascend s.received) f.ascends)
    (and_right (ascend s.sent) (ascend s.received) f.ascends)
    (and_left (ascend t.sent) (ascend t.received) g.ascends)
    (and_right (ascend t.sent) (ascend t.received) g.ascends)
    (x.2 ∙ sym y.2) in
    spelled_again side c a s f o
    ∙ ap (spelling side c) (f.same ∙ same ∙ sym g.same)
    ∙ sym (spelled_again side c b t g p)

-- ---- no prefix

empty_of_length : (xs : List ℕ) → length xs ≡ 0 → xs ≡ []
empty_of_length [] h = refl
empty_of_length (x ∷ xs) h = absurd (omega arith)

pub no_prefix : (side other : Side) (c d : Config) (a rest : List ℕ) (v w : NodeView)
    → reading side c a ≡ Ok v
    → reading other d (a ++ rest) ≡ Ok w
    → rest ≡ []
no_prefix side other c d a rest v w h k =
    let x = told_says side c (verdict side c a) v h in
    let y = told_says other d (verdict other d (a ++ rest)) w k in
    let f : Passed side c a x.0 = passed side c a x.0 x.1 in
    let g : Passed other d (a ++ rest) y.0 = passed other d (a ++ rest) y.0 y.1 in
    let sent : sent_count (a ++ rest)
    ≡ sent_count a = great_before a rest 27 (omega (arith, f.long)) in
    let received : received_count (a ++ rest)
    ≡ received_count a = great_before a rest 35 (omega (arith, f.long)) in
    let sizes : length (a ++ rest) ≡ length a + length rest = length-append a rest in
    empty_of_length rest (omega (arith, f.whole, g.whole, sent, received, sizes))

-- ---- damage

-- the checksum of a state, its own included, is 0
zero_sum : (side : Side) (c : Config) (b : List ℕ) (v : NodeView)
    → IsOctets b
    → reading side c b ≡ Ok v
    → checksum b ≡ 0
unfolding spelling
zero_sum side c b v o h =
    let x = told_says side c (verdict side c b) v h in
    ap checksum (spelled_again side c b x.0 (passed side c b x.0 x.1) o)
    ∙ sealed_is_zero (front side c (lasting_at b))

pub bursts_show : (side other : Side) (c d : Config) (x y : List ℕ) (v w : NodeView)
    → IsOctets x
    → IsOctets y
    → DifferInBurst x y
    → reading side c x ≡ Ok v
    → ¬ (reading other d y ≡ Ok w)
bursts_show side other c d x y v w o p differ h k =
    burst_shows x y differ (zero_sum side c x v o h ∙ sym (zero_sum other d y w p k))

-- ---- how long a state is

pub length_of : (v : NodeView)
    → length (state_spelled v) ≡ length_with
    (length (lasting_of v.at).sent + length (lasting_of v.at).received)
length_of v = length-spelling v.side v.config (lasting_of v.at)

pub length_bound : (v : NodeView) → length (state_spelled v) ≤ length_with (names_used v.at)
length_bound v =
    omega (arith, length_of v, few_runs v.at.sending.ledger, few_runs v.at.receiving.ledger)
