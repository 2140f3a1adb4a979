-- What ground opened and asked is octets, so what the spacecraft releases is.
use Rattle.std.proofs.Common.{◌≡◌, ◌∙◌, ap, sym, subst, refl, ℕ, zero, suc, Bool, true, false, if◌then◌else◌, List, [], ◌∷◌, Option, Some, None, arith}
use Rattle.std.specs.Prelude.{◌<◌, length, slice_index_or, Contains, IfSome, ⊤}
use Rattle.lpt_packet.specs.declared.direction.Direction.{Direction}
use Rattle.lpt_packet.specs.declared.direction.Direction.TheVariants.{Up, Down}
use Rattle.lpt_packet.specs.Names.{Name, same_name}
use Rattle.lpt_packet.specs.Numbers.{IsOctets}
use Rattle.lpt_events.specs.Arrivals.{arrival_in}
use Rattle.lpt_events.specs.declared.config.Config.{Config}
use Rattle.lpt_events.specs.declared.outcome.Outcome.{Outcome}
use Rattle.lpt_events.specs.declared.outcome.Outcome.TheVariants as outcome
use Rattle.lpt_events.specs.declared.side.Side.TheVariants.{Ground, Craft}
use Rattle.lpt_journal.proofs.OctetLemmas.{made_octets}
use Rattle.lpt_memory.specs.Readings.{Job}
use Rattle.lpt_model.specs.State.{released_of, job_left}
use Rattle.lpt_model.specs.Tickets.{ticket_of}
use Rattle.lpt_node.specs.Accepting.{packet_accepted}
use Rattle.lpt_node.specs.declared.accepted.Accepted.{Accepted}
use Rattle.lpt_apart.specs.Ends.{Fact, Opened, Asked, Released, Aborted, Left, Retired, Restarted, Log, is_same, with_abortion, Pair, Move, Do, Free, pair_after, Open, Send, Plain, Finish, Accept, Tick, Expire, Claim, Commit, Apply, Retire, Restart, committed_on, with_release, with_report}
use Rattle.lpt_apart.specs.TwoEnds.{message_awaited, is_of_it, AllDue, IsDue, CanMove}

-- what ground opened or asked is octets
abbrev IsOfOctets : Fact → Type 0
IsOfOctets (Opened Up name m) = IsOctets m
IsOfOctets (Asked b) = IsOctets b
IsOfOctets _ = ⊤

-- all of it is
abbrev pub AreOfOctets : Log → Type 0
AreOfOctets [] = ⊤
AreOfOctets (x ∷ log) = AreOfOctets log × IsOfOctets x

-- ---- what is awaited

-- what is chosen is this message or was there before
one_or : (b : Bool) (m n : List ℕ) (before : Option (List ℕ))
    → IsOctets n
    → (before ≡ Some m → IsOctets m)
    → (if b then Some n else before) ≡ Some m
    → IsOctets m
one_or true m n before octets had is =
    let same : n ≡ m = cc in subst (λ (x : List ℕ). IsOctets x) same octets
one_or false m n before octets had is = had is

-- what is left is what was there before
none_or : (b : Bool) (m : List ℕ) (before : Option (List ℕ))
    → (before ≡ Some m → IsOctets m)
    → (if b then None else before) ≡ Some m
    → IsOctets m
none_or true m before had is = absurd cc
none_or false m before had is = had is

released_or : (of : Option (Direction × Name)) (name : Name) (m : List ℕ)
    (before : Option (List ℕ))
    → (before ≡ Some m → IsOctets m)
    → (if is_of_it of Up name then None else before) ≡ Some m
    → IsOctets m
released_or of name m before had is = none_or (is_of_it of Up name) m before had is

opened_or : (d : Direction) (i name : Name) (m n : List ℕ) (before : Option (List ℕ))
    → IsOfOctets (Opened d i n)
    → (before ≡ Some m → IsOctets m)
    → (if is_same d i Up name then Some n else before) ≡ Some m
    → IsOctets m
opened_or Up i name m n before octets had is = one_or (same_name i name) m n before octets had is
opened_or Down i name m n before octets had is = had is

-- a message that is awaited at the spacecraft is octets
awaited_octets : (log : Log) (name : Name) (m : List ℕ)
    → AreOfOctets log
    → message_awaited log Up name ≡ Some m
    → IsOctets m
awaited_octets [] name m all is = absurd cc
awaited_octets (Opened d i n ∷ log) name m all is =
    opened_or d i name m n (message_awaited log Up name) all.1 (awaited_octets log name m all.0) is
awaited_octets (Asked b ∷ log) name m all is = awaited_octets log name m all.0 is
awaited_octets (Released of n ∷ log) name m all is =
    released_or of name m (message_awaited log Up name) (awaited_octets log name m all.0) is
awaited_octets (Aborted d i ∷ log) name m all is =
    none_or (is_same d i Up name) m (message_awaited log Up name) (awaited_octets log name m all.0)
    is
awaited_octets (Left how ∷ log) name m all is = awaited_octets log name m all.0 is
awaited_octets (Retired d i ∷ log) name m all is =
    none_or (is_same d i Up name) m (message_awaited log Up name) (awaited_octets log name m all.0)
    is
awaited_octets (Restarted side ∷ log) name m all is = awaited_octets log name m all.0 is

-- ---- what was asked

-- a fact of the log at a place is octets
fact_octets : (log : Log) (k : ℕ) (f : Fact)
    → AreOfOctets log
    → k < length log
    → slice_index_or log k f ≡ f
    → IsOfOctets f
fact_octets [] k f all within is = absurd (omega (arith, within))
fact_octets (x ∷ log) zero f all within is = subst IsOfOctets is all.1
fact_octets (x ∷ log) (suc k) f all within is =
    fact_octets log k f all.0 (omega (arith, within)) is

asked_octets : (log : Log) (b : List ℕ)
    → AreOfOctets log
    → Contains log (Asked b)
    → IsOctets b
asked_octets log b all has = fact_octets log has.0 (Asked b) all has.1 has.2

-- ---- what is released

-- what is due at the spacecraft, as it is released, is octets
due_octets : (log : Log) (o : Outcome) (m : List ℕ)
    → AreOfOctets log
    → IsDue (Released (released_of Up o) m) log
    → IsOctets m
due_octets log (outcome.Released name len) m all due = awaited_octets log name m all due
due_octets log o m all due = asked_octets log m all due

-- a release stands in the log behind what was broken off
due_first : (d : Direction) (o : Outcome) (x : Fact) (log : Log)
    → AllDue (with_abortion d o (x ∷ log))
    → IsDue x log
due_first d (outcome.Broken name reason) x log all = all.0.1
due_first d o x log all = all.1

-- what is released of what comes is octets, where it is due
pub released_octets : (log : Log) (o : Outcome) (released : Option (List ℕ))
    → AreOfOctets log
    → AllDue (with_abortion Up o (with_release log (released_of Up o) released))
    → IfSome released IsOctets
released_octets log o None all due = tt
released_octets log o (Some m) all due =
    due_octets log o m all (due_first Up o (Released (released_of Up o) m) log due)

-- ---- moves

report_octets : (log : Log) (o : Option (Name × List ℕ))
    → AreOfOctets log
    → AreOfOctets (with_report log o)
report_octets log None all = all
report_octets log (Some x) all = (all, tt)

release_octets : (log : Log) (of : Option (Direction × Name)) (released : Option (List ℕ))
    → AreOfOctets log
    → AreOfOctets (with_release log of released)
release_octets log of None all = all
release_octets log of (Some m) all = (all, tt)

abortion_octets : (d : Direction) (o : Outcome) (log : Log)
    → AreOfOctets log
    → AreOfOctets (with_abortion d o log)
abortion_octets d (outcome.Broken name reason) log all = (all, tt)
abortion_octets d o log all = all

-- whatever move is made
pub octets_on : (c : Config) (p : Pair) (x : Move)
    → CanMove c p x
    → AreOfOctets p.ends.log
    → AreOfOctets (pair_after c p x).ends.log
octets_on c p (Do (Open Up name m)) can all = (all, can.0.1)
octets_on c p (Do (Open Down name m)) can all = (all, tt)
octets_on c p (Do (Send Up name k)) can all = all
octets_on c p (Do (Send Down name k)) can all = all
octets_on c p (Do (Plain source flags service subtype body)) can all = (
  all,
  made_octets c source p.ends.on_ground.sending.count flags service subtype body can.0.1 can.0.2
      can.0.3 can.0.4,
)
octets_on c p (Do (Finish Up name)) can all = all
octets_on c p (Do (Finish Down name)) can all = all
octets_on c p (Do (Accept Up b)) can all =
    let x = packet_accepted Craft c p.ends.on_craft (arrival_in c Up b) in
    abortion_octets Up x.1.outcome
    (with_release p.ends.log (released_of Up x.1.outcome) x.1.released)
    (release_octets p.ends.log (released_of Up x.1.outcome) x.1.released all)
octets_on c p (Do (Accept Down b)) can all =
    let x = packet_accepted Ground c p.ends.on_ground (arrival_in c Down b) in
    abortion_octets Down x.1.outcome
    (with_release p.ends.log (released_of Down x.1.outcome) x.1.released)
    (release_octets p.ends.log (released_of Down x.1.outcome) x.1.released all)
octets_on c p (Do (Tick Ground turn)) can all = all
octets_on c p (Do (Tick Craft turn)) can all = all
octets_on c p (Do (Expire side which)) can all = (all, tt)
octets_on c p (Do (Claim w)) can all = all
octets_on c p (Do (Commit w)) can all = go (ticket_of p.ends.tickets w) where
  go : (o : Option Job) → AreOfOctets (committed_on c p.ends w o).log
  go None = all
  go (Some t) = all
octets_on c p (Do (Apply how)) can all =
    (report_octets p.ends.log (job_left how c p.ends.on_craft p.ends.memories).0.1.opened all, tt)
octets_on c p (Do (Retire Up name)) can all = (all, tt)
octets_on c p (Do (Retire Down name)) can all = (all, tt)
octets_on c p (Do (Restart side)) can all = (all, tt)
octets_on c p (Free Up name) can all = all
octets_on c p (Free Down name) can all = all
