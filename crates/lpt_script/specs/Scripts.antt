-- What the lines of a script do to a world, and what they print.
use Rattle.std.specs.Prelude.{ℕ, zero, suc, ◌+◌, if◌then◌else◌, is_some, nat_le, Bool, true, false, ◌&&◌, List, [], ◌∷◌, ◌++◌, length, take, drop, Option, Some, None}
use Rattle.std.specs.Int.{from_bool}
use Rattle.std.specs.Option.{option_and_then}
use Rattle.lpt_memory.specs.Memories.{content_of}
use Rattle.lpt_packet.specs.declared.direction.Direction.TheVariants.{Up}
use Rattle.lpt_text.specs.Texts.{lines}
use Rattle.lpt_events.specs.declared.side.Side.{Side}
use Rattle.lpt_script_text.specs.Printing.{accepted_text, refused_text, releases_text, packet_text, clear_text, memory_text, journal_text, unreadable_text}
use Rattle.lpt_script_words.specs.declared.grammar.Command.{Command}
use Rattle.lpt_script_words.specs.declared.grammar.Command.TheVariants as command
use Rattle.lpt_script_words.specs.declared.grammar.Reading.{Reading}
use Rattle.lpt_script_words.specs.declared.showing.Show.{Show}
use Rattle.lpt_script_words.specs.declared.showing.Show.TheVariants as show
use Rattle.lpt_script_words.specs.declared.grammar.Reading.TheVariants.{Skipped, Asks, Unreadable}
use Rattle.lpt_script_words.specs.Grammar.{reading_of}
use Rattle.lpt_script_words.specs.Loads.{load_packet}
use Rattle.lpt_events.specs.declared.event.Event.{Event}
use Rattle.lpt_events.specs.declared.event.Event.TheVariants.{Open, Take, Deliver, Tick, Claim, Commit, Apply}
use Rattle.lpt_events.specs.declared.fault.StepFault.{StepFault}
use Rattle.lpt_events.specs.declared.reply.Reply.{Reply}
use Rattle.lpt_events.specs.declared.worker.Worker.TheVariants.{W1}
use Rattle.lpt_journal.specs.Clear.{is_clear}
use Rattle.lpt_journal.specs.Releases.{releases}
use Rattle.lpt_journal.specs.Events.{reply}
use Rattle.lpt_script.specs.declared.shows.Shows.{Shows}
use Rattle.lpt_script.specs.declared.shows.Shows.TheVariants as shows
use Rattle.lpt_world.specs.Worlds.{Shown, history, memories_now, refusal_at, with_entry}
use Rattle.lpt_world.specs.Outside.{octets_of}

-- what a line leaves: the world after it, what it printed, why an event was refused, if one was, and its
-- own number if it is unreadable
pub record Ran : Type 0 where
  pub world : Shown
  pub text : List ℕ
  pub refused : Option StepFault
  pub bad : Option ℕ

-- whether what lines show is left for later
abbrev pub is_later : Shows → Bool
is_later shows.Now = false
is_later (shows.Later kept) = true

-- the lines that were kept to be shown later, in order
abbrev pub kept_of : Shows → List Show
kept_of shows.Now = []
kept_of (shows.Later kept) = kept.items

-- a line that prints this, and leaves this world
abbrev pub text_printed : Shown → List ℕ → Ran
text_printed w text = record { world = w; text = text; refused = None; bad = None }

-- what an event that isn't refused answers
abbrev pub event_answered : Shown → Event → Reply
event_answered w e = reply w.config w.first (history w) e

-- one event, by the reason for which it is refused: a refused one changes nothing
abbrev pub stepped_as : Shown → Event → Option StepFault → Ran
stepped_as w e None = text_printed (with_entry w 0 e (event_answered w e))
    (accepted_text w.config.source e (event_answered w e))
stepped_as w e (Some fault) = record { world = w; text = refused_text fault; refused = Some fault; bad = None }

-- one event, which the session asks for, seat 0
abbrev pub event_stepped : Shown → Event → Ran
event_stepped w e = stepped_as w e (refusal_at w 0 e)

-- the second line's doing behind the first's
abbrev pub lines_joined : Ran → Ran → Ran
lines_joined first second = record second { text = first.text ++ second.text }

-- the second, if the first was not refused
abbrev pub unless_refused : Option StepFault → Ran → (Shown → Ran) → Ran
unless_refused (Some fault) first second = first
unless_refused None first second = lines_joined first (second first.world)

-- two events, of which the second happens if the first was not refused
abbrev pub and_then : Ran → (Shown → Ran) → Ran
and_then first second = unless_refused first.refused first second

-- so many ticks of a node's clock, up to the first that is refused; only the last of them prints
abbrev pub clock_ticked : ℕ → Side → Shown → Ran
clock_ticked zero side w = text_printed w []
clock_ticked (suc zero) side w = event_stepped w (Tick side)
clock_ticked (suc (suc k)) side w =
    if is_some (refusal_at w 0 (Tick side)) then event_stepped w (Tick side)
    else clock_ticked (suc k) side (with_entry w 0 (Tick side) (event_answered w (Tick side)))

-- the first worker claims and commits, and the oldest request is executed, up to the first of these
-- that is refused
abbrev pub job_worked : Shown → Ran
job_worked w =
    and_then (and_then (event_stepped w (Claim W1)) (λ after. event_stepped after (Commit W1)))
    (λ after. event_stepped after Apply)

-- so many octets from an address on, if they lie within the content
abbrev pub octets_from : (address len : ℕ) → List ℕ → Option (List ℕ)
octets_from address len content =
    if nat_le (address + len) (length content) then Some (take len (drop address content)) else None

-- so many octets of a memory from an address on, if there is such a memory and they lie within it
abbrev pub memory_octets : Shown → (id address len : ℕ) → Option (List ℕ)
memory_octets w id address len =
    option_and_then (octets_from address len) (content_of id (memories_now w))

-- what is printed of a world if a line asks for this
abbrev pub show_text : Show → Shown → List ℕ
show_text show.Released w = releases_text w.config.source (releases w.config (history w))
show_text (show.Packet n) w = packet_text n (octets_of w n)
show_text (show.Memory id address len) w = memory_text id address (memory_octets w id address len)
show_text (show.Clear d name) w = clear_text (is_clear w.config (history w) d name)
show_text show.Journal w = journal_text (length w.journal)

-- what a command does
abbrev pub command_ran : Command → Shown → Ran
command_ran (command.Event e) w = event_stepped w e
command_ran (command.Load l) w = event_stepped w (Open Up l.name (load_packet w.config.apid l))
command_ran (command.Pass l n) w =
    and_then (event_stepped w (Take l n)) (λ after. event_stepped after (Deliver l))
command_ran (command.Tick side count) w = clock_ticked count side w
command_ran command.Work w = job_worked w
command_ran (command.Show s) w = text_printed w (show_text s w)

-- whether a command only shows what is there
abbrev pub only_shows : Command → Bool
only_shows (command.Event e) = false
only_shows (command.Load l) = false
only_shows (command.Pass l n) = false
only_shows (command.Tick side count) = false
only_shows command.Work = false
only_shows (command.Show s) = true

-- the command, unless it shows and that is left for later
abbrev pub now_done : (later : Bool) → Command → Option Command
now_done later c = if later && only_shows c then None else Some c

-- what a line says that asks for this, or for nothing
abbrev pub asks : Option Command → Reading
asks (Some c) = Asks c
asks None = Skipped

-- what a line says, if lines that show may be left for later
abbrev pub says_now : (later : Bool) → Reading → Reading
says_now later Skipped = Skipped
says_now later (Asks c) = asks (now_done later c)
says_now later Unreadable = Unreadable

-- the same by the line's octets, if this source is configured
abbrev pub says : (later : Bool) → (source : ℕ) → List ℕ → Reading
says later source line = says_now later (reading_of source line)

-- what a line does, by what it says and by its number
abbrev pub line_ran : Reading → ℕ → Shown → Ran
line_ran Skipped n w = text_printed w []
line_ran (Asks c) n w = command_ran c w
line_ran Unreadable n w = record { world = w; text = unreadable_text n; refused = None; bad = Some n }

-- what a script leaves: its text, how many lines were refused, and the number of the unreadable line
-- that ended it
pub record Script : Type 0 where
  pub text : List ℕ
  pub refused : ℕ
  pub bad : Option ℕ

-- a script that is one unreadable line of this number
abbrev pub unreadable : ℕ → Script
unreadable n = record { text = unreadable_text n; refused = 0; bad = Some n }

-- the same with this text before its own
abbrev pub behind : List ℕ → Script → Script
behind text s = record s { text = text ++ s.text }

-- a line and then the rest, unless the line is unreadable
abbrev pub then_rest : Ran → ℕ → ℕ → (Shown → ℕ → ℕ → Script) → Option ℕ → Script
then_rest ran n refused rest (Some k) = record { text = ran.text; refused = refused; bad = Some k }
then_rest ran n refused rest None =
    behind ran.text (rest ran.world (n + 1) (refused + from_bool (is_some ran.refused)))

-- what lines do, from this world on, the first of which has this number, with so many refused before;
-- lines that show may be left for later
abbrev pub lines_ran : (later : Bool) → List (List ℕ) → Shown → ℕ → ℕ → Script
lines_ran later [] w n refused = record { text = []; refused = refused; bad = None }
lines_ran later (line ∷ more) w n refused =
    let ran = line_ran (says later w.config.source line) n w in
    then_rest ran n refused (lines_ran later more) ran.bad

-- what a script does to a world
abbrev pub script_ran : (later : Bool) → Shown → List ℕ → Script
script_ran later w text = lines_ran later (lines text) w 1 0

-- what a command leaves to be shown later
abbrev pub shown_later : (later : Bool) → Command → List Show
shown_later later (command.Event e) = []
shown_later later (command.Load l) = []
shown_later later (command.Pass l n) = []
shown_later later (command.Tick side count) = []
shown_later later command.Work = []
shown_later later (command.Show s) = if later then s ∷ [] else []

-- what a line leaves to be shown later, by what it says
abbrev pub shows_left : (later : Bool) → Reading → List Show
shows_left later Skipped = []
shows_left later (Asks c) = shown_later later c
shows_left later Unreadable = []

-- what lines leave that end well: the world after them, and what they left to be shown later
pub record Left : Type 0 where
  pub world : Shown
  pub kept : List Show

abbrev pub left_of : Shown → List Show → Left
left_of w kept = record { world = w; kept = kept }

-- what these lines leave, from this world on, the first of which has this number, with so much kept before
abbrev pub lines_left : (later : Bool) → List (List ℕ) → Shown → ℕ → (kept : List Show) → Left
lines_left later [] w n kept = left_of w kept
lines_left later (line ∷ more) w n kept =
    lines_left later more (line_ran (says later w.config.source line) n w).world (n + 1)
    (kept ++ shows_left later (reading_of w.config.source line))

-- what a script leaves of a world
abbrev pub script_left : (later : Bool) → Shown → List ℕ → Left
script_left later w text = lines_left later (lines text) w 1 []
