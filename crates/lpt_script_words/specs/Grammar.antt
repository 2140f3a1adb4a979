-- What each line of a script asks for.
use Rattle.std.specs.Prelude.{◌≡◌, ℕ, ◌==◌, Bool, false, not, is_some, if◌then◌else◌, nat_le, nat_lt, List, [], ◌∷◌, length, ◌⊎◌, Option, Some, None, codes, ⊤}
use Rattle.std.specs.Option.{option_map, option_and_then, option_zip}
use Rattle.lpt_packet.specs.Names.{Name}
use Rattle.lpt_packet.specs.declared.direction.Direction.{Direction}
use Rattle.lpt_events.specs.declared.event.Event.TheVariants as event
use Rattle.lpt_events.specs.declared.lane.Lane.{Lane}
use Rattle.lpt_memory.specs.declared.request.Area.{Area}
use Rattle.lpt_memory.specs.Fields.{◌>>=◌}
use Rattle.lpt_memory.specs.Spellings.{write_fault}
use Rattle.lpt_text.specs.Texts.{longest_line}
use Rattle.lpt_script_words.specs.declared.grammar.Command.{Command}
use Rattle.lpt_script_words.specs.declared.grammar.Command.TheVariants as command
use Rattle.lpt_script_words.specs.declared.grammar.Reading.{Reading}
use Rattle.lpt_script_words.specs.declared.grammar.Reading.TheVariants.{Skipped, Asks, Unreadable}
use Rattle.lpt_script_words.specs.declared.load.Load.{Load}
use Rattle.lpt_script_words.specs.Loads.{if_written}
use Rattle.lpt_script_words.specs.declared.showing.Show.{Show}
use Rattle.lpt_script_words.specs.declared.showing.Show.TheVariants as show
use Rattle.lpt_script_words.specs.declared.names.Keyword.{Keyword}
use Rattle.lpt_script_words.specs.declared.names.Keyword.TheVariants as key
use Rattle.lpt_script_words.specs.Names.{keyword_of, direction_of, name_of, lane_of, transaction_of, node_of, u8_of, u16_of, u32_of, flags_of, sent_flags_of, packet_number_of, worker_of, count_of}
use Rattle.lpt_script_words.specs.Numbers.{is_word, octets_of}
use Rattle.lpt_script_words.specs.Words.{is_empty, one_of, three_of, two_of, words}

-- ---- the words after the first, a definition a kind of line

-- `open DIRECTION ID HEX`
abbrev pub open_of : (source : ℕ) → List (List ℕ) → Option Command
open_of source ws = do
  w ← three_of ws
  name ← transaction_of source w.0 w.1
  message ← octets_of w.2
  Some (command.Event (event.Open name.0 name.1 message))

-- `send DIRECTION ID K`
abbrev pub send_of : (source : ℕ) → List (List ℕ) → Option Command
send_of source ws = do
  w ← three_of ws
  name ← transaction_of source w.0 w.1
  part ← u16_of w.2
  Some (command.Event (event.Send name.0 name.1 part))

-- `plain FLAGS SERVICE SUBTYPE HEX`
abbrev pub plain_of : (source : ℕ) → List (List ℕ) → Option Command
plain_of source [] = None
plain_of source (f ∷ ws) = do
  w ← three_of ws
  sent ← sent_flags_of source f
  service ← u8_of w.0
  subtype ← u8_of w.1
  body ← octets_of w.2
  Some (command.Event (event.Plain sent.0 sent.1 service subtype body))

-- `ADDR HEX`: an area of a load
abbrev pub area_of : List ℕ → List ℕ → Option Area
area_of a m = do
  address ← u32_of a
  octets ← octets_of m
  Some (record { address = address; octets = octets })

-- pairs of words, an area each
abbrev pub areas_of : List (List ℕ) → Option (List Area)
areas_of [] = Some []
areas_of (a ∷ []) = None
areas_of (a ∷ m ∷ ws) = do
  first ← area_of a m
  others ← areas_of ws
  Some (first ∷ others)

-- the load of these words and areas
abbrev pub load_with : (source : ℕ) → List ℕ → List ℕ → List ℕ → List ℕ → List Area → Option Load
load_with source i s f m areas = do
  name ← name_of source i
  count ← u16_of s
  flags ← flags_of f
  memory ← u8_of m
  if_written (record { name = name; count = count; flags = flags; memory = memory; areas = areas })

-- `load ID SEQ FLAGS MEM ADDR HEX [ADDR HEX ..]`
abbrev pub load_of : (source : ℕ) → List (List ℕ) → Option Load
load_of source (i ∷ s ∷ f ∷ m ∷ ws) = areas_of ws >>= load_with source i s f m
load_of source _ = None

-- whether there are areas, and a load of them can be written
abbrev pub can_be_loaded : Option (List Area) → Bool
can_be_loaded None = false
can_be_loaded (Some areas) = not (is_some (write_fault areas))

-- whether there is a number, and it can be the sequence count of a packet
abbrev pub counts : Option ℕ → Bool
counts None = false
counts (Some n) = nat_le n 16383

-- `LANE N`
abbrev pub lane_and_packet_of : List (List ℕ) → Option (Lane × ℕ)
lane_and_packet_of ws = two_of ws >>= λ w. option_zip (lane_of w.0) (packet_number_of w.1)

-- `DIRECTION ID`
abbrev pub lone_transaction_of : (source : ℕ) → List (List ℕ) → Option (Direction × Name)
lone_transaction_of source ws = two_of ws >>= λ w. transaction_of source w.0 w.1

-- `lose N`
abbrev pub lose_of : List (List ℕ) → Option Command
lose_of ws = option_map (λ n. command.Event (event.Lose n)) (one_of ws >>= packet_number_of)

-- `damage DIRECTION HEX`
abbrev pub damage_of : List (List ℕ) → Option Command
damage_of ws = do
  w ← two_of ws
  direction ← direction_of w.0
  octets ← octets_of w.1
  Some (command.Event (event.Damage direction octets))

-- `take LANE N`
abbrev pub take_of : List (List ℕ) → Option Command
take_of ws = option_map (λ p. command.Event (event.Take p.0 p.1)) (lane_and_packet_of ws)

-- `deliver LANE`
abbrev pub deliver_of : List (List ℕ) → Option Command
deliver_of ws = option_map (λ l. command.Event (event.Deliver l)) (one_of ws >>= lane_of)

-- `pass LANE N`
abbrev pub pass_of : List (List ℕ) → Option Command
pass_of ws = option_map (λ p. command.Pass p.0 p.1) (lane_and_packet_of ws)

-- `finish DIRECTION ID`
abbrev pub finish_of : (source : ℕ) → List (List ℕ) → Option Command
finish_of source ws = option_map (λ t. command.Event (event.Finish t.0 t.1)) (lone_transaction_of source ws)

-- how many ticks the words after a node ask for: one, unless they say
abbrev pub ticks_of : List (List ℕ) → Option ℕ
ticks_of [] = Some 1
ticks_of (k ∷ ws) = if is_empty ws then count_of k else None

-- `tick NODE` and `tick NODE COUNT`
abbrev pub tick_of : List (List ℕ) → Option Command
tick_of [] = None
tick_of (n ∷ ws) = do
  node ← node_of n
  count ← ticks_of ws
  Some (command.Tick node count)

-- `expire NODE`
abbrev pub expire_of : List (List ℕ) → Option Command
expire_of ws = option_map (λ n. command.Event (event.Expire n)) (one_of ws >>= node_of)

-- `claim WORKER`
abbrev pub claim_of : List (List ℕ) → Option Command
claim_of ws = option_map (λ w. command.Event (event.Claim w)) (one_of ws >>= worker_of)

-- `commit WORKER`
abbrev pub commit_of : List (List ℕ) → Option Command
commit_of ws = option_map (λ w. command.Event (event.Commit w)) (one_of ws >>= worker_of)

-- `retire DIRECTION ID`
abbrev pub retire_of : (source : ℕ) → List (List ℕ) → Option Command
retire_of source ws = option_map (λ t. command.Event (event.Retire t.0 t.1)) (lone_transaction_of source ws)

-- `restart NODE`
abbrev pub restart_of : List (List ℕ) → Option Command
restart_of ws = option_map (λ n. command.Event (event.Restart n)) (one_of ws >>= node_of)

-- `apply` or `work`: no word follows
abbrev pub alone_of : Command → List (List ℕ) → Option Command
alone_of c ws = if is_empty ws then Some c else None

-- `show released` and `show journal`
abbrev pub show_whole_of : List ℕ → Option Show
show_whole_of word =
    if is_word (codes "released") word then Some show.Released
    else if is_word (codes "journal") word then Some show.Journal
    else None

-- `packet N` behind `show`
abbrev pub show_packet_of : List (List ℕ) → Option Show
show_packet_of ws = option_map show.Packet (one_of ws >>= packet_number_of)

-- `memory ID ADDR LEN` behind `show`
abbrev pub show_memory_of : List (List ℕ) → Option Show
show_memory_of ws = do
  w ← three_of ws
  id ← u8_of w.0
  address ← u32_of w.1
  len ← u32_of w.2
  Some (show.Memory id address len)

-- `clear DIRECTION ID` behind `show`
abbrev pub show_clear_of : (source : ℕ) → List (List ℕ) → Option Show
show_clear_of source ws = option_map (λ t. show.Clear t.0 t.1) (lone_transaction_of source ws)

-- all of these
abbrev pub show_of : (source : ℕ) → List (List ℕ) → Option Show
show_of source [] = None
show_of source (w ∷ ws) =
    if is_empty ws then show_whole_of w
    else if is_word (codes "memory") w then show_memory_of ws
    else if is_word (codes "clear") w then show_clear_of source ws
    else if is_word (codes "packet") w then show_packet_of ws
    else None

-- the command of a keyword and the words after it; the names in it are of this source
abbrev pub arguments_of : (source : ℕ) → Keyword → List (List ℕ) → Option Command
arguments_of source key.Open ws = open_of source ws
arguments_of source key.Send ws = send_of source ws
arguments_of source key.Lose ws = lose_of ws
arguments_of source key.Damage ws = damage_of ws
arguments_of source key.Take ws = take_of ws
arguments_of source key.Deliver ws = deliver_of ws
arguments_of source key.Pass ws = pass_of ws
arguments_of source key.Show ws = option_map command.Show (show_of source ws)
arguments_of source key.Finish ws = finish_of source ws
arguments_of source key.Tick ws = tick_of ws
arguments_of source key.Expire ws = expire_of ws
arguments_of source key.Plain ws = plain_of source ws
arguments_of source key.Load ws = option_map command.Load (load_of source ws)
arguments_of source key.Claim ws = claim_of ws
arguments_of source key.Commit ws = commit_of ws
arguments_of source key.Apply ws = alone_of (command.Event event.Apply) ws
arguments_of source key.Work ws = alone_of command.Work ws
arguments_of source key.Retire ws = retire_of source ws
arguments_of source key.Restart ws = restart_of ws

-- ---- lines

-- a line asks for something
abbrev pub IsAsked : Reading → Type 0
IsAsked (Asks c) = ⊤
IsAsked Skipped = ⊥
IsAsked Unreadable = ⊥

-- the first word is `open`, `damage`, `plain` or `load`: a line that takes memory
abbrev pub TakesMemory : List (List ℕ) → Type 0
TakesMemory [] = ⊥
TakesMemory (w ∷ ws) =
    (keyword_of w ≡ Some key.Open)
    ⊎ (keyword_of w ≡ Some key.Damage)
    ⊎ (keyword_of w ≡ Some key.Plain)
    ⊎ (keyword_of w ≡ Some key.Load)

-- whether a word begins a comment
abbrev pub is_comment : List ℕ → Bool
is_comment [] = false
is_comment (b ∷ bs) = b == 35

-- a line with no command is unreadable
abbrev pub command_asked : Option Command → Reading
command_asked (Some c) = Asks c
command_asked None = Unreadable

-- what the words of a line say: a blank line and a comment are skipped
abbrev pub words_reading : (source : ℕ) → List (List ℕ) → Reading
words_reading source [] = Skipped
words_reading source (w ∷ ws) =
    if is_comment w then Skipped
    else command_asked (option_and_then (λ k. arguments_of source k ws) (keyword_of w))

-- what a line says if this source is configured; one of more than 140,000 octets is unreadable,
-- whatever it holds
unfoldable pub reading_of : (source : ℕ) → List ℕ → Reading
reading_of source line =
    if nat_lt longest_line (length line) then Unreadable else words_reading source (words line)
