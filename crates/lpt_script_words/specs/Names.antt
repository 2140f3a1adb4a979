-- The words of a line that name something, each by itself.
use Rattle.std.specs.Prelude.{ℕ, ◌+◌, ◌==◌, if◌then◌else◌, List, [], ◌∷◌, take, drop, position, Option, Some, None, codes}
use Rattle.std.specs.Option.{option_and_then, option_map, option_zip}
use Rattle.lpt_packet.specs.Names.{Name, named_by}
use Rattle.lpt_packet.specs.declared.direction.Direction.{Direction}
use Rattle.lpt_packet.specs.declared.direction.Direction.TheVariants.{Up, Down}
use Rattle.lpt_events.specs.declared.lane.Lane.{Lane}
use Rattle.lpt_events.specs.declared.lane.Lane.TheVariants.{S1, S2, G1, G2}
use Rattle.lpt_events.specs.declared.side.Side.{Side}
use Rattle.lpt_events.specs.declared.side.Side.TheVariants.{Ground, Craft}
use Rattle.lpt_events.specs.declared.worker.Worker.{Worker}
use Rattle.lpt_events.specs.declared.worker.Worker.TheVariants.{W1, W2}
use Rattle.lpt_script_words.specs.declared.names.Keyword.{Keyword}
use Rattle.lpt_script_words.specs.declared.names.Keyword.TheVariants as key
use Rattle.lpt_script_words.specs.Numbers.{is_word, number_of}

-- the first words of lines, with what each names
abbrev pub keywords : List (List ℕ × Keyword)
keywords =
    (codes "pass", key.Pass)
    ∷ (codes "send", key.Send)
    ∷ (codes "take", key.Take)
    ∷ (codes "deliver", key.Deliver)
    ∷ (codes "tick", key.Tick)
    ∷ (codes "expire", key.Expire)
    ∷ (codes "finish", key.Finish)
    ∷ (codes "open", key.Open)
    ∷ (codes "show", key.Show)
    ∷ (codes "lose", key.Lose)
    ∷ (codes "retire", key.Retire)
    ∷ (codes "plain", key.Plain)
    ∷ (codes "work", key.Work)
    ∷ (codes "claim", key.Claim)
    ∷ (codes "commit", key.Commit)
    ∷ (codes "apply", key.Apply)
    ∷ (codes "load", key.Load)
    ∷ (codes "damage", key.Damage)
    ∷ (codes "restart", key.Restart)
    ∷ []

-- what a word names by the first of these rows that has it
abbrev pub keyword_in : List (List ℕ × Keyword) → List ℕ → Option Keyword
keyword_in [] word = None
keyword_in (row ∷ rows) word = if is_word row.0 word then Some row.1 else keyword_in rows word

-- what the first word of a line names
abbrev pub keyword_of : List ℕ → Option Keyword
keyword_of word = keyword_in keywords word

-- the direction that a word names
abbrev pub direction_of : List ℕ → Option Direction
direction_of word =
    if is_word (codes "up") word then Some Up
    else if is_word (codes "down") word then Some Down
    else None

-- the lane that a word names
abbrev pub lane_of : List ℕ → Option Lane
lane_of word =
    if is_word (codes "s1") word then Some S1
    else if is_word (codes "s2") word then Some S2
    else if is_word (codes "g1") word then Some G1
    else if is_word (codes "g2") word then Some G2
    else None

-- the number of a transaction or a part
abbrev pub u16_of : List ℕ → Option ℕ
u16_of word = number_of 65535 word

-- a word cut at a slash in this place: what is before it, and what is behind
abbrev pub cut_at : List ℕ → Option ℕ → Option (List ℕ) × List ℕ
cut_at word None = (None, word)
cut_at word (Some n) = (Some (take n word), drop (n + 1) word)

-- a word cut at its first slash, if it has one: the word of a source, and what is of that source
abbrev pub cut_source : List ℕ → Option (List ℕ) × List ℕ
cut_source word = cut_at word (position (λ b. b == 47) word)

-- the source that a word names, or else the configured one
abbrev pub source_of : (source : ℕ) → Option (List ℕ) → Option ℕ
source_of source None = Some source
source_of source (Some word) = u16_of word

-- the name of a transaction: `ID`, if this source is configured, or `SOURCE/ID`
abbrev pub name_of : (source : ℕ) → List ℕ → Option Name
name_of source word =
    option_map (λ n. named_by n.0 n.1)
    (option_zip (source_of source (cut_source word).0) (u16_of (cut_source word).1))

-- the direction and the name of a transaction
abbrev pub transaction_of : (source : ℕ) → List ℕ → List ℕ → Option (Direction × Name)
transaction_of source direction name = option_zip (direction_of direction) (name_of source name)

-- acknowledgement flags
abbrev pub flags_of : List ℕ → Option ℕ
flags_of word = number_of 15 word

-- the source of a request and its acknowledgement flags: `FLAGS`, if this source is configured,
-- or `SOURCE/FLAGS`
abbrev pub sent_flags_of : (source : ℕ) → List ℕ → Option (ℕ × ℕ)
sent_flags_of source word =
    option_zip (source_of source (cut_source word).0) (flags_of (cut_source word).1)

-- a service type, a message subtype or the identifier of a memory
abbrev pub u8_of : List ℕ → Option ℕ
u8_of word = number_of 255 word

-- an address in a memory, or how many octets of it
abbrev pub u32_of : List ℕ → Option ℕ
u32_of word = number_of 4294967295 word

-- the greatest number that a line can name: of ten digits
abbrev pub greatest_number : ℕ
greatest_number = 9999999999

-- the number of a packet
abbrev pub packet_number_of : List ℕ → Option ℕ
packet_number_of word = number_of greatest_number word

-- the node that a word names
abbrev pub node_of : List ℕ → Option Side
node_of word =
    if is_word (codes "craft") word then Some Craft
    else if is_word (codes "ground") word then Some Ground
    else None

-- the worker that a word names
abbrev pub worker_of : List ℕ → Option Worker
worker_of word =
    if is_word (codes "w1") word then Some W1
    else if is_word (codes "w2") word then Some W2
    else None

-- how many ticks, 1 to 100,000
abbrev pub count_of : List ℕ → Option ℕ
count_of word = option_and_then (λ n. if n == 0 then None else Some n) (number_of 100000 word)
