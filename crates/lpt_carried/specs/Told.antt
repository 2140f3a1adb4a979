-- What is told of the pieces that were passed over.
use Rattle.std.specs.Prelude.{ℕ, ◌==◌, if◌then◌else◌, List, [], ◌∷◌, ◌++◌, codes, filter_map, Option, Some, None}
use Rattle.std.specs.Fmt.{decimal}
use Rattle.std.specs.Option.{option_map_or}
use Rattle.lpt_packet.specs.declared.direction.Direction.{Direction}
use Rattle.lpt_packet.specs.Directions.{direction_word}
use Rattle.lpt_carried.specs.declared.name.Name.{Name}
use Rattle.lpt_carried.specs.declared.wanted.Wanted.{Wanted}
use Rattle.lpt_carried.specs.declared.skips.Skips.{Skips}
use Rattle.lpt_carried.specs.declared.topic.Topic.{Topic}
use Rattle.lpt_carried.specs.declared.topic.Topic.TheVariants.{OtherApid, OtherDirection, NoNumber, Unread, OtherName, NoPart, Damaged, Stray}
use Rattle.lpt_carried.specs.Tallies.{count_raised}

-- how many there are of a topic
abbrev pub count_of : Skips → Topic → ℕ
count_of s OtherApid = s.of_others
count_of s OtherDirection = s.turned
count_of s NoNumber = s.zeros
count_of s Unread = s.unread
count_of s OtherName = s.unnamed
count_of s NoPart = s.bare
count_of s Damaged = s.damaged
count_of s Stray = s.stray

-- what is said of one of a topic
abbrev pub words_of_one : Topic → List ℕ
words_of_one OtherApid = codes " packet of another APID was skipped, of APID "
words_of_one OtherDirection = codes " packet of the other direction was skipped"
words_of_one NoNumber = codes " part has number 0"
words_of_one Unread = codes " part doesn't fit part_size = "
words_of_one OtherName = codes " part of another message was skipped, of "
words_of_one NoPart = codes " packet carries no part"
words_of_one Damaged = codes " damaged packet was skipped"
words_of_one Stray = codes " octet is no packet"

-- what is said of several
abbrev pub words_of_many : Topic → List ℕ
words_of_many OtherApid = codes " packets of another APID were skipped, the first of APID "
words_of_many OtherDirection = codes " packets of the other direction were skipped"
words_of_many NoNumber = codes " parts have number 0"
words_of_many Unread = codes " parts don't fit part_size = "
words_of_many OtherName = codes " parts of other messages were skipped, the first of "
words_of_many NoPart = codes " packets carry no part"
words_of_many Damaged = codes " damaged packets were skipped"
words_of_many Stray = codes " octets are no packet"

-- the part size, or if that isn't known, those that there are; and behind it the one by which
-- parts would be read, if one is known
abbrev pub sizes_text : (size fitting : Option ℕ) → List ℕ
sizes_text None fitting = codes "1 to 65535"
sizes_text (Some p) None = decimal p
sizes_text (Some p) (Some fitting) = decimal p ++ (codes ", but part_size = " ++ decimal fitting)

-- a name: its identifier alone if it is of the configured source, which is the first argument
abbrev pub name_text : (source : ℕ) → Name → List ℕ
name_text source n =
    if n.user == source then decimal n.id else decimal n.user ++ (47 ∷ decimal n.id)

-- the end of what is said: an APID; part sizes; a name, as it is written if this source is
-- configured
abbrev pub ending_of : Wanted → (source : ℕ) → Skips → Topic → List ℕ
ending_of w source s OtherApid = option_map_or (λ apid. decimal apid) s.apid []
ending_of w source s OtherDirection = []
ending_of w source s NoNumber = []
ending_of w source s Unread = sizes_text w.reading.part_size s.part_size
ending_of w source s OtherName = option_map_or (λ name. name_text source name) s.name []
ending_of w source s NoPart = []
ending_of w source s Damaged = []
ending_of w source s Stray = []

-- where the first is of a topic whose first place is known
abbrev pub first_of : Skips → Topic → Option ℕ
first_of s OtherApid = None
first_of s OtherDirection = None
first_of s NoNumber = None
first_of s Unread = s.unread_at
first_of s OtherName = None
first_of s NoPart = None
first_of s Damaged = None
first_of s Stray = s.stray_at

-- the octet at which one is, or the first of several
abbrev pub place_text : (count place : ℕ) → List ℕ
place_text count place =
    (if count == 1 then codes ", at octet " else codes ", the first at octet ") ++ decimal place

-- the same of a topic, if it is known; so many octets come before the stream that is read
abbrev pub first_text : (from : ℕ) → Skips → Topic → List ℕ
first_text from s t =
    option_map_or (λ at. place_text (count_of s t) (count_raised at from)) (first_of s t) []

-- a direction and a number
abbrev pub opening : Direction → ℕ → List ℕ
opening d n = direction_word d ++ (58 ∷ 32 ∷ decimal n)

-- what is told of a topic
abbrev pub line_text : Wanted → (source from : ℕ) → Skips → Topic → List ℕ
line_text w source from s t =
    opening w.reading.direction (count_of s t)
    ++ ((if count_of s t == 1 then words_of_one t else words_of_many t)
    ++ (ending_of w source s t ++ first_text from s t))

-- what is told of a topic, if there is something of it
abbrev pub line_of : Wanted → (source from : ℕ) → Skips → Topic → Option (List ℕ)
line_of w source from s t = if count_of s t == 0 then None else Some (line_text w source from s t)

-- the topics, in the order in which they are told
abbrev pub topics : List Topic
topics =
    OtherApid ∷ OtherDirection ∷ NoNumber ∷ Unread ∷ OtherName ∷ NoPart ∷ Damaged ∷ Stray ∷ []

-- what is told, a line for each topic of which there is something
abbrev pub lines_of : Wanted → (source from : ℕ) → Skips → List (List ℕ)
lines_of w source from s = filter_map (line_of w source from s) topics
