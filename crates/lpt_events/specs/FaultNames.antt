-- The numbers, names and words of the faults of a world.
use Rattle.std.specs.Prelude.{ℕ, List, codes}
use Rattle.lpt_events.specs.declared.fault.StepFault.{StepFault}
use Rattle.lpt_events.specs.declared.fault.StepFault.TheVariants.{InUse, Short, Long, TooMany, NotOpen, NoSuchPart, NotHeld, HandFull, HandEmpty, NothingDue, NoJob, NotReady, NotClear, LooksWhole, StillOpen, ClockEnd, NoSuchSeat, Memory, NotYours, PartRequest}

-- the fault's number
abbrev pub code_of : StepFault → ℕ
code_of InUse = 41
code_of Short = 42
code_of Long = 43
code_of TooMany = 44
code_of NotOpen = 45
code_of NoSuchPart = 46
code_of NotHeld = 47
code_of HandFull = 48
code_of HandEmpty = 49
code_of NothingDue = 50
code_of NoJob = 51
code_of NotReady = 52
code_of NotClear = 53
code_of LooksWhole = 54
code_of StillOpen = 55
code_of ClockEnd = 56
code_of NoSuchSeat = 57
code_of Memory = 58
code_of NotYours = 59
code_of PartRequest = 60

-- the fault's name
abbrev pub name_of : StepFault → List ℕ
name_of InUse = codes "InUse"
name_of Short = codes "Short"
name_of Long = codes "Long"
name_of TooMany = codes "TooMany"
name_of NotOpen = codes "NotOpen"
name_of NoSuchPart = codes "NoSuchPart"
name_of NotHeld = codes "NotHeld"
name_of HandFull = codes "HandFull"
name_of HandEmpty = codes "HandEmpty"
name_of NothingDue = codes "NothingDue"
name_of NoJob = codes "NoJob"
name_of NotReady = codes "NotReady"
name_of NotClear = codes "NotClear"
name_of LooksWhole = codes "LooksWhole"
name_of StillOpen = codes "StillOpen"
name_of ClockEnd = codes "ClockEnd"
name_of NoSuchSeat = codes "NoSuchSeat"
name_of Memory = codes "Memory"
name_of NotYours = codes "NotYours"
name_of PartRequest = codes "PartRequest"

-- why the event is refused, in words
abbrev pub text_of : StepFault → List ℕ
text_of InUse = codes "the name isn't free: its message is open, or wasn't retired"
text_of Short = codes "the message isn't longer than a part"
text_of Long = codes "a message has 65,542 octets at most, and what is sent in one piece 23 more than a part"
text_of TooMany = codes "as many messages are open as the configuration allows"
text_of NotOpen = codes "no such message is open"
text_of NoSuchPart = codes "the message has no part of that number"
text_of NotHeld = codes "the link holds no such packet in the lane's direction"
text_of HandFull = codes "the lane has a packet in its hand, or the worker a job"
text_of HandEmpty = codes "the lane has no packet in its hand, or the worker no job"
text_of NothingDue = codes "no reception of the node has waited for the timeout"
text_of NoJob = codes "no job waits"
text_of NotReady = codes "the oldest job wasn't committed yet"
text_of NotClear = codes "a part of the message is on the link or in a hand, or its receiver keeps one"
text_of LooksWhole = codes "these octets are a packet, so noise can't have left them"
text_of StillOpen = codes "the message's sender is open"
text_of ClockEnd = codes "the clock is at its greatest value"
text_of NoSuchSeat = codes "there is no such seat"
text_of Memory = codes "out of memory"
text_of NotYours = codes "what was read isn't what the lane or the worker has, or was read for another receiver"
text_of PartRequest = codes "a telecommand of service 13, subtype 9, 10 or 11, carries a part"
