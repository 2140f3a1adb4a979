-- The lines that ask for a view, and what they print.
use Rattle.std.specs.Prelude.{ℕ, ◌==◌, nat_lt, if◌then◌else◌, List, [], ◌∷◌, ◌++◌, length, codes, decimal, Option, Some, None, option_map}
use Rattle.lpt_script_text.specs.Printing.{line_of, none_text}
use Rattle.lpt_script_words.specs.Numbers.{is_word}
use Rattle.lpt_script_words.specs.Words.{is_empty, words}
use Rattle.lpt_text.specs.Texts.{longest_line}
use Rattle.lpt_events.specs.declared.lane.Lane.TheVariants.{S1, S2, G1, G2}
use Rattle.lpt_events.specs.declared.worker.Worker.TheVariants.{W1, W2}
use Rattle.lpt_journal.specs.Hands.{hand}
use Rattle.lpt_journal.specs.Jobs.{ticket}
use Rattle.lpt_journal.specs.Link.{sent}
use Rattle.lpt_world.specs.Worlds.{Shown, history}
use Rattle.lpt_script_views.specs.declared.rows.Half.TheVariants as half
use Rattle.lpt_script_views.specs.declared.views.View.{View}
use Rattle.lpt_script_views.specs.declared.views.View.TheVariants as view
use Rattle.lpt_script_views.specs.Jobs.{jobs_text}
use Rattle.lpt_script_views.specs.Rows.{held_row, messages_text, rows_text}

-- ---- what is shown

-- the packet in the hand of the lane of this name
abbrev pub hand_text : List ℕ → Option ℕ → List ℕ
hand_text lane None = []
hand_text lane (Some n) = line_of (codes "hand" ∷ lane ∷ decimal n ∷ [])

-- the packets in the lanes' hands
abbrev pub hands_text : Shown → List ℕ
hands_text w =
    hand_text (codes "s1") (hand (history w) S1) ++ (hand_text (codes "s2") (hand (history w) S2)
    ++ (hand_text (codes "g1") (hand (history w) G1) ++ hand_text (codes "g2") (hand (history w) G2)))

-- the job that the worker of this name has, by its boot and its number in it
abbrev pub ticket_text : List ℕ → Option (ℕ × ℕ) → List ℕ
ticket_text worker None = []
ticket_text worker (Some job) = line_of (worker ∷ decimal job.0 ∷ decimal job.1 ∷ [])

-- the jobs that the workers have
abbrev pub tickets_text : Shown → List ℕ
tickets_text w =
    ticket_text (codes "w1") (option_map (λ t. (t.boot, t.job)) (ticket w.config (history w) W1))
    ++ ticket_text (codes "w2") (option_map (λ t. (t.boot, t.job)) (ticket w.config (history w) W2))

-- what is shown: of the link what it holds and what is in hands
abbrev pub shown_text : Shown → View → List ℕ
shown_text w view.Link = rows_text (held_row w) 0 (length (sent (history w))) ++ hands_text w
shown_text w view.Senders = messages_text w half.Sender
shown_text w view.Receptions = messages_text w half.Receiver
shown_text w view.Jobs = jobs_text w ++ tickets_text w

-- `none` in place of nothing
abbrev pub or_none : List ℕ → List ℕ
or_none text = if length text == 0 then none_text else text

-- what a line prints that asks for this
abbrev pub view_text : Shown → View → List ℕ
view_text w v = or_none (shown_text w v)

-- ---- the lines

-- what this word asks for, alone after `show`
abbrev pub whole_view : List ℕ → Option View
whole_view word =
    if is_word (codes "link") word then Some view.Link
    else if is_word (codes "receptions") word then Some view.Receptions
    else if is_word (codes "senders") word then Some view.Senders
    else if is_word (codes "jobs") word then Some view.Jobs
    else None

-- what the words after `show` ask for
abbrev pub view_of : List (List ℕ) → Option View
view_of [] = None
view_of (word ∷ ws) = if is_empty ws then whole_view word else None

-- what the words of a line ask for
abbrev pub words_ask : List (List ℕ) → Option View
words_ask [] = None
words_ask (word ∷ ws) = if is_word (codes "show") word then view_of ws else None

-- what a line asks for; one that is too long isn't looked at
abbrev pub asked_view : List ℕ → Option View
asked_view line = if nat_lt longest_line (length line) then None else words_ask (words line)
