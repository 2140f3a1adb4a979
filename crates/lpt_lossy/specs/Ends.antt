-- How a stream over a link ends: nothing comes out that didn't go in.
use Rattle.std.specs.Prelude.{◌≡◌, ℕ, ◌⊎◌, ◌++◌, List, length, Contains, Option}
use Rattle.std.specs.List.{AllByRecursion}
use Rattle.std.specs.Io.KnownBytes.{Appends, Consumes}
use Rattle.lpt_text.specs.Streams.{AppendsPart}
use Rattle.lpt_stream.specs.Streams.{all_octets}
use Rattle.lpt_carried.specs.declared.layouts.Layouts.{Layouts}
use Rattle.lpt_lossy.specs.declared.dice.Odds.{Odds}
use Rattle.lpt_lossy.specs.Bursts.{IsDamage}
use Rattle.lpt_lossy.specs.Frames.{IsFrame}

-- octets are one of these packets, or one that was damaged as these odds allow
abbrev pub ComesFrom : Layouts → Odds → (packets : List (List ℕ)) → List ℕ → Type 0
ComesFrom l odds packets b =
    (p : List ℕ) × Contains packets p × ((b ≡ p) ⊎ IsDamage l odds p b)

-- packets were read, and a rest
abbrev pub Reads : (before after : Option (List ℕ)) → (packets : List (List ℕ)) → Type 0
Reads before after packets =
    (rest : List ℕ)
    × Consumes before after (all_octets packets ++ rest)
    × AllByRecursion IsFrame packets

-- packets were read, and what was written are some of them, and some that were damaged
abbrev pub Carries :
    Layouts → Odds → (before after written_before written_after : Option (List ℕ)) → Type 0
Carries l odds before after written_before written_after =
    (packets : List (List ℕ)) × (written : List (List ℕ))
    × Reads before after packets
    × AllByRecursion (ComesFrom l odds packets) written
    × Appends written_before written_after (all_octets written)

-- the same, and a front part of them was written
abbrev pub CarriesPart :
    Layouts → Odds → (before after written_before written_after : Option (List ℕ)) → Type 0
CarriesPart l odds before after written_before written_after =
    (packets : List (List ℕ)) × (written : List (List ℕ))
    × Reads before after packets
    × AllByRecursion (ComesFrom l odds packets) written
    × AppendsPart written_before written_after (all_octets written)

-- 2^64 - 1 packets were read
abbrev pub IsEndless : (before after : Option (List ℕ)) → Type 0
IsEndless before after =
    (packets : List (List ℕ)) × Reads before after packets
    × (length packets ≡ 18446744073709551615)
