-- The packets that settled requests, kept and heard again.
use Rattle.std.specs.Prelude.{◌≡◌, ◌==◌, ℕ, Bool, List, [], ◌∷◌, ◌++◌, length, map}
use Rattle.std.specs.List.{AllByRecursion}
use Rattle.lpt_stream.specs.Streams.{IsFramed, all_octets}
use Rattle.lpt_ground.specs.declared.asked.Asked.{Asked}
use Rattle.lpt_ground.specs.declared.asked.Fate.{Fate}
use Rattle.lpt_ground.specs.declared.asked.Fate.TheVariants.{Waiting, Done, Failed}
use Rattle.lpt_ground.specs.declared.asked.Terms.{Terms}
use Rattle.lpt_ground.specs.Carrying.{Came, come_to}
use Rattle.lpt_ground.specs.Passes.{PassState}

-- the packets of requests, one behind the other
abbrev pub all_asked : List Asked → List ℕ
all_asked [] = []
all_asked (a ∷ asked) = a.octets ++ all_asked asked

-- the packet that settled a request, if one did
abbrev pub kept_by : Fate → List ℕ
kept_by Waiting = []
kept_by (Done o) = o
kept_by (Failed notice) = []

-- those of all, one behind the other
abbrev pub all_kept : List Asked → List ℕ
all_kept [] = []
all_kept (a ∷ asked) = kept_by a.fate ++ all_kept asked

-- a pass that heard the packets that stand in these octets, one behind the other; and whether
-- nothing stands behind them
pub record HearsAgain (terms : Terms) (s t : PassState) (octets : List ℕ) (all : Bool) : Type
    0 where
  pub packets : List (List ℕ)
  pub rest : List ℕ
  pub cut : octets ≡ all_octets packets ++ rest
  pub framed : AllByRecursion IsFramed packets
  pub came : t ≡ come_to terms s (map Came packets)
  pub whole : all ≡ (length rest == 0)
