-- What is written into a reception's octets.
use Rattle.std.specs.Prelude.{ℕ, ◌+◌, ◌-◌, List, ◌++◌, length, take, drop, replicate}

-- the octets, with zeros behind them if they are fewer than n
abbrev pub octets_padded : List ℕ → ℕ → List ℕ
octets_padded xs n = xs ++ replicate (n - length xs) 0

-- the octets with these from a place on
abbrev pub octets_written : List ℕ → ℕ → List ℕ → List ℕ
octets_written xs start o =
    take start (octets_padded xs (start + length o))
    ++ (o ++ drop (start + length o) (octets_padded xs (start + length o)))

-- the octets with n zeros from a place on
abbrev pub octets_zeroed : List ℕ → ℕ → ℕ → List ℕ
octets_zeroed xs start n = take start xs ++ (replicate n 0 ++ drop (start + n) xs)
