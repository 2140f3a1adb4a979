-- How work on a stream leaves its reader and its writer.
use Rattle.std.proofs.Common.{◌≡◌, ◌≢◌, ◌∙◌, ap, ◌⊎◌, refl, inl, inr, ℕ, Bool, List, Option, Result, Ok, Err}
use Rattle.std.specs.Prelude.{IfErr}
use Rattle.lpt_text.specs.declared.fault.StreamFault.{StreamFault}
use Rattle.lpt_text.specs.declared.fault.StreamFault.TheVariants as faults
use Rattle.lpt_text.specs.Streams.{failed_write, ReadEnds, ReadFails, WriteEnds}
use Rattle.lpt_stream.specs.Buffers.{FindsPassing}
use Rattle.lpt_stream.specs.declared.buffer.PacketBuffer.{PacketBuffer}

-- what holds anyway holds of a fault
pub any-err : {A E : Type 0} (P : Type 0) (r : Result A E) → P → IfErr r (λ _. P)
any-err P (Ok x) p = tt
any-err P (Err e) p = p

-- a search for a piece that ended by a fault
pub passing-reader : (Over : Type 0) (fault : StreamFault) (old new : PacketBuffer)
    (a b : Option (List ℕ))
    (had failed : Bool)
    → FindsPassing (Err fault) old new a b had failed
    → ReadFails Over fault had failed
passing-reader Over faults.Read old new a b had failed h = inl (h.1)
passing-reader Over faults.Write old new a b had failed h = h.2
passing-reader Over faults.Memory old new a b had failed h = h.2

-- behind work that left the reader as it was
pub reader-after : (Over : Type 0) (fault : StreamFault) (first had failed : Bool)
    → ReadFails Over fault had failed
    → had ≡ first
    → ReadFails Over fault first failed
reader-after Over faults.Read first had failed h same = h
reader-after Over faults.Write first had failed h same = h ∙ same
reader-after Over faults.Memory first had failed h same = h ∙ same

-- a fault that isn't a read's
pub reader-kept : (Over : Type 0) (fault : StreamFault) (first now : Bool)
    → fault ≢ faults.Read
    → now ≡ first
    → ReadFails Over fault first now
reader-kept Over faults.Read first now other same = absurd (other refl)
reader-kept Over faults.Write first now other same = same
reader-kept Over faults.Memory first now other same = same

-- a fault of a write isn't one
pub write-other : (fault : StreamFault) → fault ≡ faults.Write → fault ≢ faults.Read
write-other fault h = λ e. cc

-- nor is one of a write or of memory
pub other-fault : (fault : StreamFault)
    → (fault ≡ faults.Write) ⊎ (fault ≡ faults.Memory)
    → fault ≢ faults.Read
other-fault fault (inl h) = λ e. cc
other-fault fault (inr h) = λ e. cc

-- behind work that left the writer as it was
pub writer-after : (fault : StreamFault) (first had failed : Bool)
    → failed ≡ failed_write fault had
    → had ≡ first
    → failed ≡ failed_write fault first
writer-after fault first had failed h same = h ∙ ap (failed_write fault) same

-- work that ends so, or by a fault of a write, leaves both so
pub reader-all : {A : Type 0} (Over : Type 0) (r : Result A StreamFault) (first now : Bool)
    → IfErr r (λ e. e ≡ faults.Write)
    → now ≡ first
    → ReadEnds Over r first now
reader-all Over (Ok x) first now h same = same
reader-all Over (Err e) first now h same = reader-kept Over e first now (write-other e h) same

pub writer-all : {A : Type 0} (r : Result A StreamFault) (first had failed : Bool)
    → WriteEnds r had failed
    → had ≡ first
    → WriteEnds r first failed
writer-all (Ok x) first had failed h same = h ∙ same
writer-all (Err e) first had failed h same = writer-after e first had failed h same
