-- Padded, the octets are what they were to be, and the room is the same.
use Rattle.std.specs.Prelude.{◌≡◌, ◌-◌, vec_capacity}
use Rattle.lpt_reception.specs.Buffers.{octets_padded}
use Rattle.lpt_reception.proofs.buffer.pad.Given as goal

abbrev pub invariant-loop-buffer : goal.invariant-loop-buffer
invariant-loop-buffer l =
    (octets_padded l.buffer.items l.so_many ≡ octets_padded l.initial.buffer.items l.so_many)
    × (vec_capacity l.buffer ≡ vec_capacity l.initial.buffer)

abbrev pub decreases-loop-buffer : goal.decreases-loop-buffer
decreases-loop-buffer l = l.so_many - l.buffer.len
