-- The files so far have what they are to have.
use Rattle.std.proofs.Common.{◌≡◌}
use Rattle.lpt_spacecraft.specs.Files.{contents_of, saved_by}
use Rattle.lpt_spacecraft.proofs.FileLemmas.{front}
use Rattle.lpt_spacecraft.proofs.files.save_written.Given as goal

abbrev pub invariant-loop-id : goal.invariant-loop-id
invariant-loop-id g l =
    contents_of g.F.WholeFile.content l.files
    ≡ front (saved_by l.told l.craft.memories) l.id-index
    (contents_of g.F.WholeFile.content l.initial.files)
