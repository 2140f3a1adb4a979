-- What a pass is to do, as C writes it.
use Rattle.std.specs.Prelude.{ℕ, ◌-◌, ◌%◌, ◌==◌, nat_le, Bool, ◌&&◌, if◌then◌else◌}
use Rattle.lpt_ground.specs.declared.asked.Terms.{Terms}
use Rattle.lpt_c_ground.specs.declared.jobs.JobKind.{JobKind}
use Rattle.lpt_c_ground.specs.declared.jobs.JobKind.TheVariants.{Load, Dump, Check}
use Rattle.lpt_c_ground.specs.declared.jobs.LptJob.{LptJob}

-- the kind of a number, 1 to 3
abbrev pub kind_from : ℕ → JobKind
kind_from kind = if kind == 1 then Load else if kind == 2 then Dump else Check

-- how few octets a part may have: a dump's report has 6 more than the load of as many, and a
-- check's as many as the load of 6
abbrev pub least_part : JobKind → ℕ
least_part Load = 4
least_part Dump = 7
least_part Check = 6

-- how many octets a request is of at most, by the part size
abbrev pub each_of : JobKind → (part_size : ℕ) → ℕ
each_of Load p = p
each_of Dump p = p - 6
each_of Check p = 4000

-- a load asks for a report of its completion
abbrev pub flags_fit : JobKind → (flags : ℕ) → Bool
flags_fit Load flags = nat_le 8 flags && nat_le flags 15
flags_fit Dump flags = nat_le flags 15
flags_fit Check flags = nat_le flags 15

-- each number of a job of this kind is in its range
abbrev pub numbers_fit : JobKind → LptJob → Bool
numbers_fit kind j =
    nat_le j.apid 2046 && nat_le j.count 16383 && flags_fit kind j.flags
    && nat_le (least_part kind) j.part_size && nat_le j.part_size 1024 && nat_le 1 j.tries

-- the same of a job
abbrev pub is_job : LptJob → Bool
is_job j = nat_le 1 j.kind && nat_le j.kind 3 && numbers_fit (kind_from j.kind) j

-- flags that ask for reports of the start
abbrev pub starts_in : (flags : ℕ) → Bool
starts_in flags = nat_le 2 (flags % 4)

-- whose reports count in a job's pass, and when it is given up
abbrev pub terms_of : LptJob → Terms
terms_of j = record {
  apid = j.apid;
  source = j.source;
  starts = starts_in j.flags;
  tries = j.tries;
}
