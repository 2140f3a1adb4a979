-- No more jobs were claimed than there are.
use Rattle.std.proofs.Common.{rules}
use Rattle.std.proofs.lemmas.List.Sums.{prefix_len-le-length}
use Rattle.lpt_jobs.proofs.queue.JobQueue.waiting.Goals as goal

pub overflow_sub-result : goal.overflow_sub-result
overflow_sub-result c = search (rules, prefix_len-le-length)
