-- A log stays well formed when its digest becomes another.
use Rattle.std.proofs.Common.{ℕ, List}
use Rattle.std.specs.Prelude.{Some, None}
use Rattle.replay_model.specs.Steps.{Tag}
use Rattle.replay_model.specs.Logs.{Log, ThreadLog}
use Rattle.replay_model.specs.WellFormed.{IsTagOf, IsThreadOf, IsWellFormed}

module _ (log : Log) (digest : List ℕ) where
  tag-kept : (tag : Tag) → IsTagOf log tag → IsTagOf (record log { digest = digest }) tag
  tag-kept None h = tt
  tag-kept (Some event) h = record { thread = h.thread; first = h.first; last = h.last }

  thread-kept : (thread : ThreadLog) → IsThreadOf log thread → IsThreadOf (record log { digest = digest }) thread
  thread-kept thread h = record {
    steps = h.steps;
    instr = h.instr;
    entries = h.entries;
    end = h.end;
    taken = h.taken;
    each = λ entry among.
        let own = h.each entry among in
        record { low = own.low; between = own.between; high = own.high; source = tag-kept entry.source own.source; word = own.word };
    rising = h.rising;
    once = h.once;
    apart = h.apart;
  }

  pub formed-kept : IsWellFormed log → IsWellFormed (record log { digest = digest })
  formed-kept h = record {
    range = h.range;
    threads = λ t l. thread-kept _ (h.threads t l);
    last_tags = λ word l. tag-kept _ (h.last_tags word l);
  }
