use Rattle.std.specs.VecDeque.{deque_len}
use Rattle.schedule_guess.proofs.queue.Queue.clear.Given as goal

abbrev pub decreases-loop-node : goal.decreases-loop-node
decreases-loop-node l = deque_len l.self.waiting
