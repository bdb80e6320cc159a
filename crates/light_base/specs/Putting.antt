-- What a put leaves of a sink in memory.
use Rattle.std.specs.Prelude.{ℕ, List, ◌++◌, take, Result, Ok, Err}
use Rattle.light_base.specs.Causes.{next}
use Rattle.light_base.specs.InMemory.{SinkState}
use Rattle.light_base.specs.declared.sink.SinkFault.{SinkFault}
use Rattle.light_base.specs.declared.sink.SinkFault.TheVariants.{Failed, Memory}

-- the front of the bytes at Ok, one more fault where the put failed, and nothing new where memory was refused
abbrev pub sink_after : SinkState → List ℕ → Result ℕ SinkFault → SinkState
sink_after s bytes (Ok count) = record s { calls = next s.calls; taken = s.taken ++ take count bytes }
sink_after s bytes (Err Failed) = record s { calls = next s.calls; faults = next s.faults }
sink_after s bytes (Err Memory) = record s { calls = next s.calls }
