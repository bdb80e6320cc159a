-- Which fault a call answered.
use Rattle.std.specs.Prelude.{Bool, true, false, Result, Ok, Err}
use Rattle.light_base.specs.declared.store.StoreFault.{StoreFault}
use Rattle.light_base.specs.declared.store.StoreFault.TheVariants as store
use Rattle.light_base.specs.declared.sink.SinkFault.{SinkFault}
use Rattle.light_base.specs.declared.sink.SinkFault.TheVariants as sink

-- whether a call of a store answered that it failed
abbrev pub has_failed : {T : Type 0} → Result T StoreFault → Bool
has_failed (Ok _) = false
has_failed (Err store.Failed) = true
has_failed (Err (store.TooLong taken)) = false
has_failed (Err store.Memory) = false

-- whether a call of a store answered that the file is too long
abbrev pub is_too_long : {T : Type 0} → Result T StoreFault → Bool
is_too_long (Ok _) = false
is_too_long (Err store.Failed) = false
is_too_long (Err (store.TooLong taken)) = true
is_too_long (Err store.Memory) = false

-- whether a put answered that it failed
abbrev pub put_has_failed : {T : Type 0} → Result T SinkFault → Bool
put_has_failed (Ok _) = false
put_has_failed (Err sink.Failed) = true
put_has_failed (Err sink.Memory) = false
