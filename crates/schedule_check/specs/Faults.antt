-- The faults of an order of a log's events, and the first of them.
use Rattle.std.specs.Prelude.{◌≡◌, ℕ, suc, Bool, not, ◌&&◌, if◌then◌else◌, ◌==◌, nat_lt, nat_le, Option, Some, None, List, [], ◌∷◌, length, map, take, slice_index_or, position}
use Rattle.std.specs.List.{list_any, flat_map, enumerate_from, position_or_len, range_with_len}
use Rattle.std.specs.Option.{option_or, option_map}
use Rattle.light_base.specs.declared.tag.Event.{Event}
use Rattle.light_base.specs.declared.tag.Tag.{Tag}
use Rattle.replay_model.specs.declared.Entry.{Entry}
use Rattle.replay_model.specs.Steps.{same_tag}
use Rattle.replay_model.specs.Logs.{Log, thread_of, last_tag, first_event, last_event}
use Rattle.replay_model.specs.Events.{is_event}
use Rattle.replay_model.specs.Orders.{place}
use Rattle.constraints.specs.Positions.{no_event, thread_numbers, event_list}
use Rattle.schedule_check.specs.declared.faults.OrderKind.{OrderKind}
use Rattle.schedule_check.specs.declared.faults.OrderKind.TheVariants.{Unknown, Twice, Missing, ThreadOrder, ReadBeforeWrite, Between, Final}
use Rattle.schedule_check.specs.declared.faults.OrderFault.{OrderFault}
use Rattle.schedule_check.specs.declared.faults.Verdict.{Verdict}
use Rattle.schedule_check.specs.declared.faults.Verdict.TheVariants as verdict

-- the number by which a kind is told
abbrev pub number_of : OrderKind → ℕ
number_of Unknown = 1
number_of Twice = 2
number_of Missing = 3
number_of ThreadOrder = 4
number_of ReadBeforeWrite = 5
number_of Between = 6
number_of Final = 7

abbrev pub fault : OrderKind → ℕ → ℕ → OrderFault
fault kind i j = record { kind = kind; i = i; j = j }

-- the verdict tells this fault
abbrev pub IsFault : Verdict → OrderKind → ℕ → ℕ → Type 0
IsFault answer kind i j = answer ≡ verdict.Fault (fault kind i j)

-- the log's entries, thread after thread, each with its thread's number. An entry is told by its number in this list
abbrev pub entries_of : Log → List (ℕ × Entry)
entries_of log = flat_map (λ t. map (λ (entry : Entry). (t, entry)) (thread_of log t).entries) (thread_numbers log)

-- stands where a list has no entry
abbrev pub no_entry : ℕ × Entry
no_entry = (0, record { word = 0; source = None; first = 0; last = 0 })

-- how far down the order a tag stands: the initial contents stand at 0, before all events, and an event at one more than its place
abbrev pub rank_of : List Event → Tag → ℕ
rank_of order None = 0
rank_of order (Some e) = suc (place order e)

-- where an entry's source, its first and its last stand
abbrev pub source_rank : List Event → ℕ × Entry → ℕ
source_rank order x = rank_of order x.1.source

abbrev pub first_rank : List Event → ℕ × Entry → ℕ
first_rank order x = rank_of order (Some (first_event x.0 x.1))

abbrev pub last_rank : List Event → ℕ × Entry → ℕ
last_rank order x = rank_of order (Some (last_event x.0 x.1))

-- at this position stands an event that stands at an earlier one too
abbrev pub is_repeated : List Event → ℕ × Event → Bool
is_repeated order (k, e) = nat_lt (place order e) k

-- the event stands at no position
abbrev pub is_missing : List Event → Event → Bool
is_missing order e = nat_le (length order) (place order e)

-- an earlier event of its thread has a greater number
abbrev pub is_overtaken : List Event → ℕ × Event → Bool
is_overtaken order (j, e) = list_any (λ (d : Event). (d.thread == e.thread) && nat_lt e.step d.step) (take j order)

-- the last place at which an event of the thread stands
abbrev pub last_place : ℕ → List Event → ℕ
last_place thread [] = 0
last_place thread (e ∷ events) = if list_any (λ (d : Event). d.thread == thread) events then suc (last_place thread events) else 0

-- the nearest earlier position of the thread of the event at position j
abbrev pub place_before : List Event → ℕ → ℕ
place_before order j = last_place (slice_index_or order j no_event).thread (take j order)

-- the entry's source does not stand before its first
abbrev pub is_read_early : List Event → ℕ × Entry → Bool
is_read_early order x = nat_le (first_rank order x) (source_rank order x)

-- the entries are of one word and have different sources, and the last of each stands after the source of the other
abbrev pub are_crossed : List Event → ℕ × Entry → ℕ × Entry → Bool
are_crossed order x y =
    (x.1.word == y.1.word) && not (same_tag x.1.source y.1.source) &&
    nat_lt (source_rank order y) (last_rank order x) && nat_lt (source_rank order x) (last_rank order y)

-- the entry is of the word and has another source than the word's last tag, and its last stands after that
abbrev pub outlives : Log → List Event → ℕ → ℕ × Entry → Bool
outlives log order word x =
    (x.1.word == word) && not (same_tag x.1.source (last_tag log word)) && nat_lt (rank_of order (last_tag log word)) (last_rank order x)

-- the first position that holds no event of the log
abbrev pub first_unknown : Log → List Event → Option OrderFault
first_unknown log order = option_map (λ k. fault Unknown k 0) (position (λ (e : Event). not (is_event log e)) order)

-- the first position that holds an event of an earlier position
abbrev pub first_twice : List Event → Option OrderFault
first_twice order = option_map (λ k. fault Twice k 0) (position (is_repeated order) (enumerate_from 0 order))

-- the first event, by thread and number, that is in no position
abbrev pub first_missing : Log → List Event → Option OrderFault
first_missing log order = option_map (λ k. fault Missing k 0) (position (is_missing order) (event_list log))

-- the first position with an earlier event of its thread that has a greater number; it is told second, after the nearest earlier
-- position of that thread
abbrev pub first_overtaken : List Event → Option OrderFault
first_overtaken order = option_map (λ j. fault ThreadOrder (place_before order j) j) (position (is_overtaken order) (enumerate_from 0 order))

-- the first entry whose source does not stand before its first
abbrev pub first_early : Log → List Event → Option OrderFault
first_early log order = option_map (λ i. fault ReadBeforeWrite i 0) (position (is_read_early order) (entries_of log))

-- the first entry that is crossed with another one, and the first of those. (No entry is crossed with itself, and each crosses
-- those that cross it, so the second is a later entry.)
abbrev pub first_crossed : Log → List Event → Option OrderFault
first_crossed log order = option_map (λ i. fault Between i (position_or_len (are_crossed order (slice_index_or (entries_of log) i no_entry)) (entries_of log)))
    (position (λ x. list_any (are_crossed order x) (entries_of log)) (entries_of log))

-- the first word with an entry that outlives it, and the first such entry
abbrev pub first_outliving : Log → List Event → Option OrderFault
first_outliving log order = option_map (λ word. fault Final word (position_or_len (outlives log order word) (entries_of log)))
    (position (λ word. list_any (outlives log order word) (entries_of log)) (range_with_len 0 (length log.last_tags)))

-- the first fault: of the first kind of which there is one
unfoldable pub first_fault : Log → List Event → Option OrderFault
first_fault log order =
    option_or (first_unknown log order) (option_or (first_twice order) (option_or (first_missing log order)
    (option_or (first_overtaken order) (option_or (first_early log order) (option_or (first_crossed log order) (first_outliving log order))))))

abbrev pub told : Option OrderFault → Verdict
told None = verdict.Respects
told (Some f) = verdict.Fault f

-- what is to be said of the order
abbrev pub verdict_of : Log → List Event → Verdict
verdict_of log order = told (first_fault log order)
