-- Positions of sources and of last reads, and the entries that they come from.
use Rattle.std.proofs.Common.{◌≡◌, ℕ, ◌<◌, true, eqb, length, refl, sym, ◌∙◌, subst, inl, inr}
use Rattle.std.specs.Prelude.{Contains, ◌&&◌, Some}
use Rattle.std.specs.List.{list_any}
use Rattle.std.proofs.lemmas.Bool.{and_parts, and_from, eqb-true, eq-eqb}
use Rattle.std.proofs.lemmas.List.{get_or_default}
use Rattle.std.proofs.lemmas.List.Elements.{Contains-get_or}
use Rattle.light_base.specs.declared.tag.Event.{Event}
use Rattle.light_base.specs.declared.tag.Tag.{Tag}
use Rattle.replay_model.specs.declared.Entry.{Entry}
use Rattle.replay_model.specs.Steps.{same_tag}
use Rattle.replay_model.specs.Logs.{ThreadLog, Log, no_thread, thread_of, HasEntry, first_event, last_event}
use Rattle.replay_model.specs.Events.{IsEvent}
use Rattle.replay_model.specs.WellFormed.{IsWellFormed}
use Rattle.replay_model.proofs.Tags.{same_tag-true, same_tag-same, any-element, element-any}
use Rattle.replay_laws.proofs.Places.{entry_thread}
use Rattle.constraints.specs.Positions.{event_list, event_at, position_of}
use Rattle.constraints.specs.Constraints.{is_entry_of, is_source_of, is_last_of, sources_of, last_reads_from}
use Rattle.constraints.proofs.Listed.{in_list, event-position, position-below, of_positions, in_positions}

pub entry_of-is : (word : ℕ) (source : Tag) (a : Entry) → is_entry_of word source a ≡ true → (a.word ≡ word) × (a.source ≡ source)
entry_of-is word source a h = let (p, q) = and_parts (eqb a.word word) (same_tag a.source source) h in (eqb-true a.word word p, same_tag-true a.source source q)

pub is-entry_of : (word : ℕ) (source : Tag) (a : Entry) → a.word ≡ word → a.source ≡ source → is_entry_of word source a ≡ true
is-entry_of word source a w s = and_from (eqb a.word word) (same_tag a.source source) (eq-eqb a.word word w) (let P : Tag → Type 0 = λ t. same_tag a.source t ≡ true in subst P s (same_tag-same a.source))

-- the event is a source of the word exactly where some entry has it
pub source-entry : (log : Log) (word : ℕ) (e : Event) → is_source_of log word e ≡ true → (t : ℕ) × (a : Entry) × HasEntry log t a × (a.word ≡ word) × (a.source ≡ Some e)
source-entry log word e h =
    let (thread, (t, l, at), k) = any-element (λ (thread : ThreadLog). list_any (is_entry_of word (Some e)) thread.entries) log.threads h in
    let (a, c, m) = any-element (is_entry_of word (Some e)) thread.entries k in
    let s : thread_of log t ≡ thread = get_or_default log.threads t no_thread thread l ∙ at in
    let (w, q) = entry_of-is word (Some e) a m in
    (t, a, subst (λ (x : ThreadLog). Contains x.entries a) (sym s) c, w, q)

pub entry-source : (log : Log) (word : ℕ) (e : Event) (t : ℕ) (a : Entry) → HasEntry log t a → a.word ≡ word → a.source ≡ Some e → is_source_of log word e ≡ true
entry-source log word e t a c w q =
    let l = entry_thread log t a c in
    element-any (λ (thread : ThreadLog). list_any (is_entry_of word (Some e)) thread.entries) log.threads (thread_of log t) (Contains-get_or log.threads t no_thread l)
    (element-any (is_entry_of word (Some e)) (thread_of log t).entries a c (is-entry_of word (Some e) a w q))

-- the event is the last of some entry of this word and this source
pub last-entry : (log : Log) (word : ℕ) (source : Tag) (e : Event) → is_last_of log word source e ≡ true →
    (t : ℕ) × (a : Entry) × HasEntry log t a × (a.word ≡ word) × (a.source ≡ source) × (last_event t a ≡ e)
last-entry log word source e h =
    let (a, c, m) = any-element (λ (entry : Entry). is_entry_of word source entry && eqb e.step entry.last) (thread_of log e.thread).entries h in
    let (p, q) = and_parts (is_entry_of word source a) (eqb e.step a.last) m in
    let (w, s) = entry_of-is word source a p in
    let l : e.step ≡ a.last = eqb-true e.step a.last q in
    (e.thread, a, c, w, s, λ i. record { thread = e.thread; step = sym l i })

pub entry-last : (log : Log) (word : ℕ) (source : Tag) (t : ℕ) (a : Entry) → HasEntry log t a → a.word ≡ word → a.source ≡ source → is_last_of log word source (last_event t a) ≡ true
entry-last log word source t a c w s =
    element-any (λ (entry : Entry). is_entry_of word source entry && eqb a.last entry.last) (thread_of log t).entries a c
    (and_from (is_entry_of word source a) (eqb a.last a.last) (is-entry_of word source a w s) (eq-eqb a.last a.last refl))

-- the events of an entry are events of the log
pub source_in : (log : Log) (t : ℕ) (a : Entry) (e : Event) → HasEntry log t a → a.source ≡ Some e → IsEvent log e
source_in log t a e c q = inl (inl (t, a, c, q))

pub first_in : (log : Log) (t : ℕ) (a : Entry) → HasEntry log t a → IsEvent log (first_event t a)
first_in log t a c = inr (t, a, c, inl refl)

pub last_in : (log : Log) (t : ℕ) (a : Entry) → HasEntry log t a → IsEvent log (last_event t a)
last_in log t a c = inr (t, a, c, inr refl)

-- a position among a word's sources is that of an entry's source
pub of_sources : (log : Log) (word s : ℕ) → Contains (sources_of log word) s →
    (s < length (event_list log)) × ((t : ℕ) × (a : Entry) × HasEntry log t a × (a.word ≡ word) × (a.source ≡ Some (event_at log s)))
unfolding sources_of
of_sources log word s c =
    let (l, h) = of_positions log (is_source_of log word) s c in
    (l, source-entry log word (event_at log s) h)

pub in_sources : (log : Log) → IsWellFormed log → (word : ℕ) (t : ℕ) (a : Entry) (e : Event) → HasEntry log t a → a.word ≡ word → a.source ≡ Some e → Contains (sources_of log word) (position_of log e)
unfolding sources_of
in_sources log formed word t a e c w q =
    let m = in_list log formed e (source_in log t a e c q) in
    in_positions log (is_source_of log word) (position_of log e) (position-below log e m)
    (subst (λ (x : Event). is_source_of log word x ≡ true) (sym (event-position log e m)) (entry-source log word e t a c w q))

-- and one among the last reads of a source, that of an entry's last
pub of_last_reads : (log : Log) (word s p : ℕ) → Contains (last_reads_from log word s) p →
    (p < length (event_list log)) × ((t : ℕ) × (a : Entry) × HasEntry log t a × (a.word ≡ word) × (a.source ≡ Some (event_at log s)) × (last_event t a ≡ event_at log p))
unfolding last_reads_from
of_last_reads log word s p c =
    let (l, h) = of_positions log (is_last_of log word (Some (event_at log s))) p c in
    (l, last-entry log word (Some (event_at log s)) (event_at log p) h)

pub in_last_reads : (log : Log) → IsWellFormed log → (word s : ℕ) (t : ℕ) (a : Entry) → HasEntry log t a → a.word ≡ word → a.source ≡ Some (event_at log s) → Contains (last_reads_from log word s) (position_of log (last_event t a))
unfolding last_reads_from
in_last_reads log formed word s t a c w q =
    let m = in_list log formed (last_event t a) (last_in log t a c) in
    in_positions log (is_last_of log word (Some (event_at log s))) (position_of log (last_event t a)) (position-below log (last_event t a) m)
    (subst (λ (x : Event). is_last_of log word (Some (event_at log s)) x ≡ true) (sym (event-position log (last_event t a) m)) (entry-last log word (Some (event_at log s)) t a c w q))
