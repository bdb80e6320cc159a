-- Ranks of events that keep the rules of a log: the middle between orders that respect it and rankings that solve its problem.
use Rattle.std.proofs.Common.{◌≡◌, ℕ, ◌<◌, ◌∙◌, inl, inr, ◌⊎◌}
use Rattle.std.specs.Prelude.{◌≢◌, Some, None}
use Rattle.std.proofs.lemmas.List.{get_or_default}
use Rattle.light_base.specs.declared.tag.Event.{Event}
use Rattle.replay_model.specs.declared.Entry.{Entry}
use Rattle.replay_model.specs.Logs.{Log, HasEntry, last_tag, first_event, last_event}
use Rattle.replay_model.specs.Events.{IsEvent}
use Rattle.replay_model.specs.WellFormed.{IsWellFormed}
use Rattle.constraints.proofs.Listed.{entry_is}
use Rattle.constraints.proofs.Sources.{source_in, first_in, last_in}

-- one event is another, or ranks below it
abbrev pub IsUpTo : (Event → ℕ) → Event → Event → Type 0
IsUpTo at a b = (a ≡ b) ⊎ (at a < at b)

-- events of a thread rank by their numbers, a source below the first read of it; of two writes to a word, the reads of one rank
-- up to the other; reads of other writes of a word rank up to its last tag
pub record Keeps (log : Log) (at : Event → ℕ) : Type 0 where
  pub rising : (a b : Event) → IsEvent log a → IsEvent log b → a.thread ≡ b.thread → a.step < b.step → at a < at b
  pub source_first : (t : ℕ) (a : Entry) (source : Event) → HasEntry log t a → a.source ≡ Some source → at source < at (first_event t a)
  pub apart : (t u : ℕ) (a b : Entry) (x y : Event) → HasEntry log t a → HasEntry log u b → a.word ≡ b.word → a.source ≡ Some x → b.source ≡ Some y → x ≢ y →
      IsUpTo at (last_event t a) y ⊎ IsUpTo at (last_event u b) x
  pub from_initial : (t u : ℕ) (a b : Entry) (y : Event) → HasEntry log t a → HasEntry log u b → a.word ≡ b.word → a.source ≡ None → b.source ≡ Some y →
      IsUpTo at (last_event t a) y
  pub final : (t : ℕ) (a : Entry) (z : Event) → HasEntry log t a → last_tag log a.word ≡ Some z → a.source ≢ Some z → IsUpTo at (last_event t a) z

-- ranks that rise where others do keep the rules as those do
pub keeps_along : (log : Log) (one other : Event → ℕ) → IsWellFormed log → ((a b : Event) → IsEvent log a → IsEvent log b → one a < one b → other a < other b) → Keeps log one → Keeps log other
keeps_along log one other formed along k = record {
  rising = λ a b ea eb s l. along a b ea eb (k.rising a b ea eb s l);
  source_first = λ t a x c q. along x (first_event t a) (source_in log t a x c q) (first_in log t a c) (k.source_first t a x c q);
  apart = λ t u a b x y c d w p q n. two (last_in log t a c) (source_in log u b y d q) (last_in log u b d) (source_in log t a x c p) (k.apart t u a b x y c d w p q n);
  from_initial = λ t u a b y c d w p q. up (last_in log t a c) (source_in log u b y d q) (k.from_initial t u a b y c d w p q);
  final = λ t a z c q n. up (last_in log t a c) (last_tag_in t a z c q) (k.final t a z c q n);
}
  where
    up : {a b : Event} → IsEvent log a → IsEvent log b → IsUpTo one a b → IsUpTo other a b
    up ea eb (inl e) = inl e
    up {a} {b} ea eb (inr l) = inr (along a b ea eb l)

    two : {a b c d : Event} → IsEvent log a → IsEvent log b → IsEvent log c → IsEvent log d → IsUpTo one a b ⊎ IsUpTo one c d → IsUpTo other a b ⊎ IsUpTo other c d
    two ea eb ec ed (inl h) = inl (up ea eb h)
    two ea eb ec ed (inr h) = inr (up ec ed h)

    last_tag_in : (t : ℕ) (a : Entry) (z : Event) → HasEntry log t a → last_tag log a.word ≡ Some z → IsEvent log z
    last_tag_in t a z c q = inl (inr (a.word, (entry_is log formed t a c).word, get_or_default log.last_tags a.word (Some z) None (entry_is log formed t a c).word ∙ q))
