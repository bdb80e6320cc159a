-- What is known of the entries of a thread while they are read.
use Rattle.std.specs.Prelude.{◌≡◌, ℕ, ◌+◌, ◌*◌, ◌^◌, ◌<◌, nat_eq, nat_le, length, slice_index, All}
use Rattle.std.specs.List.{list_any}
use Rattle.light_base.specs.declared.tag.Tag.{Tag}
use Rattle.light_base.specs.Tags.{bits_of, writer_of}
use Rattle.replay_model.specs.declared.Entry.{Entry}
use Rattle.replay_model.specs.MoreReads.{is_entry_for}
use Rattle.log_file.specs.declared.seen.Seen.{Seen}
use Rattle.log_file.specs.LogReading.{ends_late}

-- a word and a tag as one number
unfoldable pub pair_of : ℕ → Tag → ℕ
pair_of word tag = word * 2 ^ 32 + bits_of tag

-- a tag that has a number of 32 bits
pub record IsNumbered (tag : Tag) : Type 0 where
  pub fits : bits_of tag < 2 ^ 32
  pub back : writer_of (bits_of tag) ≡ tag

-- the pairs and the ends are those of the entries: a pair is found where an entry has it, and a word's end is the greatest last of its entries
pub record IsKept (seen : Seen) : Type 0 where
  pub numbered : All (λ (entry : Entry). IsNumbered entry.source) seen.entries.items
  pub pairs : (word : ℕ) (source : Tag) → IsNumbered source →
      list_any (nat_eq (pair_of word source)) seen.pairs ≡ list_any (is_entry_for word source) seen.entries.items
  pub ends : (word step : ℕ) → 0 < step → word < length seen.ends.items →
      nat_le step (slice_index seen.ends.items word) ≡ list_any (ends_late word step) seen.entries.items
