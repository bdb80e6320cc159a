-- Entries in buckets, each of which is a list of places: of its newest entry the place plus one, and for each entry that of the next older one. 0 is none.
use Rattle.std.specs.Prelude.{◌≡◌, ◌≢◌, ℕ, ◌+◌, ◌-◌, ◌*◌, ◌/◌, ◌%◌, ◌^◌, ◌<◌, ◌≤◌, true, false, bit_and, All, Option, Some, None, List, length, slice_index, slice_index_or, vec_len, vec_capacity}
use Rattle.std.specs.Global.{Vec}
use Rattle.light_base.specs.Tags.{bits_of}
use Rattle.replay_model.specs.Bounds.{most_entries}
use Rattle.replay_model.specs.Steps.{Tag}
use Rattle.replay_model.specs.declared.Entry.{Entry}
use Rattle.replay_model.specs.MoreReads.{is_entry_for}

-- the bucket of a word and a tag, of so many; any function of the two would do
unfoldable pub bucket_of : ℕ → ℕ → Tag → ℕ
bucket_of count word tag = bit_and ((bits_of tag * 2654435769 % 2 ^ 32) * count / 2 ^ 32 + word) (count - 1)

-- stands where a list has no entry
abbrev pub no_entry : Entry
no_entry = record { word = 0; source = None; first = 0; last = 0 }

abbrev pub entry_at : List Entry → ℕ → Entry
entry_at entries k = slice_index_or entries k no_entry

abbrev pub bucket_at : ℕ → List Entry → ℕ → ℕ
bucket_at count entries k = bucket_of count (entry_at entries k).word (entry_at entries k).source

-- the newest entry of a bucket among so many first entries
pub record IsNewest (count : ℕ) (entries : List Entry) (below bucket at : ℕ) : Type 0 where
  pub within : at ≤ below
  pub here : (k : ℕ) → at ≡ k + 1 → bucket_at count entries k ≡ bucket
  pub none : (k : ℕ) → at ≤ k → k < below → bucket_at count entries k ≢ bucket

-- every bucket has all its entries
pub record AreBuckets (entries : List Entry) (heads older : List ℕ) : Type 0 where
  pub some : 0 < length heads
  pub few : length heads < 2 ^ 16
  pub counted : length older ≡ length entries
  pub newest : (b : ℕ) → b < length heads → IsNewest (length heads) entries (length entries) b (slice_index heads b)
  pub chained : (k : ℕ) → k < length entries → IsNewest (length heads) entries k (bucket_at (length heads) entries k) (slice_index older k)

-- no pair of word and tag has two entries
pub record AreOnce (entries : List Entry) : Type 0 where
  pub once : (i j : ℕ) → i < j → j < length entries → is_entry_for (entry_at entries i).word (entry_at entries i).source (entry_at entries j) ≡ false

-- the place of the entry of this word and tag; none where they have none
abbrev pub IsPlaceOf : List Entry → ℕ → Tag → Option ℕ → Type 0
IsPlaceOf entries word tag None = (k : ℕ) → k < length entries → is_entry_for word tag (entry_at entries k) ≡ false
IsPlaceOf entries word tag (Some k) = (k < length entries) × (is_entry_for word tag (entry_at entries k) ≡ true)

-- there is room for one more entry, and its place fits 16 bits
pub record HasPlace (entries : Vec Entry) (older : Vec ℕ) : Type 0 where
  pub few : length entries.items + 1 < 2 ^ 16
  pub entry : vec_len entries < vec_capacity entries
  pub link : vec_len older < vec_capacity older

-- one number for each of so many words, each the place of an entry plus one, or 0
abbrev pub AreWithin : ℕ → List Entry → List ℕ → Type 0
AreWithin words entries latest = (length latest ≡ words) × All (λ at. at ≤ length entries) latest

-- memory was taken for so many entries, and for as many links
abbrev pub HaveRoom : ℕ → Vec Entry → Vec ℕ → Type 0
HaveRoom limit entries older = (limit ≤ vec_capacity entries) × (vec_capacity older ≡ vec_capacity entries)

-- the state of a log that grows
pub record AreKept (limit : ℕ) (entries : List Entry) (heads older : List ℕ) : Type 0 where
  pub small : limit ≤ most_entries
  pub within : length entries ≤ limit
  pub buckets : AreBuckets entries heads older
  pub once : AreOnce entries
