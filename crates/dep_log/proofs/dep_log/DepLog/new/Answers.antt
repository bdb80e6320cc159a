use Rattle.std.proofs.Common.{◌≡◌, ℕ, ◌<◌, ◌≤◌, ◌^◌, List, [], length, replicate, get_or, arith, sym, ◌∙◌, ap, subst}
use Rattle.std.proofs.lemmas.List.{get_or-replicate, length-replicate}
use Rattle.replay_model.specs.Bounds.{most_entries}
use Rattle.dep_log.specs.AccessLogs.{Entry}
use Rattle.dep_log.specs.Buckets.{AreBuckets, AreKept, AreWithin}
use Rattle.dep_log.proofs.Chains.{buckets-none}
use Rattle.dep_log.proofs.dep_log.DepLog.new.Goals as goal

-- a log without entries
kept : (limit : ℕ) (entries : List Entry) (heads older : List ℕ) → limit ≤ most_entries → entries ≡ [] → older ≡ [] → AreBuckets [] heads [] → AreKept limit entries heads older
kept limit entries heads older small e o h =
    subst (λ (es : List Entry). AreKept limit es heads older) (sym e) (subst (λ (links : List ℕ). AreKept limit [] heads links) (sym o)
    (record { small = small; within = omega arith; buckets = h; once = record { once = λ i j b m. absurd (omega (arith, m)) } }))

-- no entry was read at any word
none_within : (words : ℕ) (entries : List Entry) (latest : List ℕ) → latest ≡ replicate words 0 → AreWithin words entries latest
none_within words entries latest e = (
  ap length e ∙ length-replicate words 0,
  λ k d l. subst (λ (at : ℕ). at ≤ length entries)
      (sym (ap (λ (xs : List ℕ). get_or xs k d) e ∙ get_or-replicate words k 0 d (let n = ap length e ∙ length-replicate words 0 in omega (arith, n, l)))) (omega arith),
)

pub invariant_of-result : goal.invariant_of-result
invariant_of-result c =
    let some : 0 < c.next_power_of_two.result = omega (arith, c.next_power_of_two.ensures.lower_bound, c.max.ensures) in
    let few : c.next_power_of_two.result < 2 ^ 16 = omega (arith, c.next_power_of_two.ensures.upper_bound, c.max.ensures) in (
      kept c.args.limit c.in_ok-entries.entries.items c.in_ok-heads.heads.items c.in_ok-older.older.items c.requires.limit c.in_ok-entries.ensures.items c.in_ok-older.ensures.items
          (buckets-none c.in_ok-heads.heads.items c.next_power_of_two.result (c.in_ok-heads.ensures.items_if_clones_equal (λ y e. e)) some few),
      none_within c.args.words c.in_ok-entries.entries.items c.in_ok-latest.latest.items (c.in_ok-latest.ensures.items_if_clones_equal (λ y e. e) ∙ ap (λ (n : ℕ). replicate {A = ℕ} n 0) c.from.ensures),
      (omega (arith, c.in_ok-entries.ensures.exact), omega (arith, c.in_ok-older.ensures.exact, c.in_ok-entries.ensures.exact)),
    )
