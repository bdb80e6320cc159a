use Rattle.std.proofs.Common.{ℕ, ◌+◌, length, sym, ◌∙◌, subst, length-set}
use Rattle.std.specs.Prelude.{slice_set}
use Rattle.cut_laws.specs.Searches.{IsSearched}
use Rattle.stopper.proofs.Searching.{read_number, taken_entry, source_in, one_less, loop_on, loop_ends}
use Rattle.stopper.proofs.cut.cut_of.Goals as goal

pub raise-requires : goal.raise-requires
raise-requires c =
    let (l, h) = c.in-Some.ensures in
    let i = c.loop-next.invariant in
    source_in c.args.log.now c.loop-next.numbers.items c.loop-next.nexts.items c.deref-in-loop-next.result.now c.in-Some.next c.index-entries-index.result
    c.threads-count.ensures.rules i.searched.counted c.deref-in-loop-next.ensures.value h.0
    (taken_entry c.args.log.now c.in-Some.next c.index.result.now c.loop-next.nexts.items c.threads.result.now c.index-threads-next.result c.entries.result.now c.index-entries-index.result
    c.threads.ensures.value l i.counted c.index.ensures c.index-threads-next.is c.entries.ensures c.index-entries-index.is)

pub loop-next-smaller : goal.loop-next-smaller
loop-next-smaller c =
    let (l, h) = c.in-Some.ensures in
    one_less c.args.log.now c.loop-next.nexts.items c.deref-in-loop-next.result.now c.in-Some.next c.index_mut-in-Some.result.now
    c.loop-next.invariant.counted l c.deref-in-loop-next.ensures.value h.0 c.index_mut-in-Some.ensures.value

pub loop-next-preserved : goal.loop-next-preserved
loop-next-preserved c =
    let (l, h) = c.in-Some.ensures in
    let i = c.loop-next.invariant in
    let P : ℕ → Type 0 = λ x. IsSearched c.args.log.now c.args.thread c.args.step c.raise.new.numbers.items (slice_set c.loop-next.nexts.items c.in-Some.next (x + 1)) in
    record {
      searched = subst P (sym (read_number c.loop-next.nexts.items c.in-Some.next c.index_mut-in-Some.result.now (length c.args.log.now.threads) i.counted l c.index_mut-in-Some.ensures.value))
          (loop_on c.args.log.now c.args.thread c.args.step c.loop-next.numbers.items c.loop-next.nexts.items c.deref.result.now c.deref-in-loop-next.result.now c.raise.new.numbers.items
          c.threads-count.ensures.rules i.searched c.deref.ensures.value c.deref-in-loop-next.ensures.value c.in-Some.next h c.index-entries-index.result
          (taken_entry c.args.log.now c.in-Some.next c.index.result.now c.loop-next.nexts.items c.threads.result.now c.index-threads-next.result c.entries.result.now c.index-entries-index.result
          c.threads.ensures.value l i.counted c.index.ensures c.index-threads-next.is c.entries.ensures c.index-entries-index.is)
          c.raise.ensures);
      counted = length-set c.loop-next.nexts.items c.in-Some.next (c.index_mut-in-Some.result.now + 1) ∙ i.counted;
    }

pub returns : goal.returns
returns c = loop_ends c.args.log.now c.args.thread c.args.step c.loop-next.numbers.items c.loop-next.nexts.items c.deref.result.now c.deref-in-loop-next.result.now
    c.threads-count.ensures.rules c.loop-next.invariant.searched c.deref.ensures.value c.deref-in-loop-next.ensures.value c.in_default.ensures
