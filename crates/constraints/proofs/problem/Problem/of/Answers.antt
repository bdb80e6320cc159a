use Rattle.std.proofs.Common.{List, length, sym, ◌∙◌, ap, subst}
use Rattle.constraints.specs.declared.reads.Read.{Read}
use Rattle.constraints.specs.declared.reads.Key.{Key}
use Rattle.constraints.specs.Building.{AreReads, AreKeys}
use Rattle.constraints.proofs.Placing.{listed-as, few-as}
use Rattle.constraints.proofs.Parts.{seen, base-of, never-of, starts-of, counts-of, words-within, words-rowed}
use Rattle.constraints.proofs.problem.Problem.of.Goals as goal

pub thread_starts-requires-clause-order : goal.thread_starts-requires-clause-order
thread_starts-requires-clause-order c = listed-as c.args.log.now c.deref-8.result.now (c.deref-8.ensures.value ∙ c.in_ok-events.ensures.value)

pub thread_starts-requires-clause-small : goal.thread_starts-requires-clause-small
thread_starts-requires-clause-small c = few-as c.args.log.now c.deref-8.result.now c.threads.ensures.rules (c.deref-8.ensures.value ∙ c.in_ok-events.ensures.value)

pub thread_counts-requires-clause-order : goal.thread_counts-requires-clause-order
thread_counts-requires-clause-order c = listed-as c.args.log.now c.deref-9.result.now (c.deref-9.ensures.value ∙ c.in_ok-events.ensures.value)

pub thread_counts-requires-clause-small : goal.thread_counts-requires-clause-small
thread_counts-requires-clause-small c = few-as c.args.log.now c.deref-9.result.now c.threads.ensures.rules (c.deref-9.ensures.value ∙ c.in_ok-events.ensures.value)

pub base_edges-requires-clause-sources : goal.base_edges-requires-clause-sources
base_edges-requires-clause-sources c =
    let f = c.threads.ensures.rules in
    let P : List Read → Type 0 = λ rs. AreReads c.args.log.now rs in
    let Q : List Key → Type 0 = λ ks. AreKeys c.args.log.now ks in
    let r = c.in_ok-reads.ensures.reads c.args.log.now f (c.deref-3.ensures.value ∙ c.in_ok-placed.ensures) in
    let k = c.in_ok-keys.ensures.keys c.args.log.now f (subst P (sym c.deref-4.ensures.value) r) in
    let s = c.in_ok-sources.ensures c.args.log.now (ap length c.finals.ensures.value) (subst Q (sym c.deref-5.ensures.value) k) in
    words-rowed c.args.log.now c.deref-10.result.now c.in_ok-sources.sources f (c.deref-10.ensures.value ∙ c.in_ok-placed.ensures) s

pub base_edges-requires-clause-last_tags : goal.base_edges-requires-clause-last_tags
base_edges-requires-clause-last_tags c =
    words-within c.args.log.now c.deref-10.result.now c.deref-11.result.now c.threads.ensures.rules (c.deref-10.ensures.value ∙ c.in_ok-placed.ensures) (c.deref-11.ensures.value ∙ c.in_ok-last_tags.ensures)

pub is_impossible-requires : goal.is_impossible-requires
is_impossible-requires c =
    words-within c.args.log.now c.deref-12.result.now c.deref-13.result.now c.threads.ensures.rules (c.deref-12.ensures.value ∙ c.in_ok-placed.ensures) (c.deref-13.ensures.value ∙ c.in_ok-last_tags.ensures)

pub invariant_of-result : goal.invariant_of-result
invariant_of-result c =
    let f = c.threads.ensures.rules in
    let P : List Read → Type 0 = λ rs. AreReads c.args.log.now rs in
    let Q : List Key → Type 0 = λ ks. AreKeys c.args.log.now ks in
    let r = c.in_ok-reads.ensures.reads c.args.log.now f (c.deref-3.ensures.value ∙ c.in_ok-placed.ensures) in
    let k = c.in_ok-keys.ensures.keys c.args.log.now f (subst P (sym c.deref-4.ensures.value) r) in
    let s = c.in_ok-sources.ensures c.args.log.now (ap length c.finals.ensures.value) (subst Q (sym c.deref-5.ensures.value) k) in
    let l = c.in_ok-last_reads.ensures c.args.log.now f (subst Q (sym c.deref-6.ensures.value) k) (subst P (sym c.deref-7.ensures.value) r) in
    let e = c.in_ok-events.ensures.value in
    seen (sym c.of.ensures) (record {
      formed = f;
      listed = e;
      begun = starts-of c.args.log.now c.in_ok-starts.starts.items c.deref-8.result.now (length c.threads.result.now) c.in_ok-starts.ensures (c.deref-8.ensures.value ∙ e) (ap length c.threads.ensures.value);
      counted = counts-of c.args.log.now c.in_ok-counts.counts.items c.deref-9.result.now (length c.threads.result.now) c.in_ok-counts.ensures (c.deref-9.ensures.value ∙ e) (ap length c.threads.ensures.value);
      edges = base-of c.args.log.now c.in_ok-base.base.items c.deref-10.result.now c.deref-11.result.now c.in_ok-sources.sources f c.in_ok-base.ensures (c.deref-10.ensures.value ∙ c.in_ok-placed.ensures) (c.deref-11.ensures.value ∙ c.in_ok-last_tags.ensures) s;
      written = s;
      read = l;
      never = never-of c.args.log.now c.is_impossible.result c.deref-12.result.now c.deref-13.result.now f c.is_impossible.ensures (c.deref-12.ensures.value ∙ c.in_ok-placed.ensures) (c.deref-13.ensures.value ∙ c.in_ok-last_tags.ensures);
    })
