use Rattle.std.proofs.Common.{◌≡◌, ◌<◌, ◌^◌, ℕ, List, length, map, ◌∙◌, sym, ap, subst, arith}
use Rattle.light_base.specs.declared.tag.Event.{Event}
use Rattle.replay_model.specs.Logs.{Log}
use Rattle.audit.specs.Tables.{Audited, IsPlacing, AreNexts, starts_in}
use Rattle.audit.specs.Rows.{row_at}
use Rattle.audit.specs.Cases.{case_of}
use Rattle.audit.proofs.Making.{case-listed, steps-hold, writes-hold, marks-within, reads-within, words-within, the-rows, rows-inside, rows-small, lasts-long, base-right, counts-right}
use Rattle.audit.proofs.placing.Placing.of.Goals as goal

pub place_entries-requires : goal.place_entries-requires
place_entries-requires c =
    let f = c.threads.ensures.rules in
    let e = case-listed c.args.case.now c.in_ok-steps.steps c.requires c.in_ok-steps.ensures in
    let s : length c.in_ok-steps.steps.items < 2 ^ 32 = (let o = c.in_ok-steps.steps.ok.0 in omega (arith, o, c.len.ensures, c.if-len-gt-MOST.false)) in
    steps-hold (case_of c.args.case.now) f c.requires.fits c.args.case.now.writes.now c.requires.writes c.in_ok-steps.steps.items e s c.deref.result.now c.deref.ensures.value

pub place_last_tags-requires : goal.place_last_tags-requires
place_last_tags-requires c =
    let f = c.threads.ensures.rules in
    let e = case-listed c.args.case.now c.in_ok-steps.steps c.requires c.in_ok-steps.ensures in
    let s : length c.in_ok-steps.steps.items < 2 ^ 32 = (let o = c.in_ok-steps.steps.ok.0 in omega (arith, o, c.len.ensures, c.if-len-gt-MOST.false)) in
    steps-hold (case_of c.args.case.now) f c.requires.fits c.args.case.now.writes.now c.requires.writes c.in_ok-steps.steps.items e s c.deref-2.result.now c.deref-2.ensures.value

pub mark_writes-requires-clause-order : goal.mark_writes-requires-clause-order
mark_writes-requires-clause-order c =
    let f = c.threads.ensures.rules in
    let e = case-listed c.args.case.now c.in_ok-steps.steps c.requires c.in_ok-steps.ensures in
    let s : length c.in_ok-steps.steps.items < 2 ^ 32 = (let o = c.in_ok-steps.steps.ok.0 in omega (arith, o, c.len.ensures, c.if-len-gt-MOST.false)) in
    (steps-hold (case_of c.args.case.now) f c.requires.fits c.args.case.now.writes.now c.requires.writes c.in_ok-steps.steps.items e s c.deref-3.result.now c.deref-3.ensures.value).order

pub mark_writes-requires-clause-listed : goal.mark_writes-requires-clause-listed
mark_writes-requires-clause-listed c =
    let f = c.threads.ensures.rules in
    let e = case-listed c.args.case.now c.in_ok-steps.steps c.requires c.in_ok-steps.ensures in
    let s : length c.in_ok-steps.steps.items < 2 ^ 32 = (let o = c.in_ok-steps.steps.ok.0 in omega (arith, o, c.len.ensures, c.if-len-gt-MOST.false)) in
    writes-hold (case_of c.args.case.now) f c.requires.fits c.args.case.now.writes.now c.requires.writes c.in_ok-steps.steps.items e s c.deref-3.result.now c.deref-3.ensures.value

pub rows_of-requires : goal.rows_of-requires
rows_of-requires c =
    let f = c.threads.ensures.rules in
    let e = case-listed c.args.case.now c.in_ok-steps.steps c.requires c.in_ok-steps.ensures in
    let s : length c.in_ok-steps.steps.items < 2 ^ 32 = (let o = c.in_ok-steps.steps.ok.0 in omega (arith, o, c.len.ensures, c.if-len-gt-MOST.false)) in
    marks-within (case_of c.args.case.now) f c.requires.fits c.args.case.now.writes.now c.requires.writes c.in_ok-steps.steps.items e s c.deref-3.result.now c.deref-5.result.now (length c.finals.result.now) (c.deref-5.ensures.value ∙ c.in_ok-writes.ensures) (ap length c.finals.ensures.value)

pub rows_of-requires-2 : goal.rows_of-requires-2
rows_of-requires-2 c =
    let f = c.threads.ensures.rules in
    let e = case-listed c.args.case.now c.in_ok-steps.steps c.requires c.in_ok-steps.ensures in
    let s : length c.in_ok-steps.steps.items < 2 ^ 32 = (let o = c.in_ok-steps.steps.ok.0 in omega (arith, o, c.len.ensures, c.if-len-gt-MOST.false)) in
    let count : c.len-2.result ≡ length c.in_ok-steps.steps.items = (let o = c.in_ok-steps.steps.ok.0 in omega (arith, o, c.len-2.ensures)) in
    reads-within (case_of c.args.case.now) f c.requires.fits c.args.case.now.writes.now c.requires.writes c.in_ok-steps.steps.items e s c.deref.result.now c.deref-4.result.now c.deref-6.result.now c.len-2.result c.deref.ensures.value (c.deref-4.ensures.value ∙ c.in_ok-placed.ensures) (c.deref-6.ensures.value ∙ c.in_ok-reads.ensures) count

pub base_edges-requires-clause-sources : goal.base_edges-requires-clause-sources
base_edges-requires-clause-sources c =
    let f = c.threads.ensures.rules in
    let e = case-listed c.args.case.now c.in_ok-steps.steps c.requires c.in_ok-steps.ensures in
    let s : length c.in_ok-steps.steps.items < 2 ^ 32 = (let o = c.in_ok-steps.steps.ok.0 in omega (arith, o, c.len.ensures, c.if-len-gt-MOST.false)) in
    let words : length c.finals.result.now ≡ length c.args.case.now.log.now.last_tags = ap length c.finals.ensures.value in
    let count : c.len-2.result ≡ length c.in_ok-steps.steps.items = (let o = c.in_ok-steps.steps.ok.0 in omega (arith, o, c.len-2.ensures)) in
    let r = the-rows (case_of c.args.case.now) f c.requires.fits c.args.case.now.writes.now c.requires.writes c.in_ok-steps.steps.items e s c.deref-3.result.now c.deref.result.now c.deref-4.result.now c.in_ok-sources.sources.items c.in_ok-lasts.lasts.items c.deref-5.result.now c.deref-6.result.now
    (length c.finals.result.now) c.len-2.result c.deref-3.ensures.value c.deref.ensures.value words count (c.deref-5.ensures.value ∙ c.in_ok-writes.ensures) (c.deref-4.ensures.value ∙ c.in_ok-placed.ensures)
    (c.deref-6.ensures.value ∙ c.in_ok-reads.ensures) c.in_ok-sources.ensures c.in_ok-lasts.ensures in
    words-within (case_of c.args.case.now) f c.requires.fits c.args.case.now.writes.now c.requires.writes c.in_ok-steps.steps.items e s c.deref.result.now c.deref-8.result.now (length c.deref-9.result.now) c.deref.ensures.value (c.deref-8.ensures.value ∙ c.in_ok-placed.ensures) (ap length c.deref-9.ensures.value ∙ r.words)

pub all_starts-requires-clause-within : goal.all_starts-requires-clause-within
all_starts-requires-clause-within c =
    let f = c.threads.ensures.rules in
    let e = case-listed c.args.case.now c.in_ok-steps.steps c.requires c.in_ok-steps.ensures in
    let s : length c.in_ok-steps.steps.items < 2 ^ 32 = (let o = c.in_ok-steps.steps.ok.0 in omega (arith, o, c.len.ensures, c.if-len-gt-MOST.false)) in
    let words : length c.finals.result.now ≡ length c.args.case.now.log.now.last_tags = ap length c.finals.ensures.value in
    let count : c.len-2.result ≡ length c.in_ok-steps.steps.items = (let o = c.in_ok-steps.steps.ok.0 in omega (arith, o, c.len-2.ensures)) in
    let r = the-rows (case_of c.args.case.now) f c.requires.fits c.args.case.now.writes.now c.requires.writes c.in_ok-steps.steps.items e s c.deref-3.result.now c.deref.result.now c.deref-4.result.now c.in_ok-sources.sources.items c.in_ok-lasts.lasts.items c.deref-5.result.now c.deref-6.result.now
    (length c.finals.result.now) c.len-2.result c.deref-3.ensures.value c.deref.ensures.value words count (c.deref-5.ensures.value ∙ c.in_ok-writes.ensures) (c.deref-4.ensures.value ∙ c.in_ok-placed.ensures)
    (c.deref-6.ensures.value ∙ c.in_ok-reads.ensures) c.in_ok-sources.ensures c.in_ok-lasts.ensures in
    rows-inside (case_of c.args.case.now) f c.requires.fits c.args.case.now.writes.now c.requires.writes c.in_ok-steps.steps.items e s c.in_ok-sources.sources.items c.in_ok-lasts.lasts.items r c.deref-12.result.now (length c.deref-11.result.now) c.deref-12.ensures.value (ap length c.deref-11.ensures.value)

pub all_starts-requires-clause-small : goal.all_starts-requires-clause-small
all_starts-requires-clause-small c =
    let f = c.threads.ensures.rules in
    let e = case-listed c.args.case.now c.in_ok-steps.steps c.requires c.in_ok-steps.ensures in
    let s : length c.in_ok-steps.steps.items < 2 ^ 32 = (let o = c.in_ok-steps.steps.ok.0 in omega (arith, o, c.len.ensures, c.if-len-gt-MOST.false)) in
    let words : length c.finals.result.now ≡ length c.args.case.now.log.now.last_tags = ap length c.finals.ensures.value in
    let count : c.len-2.result ≡ length c.in_ok-steps.steps.items = (let o = c.in_ok-steps.steps.ok.0 in omega (arith, o, c.len-2.ensures)) in
    let r = the-rows (case_of c.args.case.now) f c.requires.fits c.args.case.now.writes.now c.requires.writes c.in_ok-steps.steps.items e s c.deref-3.result.now c.deref.result.now c.deref-4.result.now c.in_ok-sources.sources.items c.in_ok-lasts.lasts.items c.deref-5.result.now c.deref-6.result.now
    (length c.finals.result.now) c.len-2.result c.deref-3.ensures.value c.deref.ensures.value words count (c.deref-5.ensures.value ∙ c.in_ok-writes.ensures) (c.deref-4.ensures.value ∙ c.in_ok-placed.ensures)
    (c.deref-6.ensures.value ∙ c.in_ok-reads.ensures) c.in_ok-sources.ensures c.in_ok-lasts.ensures in
    rows-small (case_of c.args.case.now) f c.requires.fits c.args.case.now.writes.now c.requires.writes c.in_ok-steps.steps.items e s c.in_ok-sources.sources.items c.in_ok-lasts.lasts.items r c.deref-12.result.now c.deref-12.ensures.value

pub all_nexts-requires-clause-within : goal.all_nexts-requires-clause-within
all_nexts-requires-clause-within c =
    let f = c.threads.ensures.rules in
    let e = case-listed c.args.case.now c.in_ok-steps.steps c.requires c.in_ok-steps.ensures in
    let s : length c.in_ok-steps.steps.items < 2 ^ 32 = (let o = c.in_ok-steps.steps.ok.0 in omega (arith, o, c.len.ensures, c.if-len-gt-MOST.false)) in
    let words : length c.finals.result.now ≡ length c.args.case.now.log.now.last_tags = ap length c.finals.ensures.value in
    let count : c.len-2.result ≡ length c.in_ok-steps.steps.items = (let o = c.in_ok-steps.steps.ok.0 in omega (arith, o, c.len-2.ensures)) in
    let r = the-rows (case_of c.args.case.now) f c.requires.fits c.args.case.now.writes.now c.requires.writes c.in_ok-steps.steps.items e s c.deref-3.result.now c.deref.result.now c.deref-4.result.now c.in_ok-sources.sources.items c.in_ok-lasts.lasts.items c.deref-5.result.now c.deref-6.result.now
    (length c.finals.result.now) c.len-2.result c.deref-3.ensures.value c.deref.ensures.value words count (c.deref-5.ensures.value ∙ c.in_ok-writes.ensures) (c.deref-4.ensures.value ∙ c.in_ok-placed.ensures)
    (c.deref-6.ensures.value ∙ c.in_ok-reads.ensures) c.in_ok-sources.ensures c.in_ok-lasts.ensures in
    rows-inside (case_of c.args.case.now) f c.requires.fits c.args.case.now.writes.now c.requires.writes c.in_ok-steps.steps.items e s c.in_ok-sources.sources.items c.in_ok-lasts.lasts.items r c.deref-14.result.now (length c.deref-13.result.now) c.deref-14.ensures.value (lasts-long (case_of c.args.case.now) f c.requires.fits c.args.case.now.writes.now c.requires.writes c.in_ok-steps.steps.items e s c.in_ok-sources.sources.items c.in_ok-lasts.lasts.items r c.deref-13.result.now c.deref-13.ensures.value)

pub all_nexts-requires-clause-small : goal.all_nexts-requires-clause-small
all_nexts-requires-clause-small c =
    let f = c.threads.ensures.rules in
    let e = case-listed c.args.case.now c.in_ok-steps.steps c.requires c.in_ok-steps.ensures in
    let s : length c.in_ok-steps.steps.items < 2 ^ 32 = (let o = c.in_ok-steps.steps.ok.0 in omega (arith, o, c.len.ensures, c.if-len-gt-MOST.false)) in
    let words : length c.finals.result.now ≡ length c.args.case.now.log.now.last_tags = ap length c.finals.ensures.value in
    let count : c.len-2.result ≡ length c.in_ok-steps.steps.items = (let o = c.in_ok-steps.steps.ok.0 in omega (arith, o, c.len-2.ensures)) in
    let r = the-rows (case_of c.args.case.now) f c.requires.fits c.args.case.now.writes.now c.requires.writes c.in_ok-steps.steps.items e s c.deref-3.result.now c.deref.result.now c.deref-4.result.now c.in_ok-sources.sources.items c.in_ok-lasts.lasts.items c.deref-5.result.now c.deref-6.result.now
    (length c.finals.result.now) c.len-2.result c.deref-3.ensures.value c.deref.ensures.value words count (c.deref-5.ensures.value ∙ c.in_ok-writes.ensures) (c.deref-4.ensures.value ∙ c.in_ok-placed.ensures)
    (c.deref-6.ensures.value ∙ c.in_ok-reads.ensures) c.in_ok-sources.ensures c.in_ok-lasts.ensures in
    rows-small (case_of c.args.case.now) f c.requires.fits c.args.case.now.writes.now c.requires.writes c.in_ok-steps.steps.items e s c.in_ok-sources.sources.items c.in_ok-lasts.lasts.items r c.deref-14.result.now c.deref-14.ensures.value

pub invariant_of-result : goal.invariant_of-result
invariant_of-result c =
    let f = c.threads.ensures.rules in
    let e = case-listed c.args.case.now c.in_ok-steps.steps c.requires c.in_ok-steps.ensures in
    let s : length c.in_ok-steps.steps.items < 2 ^ 32 = (let o = c.in_ok-steps.steps.ok.0 in omega (arith, o, c.len.ensures, c.if-len-gt-MOST.false)) in
    let words : length c.finals.result.now ≡ length c.args.case.now.log.now.last_tags = ap length c.finals.ensures.value in
    let count : c.len-2.result ≡ length c.in_ok-steps.steps.items = (let o = c.in_ok-steps.steps.ok.0 in omega (arith, o, c.len-2.ensures)) in
    let r = the-rows (case_of c.args.case.now) f c.requires.fits c.args.case.now.writes.now c.requires.writes c.in_ok-steps.steps.items e s c.deref-3.result.now c.deref.result.now c.deref-4.result.now c.in_ok-sources.sources.items c.in_ok-lasts.lasts.items c.deref-5.result.now c.deref-6.result.now
    (length c.finals.result.now) c.len-2.result c.deref-3.ensures.value c.deref.ensures.value words count (c.deref-5.ensures.value ∙ c.in_ok-writes.ensures) (c.deref-4.ensures.value ∙ c.in_ok-placed.ensures)
    (c.deref-6.ensures.value ∙ c.in_ok-reads.ensures) c.in_ok-sources.ensures c.in_ok-lasts.ensures in
    let steps : List Event = c.in_ok-steps.steps.items in
    let log : Log = c.args.case.now.log.now in
    let P : Audited → Type 0 = λ a. IsPlacing a steps c.in_ok-counts.counts.items c.in_ok-base.base.items c.in_ok-sources.sources.items c.in_ok-lasts.lasts.items c.in_ok-starts.starts.items c.in_ok-nexts.nexts.items in
    let view : record { program = c.of.result.value; log = c.of-2.result.value; order = c.of-3.result.value.items } ≡ case_of c.args.case.now =
    λ i. record { program = c.of.ensures i; log = c.of-2.ensures i; order = (c.of-3.ensures i).items } in
    subst P (sym view) (record {
      formed = f;
      fits = c.requires.fits;
      small = s;
      listed = e;
      counted = counts-right (case_of c.args.case.now) f c.requires.fits c.args.case.now.writes.now c.requires.writes c.in_ok-steps.steps.items e s c.deref-7.result.now c.in_ok-counts.counts.items (length c.threads.result.now) c.deref-7.ensures.value (ap length c.threads.ensures.value) c.in_ok-counts.ensures;
      edges = base-right (case_of c.args.case.now) f c.requires.fits c.args.case.now.writes.now c.requires.writes c.in_ok-steps.steps.items e s c.in_ok-sources.sources.items c.in_ok-lasts.lasts.items r c.deref.result.now c.deref-2.result.now c.deref-8.result.now c.deref-10.result.now c.in_ok-base.base.items c.deref-9.result.now c.deref.ensures.value c.deref-2.ensures.value
          (c.deref-8.ensures.value ∙ c.in_ok-placed.ensures) c.deref-9.ensures.value (c.deref-10.ensures.value ∙ c.in_ok-last_tags.ensures) c.in_ok-base.ensures;
      rows = r;
      begun =
          c.in_ok-starts.ensures ∙ ap (λ (es : List Event). map (starts_in es (length c.threads.result.now)) c.deref-12.result.now) c.deref-11.ensures.value ∙
          ap (λ (n : ℕ). map (starts_in steps n) c.deref-12.result.now) (ap length c.threads.ensures.value) ∙ ap (map (starts_in steps (length log.threads))) c.deref-12.ensures.value;
      many = c.in_ok-nexts.ensures.count ∙ ap length c.deref-14.ensures.value;
      next = λ word l.
          let Q : List (List ℕ) → Type 0 = λ ls. AreNexts ls (row_at c.in_ok-sources.sources.items word) (row_at c.in_ok-nexts.nexts.items word) in
          let S : List (List ℕ) → Type 0 = λ ss. AreNexts c.deref-13.result.now (row_at ss word) (row_at c.in_ok-nexts.nexts.items word) in
          let m = ap length c.deref-14.ensures.value in
          subst Q c.deref-13.ensures.value (subst S c.deref-14.ensures.value (c.in_ok-nexts.ensures.each word (omega (arith, l, m))));
    })
