use Rattle.std.proofs.Common.{List, sym, ◌∙◌, subst}
use Rattle.std.specs.Prelude.{None}
use Rattle.dep_log.specs.AccessLogs.{Entry}
use Rattle.dep_log.specs.Buckets.{AreOnce, IsPlaceOf}
use Rattle.dep_log.proofs.MoreReads.{any_none, with_read-new, once-push}
use Rattle.dep_log.proofs.buckets.note.Goals as goal

pub push-requires-clause-few : goal.push-requires-clause-few
push-requires-clause-few c =
    let none = subst (λ (es : List Entry). IsPlaceOf es c.args.word c.args.source None) c.deref.ensures.value c.in-None.ensures in
    (c.requires.room (any_none c.args.entries.now.items c.args.word c.args.source none)).few

pub push-requires-clause-entry_room : goal.push-requires-clause-entry_room
push-requires-clause-entry_room c =
    let none = subst (λ (es : List Entry). IsPlaceOf es c.args.word c.args.source None) c.deref.ensures.value c.in-None.ensures in
    (c.requires.room (any_none c.args.entries.now.items c.args.word c.args.source none)).entry

pub push-requires-clause-older_room : goal.push-requires-clause-older_room
push-requires-clause-older_room c =
    let none = subst (λ (es : List Entry). IsPlaceOf es c.args.word c.args.source None) c.deref.ensures.value c.in-None.ensures in
    (c.requires.room (any_none c.args.entries.now.items c.args.word c.args.source none)).link

pub returns-in-None-clause-items : goal.returns-in-None-clause-items
returns-in-None-clause-items c =
    let none = subst (λ (es : List Entry). IsPlaceOf es c.args.word c.args.source None) c.deref.ensures.value c.in-None.ensures in
    c.push.ensures.items ∙ with_read-new c.args.entries.now.items c.args.word c.args.source c.args.step none

pub returns-in-None-clause-once : goal.returns-in-None-clause-once
returns-in-None-clause-once c =
    let none = subst (λ (es : List Entry). IsPlaceOf es c.args.word c.args.source None) c.deref.ensures.value c.in-None.ensures in
    let entry : Entry = record { word = c.args.word; source = c.args.source; first = c.args.step; last = c.args.step } in
    subst AreOnce (sym c.push.ensures.items) (once-push c.args.entries.now.items entry c.requires.once none)
