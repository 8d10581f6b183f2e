use Rattle.std.proofs.Common.{rules, arith, ◌∙◌, ◌++◌, refl, ap, length}
use Rattle.agg_base.proofs.Gave.{gave_nothing, gave_then}
use Rattle.agg_reading.specs.Entries.{no_more}
use Rattle.script_answers.specs.Stepping.{bodies_of}
use Rattle.script_answers.proofs.Sections.{so-started, so-more, so-stopped, so-finished, so-unfinished, so-ended}
use Rattle.script_answers.proofs.Widths.{ready-at}
use Rattle.script_answers.proofs.running.answer_script.Goals as goal

pub loop-entry-init : goal.loop-entry-init
loop-entry-init g c = record {
  kept = c.requires.kept;
  ready = record { some = c.requires.in_range.some_search; wide = c.requires.wide; short = omega (arith, ap length c.new.ensures, c.requires.in_range.some_search) };
  same_index = refl;
  same_columns = refl;
  reads_never_fall = search rules;
  writes_never_fall = search rules;
  gave = gave_nothing;
  same_source = refl;
  so_far = λ start may bytes whole read. rw c.new.ensures (start, so-started _ _ _ whole bytes start _ _ _ _ _ read, may);
}

pub loop-entry-preserved : goal.loop-entry-preserved
loop-entry-preserved g c =
    let before = c.loop-entry.invariant in
    let takes = rw (before.same_index, before.same_columns) at c.in-Ok.ensures.takes in
    record {
      kept = c.in-Ok-Some.ensures.kept;
      ready = c.in-Ok.ensures.ready;
      same_index = c.in-Ok.ensures.same_index ∙ before.same_index;
      same_columns = c.in-Ok.ensures.same_columns ∙ before.same_columns;
      reads_never_fall = omega (arith, before.reads_never_fall, c.next_entry.ensures.never_falls);
      writes_never_fall = omega (arith, before.writes_never_fall, c.take_entry.ensures.never_falls);
      gave = gave_then before.gave c.next_entry.ensures.gave;
      same_source = c.next_entry.ensures.same_source ∙ before.same_source;
      so_far = λ start may bytes whole read.
          let found = before.so_far start may bytes whole read in
          let so = found.1 in
          let taken = takes found.0 found.2 in
          let next = rw c.in-Ok-Some.field-0-is at c.in-Ok-Some.ensures.script bytes whole (so.answered ++ bodies_of c.loop-entry.waiting.wave) so.read in
          (taken.0, so-more _ _ _ _ _ _ _ _ _ _ _ _ _ _ so _ _ _ _ _ _ _ _ next taken.1, taken.2);
    }

pub returns-in-Err-take_entry-clause-output : goal.returns-in-Err-take_entry-clause-output
returns-in-Err-take_entry-clause-output g c start may bytes whole read =
    let before = c.loop-entry.invariant in
    let found = before.so_far start may bytes whole read in
    let so = found.1 in
    let next = rw c.in-Ok-Some.field-0-is at c.in-Ok-Some.ensures.script bytes whole (so.answered ++ bodies_of c.loop-entry.waiting.wave) so.read in
    rw c.stopped.ensures (so-stopped _ _ _ _ _ _ _ _ _ _ _ _ _ _ so _ _ _ _ _ _ _ _ next (λ rest. (rw (before.same_index, before.same_columns) at c.in-Err-take_entry.ensures.stops) found.0 found.2 rest))

pub returns-in-Ok-finish-clause-output : goal.returns-in-Ok-finish-clause-output
returns-in-Ok-finish-clause-output g c start may bytes whole read =
    let before = c.loop-entry.invariant in
    let found = before.so_far start may bytes whole read in
    let so = found.1 in
    let end = rw c.in-Ok-None.field-0-is at c.in-Ok-None.ensures.script bytes whole (so.answered ++ bodies_of c.loop-entry.waiting.wave) so.read in
    let finishes = rw (before.same_index, before.same_columns) at c.in-Ok-finish.ensures.finishes in
    so-finished _ _ _ _ _ _ _ _ _ _ _ _ _ _ so _ no_more end (finishes found.0 found.2)

pub returns-in-Err-finish-clause-output : goal.returns-in-Err-finish-clause-output
returns-in-Err-finish-clause-output g c start may bytes whole read =
    let before = c.loop-entry.invariant in
    let found = before.so_far start may bytes whole read in
    let so = found.1 in
    let end = rw c.in-Ok-None.field-0-is at c.in-Ok-None.ensures.script bytes whole (so.answered ++ bodies_of c.loop-entry.waiting.wave) so.read in
    let stops = rw (before.same_index, before.same_columns) at c.in-Err-finish.ensures.stops in
    rw c.stopped-in-Err-finish.ensures (so-unfinished _ _ _ _ _ _ _ _ _ _ _ _ _ _ so _ _ _ end (stops found.0 found.2))

pub returns-in-Err-clause-output : goal.returns-in-Err-clause-output
returns-in-Err-clause-output g c start may bytes whole read =
    let before = c.loop-entry.invariant in
    let found = before.so_far start may bytes whole read in
    let so = found.1 in
    let end = c.in-Err.ensures.script bytes whole (so.answered ++ bodies_of c.loop-entry.waiting.wave) so.read in
    so-ended _ _ _ _ _ _ _ _ _ _ _ _ _ _ so _ _ c.in-Err.fault _ (ready-at _ _ _ _ before.ready found.2.settings_are) end c.end_at.ensures.ends

pub returns-in-Err-take_entry-clause-gave : goal.returns-in-Err-take_entry-clause-gave
returns-in-Err-take_entry-clause-gave g c = gave_then c.loop-entry.invariant.gave c.next_entry.ensures.gave

pub returns-in-Ok-finish-clause-gave : goal.returns-in-Ok-finish-clause-gave
returns-in-Ok-finish-clause-gave g c = gave_then c.loop-entry.invariant.gave c.next_entry.ensures.gave

pub returns-in-Err-finish-clause-gave : goal.returns-in-Err-finish-clause-gave
returns-in-Err-finish-clause-gave g c = gave_then c.loop-entry.invariant.gave c.next_entry.ensures.gave

pub returns-in-Err-clause-gave : goal.returns-in-Err-clause-gave
returns-in-Err-clause-gave g c = gave_then c.loop-entry.invariant.gave c.next_entry.ensures.gave
