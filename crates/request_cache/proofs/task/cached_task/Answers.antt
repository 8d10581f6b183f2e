use Rattle.std.proofs.Common.{◌≡◌, ◌∙◌, sym, ap, subst, inl, refl}
use Rattle.std.specs.Prelude.{◌<◌, ◌+◌, ◌≤◌, List, None, Some, length, slice_get}
use Rattle.agg_evaluation.specs.Cost.{cost}
use Rattle.agg_evaluation.specs.Rows.{PlacedRow}
use Rattle.agg_evaluation.specs.Shard.{shard_answer}
use Rattle.agg_model.specs.declared.partial.Partial.{Partial}
use Rattle.agg_spec.specs.Index.{rows_in}
use Rattle.cache_spec.specs.Cache.{entry_of}
use Rattle.collect_tree.specs.Ends.{IfDone}
use Rattle.collect_tree.specs.Room.{HasRoom}
use Rattle.fitting_laws.specs.Indexes.{index_of}
use Rattle.request_cache.specs.Entries.{entries_in, has_entry}
use Rattle.request_cache.proofs.ShardRooms.{room-at, rows-here, shard-there}
use Rattle.request_cache.proofs.TaskEnds.{entry-is, if-done, if-refused, is-kept, is-not-kept, kept-done, kept-entries, kept-refused, run-done, run-kept, run-memory, run-not-kept, run-refused}
use Rattle.shard_columns.specs.Columns.{Columns}
use Rattle.shard_columns.specs.declared.index.Index.{Index as ShardIndex}
use Rattle.request_cache.proofs.task.cached_task.Goals as goal

pub returns-in_default-clause-memory : goal.returns-in_default-clause-memory
returns-in_default-clause-memory c = inl refl

pub charge_kept-requires-clause-room : goal.charge_kept-requires-clause-room
charge_kept-requires-clause-room c =
    let is = entry-is c.in-Ok.entry c.args.search.now c.args.shard c.in-Ok.ensures.shard c.in-Ok.ensures.search in
    let kept = is-kept (index_of c.args.cache.now.index.now) c.args.cache.now.entries c.args.search.now c.args.shard c.in-Ok.entry is
    c.in-Ok-Some.field-0 c.in-Ok-Some.ensures.found c.in-Ok-Some.answer c.in-Ok-Some.field-0-is in
    subst (λ (p : Partial). c.args.pass.now.view.accounts.parent.hold + cost p ≤ c.args.pass.now.view.cap) (sym kept.1)
    (room-at c.args.cache.now.index.now.shards c.args.shard c.args.search.now c.args.pass.now.view c.requires.place c.requires.made c.requires.room)

pub run_and_keep-requires-clause-made : goal.run_and_keep-requires-clause-made
run_and_keep-requires-clause-made c =
    let s = c.index-as_slice-shard.result in
    let same = c.as_slice.ensures ∙ ap (λ (i : ShardIndex). i.shards) (c.index.ensures ∙ c.in-Ok-None.ensures.index) in
    let at : slice_get c.args.cache.now.index.now.shards c.args.shard ≡ Some s =
    subst (λ (xs : List Columns). slice_get xs c.args.shard ≡ Some s) same
    (shard-there c.as_slice.result.now c.args.shard s (subst (λ (xs : List Columns). c.args.shard < length xs) (sym same) c.requires.place) c.index-as_slice-shard.is) in
    c.requires.made s at

pub returns-in-Ok-Some-clause-done : goal.returns-in-Ok-Some-clause-done
returns-in-Ok-Some-clause-done c =
    let is = entry-is c.in-Ok.entry c.args.search.now c.args.shard c.in-Ok.ensures.shard c.in-Ok.ensures.search in
    let index = index_of c.args.cache.now.index.now in
    let kept = is-kept index c.args.cache.now.entries c.args.search.now c.args.shard c.in-Ok.entry is
    c.in-Ok-Some.field-0 c.in-Ok-Some.ensures.found c.in-Ok-Some.answer c.in-Ok-Some.field-0-is in
    kept-done c.args.words.now.limits c.args.pass.now.view c.charge_kept.new.pass.view c.args.search.now (rows_in index c.args.shard)
    (has_entry c.args.cache.now.entries (entry_of c.args.search.now c.args.shard)) c.in-Ok-Some.answer kept c.charge_kept.result c.charge_kept.ensures.done

pub returns-in-Ok-Some-clause-refused : goal.returns-in-Ok-Some-clause-refused
returns-in-Ok-Some-clause-refused c =
    let is = entry-is c.in-Ok.entry c.args.search.now c.args.shard c.in-Ok.ensures.shard c.in-Ok.ensures.search in
    let index = index_of c.args.cache.now.index.now in
    let kept = is-kept index c.args.cache.now.entries c.args.search.now c.args.shard c.in-Ok.entry is
    c.in-Ok-Some.field-0 c.in-Ok-Some.ensures.found c.in-Ok-Some.answer c.in-Ok-Some.field-0-is in
    kept-refused c.args.words.now.limits c.args.pass.now.view c.charge_kept.new.pass.view c.args.search.now (rows_in index c.args.shard)
    (has_entry c.args.cache.now.entries (entry_of c.args.search.now c.args.shard)) c.in-Ok-Some.answer kept c.charge_kept.result
    c.charge_kept.ensures.refused c.charge_kept.ensures.some

pub returns-in-Ok-Some-clause-answer : goal.returns-in-Ok-Some-clause-answer
returns-in-Ok-Some-clause-answer c =
    let is = entry-is c.in-Ok.entry c.args.search.now c.args.shard c.in-Ok.ensures.shard c.in-Ok.ensures.search in
    let index = index_of c.args.cache.now.index.now in
    let kept = is-kept index c.args.cache.now.entries c.args.search.now c.args.shard c.in-Ok.entry is
    c.in-Ok-Some.field-0 c.in-Ok-Some.ensures.found c.in-Ok-Some.answer c.in-Ok-Some.field-0-is in
    subst (λ (x : Partial). IfDone c.charge_kept.result (λ p. p ≡ x)) kept.1 c.charge_kept.ensures.answer

pub returns-in-Ok-Some-clause-kept : goal.returns-in-Ok-Some-clause-kept
returns-in-Ok-Some-clause-kept c =
    let is = entry-is c.in-Ok.entry c.args.search.now c.args.shard c.in-Ok.ensures.shard c.in-Ok.ensures.search in
    let index = index_of c.args.cache.now.index.now in
    let kept = is-kept index c.args.cache.now.entries c.args.search.now c.args.shard c.in-Ok.entry is
    c.in-Ok-Some.field-0 c.in-Ok-Some.ensures.found c.in-Ok-Some.answer c.in-Ok-Some.field-0-is in
    if-done c.charge_kept.result (kept-entries c.args.cache.now.entries c.in-Ok.entry (entry_of c.args.search.now c.args.shard) is
    (entries_in c.look.new.self.entries) c.in-Ok-Some.ensures.entries kept.0 None)

pub returns-in-Ok-Some-clause-not_kept : goal.returns-in-Ok-Some-clause-not_kept
returns-in-Ok-Some-clause-not_kept c =
    let is = entry-is c.in-Ok.entry c.args.search.now c.args.shard c.in-Ok.ensures.shard c.in-Ok.ensures.search in
    let index = index_of c.args.cache.now.index.now in
    let kept = is-kept index c.args.cache.now.entries c.args.search.now c.args.shard c.in-Ok.entry is
    c.in-Ok-Some.field-0 c.in-Ok-Some.ensures.found c.in-Ok-Some.answer c.in-Ok-Some.field-0-is in
    if-refused c.charge_kept.result (λ t. kept-entries c.args.cache.now.entries c.in-Ok.entry (entry_of c.args.search.now c.args.shard) is
    (entries_in c.look.new.self.entries) c.in-Ok-Some.ensures.entries kept.0 (Some t))

pub returns-in-Ok-None-clause-done : goal.returns-in-Ok-None-clause-done
returns-in-Ok-None-clause-done c =
    let is = entry-is c.in-Ok.entry c.args.search.now c.args.shard c.in-Ok.ensures.shard c.in-Ok.ensures.search in
    let index = index_of c.args.cache.now.index.now in
    let absent = is-not-kept index c.args.cache.now.entries c.args.search.now c.args.shard c.in-Ok.entry is
    c.in-Ok-None.field-0 c.in-Ok-None.ensures.found c.in-Ok-None.field-0-is in
    let s = c.index-as_slice-shard.result in
    let same = c.as_slice.ensures ∙ ap (λ (i : ShardIndex). i.shards) (c.index.ensures ∙ c.in-Ok-None.ensures.index) in
    let at : slice_get c.args.cache.now.index.now.shards c.args.shard ≡ Some s =
    subst (λ (xs : List Columns). slice_get xs c.args.shard ≡ Some s) same
    (shard-there c.as_slice.result.now c.args.shard s (subst (λ (xs : List Columns). c.args.shard < length xs) (sym same) c.requires.place) c.index-as_slice-shard.is) in
    let here : s.rows ≡ rows_in index c.args.shard = sym (rows-here c.args.cache.now.index.now.shards c.args.shard s at) in
    run-done c.args.words.now.limits c.args.pass.now.view c.run_and_keep.new.pass.view c.args.search.now (rows_in index c.args.shard)
    (has_entry c.args.cache.now.entries (entry_of c.args.search.now c.args.shard)) absent s.rows here c.run_and_keep.result c.run_and_keep.ensures.done

pub returns-in-Ok-None-clause-refused : goal.returns-in-Ok-None-clause-refused
returns-in-Ok-None-clause-refused c =
    let is = entry-is c.in-Ok.entry c.args.search.now c.args.shard c.in-Ok.ensures.shard c.in-Ok.ensures.search in
    let index = index_of c.args.cache.now.index.now in
    let absent = is-not-kept index c.args.cache.now.entries c.args.search.now c.args.shard c.in-Ok.entry is
    c.in-Ok-None.field-0 c.in-Ok-None.ensures.found c.in-Ok-None.field-0-is in
    let s = c.index-as_slice-shard.result in
    let same = c.as_slice.ensures ∙ ap (λ (i : ShardIndex). i.shards) (c.index.ensures ∙ c.in-Ok-None.ensures.index) in
    let at : slice_get c.args.cache.now.index.now.shards c.args.shard ≡ Some s =
    subst (λ (xs : List Columns). slice_get xs c.args.shard ≡ Some s) same
    (shard-there c.as_slice.result.now c.args.shard s (subst (λ (xs : List Columns). c.args.shard < length xs) (sym same) c.requires.place) c.index-as_slice-shard.is) in
    let here : s.rows ≡ rows_in index c.args.shard = sym (rows-here c.args.cache.now.index.now.shards c.args.shard s at) in
    run-refused c.args.words.now.limits c.args.pass.now.view c.run_and_keep.new.pass.view c.args.search.now (rows_in index c.args.shard)
    (has_entry c.args.cache.now.entries (entry_of c.args.search.now c.args.shard)) absent s.rows here c.run_and_keep.result c.run_and_keep.ensures.refused

pub returns-in-Ok-None-clause-answer : goal.returns-in-Ok-None-clause-answer
returns-in-Ok-None-clause-answer c =
    let is = entry-is c.in-Ok.entry c.args.search.now c.args.shard c.in-Ok.ensures.shard c.in-Ok.ensures.search in
    let index = index_of c.args.cache.now.index.now in
    let s = c.index-as_slice-shard.result in
    let same = c.as_slice.ensures ∙ ap (λ (i : ShardIndex). i.shards) (c.index.ensures ∙ c.in-Ok-None.ensures.index) in
    let at : slice_get c.args.cache.now.index.now.shards c.args.shard ≡ Some s =
    subst (λ (xs : List Columns). slice_get xs c.args.shard ≡ Some s) same
    (shard-there c.as_slice.result.now c.args.shard s (subst (λ (xs : List Columns). c.args.shard < length xs) (sym same) c.requires.place) c.index-as_slice-shard.is) in
    let here : s.rows ≡ rows_in index c.args.shard = sym (rows-here c.args.cache.now.index.now.shards c.args.shard s at) in
    subst (λ (rs : List PlacedRow). IfDone c.run_and_keep.result (λ p. p ≡ shard_answer c.args.search.now rs)) here c.run_and_keep.ensures.answer

pub returns-in-Ok-None-clause-memory : goal.returns-in-Ok-None-clause-memory
returns-in-Ok-None-clause-memory c =
    let is = entry-is c.in-Ok.entry c.args.search.now c.args.shard c.in-Ok.ensures.shard c.in-Ok.ensures.search in
    let index = index_of c.args.cache.now.index.now in
    let absent = is-not-kept index c.args.cache.now.entries c.args.search.now c.args.shard c.in-Ok.entry is
    c.in-Ok-None.field-0 c.in-Ok-None.ensures.found c.in-Ok-None.field-0-is in
    let s = c.index-as_slice-shard.result in
    let same = c.as_slice.ensures ∙ ap (λ (i : ShardIndex). i.shards) (c.index.ensures ∙ c.in-Ok-None.ensures.index) in
    let at : slice_get c.args.cache.now.index.now.shards c.args.shard ≡ Some s =
    subst (λ (xs : List Columns). slice_get xs c.args.shard ≡ Some s) same
    (shard-there c.as_slice.result.now c.args.shard s (subst (λ (xs : List Columns). c.args.shard < length xs) (sym same) c.requires.place) c.index-as_slice-shard.is) in
    let here : s.rows ≡ rows_in index c.args.shard = sym (rows-here c.args.cache.now.index.now.shards c.args.shard s at) in
    run-memory c.args.words.now.limits c.args.pass.now.view c.run_and_keep.new.pass.view c.args.search.now (rows_in index c.args.shard)
    (has_entry c.args.cache.now.entries (entry_of c.args.search.now c.args.shard)) absent s.rows here c.run_and_keep.result c.run_and_keep.ensures.memory

pub returns-in-Ok-None-clause-kept : goal.returns-in-Ok-None-clause-kept
returns-in-Ok-None-clause-kept c =
    let is = entry-is c.in-Ok.entry c.args.search.now c.args.shard c.in-Ok.ensures.shard c.in-Ok.ensures.search in
    let index = index_of c.args.cache.now.index.now in
    let absent = is-not-kept index c.args.cache.now.entries c.args.search.now c.args.shard c.in-Ok.entry is
    c.in-Ok-None.field-0 c.in-Ok-None.ensures.found c.in-Ok-None.field-0-is in
    run-kept c.args.cache.now.entries c.in-Ok.entry (entry_of c.args.search.now c.args.shard) is (entries_in c.look.new.self.entries)
    c.in-Ok-None.ensures.entries absent c.run_and_keep.result c.look.new.self.entries.cap c.in-Ok-None.ensures.capacity (entries_in c.run_and_keep.new.cache.entries) c.run_and_keep.ensures.kept

pub returns-in-Ok-None-clause-not_kept : goal.returns-in-Ok-None-clause-not_kept
returns-in-Ok-None-clause-not_kept c =
    let is = entry-is c.in-Ok.entry c.args.search.now c.args.shard c.in-Ok.ensures.shard c.in-Ok.ensures.search in
    let index = index_of c.args.cache.now.index.now in
    let absent = is-not-kept index c.args.cache.now.entries c.args.search.now c.args.shard c.in-Ok.entry is
    c.in-Ok-None.field-0 c.in-Ok-None.ensures.found c.in-Ok-None.field-0-is in
    run-not-kept c.args.cache.now.entries c.in-Ok.entry (entry_of c.args.search.now c.args.shard) is (entries_in c.look.new.self.entries)
    c.in-Ok-None.ensures.entries absent c.run_and_keep.result c.look.new.self.entries.cap c.in-Ok-None.ensures.capacity (entries_in c.run_and_keep.new.cache.entries) c.run_and_keep.ensures.not_kept

pub returns-in-Err-clause-memory : goal.returns-in-Err-clause-memory
returns-in-Err-clause-memory c = inl refl
