use Rattle.std.proofs.Common.{refl, ◌∙◌, sym, ap, add-zero, arith, length}
use Rattle.std.specs.Prelude.{nat_le}
use Rattle.agg_model.specs.declared.aggregation.Agg.{out-Agg}
use Rattle.composite_agg.specs.Odometer.{chosen_key}
use Rattle.growing_tree.specs.Gathered.{decoders, gatherers, rows_at}
use Rattle.growing_page.specs.GrowingPages.{buckets_of}
use Rattle.growing_page.specs.declared.page.Page.{Page}
use Rattle.growing_page.proofs.Changes.{buckets-grown, buckets-put, cost-grown, cost-put, costs-there, page-grown, page-put}
use Rattle.growing_page.proofs.Moves.{refused}
use Rattle.growing_page.proofs.Putting.{fresh}
use Rattle.growing_page.proofs.gathering.put_chosen.Goals as goal

pub returns-then-is_refused_by-clause-buckets : goal.returns-then-is_refused_by-clause-buckets
returns-then-is_refused_by-clause-buckets c =
    let k = (out-Agg c.args.agg.now).kind in
    let shard = c.args.shard.now in
    let ds = decoders shard c.args.ready.now in
    let gs = gatherers shard (out-Agg c.args.agg.now).children in
    let rows = rows_at shard c.args.rows.now in
    let q = chosen_key c.args.combinations.now in
    let p = c.args.page.now in
    refused k c.requires.composite ds gs rows q (buckets_of p) c.requires.page.kept c.requires.parts (sym c.is_refused_by.ensures ∙ c.if-is_refused_by.true)

pub grow-requires-clause-costs : goal.grow-requires-clause-costs
grow-requires-clause-costs c =
    let k = (out-Agg c.args.agg.now).kind in
    let shard = c.args.shard.now in
    let ds = decoders shard c.args.ready.now in
    let gs = gatherers shard (out-Agg c.args.agg.now).children in
    let rows = rows_at shard c.args.rows.now in
    let q = chosen_key c.args.combinations.now in
    let p = c.args.page.now in
    let s = c.in-Ok.spot in
    let v = c.index_mut.result.now in
    let h = c.index_mut-bucket.result.now in
    costs-there k c.requires.composite ds gs rows q p c.requires.page c.requires.parts s c.in-Ok.ensures.found v h c.index_mut.ensures.value c.index_mut-bucket.ensures.value

pub returns-in_ok-added-in-Ok-clause-buckets : goal.returns-in_ok-added-in-Ok-clause-buckets
returns-in_ok-added-in-Ok-clause-buckets c =
    let k = (out-Agg c.args.agg.now).kind in
    let shard = c.args.shard.now in
    let ds = decoders shard c.args.ready.now in
    let gs = gatherers shard (out-Agg c.args.agg.now).children in
    let rows = rows_at shard c.args.rows.now in
    let q = chosen_key c.args.combinations.now in
    let p = c.args.page.now in
    let s = c.in-Ok.spot in
    let v = c.index_mut.result.now in
    let h = c.index_mut-bucket.result.now in
    buckets-grown k c.requires.composite ds gs rows q p c.requires.page c.requires.parts s c.in-Ok.ensures.found v h c.index_mut.ensures.value c.index_mut-bucket.ensures.value c.grow.new.bucket c.in_ok-added-in-Ok.ensures.bucket _ refl

pub returns-in_ok-added-in-Ok-clause-page : goal.returns-in_ok-added-in-Ok-clause-page
returns-in_ok-added-in-Ok-clause-page c =
    let k = (out-Agg c.args.agg.now).kind in
    let shard = c.args.shard.now in
    let ds = decoders shard c.args.ready.now in
    let gs = gatherers shard (out-Agg c.args.agg.now).children in
    let rows = rows_at shard c.args.rows.now in
    let q = chosen_key c.args.combinations.now in
    let p = c.args.page.now in
    let s = c.in-Ok.spot in
    let v = c.index_mut.result.now in
    let h = c.index_mut-bucket.result.now in
    page-grown k c.requires.composite ds gs rows q p c.requires.page c.requires.parts s c.in-Ok.ensures.found v h c.index_mut.ensures.value c.index_mut-bucket.ensures.value c.grow.new.bucket c.in_ok-added-in-Ok.ensures.bucket _ refl refl refl c.in_ok-added-in-Ok.ensures.costs

pub returns-in_ok-added-in-Ok-clause-cost : goal.returns-in_ok-added-in-Ok-clause-cost
returns-in_ok-added-in-Ok-clause-cost c =
    let k = (out-Agg c.args.agg.now).kind in
    let shard = c.args.shard.now in
    let ds = decoders shard c.args.ready.now in
    let gs = gatherers shard (out-Agg c.args.agg.now).children in
    let rows = rows_at shard c.args.rows.now in
    let q = chosen_key c.args.combinations.now in
    let p = c.args.page.now in
    let s = c.in-Ok.spot in
    let v = c.index_mut.result.now in
    let h = c.index_mut-bucket.result.now in
    add-zero _ ∙ cost-grown k c.requires.composite ds gs rows q p c.requires.page c.requires.parts s c.in-Ok.ensures.found v h c.index_mut.ensures.value c.index_mut-bucket.ensures.value c.grow.new.bucket c.in_ok-added-in-Ok.ensures.bucket _ refl c.in_ok-added-in-Ok.added c.in_ok-added-in-Ok.ensures.costs c.in_ok-added-in-Ok.ensures.added

pub returns-in_ok-left-in-Err-clause-buckets : goal.returns-in_ok-left-in-Err-clause-buckets
returns-in_ok-left-in-Err-clause-buckets c =
    let k = (out-Agg c.args.agg.now).kind in
    let shard = c.args.shard.now in
    let ds = decoders shard c.args.ready.now in
    let gs = gatherers shard (out-Agg c.args.agg.now).children in
    let rows = rows_at shard c.args.rows.now in
    let q = chosen_key c.args.combinations.now in
    let p = c.args.page.now in
    let h = c.in_ok-bucket-in-Err.bucket in
    let new_is = c.in_ok-bucket-in-Err.ensures.bucket ∙ ap (fresh gs rows) c.in_ok-key-in-Err.ensures in
    let inside = sym c.is_refused_by.ensures ∙ c.if-is_refused_by.false in
    let left = c.in_ok-left-in-Err.left in
    let full = c.in_ok-left-in-Err.ensures.full ∙ ap (λ n. nat_le n (length (buckets_of p))) c.size_of_composite-size.ensures in
    let after : Page = record { held = c.enter.new.held; runs = c.enter.new.runs; lasts = c.note.new.self; guesses = p.guesses } in
    buckets-put k c.requires.composite ds gs rows q p c.requires.page c.requires.parts inside c.in-Err.spot c.in-Err.ensures.absent h new_is c.in_ok-bucket-in-Err.ensures.costs after left c.in_ok-left-in-Err.ensures.items full

pub returns-in_ok-left-in-Err-clause-page : goal.returns-in_ok-left-in-Err-clause-page
returns-in_ok-left-in-Err-clause-page c =
    let k = (out-Agg c.args.agg.now).kind in
    let shard = c.args.shard.now in
    let ds = decoders shard c.args.ready.now in
    let gs = gatherers shard (out-Agg c.args.agg.now).children in
    let rows = rows_at shard c.args.rows.now in
    let q = chosen_key c.args.combinations.now in
    let p = c.args.page.now in
    let h = c.in_ok-bucket-in-Err.bucket in
    let new_is = c.in_ok-bucket-in-Err.ensures.bucket ∙ ap (fresh gs rows) c.in_ok-key-in-Err.ensures in
    let inside = sym c.is_refused_by.ensures ∙ c.if-is_refused_by.false in
    let left = c.in_ok-left-in-Err.left in
    let full = c.in_ok-left-in-Err.ensures.full ∙ ap (λ n. nat_le n (length (buckets_of p))) c.size_of_composite-size.ensures in
    let after : Page = record { held = c.enter.new.held; runs = c.enter.new.runs; lasts = c.note.new.self; guesses = p.guesses } in
    page-put k c.requires.composite ds gs rows q p c.requires.page c.requires.parts inside c.in-Err.spot c.in-Err.ensures.absent h new_is c.in_ok-bucket-in-Err.ensures.costs after left c.in_ok-left-in-Err.ensures.items full c.enter.ensures.filled c.enter.ensures.held

pub returns-in_ok-left-in-Err-clause-cost : goal.returns-in_ok-left-in-Err-clause-cost
returns-in_ok-left-in-Err-clause-cost c =
    let k = (out-Agg c.args.agg.now).kind in
    let shard = c.args.shard.now in
    let ds = decoders shard c.args.ready.now in
    let gs = gatherers shard (out-Agg c.args.agg.now).children in
    let rows = rows_at shard c.args.rows.now in
    let q = chosen_key c.args.combinations.now in
    let p = c.args.page.now in
    let h = c.in_ok-bucket-in-Err.bucket in
    let new_is = c.in_ok-bucket-in-Err.ensures.bucket ∙ ap (fresh gs rows) c.in_ok-key-in-Err.ensures in
    let inside = sym c.is_refused_by.ensures ∙ c.if-is_refused_by.false in
    let left = c.in_ok-left-in-Err.left in
    let full = c.in_ok-left-in-Err.ensures.full ∙ ap (λ n. nat_le n (length (buckets_of p))) c.size_of_composite-size.ensures in
    let after : Page = record { held = c.enter.new.held; runs = c.enter.new.runs; lasts = c.note.new.self; guesses = p.guesses } in
    let all = cost-put k c.requires.composite ds gs rows q p c.requires.page c.requires.parts inside c.in-Err.spot c.in-Err.ensures.absent h new_is c.in_ok-bucket-in-Err.ensures.costs after left c.in_ok-left-in-Err.ensures.items full in
    omega (arith, all, c.bytes_of.ensures)
