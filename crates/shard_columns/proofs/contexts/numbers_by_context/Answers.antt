use Rattle.std.proofs.Common.{◌≡◌, ℕ, ◌+◌, ◌<◌, length, get_or, List, [], ◌∷◌, ◌++◌, take, set, sym, ◌∙◌, ap, subst, arith}
use Rattle.std.proofs.lemmas.List.{get_or_read}
use Rattle.shard_columns.specs.declared.layout.Entry.{Entry}
use Rattle.shard_columns.specs.declared.layout.Origin.TheVariants.{Root}
use Rattle.shard_columns.specs.Contexts.{AreNumbered}
use Rattle.shard_columns.specs.Layout.{context_of}
use Rattle.shard_columns.proofs.Storing.{get_or-any}
use Rattle.shard_columns.proofs.Numbering.{AreNumbered-more}
use Rattle.shard_columns.proofs.contexts.numbers_by_context.Goals as goal

pub loop-place-preserved : goal.loop-place-preserved
loop-place-preserved c =
    let rows = c.args.rows.now in
    let n = c.loop-place.place in
    let d : Entry = record { document = 0; origin = Root } in
    let now = c.loop-place.numbers.items in
    let below : n < length rows = omega (arith, c.loop-place-test.true, c.len-place-end.ensures) in
    let context_is : c.context.result ≡ context_of (get_or rows n d).origin = c.context.ensures ∙ ap (λ (e : Entry). context_of e.origin) (c.at.ensures ∙ get_or-any rows n c.at.result d below) in
    let in_range = subst (λ (k : ℕ). k < c.args.count) (sym context_is) (c.requires.contexts n d below) in
    subst (λ (new : List ℕ). AreNumbered c.args.count (take (n + 1) rows) (set now c.context.result new))
    (sym (c.in_ok-push.ensures.ok ∙ ap (λ (ns : List ℕ). ns ++ n ∷ []) (get_or_read now c.context.result c.index_mut.result.now (omega (arith, in_range, c.loop-place.invariant.sizes)) c.index_mut.ensures.value [])))
    (AreNumbered-more c.args.count rows n c.context.result d now below in_range context_is c.loop-place.invariant)
