use Rattle.std.proofs.Common.{◌≡◌, ◌+◌, ◌<◌, ◌∷◌, [], ℕ, List, length, sym, ◌∙◌, ap, subst, arith, length-append}
use Rattle.std.specs.Prelude.{Some, slice_get}
use Rattle.std.proofs.lemmas.Option.{slice_get-get_or}
use Rattle.agg_evaluation.specs.Matching.{matches}
use Rattle.agg_evaluation.specs.Rows.{no_row, roots, row_of}
use Rattle.agg_evaluation.specs.Trace.{matched}
use Rattle.collect_tree.specs.Blocks.{IsBlock}
use Rattle.collect_tree.specs.Phases.{collected_before}
use Rattle.collect_tree.specs.declared.phase.Phase.TheVariants.{Matched}
use Rattle.collect_tree.proofs.Counting.{bit-is, count-more, count-same, filter-at}
use Rattle.collect_tree.proofs.Listing.{HasListed, block-more, block-none}
use Rattle.collect_tree.proofs.charging.list_matched.Goals as goal
use Rattle.collect_tree.proofs.charging.list_matched.Goals.{then-get+in_ok-push, else-get}

pub loop-place-init : goal.loop-place-init
loop-place-init c =
    let shard = c.args.shard.now in
    let search = c.args.search.now in
    let first = collected_before search shard.rows Matched c.args.start in
    record {
      block = subst (IsBlock shard search Matched first) (sym c.clear.ensures.items) (block-none shard search Matched first);
      many = let none = ap (λ (rows : List ℕ). length rows) c.clear.ensures.items in omega (arith, none);
    }

pub loop-place-preserved : goal.loop-place-preserved
loop-place-preserved c =
    let shard = c.args.shard.now in
    let search = c.args.search.now in
    let place = c.loop-place.place in
    let all = roots shard.rows in
    let q = matches shard.rows search.query in
    let first = collected_before search shard.rows Matched c.args.start in
    let rows = c.loop-place.rows.items in
    let many = c.loop-place.invariant.many in
    let below : place < length all = omega (arith, c.loop-place-test.true, c.requires.within) in
    let at = slice_get-get_or all place no_row below in
    let bit = bit-is q all c.args.matched.now place _ c.get.result c.requires.matched at c.get.ensures in
    let At : List ℕ → Type 0 = λ (rs : List ℕ). HasListed shard search first (collected_before search shard.rows Matched (place + 1)) rs in
    elim c.if-get.branch [
      | then-get+in_ok-push w ↦
          let here : slice_get (matched search shard.rows) (first + length rows) ≡ Some (row_of shard.rows w.root.result) =
          ap (λ (n : ℕ). slice_get (matched search shard.rows) n) many ∙ filter-at q all place _ at (bit ∙ w.if-get.true) ∙ sym at ∙ w.root.ensures.row in
          let longer = ap (λ (rs : List ℕ). length rs) w.in_ok-push.ensures.items in
          let parts = length-append rows (w.root.result ∷ []) in
          let more = count-more q all place _ at (bit ∙ w.if-get.true) in
          subst At (sym (ap (λ v. v.items) w.rows-is))
          (record {
            block = subst (IsBlock shard search Matched first) (sym w.in_ok-push.ensures.items) (block-more shard search Matched first rows w.root.result c.loop-place.invariant.block w.root.ensures.number here);
            many = omega (arith, many, longer, parts, more);
          })
      | else-get w ↦
          let same = count-same q all place _ at (bit ∙ w.if-get.false) in
          subst At (sym (ap (λ v. v.items) w.rows-is))
          (record {
            block = c.loop-place.invariant.block;
            many = omega (arith, many, same);
          })
    ]

pub returns-clause-many : goal.returns-clause-many
returns-clause-many c =
    let end : c.loop-place.place ≡ c.args.end = omega (arith, c.loop-place-test.false, c.loop-place.auto.place-end, c.requires.order) in
    c.loop-place.invariant.many ∙ ap (collected_before c.args.search.now c.args.shard.now.rows Matched) end
