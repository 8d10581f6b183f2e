use Rattle.std.proofs.Common.{◌≡◌, ℕ, ◌<◌, List, [], ◌∷◌, ◌++◌, length, map, take, get_or, Some, sym, ◌∙◌, ap, subst, arith}
use Rattle.std.proofs.lemmas.List.{get_or_read, take_all}
use Rattle.std.proofs.lemmas.Option.{slice_get-get_or}
use Rattle.agg_model.specs.declared.key.Key.TheVariants.{Word}
use Rattle.agg_model.specs.declared.partial.Bucket.{Bucket}
use Rattle.agg_model.specs.declared.partial.Node.TheVariants.{Keyed}
use Rattle.list_laws.proofs.Lists.{map-append}
use Rattle.shard_columns.specs.Values.{Words}
use Rattle.shard_columns.specs.Dictionary.{words_of}
use Rattle.terms_agg.specs.Counts.{counted, counted_bucket, word_key}
use Rattle.terms_agg.proofs.Counting.{counted-more, counted-less}
use Rattle.terms_agg.proofs.WholeCounts.{of-raised}
use Rattle.terms_agg.proofs.SizeCounts.{of-sizes}
use Rattle.terms_agg.proofs.counts.Counts.into_node.Goals as goal
use Rattle.terms_agg.proofs.counts.Counts.into_node.Goals.{then-count-gt0+in_ok-of+in_ok-push, else-count-gt0}

pub loop-ordinal-preserved : goal.loop-ordinal-preserved
loop-ordinal-preserved c =
    let words = words_of c.args.field c.args.shard.now.rows in
    let n = c.loop-ordinal.ordinal in
    let turn : n < c.words-ordinal-end.result = c.loop-ordinal-test.true in
    let below : n < length words = omega (arith, turn, c.words-ordinal-end.ensures) in
    let long : n < length c.self.inside.counters.items = omega (arith, below, c.requires.counters, ap (length {A = ℕ}) c.self.view_is) in
    let count-is : c.index-count.result.now ≡ get_or c.args.self n 0
    = get_or_read c.self.inside.counters.items n c.index-count.result.now long c.index-count.ensures 0 ∙ ap (λ (cs : List ℕ). get_or cs n 0) c.self.view_is in
    elim c.if-count-gt0.branch [
      | then-count-gt0+in_ok-of+in_ok-push w ↦
          (let there : Some w.text.result.now ≡ Some (get_or words n []) = sym w.text.ensures ∙ slice_get-get_or words n [] below in
          let word : w.text.result.now ≡ get_or words n [] = cc there in
          let key : w.in_ok-of.field-0 ≡ get_or words n [] = w.in_ok-of.ensures ∙ word in
          let bucket : w.bucket_of.result ≡ counted_bucket (word_key words n, get_or c.args.self n 0) = w.bucket_of.ensures ∙ (λ i. counted_bucket (Word (key i), count-is i)) in
          ap (λ (v : _). v.items) w.buckets-is ∙ w.in_ok-push.ensures.items ∙ (λ i. c.loop-ordinal.invariant i ++ bucket i ∷ [])
          ∙ sym (ap (map counted_bucket) (counted-more words c.args.self n c.requires.counters below (subst (λ (m : ℕ). 0 < m) count-is w.if-count-gt0.true))
          ∙ map-append counted_bucket (counted (take n words) c.args.self) ((word_key words n, get_or c.args.self n 0) ∷ [])))
      | else-count-gt0 w ↦ (
          ap (λ (v : _). v.items) w.buckets-is ∙ c.loop-ordinal.invariant
          ∙ sym (ap (map counted_bucket) (counted-less words c.args.self n c.requires.counters below (let none = w.if-count-gt0.false in sym count-is ∙ omega arith))))
    ]

pub returns-clause-of_counted_rows : goal.returns-clause-of_counted_rows
returns-clause-of_counted_rows c a roots rows plain is =
    let words = words_of c.args.field c.args.shard.now.rows in
    let all : take c.loop-ordinal.ordinal words ≡ words = take_all c.loop-ordinal.ordinal words (let done = c.loop-ordinal-test.false in omega (arith, done, c.words-ordinal-end.ensures)) in
    ap (λ (bs : List Bucket). Keyed bs 0 0 0) (c.from_vec.ensures ∙ c.loop-ordinal.invariant ∙ ap (λ (ws : Words). map counted_bucket (counted ws c.args.self)) all)
    ∙ of-raised c.args.shard.now.rows roots c.args.field a plain rows (counted words c.args.self) is

pub returns-clause-of_sizes : goal.returns-clause-of_sizes
returns-clause-of_sizes c a roots rows plain keyword sizes =
    let words = words_of c.args.field c.args.shard.now.rows in
    let all : take c.loop-ordinal.ordinal words ≡ words = take_all c.loop-ordinal.ordinal words (let done = c.loop-ordinal-test.false in omega (arith, done, c.words-ordinal-end.ensures)) in
    ap (λ (bs : List Bucket). Keyed bs 0 0 0) (c.from_vec.ensures ∙ c.loop-ordinal.invariant ∙ ap (λ (ws : Words). map counted_bucket (counted ws c.args.self)) all)
    ∙ of-sizes c.args.shard.now c.requires.built c.args.field keyword roots a plain rows c.args.self c.requires.counters sizes
