use Rattle.std.proofs.Common.{◌≡◌, ℕ, ◌+◌, ◌<◌, ◌^◌, Ok, Option, Some, None, List, [], ◌∷◌, map, take, get_or, sym, ◌∙◌, ap}
use Rattle.std.specs.Option.{SomeIff, ok_or}
use Rattle.agg_model.specs.declared.key.Key.{Key}
use Rattle.agg_evaluation.specs.Counters.{raised, raised_by}
use Rattle.shard_columns.specs.Dictionary.{words_of}
use Rattle.terms_agg.specs.Counts.{counted, new_bucket_bytes, word_key}
use Rattle.terms_agg.proofs.Counting.{raised-last, bytes-last}
use Rattle.terms_agg.proofs.RowCounting.{take-more, take-whole, absent-before, row-ascends, row-keys}
use Rattle.terms_agg.proofs.counts.Counts.count.Goals as goal

ok-value : {E : Type 0} (P : Type 0) (o : Option ℕ) (v b : ℕ) (e : E) → ok_or o e ≡ Ok b → SomeIff o P v → b ≡ v
ok-value P None v b e made is = absurd (cc made)
ok-value P (Some x) v b e made is = (let same : x ≡ b = cc made in sym same) ∙ is.1

pub loop-ordinal-preserved : goal.loop-ordinal-preserved
loop-ordinal-preserved c =
    let l = c.loop-ordinal in
    let words = words_of c.args.field c.args.shard.now.rows in
    let f = word_key words in
    let os = c.ordinals-ordinal-items.result.now in
    let n = l.ordinal-index in
    let k = f (get_or os n 0) in
    let keys = take n (map f os) in
    let before = counted words c.args.self.now in
    let more = take-more f os n c.loop-ordinal-test.true in
    let ascends = row-ascends c.args.shard.now c.requires.built c.args.field c.args.row os (c.ordinals-ordinal-items.ensures.values c.requires.keyword) in
    let sum : c.in_ok-bytes.bytes ≡ l.bytes + c.in_ok-more.more
    = ok-value (l.bytes + c.in_ok-more.more < 2 ^ 64) c.checked_add.result (l.bytes + c.in_ok-more.more) c.in_ok-bytes.bytes (record {}) (sym c.ok_or.ensures.value ∙ c.in_ok-bytes.was) c.checked_add.ensures in
    record {
      many = c.count_word.ensures.many ∙ l.invariant.many;
      counters = c.in_ok-more.ensures.counters
          ∙ (ap (raised k) l.invariant.counters ∙ (sym (raised-last keys k before) ∙ ap (λ (ks : List Key). raised_by ks before) (sym more)));
      bytes = sum
          ∙ ((λ i. l.invariant.bytes i + (c.in_ok-more.ensures.bytes ∙ ap (λ (cs : List (Key × ℕ)). new_bucket_bytes cs (k ∷ [])) l.invariant.counters) i)
          ∙ (sym (bytes-last before keys k (absent-before f os n ascends c.loop-ordinal-test.true)) ∙ ap (new_bucket_bytes before) (sym more)));
    }

pub returns-clause-counters : goal.returns-clause-counters
returns-clause-counters c =
    let words = words_of c.args.field c.args.shard.now.rows in
    let os = c.ordinals-ordinal-items.result.now in
    c.loop-ordinal.invariant.counters
    ∙ ap (λ (ks : List Key). raised_by ks (counted words c.args.self.now))
    (take-whole (word_key words) os c.loop-ordinal.ordinal-index c.loop-ordinal-test.false
    ∙ row-keys c.args.shard.now c.requires.built c.args.field c.args.row os (c.ordinals-ordinal-items.ensures.values c.requires.keyword))

pub returns-clause-bytes : goal.returns-clause-bytes
returns-clause-bytes c =
    let words = words_of c.args.field c.args.shard.now.rows in
    let os = c.ordinals-ordinal-items.result.now in
    c.loop-ordinal.invariant.bytes
    ∙ ap (new_bucket_bytes (counted words c.args.self.now))
    (take-whole (word_key words) os c.loop-ordinal.ordinal-index c.loop-ordinal-test.false
    ∙ row-keys c.args.shard.now c.requires.built c.args.field c.args.row os (c.ordinals-ordinal-items.ensures.values c.requires.keyword))
