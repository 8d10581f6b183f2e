-- What stands in a bucket or an answer is less deep than it.
use Rattle.std.proofs.Common.{◌≡◌, ℕ, List, ◌<◌, ◌≤◌, length, get_or, arith, subst, sym}
use Rattle.std.specs.Prelude.{Some, slice_get}
use Rattle.std.proofs.lemmas.Option.{slice_get_within, get_or_from_slice_get}
use denote.Param.Weighed.{most, at_most}
use Rattle.agg_model.specs.declared.answer.BucketAnswer.{BucketAnswer, out-BucketAnswer, size-BucketAnswer}
use Rattle.agg_model.specs.declared.answer.NodeAnswer.{NodeAnswer, out-NodeAnswer, size-NodeAnswer}
use Rattle.agg_model.specs.declared.answer.BucketAnswer.TheViews.{size_is-BucketAnswer, size_is-NodeAnswer}

pub buckets_less : (n : NodeAnswer) → most size-BucketAnswer (out-NodeAnswer n).buckets < size-NodeAnswer n
buckets_less n = omega (arith, size_is-NodeAnswer n)

pub children_less : (b : BucketAnswer) → most size-NodeAnswer (out-BucketAnswer b).children < size-BucketAnswer b
children_less b = omega (arith, size_is-BucketAnswer b)

pub bucket_most : (bs : List BucketAnswer) (i : ℕ) (b : BucketAnswer) → i < length bs → b ≡ get_or bs i b → size-BucketAnswer b ≤ most size-BucketAnswer bs
bucket_most bs i b within is = subst (λ x. size-BucketAnswer x ≤ most size-BucketAnswer bs) (sym is) (at_most size-BucketAnswer bs i b within)

pub answer_most : (ns : List NodeAnswer) (i : ℕ) (n : NodeAnswer) → i < length ns → n ≡ get_or ns i n → size-NodeAnswer n ≤ most size-NodeAnswer ns
answer_most ns i n within is = subst (λ x. size-NodeAnswer x ≤ most size-NodeAnswer ns) (sym is) (at_most size-NodeAnswer ns i n within)

pub answer_found : (ns : List NodeAnswer) (i : ℕ) (n : NodeAnswer) → Some n ≡ slice_get ns i → size-NodeAnswer n ≤ most size-NodeAnswer ns
answer_found ns i n h = answer_most ns i n (slice_get_within ns i n (sym h)) (sym (get_or_from_slice_get ns i n n (sym h)))
