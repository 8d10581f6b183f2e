-- The key of the last bucket of an answer.
use Rattle.std.specs.Prelude.{◌≡◌, List, [], ◌∷◌, Some, None, option_map, slice_get}
use Rattle.std.specs.List.{last_or}
use Rattle.std.proofs.Common.{◌∙◌, ap, sym}
use Rattle.agg_model.specs.declared.answer.BucketAnswer.{BucketAnswer, out-BucketAnswer}
use Rattle.agg_model.specs.declared.answer.NodeAnswer.{NodeAnswer, out-NodeAnswer}
use Rattle.agg_spec.specs.Pages.{last_key}

pub last-of : (ns : List NodeAnswer) (n : NodeAnswer) (b : BucketAnswer) → slice_get ns 0 ≡ Some n → last_or None (out-NodeAnswer n).buckets ≡ Some b
    → Some (out-BucketAnswer b).key ≡ last_key ns
last-of [] n b first last = absurd (let no : ⊥ = cc in no)
last-of (m ∷ ms) n b first last =
    let same : m ≡ n = cc in
    sym (ap (option_map (λ (x : BucketAnswer). (out-BucketAnswer x).key)) (ap (λ (x : NodeAnswer). last_or None (out-NodeAnswer x).buckets) same ∙ last))
