-- Members put one after another while a loop goes through a list: what is left of the list answers for all of it.
use Rattle.std.specs.Prelude.{◌≡◌, refl, ℕ, ◌+◌, ◌-◌, List, [], ◌∷◌, ◌++◌, map, flat_map, length, codes}
use Rattle.std.proofs.Common.{◌∙◌, ap, sym, drop, append_assoc}
use Rattle.serde_json.specs.Data.{Data, Members, object, no_members}
use Rattle.serde_json.specs.Data.{put as with_member}
use Rattle.agg_model.specs.declared.answer.BucketAnswer.{out-BucketAnswer}
use Rattle.agg_model.specs.declared.answer.NodeAnswer.{NodeAnswer, out-NodeAnswer}
use Rattle.agg_model.specs.declared.aggregation.Agg.{Agg}
use Rattle.agg_model.specs.declared.mapping.Mapping.{Mapping}
use Rattle.agg_spec.specs.AnswerTree.{NotedBucket, ZonedNote, Printer, printer, named_answers, notes_within, object_members, bucket_members}
use Rattle.agg_model.specs.declared.outcome.Failure.{Failure}
use Rattle.agg_spec.specs.ErrorLines.{failures_member}
use Rattle.agg_spec.specs.Response.{shards_member}
use Rattle.agg_spec.specs.Json.{Member, with_members, count}

pub with_members-append : (xs ys : List Member) (ms : Members) → with_members (xs ++ ys) ms ≡ with_members ys (with_members xs ms)
with_members-append [] ys ms = refl
with_members-append (x ∷ xs) ys ms = with_members-append xs ys (with_member x.0 x.1 ms)

-- how many shards failed, which, and how many answered
pub shards_told : (failures : List Failure) (shards total failed : ℕ) (counted told skipped answered all : Members) (shown : Data)
    → total ≡ shards → failed ≡ length failures → counted ≡ with_member (codes "failed") (count failed) no_members
    → told ≡ with_members (failures_member failures) counted → skipped ≡ with_member (codes "skipped") (count 0) told
    → answered ≡ with_member (codes "successful") (count (total - failed)) skipped → all ≡ with_member (codes "total") (count total) answered
    → shown ≡ object all → shown ≡ (shards_member shards failures).1
shards_told failures shards total failed counted told skipped answered all shown s f c t k a l o =
    let behind : ℕ → ℕ → List Member = λ n m. (codes "skipped", count 0) ∷ (codes "successful", count (m - n)) ∷ (codes "total", count m) ∷ [] in
    let made : all ≡ with_members (behind failed total) (with_members (failures_member failures) (with_member (codes "failed") (count failed) no_members)) =
    l ∙ ap (with_member (codes "total") (count total)) (a ∙ ap (with_member (codes "successful") (count (total - failed)))
    (k ∙ ap (with_member (codes "skipped") (count 0)) (t ∙ ap (with_members (failures_member failures)) c))) in
    o ∙ ap object (made
    ∙ ap (λ n. with_members (behind n total) (with_members (failures_member failures) (with_member (codes "failed") (count n) no_members))) f
    ∙ ap (λ m. with_members (behind (length failures) m)
    (with_members (failures_member failures) (with_member (codes "failed") (count (length failures)) no_members))) s
    ∙ sym (with_members-append (failures_member failures) (behind (length failures) shards)
    (with_member (codes "failed") (count (length failures)) no_members)))

-- a bucket's own members and then the answers below it are all its members
pub bucket_made : (children : List Printer) (own : List Member) (b : NotedBucket) (ms : Members)
    → with_members (object_members children b.notes (out-BucketAnswer b.bucket).children)
    (with_members ((codes "doc_count", count (out-BucketAnswer b.bucket).count) ∷ own) ms)
    ≡ with_members (bucket_members children own b) ms
bucket_made children own b ms =
    sym (with_members-append own (object_members children b.notes (out-BucketAnswer b.bucket).children)
    (with_member (codes "doc_count") (count (out-BucketAnswer b.bucket).count) ms))

put_as : (name name' : List ℕ) (d d' : Data) (old new : Members) → name ≡ name' → d ≡ d' → new ≡ with_member name d old → new ≡ with_member name' d' old
put_as name name' d d' old new n v put = put ∙ ap (λ m. with_member m d old) n ∙ ap (λ e. with_member name' e old) v

module _ {X : Type 0} (g : X → Member) where
  pub mapped_here : (xs : List X) (i : ℕ) (x : X) (name : List ℕ) (d : Data) (old new : Members)
      → drop i xs ≡ x ∷ drop (i + 1) xs → name ≡ (g x).0 → d ≡ (g x).1 → new ≡ with_member name d old
      → with_members (map g (drop (i + 1) xs)) new ≡ with_members (map g (drop i xs)) old
  mapped_here xs i x name d old new p n v put =
      ap (with_members (map g (drop (i + 1) xs))) (put_as name _ d _ old new n v put) ∙ sym (ap (λ zs. with_members (map g zs) old) p)

module _ {X : Type 0} (g : X → List Member) where
  pub flat_here : (xs : List X) (i : ℕ) (x : X) (old new : Members) → drop i xs ≡ x ∷ drop (i + 1) xs → new ≡ with_members (g x) old
      → with_members (flat_map g (drop (i + 1) xs)) new ≡ with_members (flat_map g (drop i xs)) old
  flat_here xs i x old new p put =
      ap (with_members (flat_map g (drop (i + 1) xs))) put ∙ sym (with_members-append (g x) (flat_map g (drop (i + 1) xs)) old)
      ∙ sym (ap (λ zs. with_members (flat_map g zs) old) p)

module _ {X : Type 0} (f : X → Data) where
  pub listed_here : (xs : List X) (i : ℕ) (x : X) (d : Data) (old new : List Data) → drop i xs ≡ x ∷ drop (i + 1) xs → d ≡ f x → new ≡ old ++ d ∷ []
      → new ++ map f (drop (i + 1) xs) ≡ old ++ map f (drop i xs)
  listed_here xs i x d old new p v push =
      ap (λ zs. zs ++ map f (drop (i + 1) xs)) push ∙ append_assoc old (d ∷ []) (map f (drop (i + 1) xs))
      ∙ ap (λ e. old ++ e ∷ map f (drop (i + 1) xs)) v ∙ sym (ap (λ zs. old ++ map f zs) p)

-- the answers from a place on
abbrev pub answers_put : Mapping → ℕ → List ZonedNote → List Agg → List NodeAnswer → Members → Members
answers_put m i notes aggs nodes ms = with_members (named_answers i (map (printer m) aggs) notes nodes) ms

pub answers_here : (m : Mapping) (notes : List ZonedNote) (aggs : List Agg) (nodes : List NodeAnswer) (i : ℕ) (a : Agg) (n : NodeAnswer) (name : List ℕ)
    (d : Data) (old new : Members)
    → drop i aggs ≡ a ∷ drop (i + 1) aggs → drop i nodes ≡ n ∷ drop (i + 1) nodes → name ≡ (out-NodeAnswer n).name → d ≡ printer m a (notes_within i notes) n
    → new ≡ with_member name d old
    → answers_put m (i + 1) notes (drop (i + 1) aggs) (drop (i + 1) nodes) new ≡ answers_put m i notes (drop i aggs) (drop i nodes) old
answers_here m notes aggs nodes i a n name d old new p q named v put =
    ap (answers_put m (i + 1) notes (drop (i + 1) aggs) (drop (i + 1) nodes)) (put_as name _ d _ old new named v put)
    ∙ sym (ap (λ zs. answers_put m i notes zs (drop i nodes) old) p ∙ ap (λ zs. answers_put m i notes (a ∷ drop (i + 1) aggs) zs old) q)

pub answers_end : (m : Mapping) (i : ℕ) (notes : List ZonedNote) (a : Agg) (aggs more : List Agg) (nodes : List NodeAnswer) (ms : Members) → aggs ≡ a ∷ more
    → nodes ≡ [] → answers_put m i notes aggs nodes ms ≡ ms
answers_end m i notes a aggs more nodes ms p q = ap (λ zs. answers_put m i notes zs nodes ms) p ∙ ap (λ zs. answers_put m i notes (a ∷ more) zs ms) q
