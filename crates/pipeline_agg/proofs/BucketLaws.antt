-- The buckets of an aggregation one after another: what stands in front of a bucket, and what is told of it.
use Rattle.std.specs.Prelude.{◌≡◌, refl, ℕ, zero, suc, ◌+◌, true, Bool, false, cond, List, [], ◌∷◌, ◌++◌, map, flat_map, length, Option, None, Ok, Err}
use Rattle.std.specs.List.{AllByRecursion, enumerate_from}
use Rattle.std.specs.Ordering.{is_le}
use Rattle.std.specs.declared.cmp.Ordering.{Ordering}
use Rattle.std.proofs.Common.{◌∙◌, sym, ap, arith, subst}
use Rattle.std.proofs.lemmas.Bool.{false≢true}
use Rattle.agg_model.specs.declared.aggregation.Agg.{Agg}
use Rattle.agg_model.specs.declared.answer.BucketAnswer.{BucketAnswer, out-BucketAnswer}
use Rattle.agg_model.specs.declared.answer.NodeAnswer.{NodeAnswer}
use Rattle.agg_model.specs.declared.pipeline.Pipe.{Pipe}
use Rattle.agg_model.specs.declared.pipeline.PipeKind.{PipeKind}
use Rattle.agg_model.specs.declared.pipeline.PipeKind.TheVariants as pipe
use Rattle.agg_spec.specs.Notes.{piped_bucket, piper}
use Rattle.agg_spec.specs.Remarks.{Remark, RemarkedBucket as Remarked, is_bucket_sort, parent_says, pipes_here}
use Rattle.bucket_order.specs.Kinds.{child_kinds}
use Rattle.list_laws.proofs.Lists.{append-nil, flat_map-append, map-append}
use Rattle.list_laws.specs.Sorting.{insert_sorted, sorted}
use Rattle.pipeline_agg.specs.Entries.{AreFit, View, entry_cmp, entry_of_teller, moved_on, pipe_entry, teller_of}
use Rattle.pipeline_agg.specs.Objects.{AreBuckets, IsBucket, node_entries, noted, object_entries, remarked_buckets, wide_bucket}
use Rattle.pipeline_agg.specs.Told.{IsCause, IsFit, first_wide, unsorted}
use Rattle.pipeline_agg.specs.declared.entries.Teller.{Teller}
use Rattle.pipeline_agg.specs.declared.fault.PipeFault.{PipeFault}
use Rattle.pipeline_agg.specs.declared.fault.PipeFault.TheVariants as fault
use Rattle.pipeline_agg.specs.declared.remarked.RemarkedBucket.{RemarkedBucket}
use Rattle.pipeline_agg.proofs.EntryLaws.{fit-back, fit-front}
use Rattle.pipeline_agg.proofs.ObjectLaws.{object-fault, object-fit, object-notes}
use Rattle.pipeline_agg.proofs.RunningLaws.{all-moved, all-say, bucket_says, standing}
use Rattle.pipeline_agg.proofs.Wides.{wide-none, wide-some}

quiet-parent : (children : List Agg) (buckets : List BucketAnswer) (place : ℕ) (p : Pipe) (k : PipeKind) → is_bucket_sort k ≡ true → parent_says (map (λ c. c.kind) (map piper children)) buckets place p k ≡ []
quiet-parent children buckets place p (pipe.CumulativeSum at) e = absurd (false≢true e)
quiet-parent children buckets place p (pipe.Derivative at) e = absurd (false≢true e)
quiet-parent children buckets place p (pipe.SumBucket i at) e = absurd (false≢true e)
quiet-parent children buckets place p (pipe.MinBucket i at) e = absurd (false≢true e)
quiet-parent children buckets place p (pipe.MaxBucket i at) e = absurd (false≢true e)
quiet-parent children buckets place p (pipe.BucketSort sort start size) e = refl

-- items that fit once they are sorted
module _ {A : Type 0} (P : A → Type 0) (cmp : A → A → Ordering) where
  each-inserted : (x : A) (ys : List A) → AllByRecursion P (insert_sorted cmp x ys) → AllByRecursion P (x ∷ ys)
  each-inserted x [] h = h
  each-inserted x (y ∷ ys) h = elim (is_le (cmp x y)) as (λ (b : Bool). AllByRecursion P (cond b (x ∷ y ∷ ys) (y ∷ insert_sorted cmp x ys)) → AllByRecursion P (x ∷ y ∷ ys)) [
    | true ↦ λ k. k
    | false ↦ λ k. let rest = each-inserted x ys k.1 in (rest.0, (k.0, rest.1))
  ] h

  each-unsorted : (xs : List A) → AllByRecursion P (sorted cmp xs) → AllByRecursion P xs
  each-unsorted [] h = tt
  each-unsorted (x ∷ xs) h = let all = each-inserted x (sorted cmp xs) h in (all.0, each-unsorted xs all.1)

-- what the object's own pipelines say fits where all that prints there does
pub own-fit : (children : List Agg) (pipes : List Pipe) (own : List View) (b : BucketAnswer) → AreFit (object_entries children pipes own (out-BucketAnswer b).children) → AreFit own
own-fit children pipes own b h =
    let nodes = (out-BucketAnswer b).children in
    fit-back (node_entries 0 children pipes nodes) own (each-unsorted (λ (e : View). IsFit e.1) entry_cmp (node_entries 0 children pipes nodes ++ own) h)

enumerate-snoc : {A : Type 0} (i : ℕ) (xs : List A) (y : A) → enumerate_from i (xs ++ y ∷ []) ≡ enumerate_from i xs ++ (i + length xs, y) ∷ []
enumerate-snoc i [] y = let same : i ≡ i + 0 = omega arith in λ j. (same j, y) ∷ []
enumerate-snoc i (x ∷ xs) y =
    let same : (i + 1) + length xs ≡ i + length (x ∷ xs) = omega arith in
    ap (λ es. (i, x) ∷ es) (enumerate-snoc (i + 1) xs y ∙ (λ j. enumerate_from (i + 1) xs ++ (same j, y) ∷ []))

enumerate-append : {A : Type 0} (i : ℕ) (xs ys : List A) → enumerate_from i (xs ++ ys) ≡ enumerate_from i xs ++ enumerate_from (i + length xs) ys
enumerate-append i [] ys = let same : i ≡ i + 0 = omega arith in ap (λ n. enumerate_from n ys) same
enumerate-append i (x ∷ xs) ys =
    let same : (i + 1) + length xs ≡ i + length (x ∷ xs) = omega arith in
    ap (λ es. (i, x) ∷ es) (enumerate-append (i + 1) xs ys ∙ ap (λ n. enumerate_from (i + 1) xs ++ enumerate_from n ys) same)

module _ (children : List Agg) (pipes : List Pipe) (bs : List BucketAnswer) where
  abbrev kept_at : ℕ × BucketAnswer → Remarked
  kept_at b = piped_bucket (map piper children) pipes bs b

  abbrev looked_at : ℕ × BucketAnswer → Remarked
  looked_at b = piped_bucket (map piper children) (unsorted pipes) bs b

  abbrev remarks_in : List (ℕ × BucketAnswer) → List Remark
  remarks_in es = flat_map (λ b. b.remarks) (map looked_at es)

-- what was told of the buckets in front of those that are left
pub record Stands (children : List Agg) (pipes : List Pipe) (bs : List BucketAnswer) (tellers : List Teller) (left : List BucketAnswer) (remarked : List RemarkedBucket) : Type 0 where
  pub before : List BucketAnswer
  pub split : before ++ left ≡ bs
  pub tellers_are : map teller_of tellers ≡ map (standing (child_kinds children) before) (pipes_here pipes)
  pub remarked_are : remarked ≡ map noted (map (kept_at children pipes bs) (enumerate_from 0 before))
  pub no_wide : first_wide (remarks_in children pipes bs (enumerate_from 0 before)) ≡ None

pub start-stands : (children : List Agg) (pipes : List Pipe) (bs : List BucketAnswer) (tellers : List Teller) → map teller_of tellers ≡ map (standing (child_kinds children) []) (pipes_here pipes)
    → Stands children pipes bs tellers bs []
start-stands children pipes bs tellers h = record { before = []; split = refl; tellers_are = h; remarked_are = refl; no_wide = refl }

-- what is told of the first remarks is told of all
first-cause : (here later : List Remark) (f : PipeFault) → IsCause (first_wide here) f → (all : Option (List ℕ)) → all ≡ first_wide (here ++ later) → IsCause all f
first-cause here later (fault.SumRange path) cause all e = e ∙ wide-some here later path cause
first-cause here later fault.Memory cause all e = tt

module _ (children : List Agg) (pipes : List Pipe) (bs : List BucketAnswer) (tellers : List Teller) (b : BucketAnswer) (left : List BucketAnswer) (remarked : List RemarkedBucket)
    (stands : Stands children pipes bs tellers (b ∷ left) remarked) (own : List View) (own-is : own ≡ map (entry_of_teller children b) (map teller_of tellers)) where
  abbrev place : ℕ
  place = length stands.before

  abbrev parents : List BucketAnswer → Pipe → List Remark
  parents all p = parent_says (map (λ c. c.kind) (map piper children)) all place p p.kind

  says-are : own ≡ map (λ p. pipe_entry p (bucket_says children bs place b p)) (pipes_here pipes)
  says-are =
      own-is ∙ ap (map (entry_of_teller children b)) stands.tellers_are ∙ all-say children stands.before b left (pipes_here pipes)
      ∙ ap (λ all. map (λ p. pipe_entry p (bucket_says children all place b p)) (pipes_here pipes)) stands.split

  quiet : (p : Pipe) → is_bucket_sort p.kind ≡ true → parents bs p ≡ []
  quiet p e = quiet-parent children bs place p p.kind e

  looked-here : (es : List (ℕ × BucketAnswer)) → first_wide (remarks_in children pipes bs (enumerate_from 0 stands.before ++ es)) ≡ first_wide (remarks_in children pipes bs es)
  looked-here es =
      ap (λ rs. first_wide (flat_map (λ b. b.remarks) rs)) (map-append (looked_at children pipes bs) (enumerate_from 0 stands.before) es)
      ∙ ap first_wide (flat_map-append (λ (r : Remarked). r.remarks) (map (looked_at children pipes bs) (enumerate_from 0 stands.before)) (map (looked_at children pipes bs) es))
      ∙ wide-none (remarks_in children pipes bs (enumerate_from 0 stands.before)) (remarks_in children pipes bs es) stands.no_wide

  zero-plus : 0 + place ≡ place
  zero-plus = omega arith

  -- one more bucket
  pub next-stands : (more : List Teller) (r : RemarkedBucket) → map teller_of more ≡ map (moved_on (child_kinds children) b) (map teller_of tellers) → IsBucket children pipes own b (Ok r)
      → Stands children pipes bs more left (remarked ++ r ∷ [])
  next-stands more r moved h =
      let nodes = (out-BucketAnswer b).children in
      let notes = object-notes children pipes nodes (parents bs) quiet own says-are r.notes h.1.0 h.1.1 in
      let none = object-fit children pipes nodes (parents bs) quiet own says-are h.1.0 in
      let here : r ≡ noted (kept_at children pipes bs (place, b)) = λ i. record { bucket = h.0 i; notes = notes i } in
      let at : enumerate_from 0 (stands.before ++ b ∷ []) ≡ enumerate_from 0 stands.before ++ (place, b) ∷ [] =
      enumerate-snoc 0 stands.before b ∙ (λ i. enumerate_from 0 stands.before ++ (zero-plus i, b) ∷ []) in
      record {
        before = stands.before ++ b ∷ [];
        split = append-middle stands.before b left ∙ stands.split;
        tellers_are = moved ∙ ap (map (moved_on (child_kinds children) b)) stands.tellers_are ∙ all-moved (child_kinds children) stands.before b (pipes_here pipes);
        remarked_are =
            (λ i. stands.remarked_are i ++ here i ∷ [])
            ∙ sym (ap (λ es. map noted (map (kept_at children pipes bs) es)) at ∙ ap (map noted) (map-append (kept_at children pipes bs) (enumerate_from 0 stands.before) ((place, b) ∷ []))
            ∙ map-append noted (map (kept_at children pipes bs) (enumerate_from 0 stands.before)) (kept_at children pipes bs (place, b) ∷ []));
        no_wide =
            ap (λ es. first_wide (remarks_in children pipes bs es)) at ∙ looked-here ((place, b) ∷ [])
            ∙ ap first_wide (append-nil (looked_at children pipes bs (place, b)).remarks) ∙ none;
      } where
        append-middle : {A : Type 0} (xs : List A) (y : A) (ys : List A) → (xs ++ y ∷ []) ++ ys ≡ xs ++ y ∷ ys
        append-middle [] y ys = refl
        append-middle (x ∷ xs) y ys = ap (λ zs. x ∷ zs) (append-middle xs y ys)

  -- a bucket of which a path is told, or nothing for want of memory
  pub fault-stands : (f : PipeFault) → IsBucket children pipes own b (Err f) → IsCause (wide_bucket (remarked_buckets children (unsorted pipes) bs)) f
  fault-stands f h =
      let nodes = (out-BucketAnswer b).children in
      let cause = object-fault children pipes nodes (parents bs) quiet own says-are f h in
      let here = (looked_at children pipes bs (place, b)).remarks in
      let later = remarks_in children pipes bs (enumerate_from (place + 1) left) in
      let all : first_wide (remarks_in children pipes bs (enumerate_from 0 bs)) ≡ first_wide (here ++ later) =
      ap (λ xs. first_wide (remarks_in children pipes bs (enumerate_from 0 xs))) (sym stands.split)
      ∙ ap (λ es. first_wide (remarks_in children pipes bs es)) (enumerate-append 0 stands.before (b ∷ left) ∙ ap (λ n. enumerate_from 0 stands.before ++ enumerate_from n (b ∷ left)) zero-plus)
      ∙ looked-here (enumerate_from place (b ∷ left)) in
      first-cause here later f cause (first_wide (remarks_in children pipes bs (enumerate_from 0 bs))) all

-- no bucket is left
pub end-stands : (children : List Agg) (pipes : List Pipe) (bs : List BucketAnswer) (tellers : List Teller) (remarked : List RemarkedBucket) → Stands children pipes bs tellers [] remarked
    → AreBuckets children pipes bs (Ok remarked)
end-stands children pipes bs tellers remarked stands =
    let all : stands.before ≡ bs = sym (append-nil stands.before) ∙ stands.split in (
      stands.remarked_are ∙ ap (λ xs. map noted (map (kept_at children pipes bs) (enumerate_from 0 xs))) all,
      sym (ap (λ xs. first_wide (remarks_in children pipes bs (enumerate_from 0 xs))) all) ∙ stands.no_wide,
    )

-- what prints below the aggregations fits where all that prints in the object does
pub nodes-fit : (aggs : List Agg) (pipes : List Pipe) (own : List View) (nodes : List NodeAnswer) → AreFit (object_entries aggs pipes own nodes) → AreFit (node_entries 0 aggs pipes nodes)
nodes-fit aggs pipes own nodes h =
    fit-front (node_entries 0 aggs pipes nodes) own (each-unsorted (λ (e : View). IsFit e.1) entry_cmp (node_entries 0 aggs pipes nodes ++ own) h)
