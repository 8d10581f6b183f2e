-- An aggregation's answer of its buckets with their notes, sorted and cut.
use Rattle.std.specs.Prelude.{◌≡◌, refl, ℕ, ℤ, ◌+◌, ◌==◌, length, Bool, true, false, not, cond, List, [], ◌∷◌, ◌++◌, map, flat_map, filter, fold, take, drop, Option, Some, None, Ok, Err}
use Rattle.std.specs.List.{enumerate_from}
use Rattle.std.proofs.Common.{◌∙◌, sym, ap, arith, subst, zero, suc}
use Rattle.std.proofs.lemmas.Bool.{eqb-true, true≢false}
use Rattle.agg_model.specs.declared.aggregation.Agg.{Agg, out-Agg}
use Rattle.agg_model.specs.declared.aggregation.Kind.{Kind}
use Rattle.agg_model.specs.declared.answer.BucketAnswer.{BucketAnswer}
use Rattle.agg_model.specs.declared.answer.NodeAnswer.{NodeAnswer, out-NodeAnswer, roll-NodeAnswer}
use Rattle.agg_model.specs.declared.pipeline.Note.{Note}
use Rattle.agg_model.specs.declared.pipeline.Pipe.{Pipe}
use Rattle.agg_model.specs.declared.pipeline.PipeKind.{PipeKind}
use Rattle.agg_model.specs.declared.pipeline.PipeKind.TheVariants as pipe
use Rattle.agg_model.specs.declared.pipeline.PipeOrder.{PipeOrder}
use Rattle.agg_spec.specs.Notes.{from_around, note_from_around, piped_bucket, piped_buckets, piped_node, piper, with_buckets}
use Rattle.agg_spec.specs.Pipelines.{bucket_sort_cmp, cut_from}
use Rattle.agg_spec.specs.Remarks.{Remark, RemarkedBucket as Remarked, RemarkedNode as RemarkedAnswer, are_no_places, arranged, arranged_by, is_bucket_sort, pipes_here, remarked_cmp}
use Rattle.bucket_order.specs.Kinds.{child_kinds}
use Rattle.list_laws.proofs.Lists.{map-append, map-map}
use Rattle.list_laws.specs.Sorting.{sorted}
use Rattle.pipeline_agg.specs.Objects.{AreBuckets, IsNode, noted, remarked_buckets, wide_bucket}
use Rattle.pipeline_agg.specs.Told.{IsCause, bucket_notes, first_wide, notes_of, unsorted}
use Rattle.pipeline_agg.specs.Told as told
use Rattle.pipeline_agg.specs.Placed.{pipes_of}
use Rattle.pipeline_agg.specs.declared.placed.Placed.{Placed}
use Rattle.pipeline_agg.specs.declared.fault.PipeFault.{PipeFault}
use Rattle.pipeline_agg.specs.declared.objects.RemarkedNode.{RemarkedNode}
use Rattle.pipeline_agg.specs.declared.remarked.RemarkedBucket.{RemarkedBucket}
use Rattle.pipeline_agg.proofs.EntryLaws.{map-sorted}
use Rattle.pipeline_agg.proofs.ObjectLaws.{piper-piped}
use Rattle.pipeline_agg.proofs.SiblingLaws.{kinds-of}
use Rattle.pipeline_agg.proofs.Wides.{notes-around, wides-in-buckets}
use Rattle.agg_spec.specs.RangeCheck.{first_path}

module _ {A B : Type 0} (f : A → B) where
  map-take : (n : ℕ) (xs : List A) → map f (take n xs) ≡ take n (map f xs)
  map-take zero xs = refl
  map-take (suc n) [] = refl
  map-take (suc n) (x ∷ xs) = ap (λ ys. f x ∷ ys) (map-take n xs)

  map-drop : (n : ℕ) (xs : List A) → map f (drop n xs) ≡ drop n (map f xs)
  map-drop zero xs = refl
  map-drop (suc n) [] = refl
  map-drop (suc n) (x ∷ xs) = map-drop n xs

  map-cut : (start : ℕ) (size : Option ℕ) (xs : List A) → map f (cut_from start size xs) ≡ cut_from start size (map f xs)
  map-cut start None xs = map-drop start xs
  map-cut start (Some n) xs = map-take n (drop start xs) ∙ ap (take n) (map-drop start xs)

module _ (kinds : List Kind) where
  -- buckets are sorted and cut alike with their remarks and with their notes
  noted-by : (k : PipeKind) (bs : List Remarked) → told.arranged_by kinds k (map noted bs) ≡ map noted (arranged_by kinds k bs)
  noted-by (pipe.CumulativeSum at) bs = refl
  noted-by (pipe.Derivative at) bs = refl
  noted-by (pipe.SumBucket i at) bs = refl
  noted-by (pipe.MinBucket i at) bs = refl
  noted-by (pipe.MaxBucket i at) bs = refl
  noted-by (pipe.BucketSort sort start size) bs =
      ap (cut_from start size) (sym (map-sorted noted (λ (a b : RemarkedBucket). bucket_sort_cmp kinds sort a.bucket b.bucket) bs))
      ∙ sym (map-cut noted start size (sorted (remarked_cmp kinds sort) bs))

  noted-all : (ps : List Pipe) (bs : List Remarked) → fold (λ them p. told.arranged_by kinds p.kind them) (map noted bs) ps ≡ map noted (fold (λ them p. arranged_by kinds p.kind them) bs ps)
  noted-all [] bs = refl
  noted-all (p ∷ ps) bs = ap (λ them. fold (λ bs p. told.arranged_by kinds p.kind bs) them ps) (noted-by p.kind bs) ∙ noted-all ps (arranged_by kinds p.kind bs)

  -- pipelines that neither sort nor cut leave the buckets as they are
  left-alone : (k : PipeKind) (bs : List Remarked) → is_bucket_sort k ≡ false → arranged_by kinds k bs ≡ bs
  left-alone (pipe.CumulativeSum at) bs e = refl
  left-alone (pipe.Derivative at) bs e = refl
  left-alone (pipe.SumBucket i at) bs e = refl
  left-alone (pipe.MinBucket i at) bs e = refl
  left-alone (pipe.MaxBucket i at) bs e = refl
  left-alone (pipe.BucketSort sort start size) bs e = absurd (true≢false e)

  abbrev arranged-by-each : List Remarked → List Pipe → List Remarked
  arranged-by-each bs ps = fold (λ them p. arranged_by kinds p.kind them) bs ps

  unsorted-alone : (ps : List Pipe) (bs : List Remarked) → arranged kinds (unsorted ps) bs ≡ bs
  unsorted-alone [] bs = refl
  unsorted-alone (p ∷ ps) bs =
      elim (is_bucket_sort p.kind) as (λ b. is_bucket_sort p.kind ≡ b → arranged-by-each bs (pipes_here (cond (not b) (p ∷ unsorted ps) (unsorted ps))) ≡ bs) [
        | true ↦ λ e. unsorted-alone ps bs
        | false ↦ λ e. elim (are_no_places p.at) as (λ h. arranged-by-each bs (cond h (p ∷ pipes_here (unsorted ps)) (pipes_here (unsorted ps))) ≡ bs) [
          | true ↦ ap (λ them. arranged-by-each them (pipes_here (unsorted ps))) (left-alone p.kind bs e) ∙ unsorted-alone ps bs
          | false ↦ unsorted-alone ps bs
        ]
      ] refl

bucket-notes-of : (i : ℕ) (bs : List Remarked) → bucket_notes (enumerate_from i (map noted bs)) ≡ notes_of (flat_map (λ b. map (from_around b.0) b.1.remarks) (enumerate_from i bs))
bucket-notes-of i [] = refl
bucket-notes-of i (b ∷ bs) =
    (λ j. notes-around i b.remarks j ++ bucket-notes-of (i + 1) bs j)
    ∙ sym (map-append (λ r. r.note) (map (from_around i) b.remarks) (flat_map (λ c. map (from_around c.0) c.1.remarks) (enumerate_from (i + 1) bs)))

module _ (a : Agg) (pipes : List Pipe) (n : NodeAnswer) where
  abbrev children : List Agg
  children = (out-Agg a).children

  abbrev all : List Remarked
  all = remarked_buckets children pipes (out-NodeAnswer n).buckets

  abbrev looked_at : List Remarked
  looked_at = remarked_buckets children (unsorted pipes) (out-NodeAnswer n).buckets

  kinds : map (λ p. p.kind) (map piper children) ≡ child_kinds children
  kinds = kinds-of children

  abbrev made_of : List Remarked → RemarkedAnswer
  made_of bs = record { node = with_buckets (map (λ b. b.bucket) bs) n; remarks = flat_map (λ b. map (from_around b.0) b.1.remarks) (enumerate_from 0 bs) }

  piped-is : (piper a).piped pipes n ≡ made_of (arranged (child_kinds children) pipes all)
  piped-is = piper-piped a pipes n ∙ ap (λ ks. made_of (arranged ks pipes all)) kinds

  looked-is : (piper a).piped (unsorted pipes) n ≡ made_of looked_at
  looked-is = piper-piped a (unsorted pipes) n ∙ ap (λ ks. made_of (arranged ks (unsorted pipes) looked_at)) kinds ∙ ap made_of (unsorted-alone (child_kinds children) pipes looked_at)

  wide-is : first_wide ((piper a).piped (unsorted pipes) n).remarks ≡ wide_bucket looked_at
  wide-is = ap (λ (r : RemarkedAnswer). first_wide r.remarks) looked-is ∙ ap first_path (wides-in-buckets (λ (b : Remarked). b.remarks) 0 looked_at)

  pub node-fault : (f : PipeFault) → IsCause (wide_bucket looked_at) f → IsNode a pipes n (Err f)
  node-fault f h = subst (λ w. IsCause w f) (sym wide-is) h

  pub node-made : (remarked stood : List RemarkedBucket) (buckets : List BucketAnswer) (notes : List Note) (r : RemarkedNode) → AreBuckets children pipes (out-NodeAnswer n).buckets (Ok remarked)
      → stood ≡ told.arranged_buckets (child_kinds children) pipes remarked → buckets ≡ map (λ b. b.bucket) stood → notes ≡ bucket_notes (enumerate_from 0 stood)
      → r.node ≡ with_buckets buckets n → r.notes ≡ notes → IsNode a pipes n (Ok r)
  node-made remarked stood buckets notes r h arranged-so buckets-so notes-so node-so said-so =
      let after = arranged (child_kinds children) pipes all in
      let are : stood ≡ map noted after = arranged-so ∙ ap (told.arranged_buckets (child_kinds children) pipes) h.0 ∙ noted-all (child_kinds children) (pipes_here pipes) all in (
        node-so ∙ ap (λ bs. with_buckets bs n) (buckets-so ∙ ap (map (λ b. b.bucket)) are ∙ map-map (λ (b : RemarkedBucket). b.bucket) noted after) ∙ sym (ap (λ (x : RemarkedAnswer). x.node) piped-is),
        said-so ∙ notes-so ∙ ap (λ bs. bucket_notes (enumerate_from 0 bs)) are ∙ bucket-notes-of 0 after ∙ sym (ap (λ (x : RemarkedAnswer). notes_of x.remarks) piped-is),
        wide-is ∙ h.1,
      )

-- an answer whose parts but the buckets are as they were
pub node-again : (n : NodeAnswer) (buckets : List BucketAnswer) (error : ℤ) → error ≡ (out-NodeAnswer n).error
    → roll-NodeAnswer (record { name = (out-NodeAnswer n).name; buckets = buckets; error = error; other = (out-NodeAnswer n).other; metric = (out-NodeAnswer n).metric }) ≡ with_buckets buckets n
node-again n buckets error e =
    ap (λ z. roll-NodeAnswer (record { name = (out-NodeAnswer n).name; buckets = buckets; error = z; other = (out-NodeAnswer n).other; metric = (out-NodeAnswer n).metric })) e

-- no pipeline is left of none
pub no-pipes : (ps : List Placed) → (length ps == 0) ≡ true → pipes_of ps ≡ []
no-pipes [] e = refl
no-pipes (p ∷ ps) e = absurd (omega (arith, eqb-true (length (p ∷ ps)) 0 e))
