-- Drafts of shards: one more draft, and one more document.
use Rattle.std.proofs.Common.{◌≡◌, refl, ℕ, ◌<◌, ◌≤◌, ◌==◌, Bool, true, false, cond, Some, filter, List, [], ◌∷◌, ◌++◌, length, get_or, set, sym, ◌∙◌, ap, subst, arith, length-append, inl, inr}
use Rattle.std.specs.Prelude.{slice_get, sum_by}
use Rattle.std.proofs.lemmas.Bool.{and_parts, and_from}
use Rattle.std.proofs.lemmas.List.{get_or_append_left, get_or-set_same, get_or-set_other, length-set}
use Rattle.std.proofs.lemmas.List.FromFn.{get_or-map-range_with_len}
use Rattle.std.proofs.lemmas.List.Sums.{sum_by-cons}
use Rattle.std.proofs.lemmas.Option.{slice_get_within, same_Some}
use Rattle.std.proofs.Math.Seq.{get_or-append_seam}
use Rattle.agg_model.specs.declared.mapping.Mapping.{Mapping}
use Rattle.agg_model.specs.declared.row.Document.{Document}
use Rattle.agg_evaluation.specs.DocumentFits.{fits, all_fit}
use Rattle.agg_reading.specs.Routing.{shard_of}
use Rattle.agg_reading.specs.Store.{weight}
use Rattle.agg_documents.specs.Shards.{cut}
use Rattle.agg_documents.proofs.Dealing.{shard-below, length-cut, cut-push}
use Rattle.fitting_laws.proofs.Weights.{weights_agree}
use Rattle.shard_columns.specs.Drafted.{IsDraftOf, Admits, Takes}
use Rattle.shard_columns.specs.declared.draft.ShardDraft.{ShardDraft}
use Rattle.shard_columns.proofs.Drafting.{slice_get-last, slice_get-set_same, slice_get-set_other, same-or-other}
use Rattle.column_loading.specs.Drafts.{AreDraftsOf, AreLight}

pub drafts-none : (m : Mapping) (drafts : List ShardDraft) → drafts ≡ [] → AreDraftsOf m (cut [] 0) drafts
drafts-none m drafts none = record { sizes = ap length none; each = λ j d at. absurd (cc (sym (ap (λ (ds : List ShardDraft). slice_get ds j) none) ∙ at)) }

pub drafts-push : (m : Mapping) (lists : List (List Document)) (drafts : List ShardDraft) (documents : List Document) (d : ShardDraft) → AreDraftsOf m lists drafts → IsDraftOf m documents d → AreDraftsOf m (lists ++ documents ∷ []) (drafts ++ d ∷ [])
drafts-push m lists drafts documents d are held =
    let sizes = are.sizes in
    record {
      sizes = omega (arith, sizes, length-append drafts (d ∷ []), length-append lists (documents ∷ []));
      each = λ j e at. elim (slice_get-last drafts d e j at) [
        | inl front ↦
            (let low = slice_get_within drafts j e front in
            subst (λ (ds : List Document). IsDraftOf m ds e) (sym (get_or_append_left lists (documents ∷ []) [] j (omega (arith, low, sizes)))) (are.each j e front))
        | inr last ↦
            (let here : j ≡ length lists = omega (arith, last.0, sizes) in
            subst (λ (x : ShardDraft). IsDraftOf m (get_or (lists ++ documents ∷ []) j []) x) last.1
            (subst (λ (ds : List Document). IsDraftOf m ds d) (sym (ap (λ (k : ℕ). get_or (lists ++ documents ∷ []) k []) here ∙ get_or-append_seam lists documents [] [])) held))
      ];
    }

-- the documents of one shard fit, and weigh no more than all

filter-fits : (m : Mapping) (p : Document → Bool) (ds : List Document) → all_fit m ds ≡ true → all_fit m (filter p ds) ≡ true
filter-fits m p [] h = refl
filter-fits m p (d ∷ ds) h =
    let parts = and_parts (fits m d.root) (all_fit m ds) h in
    elim (p d) as (λ b. all_fit m (cond b (d ∷ filter p ds) (filter p ds)) ≡ true) [ true ↦ and_from _ _ parts.0 (filter-fits m p ds parts.1) | false ↦ filter-fits m p ds parts.1 ]

filter-light : (p : Document → Bool) (ds : List Document) → sum_by weight (filter p ds) ≤ sum_by weight ds
filter-light p [] = omega arith
filter-light p (d ∷ ds) =
    let rest = filter-light p ds in
    let all = sum_by-cons weight d ds in
    let more = sum_by-cons weight d (filter p ds) in
    elim (p d) as (λ b. sum_by weight (cond b (d ∷ filter p ds) (filter p ds)) ≤ sum_by weight (d ∷ ds)) [ true ↦ omega (arith, rest, all, more) | false ↦ omega (arith, rest, all) ]

cut-at : (ds : List Document) (n j : ℕ) → j < n → get_or (cut ds n) j [] ≡ filter (λ d. shard_of d.routing n == j) ds
cut-at ds n j below = get_or-map-range_with_len (λ s. filter (λ d. shard_of d.routing n == s) ds) 0 n j j [] below (omega arith)

module _ (m : Mapping) (documents : List Document) (d : Document) (n : ℕ) (some : 1 ≤ n) where
  abbrev shard : ℕ
  shard = shard_of d.routing n

  here-pushed : get_or (cut (documents ++ d ∷ []) n) shard [] ≡ get_or (cut documents n) shard [] ++ d ∷ []
  here-pushed =
      ap (λ (ls : List (List Document)). get_or ls shard []) (sym (cut-push documents d n some))
      ∙ get_or-set_same (cut documents n) shard (get_or (cut documents n) shard [] ++ d ∷ []) [] (subst (λ (k : ℕ). shard < k) (sym (length-cut documents n)) (shard-below d.routing n some))

  pub admits-here : AreLight m (documents ++ d ∷ []) → Admits m (get_or (cut documents n) shard []) d
  admits-here light =
      let all = documents ++ d ∷ [] in
      let low = shard-below d.routing n some in
      let one = filter (λ (e : Document). shard_of e.routing n == shard) all in
      let is : one ≡ get_or (cut documents n) shard [] ++ d ∷ [] = sym (cut-at all n shard low) ∙ here-pushed in
      let below = light.light in
      record {
        fit = subst (λ (ds : List Document). all_fit m ds ≡ true) is (filter-fits m (λ (e : Document). shard_of e.routing n == shard) all light.fit);
        light = omega (arith, below, filter-light (λ (e : Document). shard_of e.routing n == shard) all, weights_agree (get_or (cut documents n) shard [] ++ d ∷ []), ap (sum_by weight) is);
      }

  pub drafts-set : (old : List ShardDraft) (draft new : ShardDraft) → AreDraftsOf m (cut documents n) old → slice_get old shard ≡ Some draft → Takes draft new d → AreLight m (documents ++ d ∷ []) → AreDraftsOf m (cut (documents ++ d ∷ []) n) (set old shard new)
  drafts-set old draft new are at takes light =
      let sizes = are.sizes in
      let low = slice_get_within old shard draft at in
      record {
        sizes = omega (arith, length-set old shard new, sizes, length-cut documents n, length-cut (documents ++ d ∷ []) n);
        each = λ j e e_at. elim (same-or-other j shard) [
          | inl same ↦
              let is : new ≡ e = same_Some new e (sym (slice_get-set_same old shard new low) ∙ (ap (slice_get (set old shard new)) (sym same) ∙ e_at)) in
              subst (λ (x : ShardDraft). IsDraftOf m (get_or (cut (documents ++ d ∷ []) n) j []) x) is
              (subst (λ (ds : List Document). IsDraftOf m ds new) (sym (ap (λ (k : ℕ). get_or (cut (documents ++ d ∷ []) n) k []) same ∙ here-pushed))
              (takes m (get_or (cut documents n) shard []) (are.each shard draft at) (admits-here light)))
          | inr other ↦
              let front : slice_get old j ≡ Some e = sym (slice_get-set_other old shard j new other) ∙ e_at in
              subst (λ (ds : List Document). IsDraftOf m ds e)
              (sym (ap (λ (ls : List (List Document)). get_or ls j []) (sym (cut-push documents d n some)) ∙ get_or-set_other (cut documents n) shard j (get_or (cut documents n) shard [] ++ d ∷ []) [] other))
              (are.each j e front)
        ];
      }
