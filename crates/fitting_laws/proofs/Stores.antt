-- Stores of documents that fit keep fitting, and so do their shards.
use Rattle.std.specs.Prelude.{◌≡◌, refl, ℕ, ◌^◌, ◌≤◌, List, [], ◌∷◌, map, filter, sum_by, Option, Some, None, Ok, Bool, true, false, ◌&&◌, ◌==◌, cond, nat_lt, is_some, option_to_list, IfOk, if◌then◌else◌}
use Rattle.std.specs.List.{list_all, range_with_len}
use Rattle.std.specs.Str.{bytes_eq}
use Rattle.std.proofs.Common.{sym, ◌∙◌, arith}
use Rattle.std.proofs.lemmas.Bool.{and_parts, and_from}
use Rattle.std.proofs.lemmas.Bool.Decides.{nat_tests}
use Rattle.std.proofs.lemmas.List.Folds.{list_all-append}
use Rattle.std.proofs.lemmas.List.Sums.{sum_by-append}
use Rattle.agg_model.specs.declared.mapping.Mapping.{Mapping}
use Rattle.agg_model.specs.declared.row.Row.{Row}
use Rattle.agg_model.specs.declared.row.Document.{Document}
use Rattle.agg_model.specs.declared.bulk.Action.{Action}
use Rattle.agg_model.specs.declared.bulk.ActionKind.{ActionKind}
use Rattle.agg_model.specs.declared.bulk.ActionKind.TheVariants.{Index, Create, Delete}
use Rattle.agg_model.specs.declared.bulk.Applied.{Applied}
use Rattle.agg_model.specs.declared.bulk.Applied.TheVariants.{Created, Updated, Deleted, NotFound}
use Rattle.agg_reading.specs.Reading.{refuse}
use Rattle.agg_reading.specs.Routing.{shard_of}
use Rattle.agg_reading.specs.Document.{document_at}
use Rattle.agg_reading.specs.Store.{Store, live_at, with_document, live_documents, weight, store_weight, is_create, kept, put_row, deleted, applied_by, applied, shards_of}
use Rattle.agg_reading.proofs.ShardWeights.{numbered}
use Rattle.agg_reading.proofs.Steps.{next_ok, if_ok}
use Rattle.agg_evaluation.specs.DocumentFits.{fits, all_fit}
use Rattle.fitting_laws.specs.Stores.{IsFitting}
use Rattle.fitting_laws.proofs.Walking.{document_fits}

-- the documents of each shard

filter_fits : (m : Mapping) (p : Document → Bool) (ds : List Document) → all_fit m ds ≡ true → all_fit m (filter p ds) ≡ true
filter_fits m p [] h = refl
filter_fits m p (d ∷ ds) h =
    let parts = and_parts (fits m d.root) (all_fit m ds) h in
    elim (p d) as (λ b. all_fit m (cond b (d ∷ filter p ds) (filter p ds)) ≡ true) [ true ↦ and_from _ _ parts.0 (filter_fits m p ds parts.1) | false ↦ filter_fits m p ds parts.1 ]

each_fits : (m : Mapping) (number : Document → ℕ) (ds : List Document) (ns : List ℕ) → all_fit m ds ≡ true → list_all (all_fit m) (map (numbered number ds) ns) ≡ true
each_fits m number ds [] h = refl
each_fits m number ds (n ∷ ns) h = and_from _ _ (filter_fits m (λ d. number d == n) ds h) (each_fits m number ds ns h)

pub shards_fit : (m : Mapping) (store : Store) (n : ℕ) → all_fit m (live_documents store) ≡ true → list_all (all_fit m) (shards_of store n) ≡ true
unfolding shards_of
shards_fit m store n h = each_fits m (λ d. shard_of d.routing n) (live_documents store) (range_with_len 0 n) h

-- actions

pub live_fit : (m : Mapping) (id : List ℕ) (o : Option Document) (es : Store) → all_fit m (option_to_list o) ≡ true → all_fit m (live_documents es) ≡ true → all_fit m (live_documents (with_document id o es)) ≡ true
unfolding with_document live_documents
live_fit m id o [] h all = list_all-append (λ (d : Document). fits m d.root) (option_to_list o) [] ∙ and_from _ _ h refl
live_fit m id o (e ∷ es) h all =
    let here = option_to_list e.1 in
    let rest = live_documents es in
    let parts = and_parts (all_fit m (option_to_list e.1)) (all_fit m (live_documents es)) (sym (list_all-append (λ (d : Document). fits m d.root) (option_to_list e.1) (live_documents es)) ∙ all) in
    elim (bytes_eq e.0 id) as (λ b. all_fit m (live_documents (cond b ((id, o) ∷ es) (e ∷ with_document id o es))) ≡ true) [
      | true ↦ list_all-append (λ (d : Document). fits m d.root) (option_to_list o) (live_documents es) ∙ and_from _ _ h parts.1
      | false ↦ list_all-append (λ (d : Document). fits m d.root) (option_to_list e.1) (live_documents (with_document id o es)) ∙ and_from _ _ parts.0 (live_fit m id o es h parts.1)
    ]

gone_light : (id : List ℕ) (es : Store) → sum_by weight (live_documents (with_document id None es)) ≤ sum_by weight (live_documents es)
unfolding with_document live_documents
gone_light id [] = omega arith
gone_light id (e ∷ es) =
    let all = sum_by-append weight (option_to_list e.1) (live_documents es) in
    let left = sum_by-append weight (option_to_list e.1) (live_documents (with_document id None es)) in
    let rest = gone_light id es in
    elim (bytes_eq e.0 id) as (λ b. sum_by weight (live_documents (cond b ((id, None) ∷ es) (e ∷ with_document id None es))) ≤ sum_by weight (live_documents (e ∷ es))) [
      | true ↦ omega (arith, all)
      | false ↦ omega (arith, all, left, rest)
    ]

abbrev KeepsFitting : Mapping → Applied × Store → Type 0
KeepsFitting m r = IsFitting m r.1

kept_fits : (m : Mapping) (what : Applied) (store : Store) → all_fit m (live_documents store) ≡ true → IfOk (kept what store) (KeepsFitting m)
kept_fits m what store h = if_ok (KeepsFitting m) (nat_lt (store_weight store) (2 ^ 32)) (Ok (what, store)) (refuse 28 []) (λ e. (h, grind (arith, nat_tests, e))) (λ e. tt)

put_fits : (m : Mapping) (action : Action) (root : Row) (store : Store) → fits m root ≡ true → all_fit m (live_documents store) ≡ true → IfOk (put_row action root store) (KeepsFitting m)
unfolding put_row
put_fits m action root store h all =
    if_ok (KeepsFitting m) (is_create action.kind && is_some (live_at action.id store)) (refuse 26 []) _ (λ e. tt) (λ e.
    kept_fits m (if is_some (live_at action.id store) then Updated else Created) (with_document action.id (Some (record { id = action.id; routing = action.routing; root = root })) store) (live_fit m action.id (Some (record { id = action.id; routing = action.routing; root = root })) store (and_from _ _ h refl) all))

deleted_fits : (m : Mapping) (id : List ℕ) (store : Store) → IsFitting m store → IsFitting m (deleted id store).1
unfolding deleted store_weight
deleted_fits m id store h =
    let less = gone_light id store in
    elim (is_some (live_at id store)) as (λ b. KeepsFitting m (if b then (Deleted, with_document id None store) else (NotFound, store))) [
      | true ↦ (live_fit m id None store refl h.0, omega (arith, less, h.1))
      | false ↦ h
    ]

by_fits : (kind : ActionKind) (m : Mapping) (action : Action) (store : Store) → IsFitting m store → IfOk (applied_by kind m action store) (KeepsFitting m)
by_fits Delete m action store h = deleted_fits m action.id store h
by_fits Index m action store h = next_ok (λ root. fits m root ≡ true) (KeepsFitting m) (document_at m action.source) _ (document_fits m action.source) (λ root g. put_fits m action root store g h.0)
by_fits Create m action store h = next_ok (λ root. fits m root ≡ true) (KeepsFitting m) (document_at m action.source) _ (document_fits m action.source) (λ root g. put_fits m action root store g h.0)

-- each action keeps the live documents fitting and light
pub applied_fits : (m : Mapping) (action : Action) (store : Store) → IsFitting m store → IfOk (applied m action store) (KeepsFitting m)
unfolding applied
applied_fits m action store h = by_fits action.kind m action store h
