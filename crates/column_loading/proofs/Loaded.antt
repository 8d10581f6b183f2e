-- What a put and a delete make of a loading.
use Rattle.std.proofs.Common.{rules, ◌≡◌, refl, ℕ, ◌+◌, ◌-◌, ◌^◌, ◌<◌, ◌≤◌, min, Bool, true, false, ◌&&◌, List, [], ◌∷◌, ◌++◌, length, set, if◌then◌else◌, Option, None, Some, Ok, Err, sym, ◌∙◌, ap, subst, arith}
use Rattle.std.specs.Prelude.{Vec, IfSome, IfOk, sum_by}
use Rattle.std.specs.List.{IsDistinct}
use Rattle.std.specs.Option.{is_some, option_map, option_to_list, unwrap_or}
use Rattle.std.specs.Str.{bytes_eq}
use Rattle.std.proofs.lemmas.Bool.{and_from}
use Rattle.std.proofs.lemmas.Grind.{flat_map-append}
use Rattle.agg_model.specs.declared.limits.TheConstants.{MAX_PATHS, WEIGHT_LIMIT}
use Rattle.agg_model.specs.declared.bulk.Action.{Action}
use Rattle.agg_model.specs.declared.bulk.Applied.TheVariants.{Created, Updated}
use Rattle.agg_model.specs.declared.bulk.ItemRefusal.{ItemRefusal}
use Rattle.agg_model.specs.declared.mapping.Mapping.{Mapping}
use Rattle.agg_model.specs.declared.row.Document.{Document}
use Rattle.agg_model.specs.declared.row.Row.{Row}
use Rattle.agg_evaluation.specs.DocumentFits.{fits, all_fit}
use Rattle.agg_reading.specs.Document.{document_at}
use Rattle.agg_reading.specs.Reading.{Reading}
use Rattle.agg_reading.specs.Store.{Store, live_at, is_create, live_documents, put_row, store_weight, row_weight, weight, with_document}
use Rattle.agg_documents.specs.Shards.{cut}
use Rattle.agg_documents.specs.Slots.{ids, place_of}
use Rattle.agg_documents.proofs.Entries.{weight-put, weight-within}
use Rattle.agg_documents.proofs.Places.{new-put}
use Rattle.agg_documents.proofs.Putting.{new-is, put-weight, put-done}
use Rattle.document_rows.specs.Faults.{Fails}
use Rattle.document_rows.specs.declared.fault.ItemFault.{ItemFault}
use Rattle.document_rows.specs.declared.fault.ItemFault.TheVariants.{Refused}
use Rattle.fitting_laws.proofs.Stores.{live_fit}
use Rattle.fitting_laws.proofs.Walking.{document_fits}
use Rattle.agg_model.specs.Contexts.{parents_before}
use Rattle.shard_columns.specs.declared.draft.ShardDraft.{ShardDraft}
use Rattle.std.specs.declared.alloc.Global.{Global}
use Rattle.column_loading.specs.Drafts.{AreDraftsOf, AreLight, AreGrowing, CanGrow, Grows}
use Rattle.column_loading.specs.Loadings.{IsLoadingOf, IsRead, AreRead, Puts, document_of, entries_of, row_in, store_of}
use Rattle.column_loading.specs.declared.loading.Loading.{Loading}
use Rattle.column_loading.specs.declared.slot.Kept.{Kept}
use Rattle.column_loading.specs.declared.slot.Slot.{Slot}
use Rattle.column_loading.specs.Slots.{slot_ids}
use Rattle.column_loading.proofs.Indexed.{ids-are}
use Rattle.column_loading.proofs.Placed.{read-push, read-set, document-is, apart-push, entries-push, entries-set, ids-set}

-- after a refusal the loading is as before
pub refused-puts : (m : Mapping) (action : Action) (root : Row) (old new : Loading) (fault : ItemFault) (refusal : ItemRefusal) → fault ≡ Refused refusal → new ≡ old → Fails (Refused refusal) (put_row action root (store_of m old)) → Puts m action root old new (Err fault)
refused-puts m action root old new fault refusal is same fails =
    subst (λ (f : ItemFault). Puts m action root old new (Err f)) (sym is) (record { put = fails; loading = tt; shards = tt; as_before = same })

fit-alone : (m : Mapping) (d : Document) (read : Reading Row) → IfOk read (λ root. fits m root ≡ true) → read ≡ Ok d.root → all_fit m (d ∷ []) ≡ true
fit-alone m d read fitting is = and_from (fits m d.root) true (subst (λ (r : Reading Row). IfOk r (λ root. fits m root ≡ true)) is fitting) refl

-- a document that is read fits
pub fit-read : (m : Mapping) (source : List ℕ) (d : Document) → document_at m source ≡ Ok d.root → all_fit m (d ∷ []) ≡ true
fit-read m source d read = fit-alone m d (document_at m source) (document_fits m source) read

-- nothing yet

pub loaded-none : (m : Mapping) (l : Loading) (drafts : Vec ShardDraft Global) → length m.fields + length m.nested ≤ MAX_PATHS → parents_before m ≡ true → 1 ≤ l.shards → l.shards < 2 ^ 32 →
    l.slots ≡ [] → l.weight ≡ 0 → l.drafts ≡ Some drafts → AreDraftsOf m (cut [] l.shards) drafts.items → IsLoadingOf m l
unfolding place_of store_weight live_documents AreRead IsDistinct
loaded-none m l drafts few paths some in_range none weigh drafts_are are =
    let empty : store_of m l ≡ [] = ap (entries_of m) none in
    record {
      few = few;
      paths = paths;
      some = some;
      in_range = in_range;
      distinct = subst (λ (es : Store). IsDistinct bytes_eq (ids es)) (sym empty) nothing;
      weight = weigh ∙ ap store_weight (sym empty);
      light = omega (arith, weigh);
      read = subst (AreRead m) (sym none) tt;
      fit = subst (λ (es : Store). all_fit m (live_documents es) ≡ true) (sym empty) refl;
      growing = subst (λ (es : Store). AreGrowing m (live_documents es) l.shards l.drafts) (sym empty) (subst (AreGrowing m [] l.shards) (sym drafts_are) are);
    }
  where
    nothing : IsDistinct bytes_eq (ids [])
    nothing = search rules

-- a slot in the place of its id

pub replaced : (m : Mapping) (old new : Loading) (p : ℕ) (s : Slot) (w : ℕ) (o : Option Document) → IsLoadingOf m old → place_of s.id (ids (store_of m old)) ≡ Some p → option_map (document_of m s.id) s.live ≡ o →
    new.slots ≡ set old.slots p s → new.weight ≡ w → new.drafts ≡ None → new.shards ≡ old.shards →
    w ≡ store_weight (with_document s.id o (store_of m old)) → w < WEIGHT_LIMIT → IfSome s.live (IsRead m) → all_fit m (option_to_list o) ≡ true →
    IsLoadingOf m new × (store_of m new ≡ with_document s.id o (store_of m old))
replaced m old new p s w o held found is slots weigh drafts shards exact light read fit =
    let es = store_of m old in
    let placed : store_of m new ≡ with_document s.id o es = ap (entries_of m) slots ∙ (entries-set m old.slots s p found ∙ ap (λ (x : Option Document). with_document s.id x es) is) in
    let stay : ids (store_of m new) ≡ ids es = ap (λ (ss : List Slot). ids (entries_of m ss)) slots ∙ ids-set m old.slots s p found in
    let some = held.some in
    let in_range = held.in_range in (
      record {
        few = held.few;
        paths = held.paths;
        some = omega (arith, some, shards);
        in_range = omega (arith, in_range, shards);
        distinct = subst (IsDistinct bytes_eq) (sym stay) held.distinct;
        weight = weigh ∙ (exact ∙ ap store_weight (sym placed));
        light = omega (arith, weigh, light);
        read = subst (AreRead m) (sym slots) (read-set m old.slots p s held.read read);
        fit = subst (λ (xs : Store). all_fit m (live_documents xs) ≡ true) (sym placed) (live_fit m s.id o es fit held.fit);
        growing = subst (AreGrowing m (live_documents (store_of m new)) new.shards) (sym drafts) tt;
      },
      placed,
    )

-- a slot at the end

module _ (m : Mapping) (old : Loading) (d : Document) (source : List ℕ) (held : IsLoadingOf m old) (read : document_at m source ≡ Ok d.root) (new : place_of d.id (slot_ids old.slots) ≡ None) where
  abbrev es : Store
  es = store_of m old

  pub absent : place_of d.id (ids es) ≡ None
  absent = ap (place_of d.id) (ids-are m old.slots) ∙ new

  -- the weight of all, up to where it is counted
  pub counted : (added w : ℕ) → added ≡ min (weight d) (2 ^ 64 - 1) → w ≡ min (old.weight + added) (2 ^ 64 - 1) → w ≡ min (store_weight (with_document d.id (Some d) es)) (2 ^ 64 - 1)
  counted added w added_is w_is = put-weight d.id es d None old.weight 0 added w (new-is d.id es absent) held.weight refl added_is (omega (arith, w_is))

  module _ (added w : ℕ) (added_is : added ≡ min (weight d) (2 ^ 64 - 1)) (w_is : w ≡ min (old.weight + added) (2 ^ 64 - 1)) (light : w < WEIGHT_LIMIT) where
    pub exact : w ≡ store_weight (with_document d.id (Some d) es)
    exact = omega (arith, counted added w added_is w_is, light)

    live-more : live_documents (with_document d.id (Some d) es) ≡ live_documents es ++ d ∷ []
    unfolding live_documents
    live-more = ap live_documents (new-put d.id (Some d) es absent) ∙ flat_map-append (λ (e : List ℕ × Option Document). option_to_list e.1) es ((d.id, Some d) ∷ [])

    all-fit : all_fit m (live_documents (with_document d.id (Some d) es)) ≡ true
    all-fit = live_fit m d.id (Some d) es (fit-read m source d read) held.fit

    weighs-all : sum_by weight (live_documents (with_document d.id (Some d) es)) ≡ store_weight (with_document d.id (Some d) es)
    unfolding store_weight
    weighs-all = refl

    are-light : AreLight m (live_documents es ++ d ∷ [])
    are-light = record {
      fit = subst (λ (ds : List Document). all_fit m ds ≡ true) live-more all-fit;
      light = omega (arith, exact, weighs-all, ap (sum_by weight) live-more, light);
    }

    pub can-grow : CanGrow old.drafts d
    can-grow = record { mapping = m; documents = live_documents es; shards = old.shards; some = held.some; in_range = held.in_range; growing = held.growing; light = are-light }

    module _ (next : Loading) (s : Slot) (k : Kept) (slot_is : s ≡ record { id = d.id; live = Some k }) (routing : unwrap_or k.routing d.id ≡ d.routing) (source_is : k.source ≡ source) (weighs : k.weight ≡ added)
        (slots : next.slots ≡ old.slots ++ s ∷ []) (weigh : next.weight ≡ w) (shards : next.shards ≡ old.shards) (grown : Grows old.drafts next.drafts d) where
      abbrev whole : Slot
      whole = record { id = d.id; live = Some k }

      k-read : document_at m k.source ≡ Ok d.root
      k-read = ap (document_at m) source_is ∙ read

      own-weight : added ≡ weight d
      own-weight = (let more = weight-put d.id (Some d) es in omega (arith, exact, light, more, added_is))

      is-read : IsRead m k
      is-read = record {
        read = k-read ∙ ap (λ (r : Reading Row). Ok (row_in r)) (sym k-read);
        weighs = weighs ∙ (own-weight ∙ ap (λ (r : Reading Row). row_weight (row_in r)) (sym k-read));
      }

      slots-are : next.slots ≡ old.slots ++ whole ∷ []
      slots-are = slots ∙ ap (λ (x : Slot). old.slots ++ x ∷ []) slot_is

      pub placed-last : store_of m next ≡ with_document d.id (Some d) es
      placed-last = ap (entries_of m) slots-are ∙ (entries-push m old.slots whole absent ∙ ap (λ (x : Document). with_document d.id (Some x) es) (document-is m d k routing k-read))

      pub loaded-last : IsLoadingOf m next
      loaded-last =
          let some = held.some in
          let in_range = held.in_range in
          record {
            few = held.few;
            paths = held.paths;
            some = omega (arith, some, shards);
            in_range = omega (arith, in_range, shards);
            distinct = subst (λ (ss : List Slot). IsDistinct bytes_eq (ids (entries_of m ss))) (sym slots-are) (apart-push m old.slots whole absent held.distinct);
            weight = weigh ∙ (exact ∙ ap store_weight (sym placed-last));
            light = omega (arith, weigh, light);
            read = subst (AreRead m) (sym slots-are) (read-push m old.slots whole held.read is-read);
            fit = subst (λ (xs : Store). all_fit m (live_documents xs) ≡ true) (sym placed-last) all-fit;
            growing = subst (λ (n : ℕ). AreGrowing m (live_documents (store_of m next)) n next.drafts) (sym shards)
                (subst (λ (ds : List Document). AreGrowing m ds old.shards next.drafts) (sym (ap live_documents placed-last ∙ live-more)) (grown m (live_documents es) old.shards held.some held.growing are-light));
          }

-- a document in the place of its id

module _ (m : Mapping) (old new : Loading) (action : Action) (root : Row) (held : IsLoadingOf m old) (read : document_at m action.source ≡ Ok root) (p : ℕ) (place : place_of action.id (slot_ids old.slots) ≡ Some p) where
  abbrev put_document : Document
  put_document = record { id = action.id; routing = action.routing; root = root }

  pub found : place_of action.id (ids (store_of m old)) ≡ Some p
  found = ap (place_of action.id) (ids-are m old.slots) ∙ place

  module _ (conflict : Bool) (r : Option ℕ) (beside added w : ℕ) (is : r ≡ option_map weight (live_at action.id (store_of m old))) (test : conflict ≡ (is_create action.kind && is_some r)) (free : conflict ≡ false) (beside_is : beside ≡ unwrap_or r 0)
      (added_is : added ≡ min (weight put_document) (2 ^ 64 - 1)) (w_is : w ≡ min ((old.weight - beside) + added) (2 ^ 64 - 1)) (light : w < WEIGHT_LIMIT)
      (other : Option (List ℕ)) (routing : unwrap_or other action.id ≡ action.routing) where
    total : w ≡ store_weight (with_document action.id (Some put_document) (store_of m old))
    total = (let all = put-weight action.id (store_of m old) put_document r old.weight beside added w is held.weight beside_is added_is w_is in omega (arith, all, light))

    own : added ≡ weight put_document
    own = (let more = weight-put action.id (Some put_document) (store_of m old) in let within = weight-within action.id (store_of m old) in omega (arith, total, light, more, within, added_is))

    abbrev put_kept : Kept
    put_kept = record { routing = other; source = action.source; weight = added }

    abbrev put_slot : Slot
    put_slot = record { id = action.id; live = Some put_kept }

    put-read : IsRead m put_kept
    put-read = record {
      read = read ∙ ap (λ (x : Reading Row). Ok (row_in x)) (sym read);
      weighs = own ∙ ap (λ (x : Reading Row). row_weight (row_in x)) (sym read);
    }

    pub put-again : new.slots ≡ set old.slots p put_slot → new.weight ≡ w → new.drafts ≡ None → new.shards ≡ old.shards →
        Puts m action root old new (Ok (if is_some r then Updated else Created))
    put-again slots weigh drafts shards =
        let made = replaced m old new p put_slot w (Some put_document) held found (ap Some (document-is m put_document put_kept routing read)) slots weigh drafts shards total light put-read (fit-read m action.source put_document read) in
        record { put = put-done action root (store_of m old) conflict r w (store_of m new) is test free total light made.1; loading = made.0; shards = shards; as_before = tt }

-- the live documents of a loading are light
pub live-light : (m : Mapping) (l : Loading) → IsLoadingOf m l → AreLight m (live_documents (store_of m l))
unfolding store_weight
live-light m l held = (let all = held.weight in let low = held.light in record { fit = held.fit; light = omega (arith, all, low) })
