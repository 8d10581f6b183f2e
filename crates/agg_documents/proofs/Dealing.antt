-- Documents put into the lists of their shards one by one.
use Rattle.std.proofs.Common.{◌≡◌, refl, append_assoc, Option, None, Some, ℕ, ◌+◌, ◌<◌, ◌≤◌, ◌==◌, Bool, true, false, cond, length, get_or, set, filter, List, [], ◌∷◌, ◌++◌, sym, ◌∙◌, ap, subst, arith}
use Rattle.std.specs.List.{flat_map}
use Rattle.std.specs.Option.{option_to_list}
use Rattle.std.proofs.lemmas.List.{get_or-set_same, get_or-set_other, length-set, append-nil, map-append}
use Rattle.std.proofs.lemmas.List.Elements.{filter-append}
use Rattle.std.proofs.lemmas.List.FromFn.{length-map-range_with_len, get_or-map-range_with_len, map-range_with_len_more, fill_by_all}
use Rattle.std.proofs.lemmas.Grind.{flat_map-append}
use Rattle.std.proofs.lemmas.Bool.{eqb-true, eqb-false}
use Rattle.agg_model.specs.declared.row.Document.{Document}
use Rattle.agg_reading.specs.Routing.{shard_of}
use Rattle.agg_reading.specs.Store.{Store, live_documents, shards_of}
use Rattle.agg_documents.specs.declared.slot.Slot.{Slot}
use Rattle.agg_documents.specs.Shards.{cut}
use Rattle.agg_documents.specs.Slots.{id_of, document_in, entries_of}

pub shards-cut : (store : Store) (n : ℕ) → shards_of store n ≡ cut (live_documents store) n
unfolding shards_of
shards-cut store n = refl

pub shard-below : (routing : List ℕ) (n : ℕ) → 1 ≤ n → shard_of routing n < n
unfolding shard_of
shard-below routing n some = omega arith

pub length-cut : (ds : List Document) (n : ℕ) → length (cut ds n) ≡ n
length-cut ds n = length-map-range_with_len (λ s. filter (λ d. shard_of d.routing n == s) ds) 0 n

pub none-more : (n : ℕ) → cut [] (n + 1) ≡ cut [] n ++ [] ∷ []
none-more n = map-range_with_len_more (λ (s : ℕ). no_document) 0 n n (omega arith)
  where
    no_document : List Document
    no_document = []

-- the documents of one shard
abbrev of_shard : ℕ → List Document → ℕ → List Document
of_shard n ds s = filter (λ d. shard_of d.routing n == s) ds

cut-at : (ds : List Document) (n j : ℕ) → j < n → get_or (cut ds n) j [] ≡ of_shard n ds j
cut-at ds n j below = get_or-map-range_with_len (of_shard n ds) 0 n j j [] below (omega arith)

push-at : (ds : List Document) (d : Document) (n j : ℕ) (b : Bool) → (shard_of d.routing n == j) ≡ b → of_shard n (ds ++ d ∷ []) j ≡ of_shard n ds j ++ cond b (d ∷ []) []
push-at ds d n j b is = filter-append (λ e. shard_of e.routing n == j) ds (d ∷ []) ∙ ap (λ (c : Bool). of_shard n ds j ++ cond c (d ∷ []) []) is

-- a document at the end of the list of its shard
pub cut-push : (ds : List Document) (d : Document) (n : ℕ) → 1 ≤ n → set (cut ds n) (shard_of d.routing n) (get_or (cut ds n) (shard_of d.routing n) [] ++ d ∷ []) ≡ cut (ds ++ d ∷ []) n
cut-push ds d n some = fill_by_all (of_shard n (ds ++ d ∷ [])) new n [] (length-set (cut ds n) k more ∙ length-cut ds n) (λ j below. by j below (k == j) refl)
  where
    k : ℕ
    k = shard_of d.routing n

    more : List Document
    more = get_or (cut ds n) k [] ++ d ∷ []

    new : List (List Document)
    new = set (cut ds n) k more

    by : (j : ℕ) → j < n → (b : Bool) → (k == j) ≡ b → get_or new j [] ≡ of_shard n (ds ++ d ∷ []) j
    by j below true is =
        let same : j ≡ k = sym (eqb-true k j is) in
        ap (λ (i : ℕ). get_or new i []) same
        ∙ (get_or-set_same (cut ds n) k more [] (subst (λ (m : ℕ). k < m) (sym (length-cut ds n)) (shard-below d.routing n some))
        ∙ (ap (λ (xs : List Document). xs ++ d ∷ []) (cut-at ds n k (shard-below d.routing n some) ∙ ap (of_shard n ds) (sym same))
        ∙ sym (push-at ds d n j true is)))
    by j below false is =
        get_or-set_other (cut ds n) k j more [] (λ same. eqb-false k j is (sym same))
        ∙ (cut-at ds n j below ∙ (sym (append-nil (of_shard n ds j)) ∙ sym (push-at ds d n j false is)))

-- ---- the live documents of the places so far

live-push : (slots : List Slot) (s : Slot) → live_documents (entries_of (slots ++ s ∷ [])) ≡ live_documents (entries_of slots) ++ option_to_list (document_in s)
unfolding live_documents
live-push slots s =
    ap (flat_map (λ (e : List ℕ × Option Document). option_to_list e.1)) (map-append (λ (t : Slot). (id_of t, document_in t)) slots (s ∷ []))
    ∙ (flat_map-append (λ (e : List ℕ × Option Document). option_to_list e.1) (entries_of slots) (entries_of (s ∷ []))
    ∙ ap (λ (ds : List Document). live_documents (entries_of slots) ++ ds) (append-nil (option_to_list (document_in s))))

-- the places that are done, and the lists of their documents
pub record Dealt (lists : List (List Document)) (rest slots : List Slot) (n : ℕ) : Type 0 where
  pub done : List Slot
  pub all : done ++ rest ≡ slots
  pub lists_are : lists ≡ cut (live_documents (entries_of done)) n

pub dealt-none : (lists : List (List Document)) (slots : List Slot) (n : ℕ) → lists ≡ cut [] n → Dealt lists slots slots n
unfolding live_documents
dealt-none lists slots n is = record { done = []; all = refl; lists_are = is }

pub length-dealt : (lists : List (List Document)) (rest slots : List Slot) (n : ℕ) → Dealt lists rest slots n → length lists ≡ n
length-dealt lists rest slots n dealt = ap length dealt.lists_are ∙ length-cut (live_documents (entries_of dealt.done)) n

dealt-next : (lists new : List (List Document)) (s : Slot) (before rest slots : List Slot) (n : ℕ) → (dealt : Dealt lists before slots n) → before ≡ s ∷ rest →
    new ≡ cut (live_documents (entries_of dealt.done) ++ option_to_list (document_in s)) n → Dealt new rest slots n
dealt-next lists new s before rest slots n dealt next is = record {
  done = dealt.done ++ s ∷ [];
  all = append_assoc dealt.done (s ∷ []) rest ∙ (ap (λ (ss : List Slot). dealt.done ++ ss) (sym next) ∙ dealt.all);
  lists_are = is ∙ ap (λ (ds : List Document). cut ds n) (sym (live-push dealt.done s));
}

pub dealt-live : (lists new : List (List Document)) (s : Slot) (d : Document) (before rest slots : List Slot) (n : ℕ) → 1 ≤ n → Dealt lists before slots n → before ≡ s ∷ rest → document_in s ≡ Some d →
    new ≡ set lists (shard_of d.routing n) (get_or lists (shard_of d.routing n) [] ++ d ∷ []) → Dealt new rest slots n
dealt-live lists new s d before rest slots n some dealt next live is =
    dealt-next lists new s before rest slots n dealt next
    (is ∙ (ap (λ (ls : List (List Document)). set ls (shard_of d.routing n) (get_or ls (shard_of d.routing n) [] ++ d ∷ [])) dealt.lists_are
    ∙ (cut-push (live_documents (entries_of dealt.done)) d n some ∙ ap (λ (o : Option Document). cut (live_documents (entries_of dealt.done) ++ option_to_list o) n) (sym live))))

pub dealt-gone : (lists : List (List Document)) (s : Slot) (before rest slots : List Slot) (n : ℕ) → Dealt lists before slots n → before ≡ s ∷ rest → document_in s ≡ None → Dealt lists rest slots n
dealt-gone lists s before rest slots n dealt next gone =
    dealt-next lists lists s before rest slots n dealt next
    (dealt.lists_are ∙ (ap (λ (ds : List Document). cut ds n) (sym (append-nil (live_documents (entries_of dealt.done))) ∙ ap (λ (o : Option Document). live_documents (entries_of dealt.done) ++ option_to_list o) (sym gone))))

pub dealt-all : (lists : List (List Document)) (rest slots : List Slot) (n : ℕ) → Dealt lists rest slots n → rest ≡ [] → lists ≡ shards_of (entries_of slots) n
dealt-all lists rest slots n dealt none =
    dealt.lists_are ∙ (ap (λ (ss : List Slot). cut (live_documents (entries_of ss)) n) (sym (append-nil dealt.done) ∙ (ap (λ (ss : List Slot). dealt.done ++ ss) (sym none) ∙ dealt.all))
    ∙ sym (shards-cut (entries_of slots) n))
