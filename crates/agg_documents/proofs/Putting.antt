-- What a put or a delete answers, by the numbers that the store keeps.
use Rattle.std.proofs.Common.{◌≡◌, refl, ℕ, ◌+◌, ◌-◌, ◌^◌, ◌<◌, ◌≤◌, Bool, true, false, ◌&&◌, if◌then◌else◌, min, nat_lt, get_or, length, List, [], Option, None, Some, Ok, sym, ◌∙◌, ap, arith}
use Rattle.std.specs.Option.{option_map, option_map_or, unwrap_or, is_some}
use Rattle.std.proofs.lemmas.Bool.{lt-ltb, le-ltb}
use Rattle.agg_model.specs.declared.row.Row.{Row}
use Rattle.agg_model.specs.declared.row.Document.{Document}
use Rattle.agg_model.specs.declared.bulk.Action.{Action}
use Rattle.agg_model.specs.declared.bulk.ActionKind.{ActionKind}
use Rattle.agg_model.specs.declared.bulk.Applied.{Applied}
use Rattle.agg_model.specs.declared.bulk.Applied.TheVariants.{Created, Updated, Deleted, NotFound}
use Rattle.agg_reading.specs.Reading.{Reading, refuse}
use Rattle.agg_reading.specs.Store.{Store, live_at, with_document, live_documents, weight, store_weight, is_create, kept, put_row, deleted}
use Rattle.agg_documents.specs.Slots.{ids, place_of}
use Rattle.agg_documents.proofs.Entries.{one, weight-put, count-put, weight-within}
use Rattle.agg_documents.proofs.Places.{new-live, found-live}

-- ---- what is known of the document that is replaced, by its weight

measured : (o : Option Document) (w : ℕ) → Some w ≡ option_map weight o → (option_map_or weight o 0 ≡ w) × (option_map_or one o 0 ≡ 1)
measured None w h = absurd (cc)
measured (Some d) w h = (cc, refl)

unmeasured : (o : Option Document) → None ≡ option_map weight o → (option_map_or weight o 0 ≡ 0) × (option_map_or one o 0 ≡ 0)
unmeasured None h = (refl, refl)
unmeasured (Some d) h = absurd (cc)

unwrapped : (o : Option Document) → unwrap_or (option_map weight o) 0 ≡ option_map_or weight o 0
unwrapped None = refl
unwrapped (Some d) = refl

pub is_live : (o : Option Document) → is_some (option_map weight o) ≡ is_some o
is_live None = refl
is_live (Some d) = refl

-- ---- by the place of an id

pub new-is : (id : List ℕ) (es : Store) → place_of id (ids es) ≡ None → None ≡ option_map weight (live_at id es)
new-is id es new = sym (ap (option_map weight) (new-live id es new))

pub found-is : (id : List ℕ) (es : Store) (p : ℕ) (r : Option ℕ) (d : List ℕ × Option Document) → place_of id (ids es) ≡ Some p → r ≡ option_map weight (get_or es p d).1 → r ≡ option_map weight (live_at id es)
found-is id es p r d found is = is ∙ sym (ap (option_map weight) (found-live id es p d found))

pub never_create : (kind : ActionKind) → false ≡ (is_create kind && is_some {T = ℕ} None)
never_create kind = with_false (is_create kind)
  where
    with_false : (b : Bool) → false ≡ (b && false)
    with_false true = refl
    with_false false = refl

-- ---- delete

pub gone-live : (id : List ℕ) (es : Store) (w live : ℕ) → Some w ≡ option_map weight (live_at id es) → live ≡ length (live_documents es) →
    (1 ≤ live) × (live - 1 ≡ length (live_documents (with_document id None es)))
gone-live id es w live found is =
    let m = measured (live_at id es) w found in
    let n = count-put id None es in
    (omega (arith, m.1, n, is), omega (arith, m.1, n, is))

pub gone-weight : (id : List ℕ) (es : Store) (w all : ℕ) → Some w ≡ option_map weight (live_at id es) → all ≡ store_weight es →
    (w ≤ all) × (all - w ≡ store_weight (with_document id None es))
gone-weight id es w all found is =
    let m = measured (live_at id es) w found in
    let n = weight-put id None es in
    (omega (arith, m.0, n, is), omega (arith, m.0, n, is))

pub deleted-new : (id : List ℕ) (es : Store) → live_at id es ≡ None → (NotFound, es) ≡ deleted id es
unfolding deleted
deleted-new id es gone = sym (ap (λ (o : Option Document). if is_some o then (Deleted, with_document id None es) else (NotFound, es)) gone)

no_document : (o : Option Document) → None ≡ option_map weight o → o ≡ None
no_document None h = refl
no_document (Some d) h = absurd (cc)

pub deleted-gone : (id : List ℕ) (es : Store) → None ≡ option_map weight (live_at id es) → (NotFound, es) ≡ deleted id es
deleted-gone id es gone = deleted-new id es (no_document (live_at id es) gone)

some_document : (o : Option Document) (w : ℕ) → Some w ≡ option_map weight o → is_some o ≡ true
some_document None w h = absurd (cc)
some_document (Some d) w h = refl

pub deleted-live : (id : List ℕ) (es new : Store) (w : ℕ) → Some w ≡ option_map weight (live_at id es) → new ≡ with_document id None es → (Deleted, new) ≡ deleted id es
unfolding deleted
deleted-live id es new w live placed =
    ap (λ (e : Store). (Deleted, e)) placed
    ∙ sym (ap (λ (b : Bool). if b then (Deleted, with_document id None es) else (NotFound, es)) (some_document (live_at id es) w live))

-- ---- put

pub replaced-within : (id : List ℕ) (es : Store) (r : Option ℕ) → r ≡ option_map weight (live_at id es) → unwrap_or r 0 ≤ store_weight es
replaced-within id es r is =
    let u : unwrap_or r 0 ≡ option_map_or weight (live_at id es) 0 = ap (λ (o : Option ℕ). unwrap_or o 0) is ∙ unwrapped (live_at id es) in
    omega (arith, u, weight-within id es)

-- the weight after the put, up to where it is counted
pub put-weight : (id : List ℕ) (es : Store) (d : Document) (r : Option ℕ) (all old added w : ℕ) → r ≡ option_map weight (live_at id es) → all ≡ store_weight es →
    old ≡ unwrap_or r 0 → added ≡ min (weight d) (2 ^ 64 - 1) → w ≡ min ((all - old) + added) (2 ^ 64 - 1) → w ≡ min (store_weight (with_document id (Some d) es)) (2 ^ 64 - 1)
put-weight id es d r all old added w is is_all is_old is_added is_w =
    let u : old ≡ option_map_or weight (live_at id es) 0 = is_old ∙ (ap (λ (o : Option ℕ). unwrap_or o 0) is ∙ unwrapped (live_at id es)) in
    let p = weight-put id (Some d) es in
    let q = weight-within id es in
    omega (arith, u, p, q, is_all, is_added, is_w)

pub put-live : (id : List ℕ) (es : Store) (d : Document) (w live : ℕ) → Some w ≡ option_map weight (live_at id es) → live ≡ length (live_documents es) → live ≡ length (live_documents (with_document id (Some d) es))
put-live id es d w live found is =
    let m = measured (live_at id es) w found in
    omega (arith, m.1, count-put id (Some d) es, is)

pub put-new : (id : List ℕ) (es : Store) (d : Document) (live : ℕ) → None ≡ option_map weight (live_at id es) → live ≡ length (live_documents es) → live + 1 ≡ length (live_documents (with_document id (Some d) es))
put-new id es d live found is =
    let m = unmeasured (live_at id es) found in
    omega (arith, m.1, count-put id (Some d) es, is)

-- ---- the answer

module _ (action : Action) (root : Row) (es : Store) where
  -- the store after the put
  abbrev put : Store
  put = with_document action.id (Some (record { id = action.id; routing = action.routing; root = root })) es

  free : (create live : Bool) (what : Reading (Applied × Store)) → (create && live) ≡ false → (if create && live then refuse 26 [] else what) ≡ what
  free create live what h = ap (λ (b : Bool). if b then refuse 26 [] else what) h

  same_test : (b : Bool) (r : Option ℕ) → r ≡ option_map weight (live_at action.id es) → b ≡ (is_create action.kind && is_some r) → (is_create action.kind && is_some (live_at action.id es)) ≡ b
  same_test b r is test = ap (λ (l : Bool). is_create action.kind && l) (sym (ap is_some is ∙ is_live (live_at action.id es))) ∙ sym test

  pub put-conflict : (b : Bool) (r : Option ℕ) → r ≡ option_map weight (live_at action.id es) → b ≡ (is_create action.kind && is_some r) → b ≡ true → put_row action root es ≡ refuse 26 []
  unfolding put_row
  put-conflict b r is test on =
      ap (λ (t : Bool). if t then refuse 26 [] else kept (if is_some (live_at action.id es) then Updated else Created) put) (same_test b r is test ∙ on)

  stays : (b : Bool) (r : Option ℕ) → r ≡ option_map weight (live_at action.id es) → b ≡ (is_create action.kind && is_some r) → b ≡ false →
      put_row action root es ≡ kept (if is_some (live_at action.id es) then Updated else Created) put
  unfolding put_row
  stays b r is test off = free (is_create action.kind) (is_some (live_at action.id es)) (kept (if is_some (live_at action.id es) then Updated else Created) put) (same_test b r is test ∙ off)

  pub put-full : (b : Bool) (r : Option ℕ) (w : ℕ) → r ≡ option_map weight (live_at action.id es) → b ≡ (is_create action.kind && is_some r) → b ≡ false →
      w ≡ min (store_weight put) (2 ^ 64 - 1) → 2 ^ 32 ≤ w → put_row action root es ≡ refuse 28 []
  put-full b r w is test off is_w full =
      let heavy : nat_lt (store_weight put) (2 ^ 32) ≡ false = le-ltb (store_weight put) (2 ^ 32) (omega (arith, is_w, full)) in
      let what = (if is_some (live_at action.id es) then Updated else Created) in
      stays b r is test off ∙ ap (λ (t : Bool). if t then Ok (what, put) else refuse 28 []) heavy

  pub put-done : (b : Bool) (r : Option ℕ) (w : ℕ) (new : Store) → r ≡ option_map weight (live_at action.id es) → b ≡ (is_create action.kind && is_some r) → b ≡ false →
      w ≡ store_weight put → w < 2 ^ 32 → new ≡ put → put_row action root es ≡ Ok ((if is_some r then Updated else Created), new)
  put-done b r w new is test off is_w light placed =
      let fits : nat_lt (store_weight put) (2 ^ 32) ≡ true = lt-ltb (store_weight put) (2 ^ 32) (omega (arith, is_w, light)) in
      let what = (if is_some (live_at action.id es) then Updated else Created) in
      stays b r is test off
      ∙ (ap (λ (t : Bool). if t then Ok (what, put) else refuse 28 []) fits
      ∙ (ap (λ (l : Bool). Ok ((if l then Updated else Created), put)) (sym (ap is_some is ∙ is_live (live_at action.id es)))
      ∙ ap (λ (e : Store). Ok ((if is_some r then Updated else Created), e)) (sym placed)))
