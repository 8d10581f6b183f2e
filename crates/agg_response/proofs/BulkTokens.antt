-- The line of bulk actions as it is written: the tokens of its parts are those of the whole.
use Rattle.std.specs.Prelude.{◌≡◌, refl, ℕ, Bool, true, false, if◌then◌else◌, List, [], ◌∷◌, ◌++◌, codes, decimal, Ok}
use Rattle.std.proofs.Common.{◌∙◌, sym, ap, append_assoc, append-nil}
use Rattle.std.specs.List.{list_any}
use Rattle.json.specs.Token.{Token, begin_object, end_object, begin_array, key, string, number, boolean}
use Rattle.json.specs.Print.{print}
use Rattle.json.specs.Written.{Written, Writes}
use Rattle.serde_json.specs.Data.{Data}
use Rattle.serde_json.specs.Data as value
use Rattle.serde_json.proofs.OnLiterals.{serde_json_on_literals}
use Rattle.serde_json.proofs.Texts.{print-outline}
use Rattle.agg_model.specs.declared.bulk.Item.{Item}
use Rattle.agg_model.specs.declared.bulk.ItemEnd.{ItemEnd}
use Rattle.agg_model.specs.declared.bulk.ItemEnd.TheVariants as end
use Rattle.agg_model.specs.declared.bulk.ItemRefusal.{ItemRefusal}
use Rattle.agg_spec.specs.BulkLine.{bulk_line, items_value, is_refusal, end_members, refusal_path, refusal_type, refusal_status}
use Rattle.agg_spec.specs.Json.{object_of, array_of, count}
use Rattle.agg_response.specs.Tokens.{value_tokens, values_tokens, member_tokens, Adds}

-- one token, and one part after another
pub one : {a b : Written} {t : Token} {E : Type 0} {u : Unit {0}} → Writes {E = E} (Ok u) a b t → Adds a b (t ∷ [])
one w = record { before = w.room.0; tokens = w.ok }

pub next : {a b c : Written} {xs ys : List Token} → Adds a b xs → Adds b c ys → Adds a c (xs ++ ys)
next {a} {b} {c} {xs} {ys} p q = record {
  before = q.before ∙ p.before;
  tokens = q.tokens ∙ ap (λ ts. ts ++ ys) p.tokens ∙ append_assoc a.tokens xs ys;
}

-- tokens by another name
pub as_tokens : {a b : Written} {xs ys : List Token} → xs ≡ ys → Adds a b xs → Adds a b ys
as_tokens {a} {b} {xs} {ys} e p = record { before = p.before; tokens = p.tokens ∙ ap (λ ts. a.tokens ++ ts) e }

-- a member whose value is known by another name
pub by_text : {name s t : List ℕ} {a b : Written} → s ≡ t → Adds a b (key name ∷ string s ∷ []) → Adds a b (key name ∷ string t ∷ [])
by_text {name} e = as_tokens (ap (λ s. key name ∷ string s ∷ []) e)

pub by_count : {name : List ℕ} {n m : ℕ} {a b : Written} → n ≡ m → Adds a b (key name ∷ number (decimal n) ∷ []) → Adds a b (key name ∷ number (decimal m) ∷ [])
by_count {name} e = as_tokens (ap (λ n. key name ∷ number (decimal n) ∷ []) e)

path_or_none : (b : Bool) (n : ℕ) (path type : List ℕ)
    → begin_object ∷ key (codes "number") ∷ number (decimal n) ∷
    (member_tokens (if b then [] else (codes "path", value.string path) ∷ []) ++ key (codes "type") ∷ string type ∷ end_object ∷ [])
    ≡ value_tokens (object_of ((codes "number", count n) ∷
    ((if b then [] else (codes "path", value.string path) ∷ []) ++ (codes "type", value.string type) ∷ [])))
unfolding serde_json_on_literals
path_or_none true n path type = refl
path_or_none false n path type = refl

-- the error of a refused item
abbrev pub error_of : ItemRefusal → Data
error_of r = object_of ((codes "number", count r.number) ∷ (refusal_path r ++ (codes "type", value.string (refusal_type r.number)) ∷ []))

pub error_tokens : (r : ItemRefusal)
    → begin_object ∷ key (codes "number") ∷ number (decimal r.number) ∷
    (member_tokens (refusal_path r) ++ key (codes "type") ∷ string (refusal_type r.number) ∷ end_object ∷ []) ≡ value_tokens (error_of r)
error_tokens r = path_or_none _ r.number r.path (refusal_type r.number)

-- an item
pub item_tokens : (name id index : List ℕ) (e : ItemEnd)
    → begin_object ∷ key name ∷ begin_object ∷ key (codes "_id") ∷ string id ∷ key (codes "_index") ∷ string index ∷
    (member_tokens (end_members e) ++ end_object ∷ end_object ∷ [])
    ≡ value_tokens (object_of ((name, object_of ((codes "_id", value.string id) ∷ (codes "_index", value.string index) ∷ end_members e)) ∷ []))
unfolding serde_json_on_literals
item_tokens name id index (end.Applied a) = refl
item_tokens name id index (end.Refused r) =
    let error = value_tokens (error_of r) in
    let status = number (decimal (refusal_status r.number)) in
    ap (λ ts. begin_object ∷ key name ∷ begin_object ∷ key (codes "_id") ∷ string id ∷ key (codes "_index") ∷ string index ∷ key (codes "error") ∷ ts)
    (append_assoc error (key (codes "status") ∷ status ∷ []) (end_object ∷ end_object ∷ [])
    ∙ sym (append_assoc error (key (codes "status") ∷ status ∷ end_object ∷ []) (end_object ∷ [])))

pub line_tokens : (b : Bool) (ds : List Data)
    → begin_object ∷ key (codes "errors") ∷ boolean b ∷ key (codes "items") ∷ begin_array ∷
    (values_tokens ds ++ key (codes "took") ∷ number (decimal 0) ∷ end_object ∷ [])
    ≡ value_tokens (object_of ((codes "errors", value.boolean b) ∷ (codes "items", array_of ds) ∷ (codes "took", count 0) ∷ []))
unfolding serde_json_on_literals
line_tokens b ds = refl

-- nothing
pub none : {a : Written} → Adds a a []
none {a} = record { before = refl; tokens = sym (append-nil a.tokens) }

-- the line with all the items
abbrev pub listing : List ℕ → List Item → Data
listing index items = object_of ((codes "errors", value.boolean (list_any (λ i. is_refusal i.end) items)) ∷ (codes "items", items_value index items false) ∷
    (codes "took", count 0) ∷ [])

-- what a writer that stands at the beginning gives once it has written that
pub listed_text : (index : List ℕ) (items : List Item) (a b : Written) → a.before ≡ [] → a.tokens ≡ [] → Adds a b (value_tokens (listing index items))
    → b.before ++ print b.tokens ≡ bulk_line index items false
listed_text index items a b none_before no_tokens w =
    (λ i. (w.before ∙ none_before) i ++ print ((w.tokens ∙ ap (λ ts. ts ++ value_tokens (listing index items)) no_tokens) i))
    ∙ print-outline (listing index items)
