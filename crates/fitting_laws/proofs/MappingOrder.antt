-- Each nested path of a mapping that is read stands behind the one around it.
use Rattle.std.specs.Prelude.{◌≡◌, refl, ℕ, zero, suc, ◌+◌, ◌≤◌, ◌==◌, List, [], ◌∷◌, ◌++◌, map, length, Bool, true, false, not, ◌&&◌, Option, Some, None, IfOk, IfSome, if◌then◌else◌, unwrap_or, nat_lt, nat_le, codes}
use Rattle.std.specs.List.{list_all, list_any}
use Rattle.std.specs.Str.{bytes_eq}
use Rattle.std.specs.Option.{option_map_or}
use Rattle.std.specs.declared.cmp.Ordering.{Ordering}
use Rattle.std.specs.declared.cmp.Ordering.TheVariants.{Less, Equal, Greater}
use Rattle.std.specs.Ordering.{nat_cmp, is_lt, ordering_reverse}
use Rattle.std.specs.Cmp.Lexicographic.{slice_cmp}
use Rattle.std.proofs.Common.{sym, ◌∙◌, ap, arith, append_assoc, length-append}
use Rattle.std.proofs.lemmas.Bool.{false≢true, true≢false, and_parts, and_from}
use Rattle.std.proofs.lemmas.Bool.Decides.{nat_tests}
use Rattle.std.proofs.lemmas.Cmp.{nat_list_cmp_total, nat_cmp_total}
use Rattle.std.proofs.lemmas.Slice.Eq.{bytes_eq-Decides}
use Rattle.list_laws.proofs.Orders.{less_of}
use Rattle.serde_json.specs.Data.{Data, Members, no_members, member}
use Rattle.agg_model.specs.declared.mapping.FieldKind.{FieldKind}
use Rattle.agg_model.specs.declared.mapping.Mapping.{Mapping}
use Rattle.agg_reading.specs.declared.names.FieldType.{FieldType}
use Rattle.agg_reading.specs.declared.names.FieldType.TheVariants.{Leaf, Object, Nested}
use Rattle.agg_reading.specs.declared.parts.Found.{Found}
use Rattle.agg_reading.specs.declared.parts.FoundPath.{FoundPath}
use Rattle.agg_reading.specs.declared.parts.IndexLine.{IndexLine}
use Rattle.agg_reading.specs.Reading.{Reading, refuse, or_refuse}
use Rattle.agg_reading.specs.Pointer.{member_step}
use Rattle.agg_reading.specs.Json.{reading, object_at, known, optional}
use Rattle.agg_reading.specs.Properties.{is_before, place, is_field_name, format_at, bound_at, leaf_names, leaf_at, is_full, with_nested, with_object, fields_from, properties_at, properties_of, inner_at, by_type, type_in, property_at}
use Rattle.agg_reading.specs.Mapping.{found_from, context_of, numbered, numbered_path, found_in, nothing_found, dynamic_at, mapping_at, empty_mapping}
use Rattle.agg_reading.proofs.Steps.{then_ok, next_ok, if_ok}
use Rattle.agg_reading.specs.IndexLine.{settings_at, index_name_at, index_value_at, index_line_at}
use Rattle.agg_reading.proofs.IndexLineLaws.{optional_of-ok}
use Rattle.agg_model.specs.Contexts.{parents_before, parents_before_from}

-- byte order

same_reversed : (o : Ordering) → o ≡ ordering_reverse o → is_lt o ≡ false
same_reversed Less e = absurd (true≢false (ap is_lt e))
same_reversed Equal e = refl
same_reversed Greater e = refl

before_itself : (a : List ℕ) → is_before a a ≡ false
before_itself a = same_reversed (slice_cmp nat_cmp a a) (nat_list_cmp_total.antisymm a a)

not_back : (a b : List ℕ) → is_before a b ≡ true → is_before b a ≡ false
not_back a b h = ap is_lt (nat_list_cmp_total.antisymm b a ∙ ap ordering_reverse (less_of (slice_cmp nat_cmp a b) h))

before-trans : (a b c : List ℕ) → is_before a b ≡ true → is_before b c ≡ true → is_before a c ≡ true
before-trans a b c h k = ap is_lt (nat_list_cmp_total.trans a b c (less_of (slice_cmp nat_cmp a b) h) (less_of (slice_cmp nat_cmp b c) k))

equal_itself : (o : Ordering) → o ≡ ordering_reverse o → o ≡ Equal
equal_itself Less e = absurd (true≢false (ap is_lt e))
equal_itself Equal e = refl
equal_itself Greater e = absurd (false≢true (ap is_lt e))

before_longer : (a : List ℕ) (x : ℕ) (b : List ℕ) → is_before a (a ++ x ∷ b) ≡ true
before_longer [] x b = refl
before_longer (y ∷ a) x b = rw (equal_itself (nat_cmp y y) (nat_cmp_total.antisymm y y)) (before_longer a x b)

-- paths that ascend, each behind the one around it

abbrev no_later : List ℕ → List FoundPath → Bool
no_later path ps = list_all (λ (q : FoundPath). not (is_before q.path path)) ps

abbrev ascend : List FoundPath → Bool
ascend [] = true
ascend (p ∷ ps) = no_later p.path ps && ascend ps

abbrev behind : List FoundPath → Bool
behind ps = list_all (λ (p : FoundPath). is_before p.within p.path) ps

place_all : (p : FoundPath → Bool) (x : FoundPath) (ys : List FoundPath) → p x ≡ true → list_all p ys ≡ true → list_all p (place (λ q. q.path) x ys) ≡ true
unfolding place
place_all p x [] h k = and_from _ _ h refl
place_all p x (y ∷ ys) h k =
    let parts = and_parts (p y) (list_all p ys) k in
    elim (is_before x.path y.path) as (λ b. list_all p (if b then x ∷ y ∷ ys else y ∷ place (λ q. q.path) x ys) ≡ true) [ true ↦ and_from _ _ h k | false ↦ and_from _ _ parts.0 (place_all p x ys h parts.1) ]

earlier : (a b : List ℕ) (ps : List FoundPath) → is_before a b ≡ true → no_later b ps ≡ true → no_later a ps ≡ true
earlier a b [] low h = refl
earlier a b (q ∷ ps) low h =
    let parts = and_parts (not (is_before q.path b)) (no_later b ps) h in
    and_from _ _
    (elim (is_before q.path a) as (λ e. is_before q.path a ≡ e → not e ≡ true) [
      | true ↦ λ e. absurd (false≢true (ap not (sym (before-trans q.path a b e low)) ∙ parts.0))
      | false ↦ λ e. refl
    ] refl) (earlier a b ps low parts.1)

place_ascends : (x : FoundPath) (ys : List FoundPath) → ascend ys ≡ true → ascend (place (λ q. q.path) x ys) ≡ true
unfolding place
place_ascends x [] h = refl
place_ascends x (y ∷ ys) h =
    let parts = and_parts (no_later y.path ys) (ascend ys) h in
    elim (is_before x.path y.path) as (λ b. is_before x.path y.path ≡ b → ascend (if b then x ∷ y ∷ ys else y ∷ place (λ q. q.path) x ys) ≡ true) [
      | true ↦ λ e. and_from _ _ (and_from _ _ (ap not (not_back x.path y.path e)) (earlier x.path y.path ys e parts.0)) h
      | false ↦ λ e. and_from _ _ (place_all (λ (q : FoundPath). not (is_before q.path y.path)) x ys (ap not e) parts.0) (place_ascends x ys parts.1)
    ] refl

abbrev Good : Found → Type 0
Good found = (ascend found.nested ≡ true) × (behind found.nested ≡ true)

-- the walk keeps them so

leaf_good : (kind : FieldKind) (within path at : List ℕ) (found : Found) (ms : Members) → Good found → IfOk (leaf_at kind within path at found ms) Good
unfolding leaf_at
leaf_good kind within path at found ms g =
    if_ok Good (is_full found) (refuse 31 at) _ (λ e. tt) (λ e.
    then_ok Good (known 31 (leaf_names kind) at ms) _ (λ _.
    then_ok Good (optional format_at (codes "format") at ms) _ (λ _.
    then_ok Good (optional bound_at (codes "ignore_above") at ms) _ (λ above. g))))

abbrev Keeps : (List ℕ → List ℕ → List ℕ → Found → Data → Reading Found) → Type 0
Keeps field = (within path at : List ℕ) (found : Found) (d : Data) → is_before within path ≡ true → Good found → IfOk (field within path at found d) Good

-- every name behind this front is behind the path around it
abbrev Front : List ℕ → List ℕ → Type 0
Front within front = (k : List ℕ) → nat_lt 0 (length k) ≡ true → is_before within (front ++ k) ≡ true

name_some : (k : List ℕ) → is_field_name k ≡ true → nat_lt 0 (length k) ≡ true
unfolding is_field_name
name_some k h = (and_parts (nat_lt 0 (length k)) (nat_le (length k) 255) (and_parts (nat_lt 0 (length k) && nat_le (length k) 255) (not (list_any (λ b. b == 46) k)) h).0).0

fields_good : (field : List ℕ → List ℕ → List ℕ → Found → Data → Reading Found) → Keeps field → (within front at : List ℕ) (found : Found) (ms : Members) → Front within front → Good found → IfOk (fields_from field within front at found ms) Good
unfolding fields_from
fields_good field h within front at found no_members f g = g
fields_good field h within front at found (member k d ms) f g =
    if_ok Good (is_field_name k) _ (refuse 31 (at ++ member_step k))
    (λ e. next_ok Good Good (field within (front ++ k) (at ++ member_step k) found d) _ (h within (front ++ k) (at ++ member_step k) found d (f k (name_some k e)) g) (λ next n. fields_good field h within front at next ms f n))
    (λ e. tt)

properties_good : (field : List ℕ → List ℕ → List ℕ → Found → Data → Reading Found) → Keeps field → (within front at : List ℕ) (found : Found) (o : Option Data) → Front within front → Good found → IfOk (properties_of field within front at found o) Good
unfolding properties_at
properties_good field h within front at found None f g = g
properties_good field h within front at found (Some d) f g = then_ok Good (object_at 31 at d) _ (λ ms. fields_good field h within front at found ms f g)

-- the path of what lies in an object at a path
after_dot : (path k : List ℕ) → is_before path ((path ++ 46 ∷ []) ++ k) ≡ true
after_dot path k = ap (is_before path) (append_assoc path (46 ∷ []) k) ∙ before_longer path 46 k

inner_good : (field : List ℕ → List ℕ → List ℕ → Found → Data → Reading Found) → Keeps field → (within path at : List ℕ) (found : Found) (ms : Members) → Front within (path ++ 46 ∷ []) → Good found → IfOk (inner_at field within path at found ms) Good
unfolding inner_at
inner_good field h within path at found ms f g =
    then_ok Good (known 31 (codes "properties" ∷ codes "type" ∷ []) at ms) _ (λ _. properties_good field h within _ _ found _ f g)

type_good : (field : List ℕ → List ℕ → List ℕ → Found → Data → Reading Found) → Keeps field → (t : FieldType) (within path at : List ℕ) (found : Found) (ms : Members) → is_before within path ≡ true → Good found → IfOk (by_type field t within path at found ms) Good
type_good field h (Leaf kind) within path at found ms low g = leaf_good kind within path at found ms g
type_good field h Object within path at found ms low g = inner_good field h within path at (with_object path found) ms (λ k some. before-trans within path ((path ++ 46 ∷ []) ++ k) low (after_dot path k)) g
type_good field h Nested within path at found ms low g =
    if_ok Good (is_full found) (refuse 31 at) _ (λ e. tt) (λ e.
    let one : FoundPath = record { path = path; within = within } in
    inner_good field h path path at (with_nested within path found) ms (λ k some. after_dot path k)
    (place_ascends one found.nested g.0, place_all (λ (p : FoundPath). is_before p.within p.path) one found.nested low g.1))

property_good : (left : ℕ) → Keeps (property_at left)
unfolding property_at
property_good zero within path at found d low g = tt
property_good (suc left) within path at found d low g =
    then_ok Good (object_at 31 at d) _ (λ ms.
    then_ok Good (type_in at ms) _ (λ t. type_good (property_at left) (property_good left) t within path at found ms low g))

first_front : Front [] []
first_front [] some = absurd (false≢true some)
first_front (x ∷ k) some = refl

found_good : (at : List ℕ) (ms : Members) → IfOk (found_in at ms) Good
unfolding found_in
found_good at ms = properties_good (property_at 20) (property_good 20) [] [] _ nothing_found _ first_front (refl, refl)

-- where the path around a path stands

abbrev NoneOf : List ℕ → List FoundPath → Type 0
NoneOf path ps = list_all (λ (q : FoundPath). not (bytes_eq q.path path)) ps ≡ true

found_among : (n : ℕ) (front rest : List FoundPath) (path : List ℕ) → NoneOf path rest → option_map_or (λ i. i + 1) (found_from n (front ++ rest) path) 0 ≤ n + length front
unfolding found_from
found_among n [] [] path none = omega arith
found_among n [] (q ∷ rest) path none =
    let parts = and_parts (not (bytes_eq q.path path)) (list_all (λ (q : FoundPath). not (bytes_eq q.path path)) rest) none in
    elim (bytes_eq q.path path) as (λ b. not b ≡ true → option_map_or (λ i. i + 1) (if b then Some n else found_from (n + 1) rest path) 0 ≤ n + 0) [
      | true ↦ λ e. absurd (false≢true e)
      | false ↦ λ e. omega (arith, none_found (n + 1) rest path parts.1)
    ] parts.0
  where
    none_found : (n : ℕ) (rest : List FoundPath) (path : List ℕ) → NoneOf path rest → option_map_or (λ i. i + 1) (found_from n rest path) 0 ≡ 0
    none_found n [] path none = refl
    none_found n (q ∷ rest) path none =
        let parts = and_parts (not (bytes_eq q.path path)) (list_all (λ (q : FoundPath). not (bytes_eq q.path path)) rest) none in
        elim (bytes_eq q.path path) as (λ b. not b ≡ true → option_map_or (λ i. i + 1) (if b then Some n else found_from (n + 1) rest path) 0 ≡ 0) [
          | true ↦ λ e. absurd (false≢true e)
          | false ↦ λ e. none_found (n + 1) rest path parts.1
        ] parts.0
found_among n (p ∷ front) rest path none =
    let more = found_among (n + 1) front rest path none in
    elim (bytes_eq p.path path) as (λ b. option_map_or (λ i. i + 1) (if b then Some n else found_from (n + 1) (front ++ rest) path) 0 ≤ n + suc (length front)) [ true ↦ omega arith | false ↦ omega (arith, more) ]

not_same : (w : List ℕ) (path q : List ℕ) → is_before w path ≡ true → is_before q path ≡ false → not (bytes_eq q w) ≡ true
not_same w path q low high =
    elim (bytes_eq q w) as (λ b. bytes_eq q w ≡ b → not b ≡ true) [
      | true ↦ λ e. absurd (true≢false (sym low ∙ ap (λ (x : List ℕ). is_before x path) (sym ((bytes_eq-Decides q w).0 e)) ∙ high))
      | false ↦ λ e. refl
    ] refl

none_of : (w path : List ℕ) (ps : List FoundPath) → is_before w path ≡ true → no_later path ps ≡ true → NoneOf w ps
none_of w path [] low h = refl
none_of w path (q ∷ ps) low h =
    let parts = and_parts (not (is_before q.path path)) (no_later path ps) h in
    and_from _ _ (not_same w path q.path low (is_false (is_before q.path path) parts.0)) (none_of w path ps low parts.1)
  where
    is_false : (b : Bool) → not b ≡ true → b ≡ false
    is_false true e = absurd (false≢true e)
    is_false false e = refl

suffix_before : (front ps : List FoundPath) → ascend ps ≡ true → behind ps ≡ true → parents_before_from (length front) (map (numbered_path (front ++ ps)) ps) ≡ true
unfolding numbered_path context_of
suffix_before front [] up back = refl
suffix_before front (p ∷ ps) up back =
    let ups = and_parts (no_later p.path ps) (ascend ps) up in
    let backs = and_parts (is_before p.within p.path) (behind ps) back in
    let none : NoneOf p.within (p ∷ ps) = and_from _ _ (not_same p.within p.path p.path backs.0 (before_itself p.path)) (none_of p.within p.path ps backs.0 ups.0) in
    let low : option_map_or (λ i. i + 1) (found_from 0 (front ++ p ∷ ps) p.within) 0 ≤ 0 + length front = found_among 0 front (p ∷ ps) p.within none in
    let all : front ++ p ∷ ps ≡ (front ++ p ∷ []) ++ ps = sym (append_assoc front (p ∷ []) ps) in
    let more : length (front ++ p ∷ []) ≡ length front + 1 = length-append front (p ∷ []) in
    and_from _ _ (grind (arith, nat_tests, low))
    (ap (λ (whole : List FoundPath). parents_before_from (length front + 1) (map (numbered_path whole) ps)) all
    ∙ ap (λ (n : ℕ). parents_before_from n (map (numbered_path ((front ++ p ∷ []) ++ ps)) ps)) (sym more) ∙ suffix_before (front ++ p ∷ []) ps ups.1 backs.1)

pub mapping_before : (at : List ℕ) (d : Data) → IfOk (mapping_at at d) (λ m. parents_before m ≡ true)
unfolding mapping_at numbered
mapping_before at d =
    let P : Mapping → Type 0 = λ m. parents_before m ≡ true in
    then_ok P (object_at 31 at d) _ (λ ms.
    then_ok P (known 31 (codes "dynamic" ∷ codes "properties" ∷ []) at ms) _ (λ _.
    then_ok P (optional dynamic_at (codes "dynamic") at ms) _ (λ strict.
    next_ok Good P (found_in at ms) _ (found_good at ms) (λ found g. suffix_before [] found.nested g.0 g.1))))

-- of an index line

line_before : (d : Data) → IfOk (index_value_at d) (λ l. parents_before l.mapping ≡ true)
unfolding index_value_at
line_before d =
    let P : IndexLine → Type 0 = λ l. parents_before l.mapping ≡ true in
    then_ok P (object_at 31 [] d) _ (λ ms.
    then_ok P (known 31 (codes "index" ∷ codes "mappings" ∷ codes "settings" ∷ []) [] ms) _ (λ _.
    then_ok P (optional index_name_at (codes "index") [] ms) _ (λ name.
    next_ok (λ o. IfSome o (λ (m : Mapping). parents_before m ≡ true)) P (optional mapping_at (codes "mappings") [] ms) _ (optional_of-ok (λ (m : Mapping). parents_before m ≡ true) mapping_at _ _ mapping_before) (λ mapping h.
    then_ok P (optional settings_at (codes "settings") [] ms) _ (λ shards.
    then_ok P (or_refuse 31 [] name) _ (λ given. or_empty mapping h))))))
  where
    or_empty : (o : Option Mapping) → IfSome o (λ (m : Mapping). parents_before m ≡ true) → parents_before (unwrap_or o empty_mapping) ≡ true
    or_empty None h = refl
    or_empty (Some m) h = h

pub mapping_lined : (bytes : List ℕ) → IfOk (index_line_at bytes) (λ l. parents_before l.mapping ≡ true)
unfolding index_line_at
mapping_lined bytes = then_ok (λ (l : IndexLine). parents_before l.mapping ≡ true) (or_refuse 31 [] (reading bytes)) index_value_at line_before
