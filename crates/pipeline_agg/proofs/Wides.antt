-- The first value out of range of several.
use Rattle.std.specs.Prelude.{◌≡◌, refl, ℕ, ◌+◌, Bool, true, false, List, [], ◌∷◌, ◌++◌, map, flat_map, Option, Some, None, option_map, codes}
use Rattle.std.specs.List.{cons_option, enumerate_from}
use Rattle.std.proofs.Common.{◌∙◌, sym, ap}
use Rattle.agg_spec.specs.Notes.{below_agg, from_around, note_from_around, note_in_range}
use Rattle.agg_spec.specs.RangeCheck.{first_path, unless}
use Rattle.agg_spec.specs.Remarks.{Remark}
use Rattle.list_laws.proofs.Lists.{flat_map-append}
use Rattle.pipeline_agg.specs.Told.{first_wide, notes_of}

-- the paths of the values out of range
abbrev pub wides : List Remark → List (List ℕ)
wides remarks = flat_map (λ r. unless (note_in_range r.note) r.path) remarks

pub first-append : (xs ys : List (List ℕ)) → first_path (xs ++ ys) ≡ first_path (cons_option (first_path xs) ys)
first-append [] ys = refl
first-append (x ∷ xs) ys = refl

pub first-cons : (o : Option (List ℕ)) (xs ys : List (List ℕ)) → first_path xs ≡ first_path ys → first_path (cons_option o xs) ≡ first_path (cons_option o ys)
first-cons None xs ys e = e
first-cons (Some p) xs ys e = refl

pub wide-append : (rs more : List Remark) → first_wide (rs ++ more) ≡ first_path (cons_option (first_wide rs) (wides more))
wide-append rs more = ap first_path (flat_map-append (λ r. unless (note_in_range r.note) r.path) rs more) ∙ first-append (wides rs) (wides more)

pub wide-none : (rs more : List Remark) → first_wide rs ≡ None → first_wide (rs ++ more) ≡ first_wide more
wide-none rs more e = wide-append rs more ∙ ap (λ o. first_path (cons_option o (wides more))) e

pub wide-some : (rs more : List Remark) (path : List ℕ) → first_wide rs ≡ Some path → first_wide (rs ++ more) ≡ Some path
wide-some rs more path e = wide-append rs more ∙ ap (λ o. first_path (cons_option o (wides more))) e

-- of remarks that are seen from around their aggregation
pub wide-below : (i : ℕ) (name : List ℕ) (rs : List Remark) → first_wide (map (below_agg i name) rs) ≡ option_map (λ path. codes "/" ++ (name ++ path)) (first_wide rs)
wide-below i name [] = refl
wide-below i name (r ∷ rs) =
    elim (note_in_range r.note) as (λ (b : Bool). first_path (unless b (codes "/" ++ (name ++ r.path)) ++ wides (map (below_agg i name) rs)) ≡ option_map (λ path. codes "/" ++ (name ++ path)) (first_path (unless b r.path ++ wides rs))) [
      | true ↦ wide-below i name rs
      | false ↦ refl
    ]

-- of remarks that are seen from around their bucket
wides-around : (i : ℕ) (rs : List Remark) → wides (map (from_around i) rs) ≡ wides rs
wides-around i [] = refl
wides-around i (r ∷ rs) = ap (λ ps. unless (note_in_range r.note) r.path ++ ps) (wides-around i rs)

pub wides-append : (rs more : List Remark) → wides (rs ++ more) ≡ wides rs ++ wides more
wides-append rs more = flat_map-append (λ r. unless (note_in_range r.note) r.path) rs more

pub wides-in-buckets : {B : Type 0} (remarks : B → List Remark) (i : ℕ) (bs : List B) → wides (flat_map (λ b. map (from_around b.0) (remarks b.1)) (enumerate_from i bs)) ≡ wides (flat_map remarks bs)
wides-in-buckets remarks i [] = refl
wides-in-buckets remarks i (b ∷ bs) =
    wides-append (map (from_around i) (remarks b)) _
    ∙ (λ j. wides-around i (remarks b) j ++ wides-in-buckets remarks (i + 1) bs j)
    ∙ sym (wides-append (remarks b) (flat_map remarks bs))

-- notes of remarks that are seen from around
pub notes-below : (i : ℕ) (name : List ℕ) (rs : List Remark) → map (note_from_around i) (notes_of rs) ≡ notes_of (map (below_agg i name) rs)
notes-below i name [] = refl
notes-below i name (r ∷ rs) = ap (λ ns. note_from_around i r.note ∷ ns) (notes-below i name rs)

pub notes-around : (i : ℕ) (rs : List Remark) → map (note_from_around i) (notes_of rs) ≡ notes_of (map (from_around i) rs)
notes-around i [] = refl
notes-around i (r ∷ rs) = ap (λ ns. note_from_around i r.note ∷ ns) (notes-around i rs)
