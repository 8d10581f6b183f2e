-- The values of a field, when its row is finished, ascend, and are no more than before.
use Rattle.std.specs.Prelude.{◌≡◌, refl, ◌≤◌, List, [], ◌∷◌, Bool, true, false, length, suc}
use Rattle.std.specs.declared.cmp.Ordering.TheVariants.{Less, Equal, Greater}
use Rattle.std.specs.Ordering.{is_lt, is_le, match_ordering, ordering_reverse}
use Rattle.std.specs.Cmp.{bool_cmp_total}
use Rattle.std.specs.List.{list_all}
use Rattle.std.proofs.Common.{sym, ◌∙◌, ap, subst, arith}
use Rattle.std.proofs.lemmas.Bool.{false≢true, and_parts, and_from}
use Rattle.std.proofs.lemmas.Cmp.{int_cmp_total, nat_list_cmp_total}
use Rattle.agg_model.specs.declared.mapping.FieldKind.{FieldKind}
use Rattle.agg_model.specs.declared.mapping.FieldKind.TheVariants.{Long, Integer, Short, Byte, Keyword, Boolean, Date}
use Rattle.agg_model.specs.declared.row.Scalar.{Scalar}
use Rattle.agg_model.specs.declared.row.Scalar.TheVariants.{Whole, Word, Flag}
use Rattle.agg_reading.specs.Rows.{scalar_cmp, insert_value, finished_values}
use Rattle.agg_reading.proofs.ValueLaws.{beside, insert_value-none, insert_value-step}
use Rattle.agg_evaluation.specs.DocumentFits.{is_value, follows, ascend_from, ascend}

-- two values of one kind, without the range
abbrev pub alike : Scalar → Scalar → Bool
alike (Whole m) (Whole n) = true
alike (Word v) (Word w) = true
alike (Flag a) (Flag b) = true
alike _ _ = false

pub kind_alike : (k : FieldKind) (s t : Scalar) → is_value k s ≡ true → is_value k t ≡ true → alike s t ≡ true
kind_alike k (Whole m) (Whole n) p q = refl
kind_alike k (Word v) (Word w) p q = refl
kind_alike k (Flag a) (Flag b) p q = refl
kind_alike Keyword (Whole m) (Word w) p q = absurd (false≢true p)
kind_alike Keyword (Whole m) (Flag w) p q = absurd (false≢true p)
kind_alike Keyword (Word m) (Whole w) p q = absurd (false≢true q)
kind_alike Keyword (Word m) (Flag w) p q = absurd (false≢true q)
kind_alike Keyword (Flag m) (Whole w) p q = absurd (false≢true p)
kind_alike Keyword (Flag m) (Word w) p q = absurd (false≢true p)
kind_alike Boolean (Whole m) (Word w) p q = absurd (false≢true p)
kind_alike Boolean (Whole m) (Flag w) p q = absurd (false≢true p)
kind_alike Boolean (Word m) (Whole w) p q = absurd (false≢true p)
kind_alike Boolean (Word m) (Flag w) p q = absurd (false≢true p)
kind_alike Boolean (Flag m) (Whole w) p q = absurd (false≢true q)
kind_alike Boolean (Flag m) (Word w) p q = absurd (false≢true q)
kind_alike Long (Whole m) (Word w) p q = absurd (false≢true q)
kind_alike Long (Whole m) (Flag w) p q = absurd (false≢true q)
kind_alike Long (Word m) t p q = absurd (false≢true p)
kind_alike Long (Flag m) t p q = absurd (false≢true p)
kind_alike Integer (Whole m) (Word w) p q = absurd (false≢true q)
kind_alike Integer (Whole m) (Flag w) p q = absurd (false≢true q)
kind_alike Integer (Word m) t p q = absurd (false≢true p)
kind_alike Integer (Flag m) t p q = absurd (false≢true p)
kind_alike Short (Whole m) (Word w) p q = absurd (false≢true q)
kind_alike Short (Whole m) (Flag w) p q = absurd (false≢true q)
kind_alike Short (Word m) t p q = absurd (false≢true p)
kind_alike Short (Flag m) t p q = absurd (false≢true p)
kind_alike Byte (Whole m) (Word w) p q = absurd (false≢true q)
kind_alike Byte (Whole m) (Flag w) p q = absurd (false≢true q)
kind_alike Byte (Word m) t p q = absurd (false≢true p)
kind_alike Byte (Flag m) t p q = absurd (false≢true p)
kind_alike Date (Whole m) (Word w) p q = absurd (false≢true q)
kind_alike Date (Whole m) (Flag w) p q = absurd (false≢true q)
kind_alike Date (Word m) t p q = absurd (false≢true p)
kind_alike Date (Flag m) t p q = absurd (false≢true p)

up : (s t : Scalar) → alike s t ≡ true → scalar_cmp s t ≡ Less → follows s t ≡ true
up (Whole m) (Whole n) a e = ap is_le e
up (Word v) (Word w) a e = ap is_lt e
up (Flag b) (Flag c) a e = ap is_le e
up (Whole m) (Word w) a e = absurd (false≢true a)
up (Whole m) (Flag c) a e = absurd (false≢true a)
up (Word v) (Whole n) a e = absurd (false≢true a)
up (Word v) (Flag c) a e = absurd (false≢true a)
up (Flag b) (Whole n) a e = absurd (false≢true a)
up (Flag b) (Word w) a e = absurd (false≢true a)

down : (s t : Scalar) → alike s t ≡ true → scalar_cmp s t ≡ Greater → follows t s ≡ true
down (Whole m) (Whole n) a e = ap is_le (int_cmp_total.antisymm n m ∙ ap ordering_reverse e)
down (Word v) (Word w) a e = ap is_lt (nat_list_cmp_total.antisymm w v ∙ ap ordering_reverse e)
down (Flag b) (Flag c) a e = ap is_le (bool_cmp_total.antisymm c b ∙ ap ordering_reverse e)
down (Whole m) (Word w) a e = absurd (false≢true a)
down (Whole m) (Flag c) a e = absurd (false≢true a)
down (Word v) (Whole n) a e = absurd (false≢true a)
down (Word v) (Flag c) a e = absurd (false≢true a)
down (Flag b) (Whole n) a e = absurd (false≢true a)
down (Flag b) (Word w) a e = absurd (false≢true a)

-- an equal value: a word is joined, others repeat
beside_from : (r s t : Scalar) (ts : List Scalar) → alike s t ≡ true → scalar_cmp s t ≡ Equal → follows r s ≡ true → ascend_from r (t ∷ ts) ≡ true → ascend_from r (beside s (t ∷ ts)) ≡ true
beside_from r (Word v) t ts a e f h = h
beside_from r (Whole m) (Whole n) ts a e f h = and_from _ _ f (and_from _ _ (ap is_le e) (and_parts (follows r (Whole n)) (ascend_from (Whole n) ts) h).1)
beside_from r (Flag b) (Flag c) ts a e f h = and_from _ _ f (and_from _ _ (ap is_le e) (and_parts (follows r (Flag c)) (ascend_from (Flag c) ts) h).1)
beside_from r (Whole m) (Word w) ts a e f h = absurd (false≢true a)
beside_from r (Whole m) (Flag c) ts a e f h = absurd (false≢true a)
beside_from r (Flag b) (Whole n) ts a e f h = absurd (false≢true a)
beside_from r (Flag b) (Word w) ts a e f h = absurd (false≢true a)

beside_first : (s t : Scalar) (ts : List Scalar) → alike s t ≡ true → scalar_cmp s t ≡ Equal → ascend (t ∷ ts) ≡ true → ascend (beside s (t ∷ ts)) ≡ true
beside_first (Word v) t ts a e h = h
beside_first (Whole m) (Whole n) ts a e h = and_from _ _ (ap is_le e) h
beside_first (Flag b) (Flag c) ts a e h = and_from _ _ (ap is_le e) h
beside_first (Whole m) (Word w) ts a e h = absurd (false≢true a)
beside_first (Whole m) (Flag c) ts a e h = absurd (false≢true a)
beside_first (Flag b) (Whole n) ts a e h = absurd (false≢true a)
beside_first (Flag b) (Word w) ts a e h = absurd (false≢true a)

insert_from : (k : FieldKind) (r s : Scalar) (ts : List Scalar) → is_value k s ≡ true → list_all (is_value k) ts ≡ true → follows r s ≡ true → ascend_from r ts ≡ true → ascend_from r (insert_value s ts) ≡ true
insert_from k r s [] v vs f h = ap (ascend_from r) (insert_value-none s) ∙ and_from _ _ f refl
insert_from k r s (t ∷ ts) v vs f h =
    let values = and_parts (is_value k t) (list_all (is_value k) ts) vs in
    let parts = and_parts (follows r t) (ascend_from t ts) h in
    let like = kind_alike k s t v values.0 in
    ap (ascend_from r) (insert_value-step s t ts) ∙ elim (scalar_cmp s t) as (λ o. scalar_cmp s t ≡ o → ascend_from r (match_ordering o (s ∷ t ∷ ts) (beside s (t ∷ ts)) (t ∷ insert_value s ts)) ≡ true) [
      | Less ↦ λ e. and_from _ _ f (and_from _ _ (up s t like e) parts.1)
      | Equal ↦ λ e. beside_from r s t ts like e f h
      | Greater ↦ λ e. and_from _ _ parts.0 (insert_from k t s ts v values.1 (down s t like e) parts.1)
    ] refl

insert_ascends : (k : FieldKind) (s : Scalar) (ts : List Scalar) → is_value k s ≡ true → list_all (is_value k) ts ≡ true → ascend ts ≡ true → ascend (insert_value s ts) ≡ true
insert_ascends k s [] v vs h = ap ascend (insert_value-none s)
insert_ascends k s (t ∷ ts) v vs h =
    let values = and_parts (is_value k t) (list_all (is_value k) ts) vs in
    let like = kind_alike k s t v values.0 in
    ap ascend (insert_value-step s t ts) ∙ elim (scalar_cmp s t) as (λ o. scalar_cmp s t ≡ o → ascend (match_ordering o (s ∷ t ∷ ts) (beside s (t ∷ ts)) (t ∷ insert_value s ts)) ≡ true) [
      | Less ↦ λ e. and_from _ _ (up s t like e) h
      | Equal ↦ λ e. beside_first s t ts like e h
      | Greater ↦ λ e. insert_from k t s ts v values.1 (down s t like e) h
    ] refl

beside_all : (p : Scalar → Bool) (s : Scalar) (ts : List Scalar) → p s ≡ true → list_all p ts ≡ true → list_all p (beside s ts) ≡ true
beside_all p (Word w) ts v h = h
beside_all p (Whole m) ts v h = and_from _ _ v h
beside_all p (Flag b) ts v h = and_from _ _ v h

insert_all : (p : Scalar → Bool) (s : Scalar) (ts : List Scalar) → p s ≡ true → list_all p ts ≡ true → list_all p (insert_value s ts) ≡ true
insert_all p s [] v h = ap (list_all p) (insert_value-none s) ∙ and_from _ _ v refl
insert_all p s (t ∷ ts) v h =
    let parts = and_parts (p t) (list_all p ts) h in
    ap (list_all p) (insert_value-step s t ts) ∙ elim (scalar_cmp s t) as (λ o. list_all p (match_ordering o (s ∷ t ∷ ts) (beside s (t ∷ ts)) (t ∷ insert_value s ts)) ≡ true) [
      | Less ↦ and_from _ _ v h
      | Equal ↦ beside_all p s (t ∷ ts) v h
      | Greater ↦ and_from _ _ parts.0 (insert_all p s ts v parts.1)
    ]

pub finished_all : (p : Scalar → Bool) (ss : List Scalar) → list_all p ss ≡ true → list_all p (finished_values ss) ≡ true
unfolding finished_values
finished_all p [] h = refl
finished_all p (s ∷ ss) h = let parts = and_parts (p s) (list_all p ss) h in insert_all p s (finished_values ss) parts.0 (finished_all p ss parts.1)

pub finished_ascends : (k : FieldKind) (ss : List Scalar) → list_all (is_value k) ss ≡ true → ascend (finished_values ss) ≡ true
unfolding finished_values
finished_ascends k [] h = refl
finished_ascends k (s ∷ ss) h =
    let parts = and_parts (is_value k s) (list_all (is_value k) ss) h in
    insert_ascends k s (finished_values ss) parts.0 (finished_all (is_value k) ss parts.1) (finished_ascends k ss parts.1)

-- lengths

abbrev OneMore : List Scalar → List Scalar → Type 0
OneMore before after = (1 ≤ length after) × (length after ≤ suc (length before))

beside_length : (s t : Scalar) (ts : List Scalar) → OneMore (t ∷ ts) (beside s (t ∷ ts))
beside_length (Word w) t ts = (omega arith, omega arith)
beside_length (Whole m) t ts = (omega arith, omega arith)
beside_length (Flag b) t ts = (omega arith, omega arith)

insert_length : (s : Scalar) (ts : List Scalar) → OneMore ts (insert_value s ts)
insert_length s [] = subst (OneMore []) (sym (insert_value-none s)) (omega arith, omega arith)
insert_length s (t ∷ ts) =
    let rest = insert_length s ts in
    subst (OneMore (t ∷ ts)) (sym (insert_value-step s t ts)) (elim (scalar_cmp s t) as (λ o. OneMore (t ∷ ts) (match_ordering o (s ∷ t ∷ ts) (beside s (t ∷ ts)) (t ∷ insert_value s ts))) [
      | Less ↦ (omega arith, omega arith)
      | Equal ↦ beside_length s t ts
      | Greater ↦ (omega arith, omega (arith, rest))
    ])

pub finished_some : (ss : List Scalar) → 1 ≤ length ss → 1 ≤ length (finished_values ss)
unfolding finished_values
finished_some [] h = h
finished_some (s ∷ ss) h = (insert_length s (finished_values ss)).0

pub finished_few : (ss : List Scalar) → length (finished_values ss) ≤ length ss
unfolding finished_values
finished_few [] = omega arith
finished_few (s ∷ ss) = omega (arith, (insert_length s (finished_values ss)).1, finished_few ss)
