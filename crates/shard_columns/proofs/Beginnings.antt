-- Words that are found by how they begin.
use Rattle.std.proofs.Common.{Bool, true, false, cond, ◌≡◌, ◌≢◌, refl, ℕ, ◌+◌, ◌-◌, ◌≤◌, List, [], ◌∷◌, ◌++◌, length, take, drop, replicate, sym, ◌∙◌, ap, subst, arith, inl, inr, Option, None, Some}
use Rattle.std.specs.Prelude.{◌⊎◌, IsSome, String, string_bytes}
use Rattle.std.specs.declared.alloc.Global.{Global}
use Rattle.std.specs.declared.cmp.Ordering.{Ordering}
use Rattle.std.specs.declared.cmp.Ordering.TheVariants.{Less, Equal, Greater}
use Rattle.std.specs.Result.{IfOk, OnErr}
use Rattle.std.specs.declared.result.Result.{Result}
use Rattle.std.specs.declared.result.Result.TheVariants.{Ok, Err}
use Rattle.std.specs.Option.{option_or}
use Rattle.std.specs.Ordering.{nat_cmp, is_eq, match_ordering}
use Rattle.std.specs.Cmp.Lexicographic.{slice_cmp}
use Rattle.std.specs.List.{AllByRecursion}
use Rattle.std.specs.List.Sorted.{IsStrictlySortedBy}
use Rattle.std.specs.Map.{lookup, keys_of}
use Rattle.std.specs.BTreeMap.{is_at, insert_entry}
use Rattle.std.specs.Int.{w128, from_be_bytes}
use Rattle.std.specs.Str.{bytes_eq}
use Rattle.std.proofs.lemmas.Cmp.{nat_cmp_total, nat_list_cmp_total, eq_by_cmp_equiv}
use Rattle.std.specs.Cmp.{tied_itself}
use Rattle.std.proofs.lemmas.List.{drop-replicate, take-replicate, take-append-le}
use Rattle.std.proofs.lemmas.Map.{lookup-none}
use Rattle.std.proofs.lemmas.Map.Entries.{none_past_head}
use Rattle.std.proofs.lemmas.Map.Keys.{IsDistinct-from_sorted, sorted_tail}
use Rattle.std.proofs.lemmas.Map.Lookups.{exact_bytes, exact_unsigned}
use Rattle.std.proofs.lemmas.Slice.Eq.{bytes_eq-Decides}
use Rattle.std.proofs.lemmas.Option.{same_Some}
use Rattle.std.proofs.Math.Seq.{take-append-add}
use Rattle.shard_columns.specs.Numbered.{Entries, Entry, number_in, beginning_of, first_entries, other_entries, IsIndexed}

-- a whole beginning

long-front : (word : List ℕ) → 16 ≤ length word → take 16 (word ++ replicate 16 0) ≡ take 16 word
long-front word long = take-append-le 16 word (replicate 16 0) long

short-front : (word : List ℕ) → length word ≤ 16 → word ++ drop (length word) (replicate 16 0) ≡ take 16 (word ++ replicate 16 0)
short-front word short =
    let size : length word + (16 - length word) ≡ 16 = omega (arith, short) in
    ap (λ (zs : List ℕ). word ++ zs) (drop-replicate (length word) 16 0 ∙ sym (take-replicate (16 - length word) 16 0 (omega arith)))
    ∙ (sym (take-append-add word (replicate 16 0) (16 - length word)) ∙ ap (λ (n : ℕ). take n (word ++ replicate 16 0)) size)

pub beginning-long : (word first : List ℕ) → 16 ≤ length word → first ≡ take 16 word → from_be_bytes w128 first ≡ beginning_of word
unfolding beginning_of
beginning-long word first long is = ap (from_be_bytes w128) (is ∙ sym (long-front word long))

pub beginning-short : (word padded : List ℕ) → length word ≤ 16 → padded ≡ word ++ drop (length word) (replicate 16 0) → from_be_bytes w128 padded ≡ beginning_of word
unfolding beginning_of
beginning-short word padded short is = ap (from_be_bytes w128) (is ∙ short-front word short)

-- look-ups

pub is-it : (v w : List ℕ) → is_eq (slice_cmp nat_cmp v w) ≡ true → v ≡ w
is-it v w e = exact_bytes v w (equal (slice_cmp nat_cmp v w) e)
  where
    equal : (o : Ordering) → is_eq o ≡ true → o ≡ Equal
    equal Less e = absurd (cc e)
    equal Equal e = refl
    equal Greater e = absurd (cc e)

pub itself : (w : List ℕ) → is_eq (slice_cmp nat_cmp w w) ≡ true
itself w = ap is_eq (tied_itself nat_list_cmp_total w)

same-number : (m n : ℕ) → m ≡ n → is_eq (nat_cmp m n) ≡ true
same-number m n same = ap (λ (k : ℕ). is_eq (nat_cmp m k)) (sym same) ∙ ap is_eq (tied_itself nat_cmp_total m)

is-number : (m n : ℕ) → is_eq (nat_cmp m n) ≡ true → m ≡ n
is-number m n e = exact_unsigned m n (equal (nat_cmp m n) e)
  where
    equal : (o : Ordering) → is_eq o ≡ true → o ≡ Equal
    equal Less e = absurd (cc e)
    equal Equal e = refl
    equal Greater e = absurd (cc e)

same-word-or-other : (v w : List ℕ) (b : Bool) → bytes_eq v w ≡ b → (v ≡ w) ⊎ (v ≢ w)
same-word-or-other v w true e = inl ((bytes_eq-Decides v w).0 e)
same-word-or-other v w false e = inr (λ (h : v ≡ w). absurd (cc (sym ((bytes_eq-Decides v w).1 h) ∙ e)))

pub either-word : (v w : List ℕ) → (v ≡ w) ⊎ (v ≢ w)
either-word v w = same-word-or-other v w (bytes_eq v w) refl

not-it : (v w : List ℕ) → v ≢ w → (b : Bool) → is_eq (slice_cmp nat_cmp v w) ≡ b → b ≡ false
not-it v w other true e = absurd (other (is-it v w e))
not-it v w other false e = refl

pub number-append : (es fs : Entries) (w : List ℕ) → number_in (es ++ fs) w ≡ option_or (number_in es w) (number_in fs w)
number-append [] fs w = refl
number-append (e ∷ es) fs w = pick (is_eq (slice_cmp nat_cmp w e.0)) (number-append es fs w)
  where
    pick : (b : Bool) → number_in (es ++ fs) w ≡ option_or (number_in es w) (number_in fs w) → cond b (Some e.1) (number_in (es ++ fs) w) ≡ option_or (cond b (Some e.1) (number_in es w)) (number_in fs w)
    pick true rest = refl
    pick false rest = rest

pub number-other : (others : List (String Global × ℕ)) (w : List ℕ) → number_in (other_entries others) w ≡ lookup (is_at (λ k. slice_cmp nat_cmp w (string_bytes k))) others
number-other [] w = refl
number-other (e ∷ es) w = ap (λ (o : Option ℕ). cond (is_eq (slice_cmp nat_cmp w (string_bytes e.0))) (Some e.1) o) (number-other es w)

-- the first word that begins so, if there is one
abbrev pub first_of : List (ℕ × Entry) → List ℕ → Option Entry
first_of firsts w = lookup (is_at (nat_cmp (beginning_of w))) firsts

-- its number, where it is this word
abbrev pub number_if : List ℕ → Option Entry → Option ℕ
number_if w None = None
number_if w (Some first) = cond (is_eq (slice_cmp nat_cmp w first.0)) (Some first.1) None

abbrev pub Begun : List (ℕ × Entry) → Type 0
Begun firsts = AllByRecursion (λ e. e.0 ≡ beginning_of e.1.0) firsts

pub number-first : (firsts : List (ℕ × Entry)) (w : List ℕ) → IsStrictlySortedBy nat_cmp (keys_of firsts) → Begun firsts → number_in (first_entries firsts) w ≡ number_if w (first_of firsts w)
number-first [] w up begun = refl
number-first (e ∷ es) w up begun =
    pick (is_eq (slice_cmp nat_cmp w e.1.0)) (is_eq (nat_cmp (beginning_of w) e.0)) refl refl (number-first es w (sorted_tail nat_cmp e.0 (keys_of es) up) begun.1)
  where
    none : is_eq (nat_cmp (beginning_of w) e.0) ≡ true → first_of es w ≡ None
    none same = lookup-none (is_at (nat_cmp (beginning_of w))) es (none_past_head (eq_by_cmp_equiv nat_cmp_total) (beginning_of w) e es (IsDistinct-from_sorted nat_cmp (keys_of (e ∷ es)) up) same)

    pick : (b d : Bool) → is_eq (slice_cmp nat_cmp w e.1.0) ≡ b → is_eq (nat_cmp (beginning_of w) e.0) ≡ d → number_in (first_entries es) w ≡ number_if w (first_of es w) →
        cond b (Some e.1.1) (number_in (first_entries es) w) ≡ number_if w (cond d (Some e.1) (first_of es w))
    pick true true p q rest = ap (λ (b : Bool). cond b (Some e.1.1) None) (sym p)
    pick true false p q rest = absurd (cc (sym (same-number (beginning_of w) e.0 (ap beginning_of (is-it w e.1.0 p) ∙ sym begun.0)) ∙ q))
    pick false true p q rest = rest ∙ (ap (number_if w) (none q) ∙ ap (λ (b : Bool). cond b (Some e.1.1) None) (sym p))
    pick false false p q rest = rest

-- a look-up of both parts
pub number-split : (firsts : List (ℕ × Entry)) (others : List (String Global × ℕ)) (w : List ℕ) → IsIndexed firsts others →
    number_in (first_entries firsts ++ other_entries others) w ≡ option_or (number_if w (first_of firsts w)) (lookup (is_at (λ k. slice_cmp nat_cmp w (string_bytes k))) others)
number-split firsts others w indexed =
    number-append (first_entries firsts) (other_entries others) w
    ∙ (ap (λ (o : Option ℕ). option_or o (number_in (other_entries others) w)) (number-first firsts w indexed.firsts_ascend indexed.begun)
    ∙ ap (option_or (number_if w (first_of firsts w))) (number-other others w))

number_if-same : (w : List ℕ) (first : Entry) → first.0 ≡ w → number_if w (Some first) ≡ Some first.1
number_if-same w first same = ap (λ (b : Bool). cond b (Some first.1) None) (ap (λ (v : List ℕ). is_eq (slice_cmp nat_cmp w v)) same ∙ itself w)

pub number_if-other : (w : List ℕ) (first : Entry) → first.0 ≢ w → number_if w (Some first) ≡ None
number_if-other w first other =
    ap (λ (b : Bool). cond b (Some first.1) None) (not-it w first.0 (λ (h : w ≡ first.0). other (sym h)) (is_eq (slice_cmp nat_cmp w first.0)) refl)

abbrev Others : Type 0
Others = List (String Global × ℕ)

abbrev Firsts : Type 0
Firsts = List (ℕ × Entry)

abbrev view_of : Firsts → Others → Entries
view_of firsts others = first_entries firsts ++ other_entries others

abbrev text_in : Others → List ℕ → Option ℕ
text_in others w = lookup (is_at (λ k. slice_cmp nat_cmp w (string_bytes k))) others

pub number-kept : (f : List ℕ → Option ℕ) (word : List ℕ) (n : ℕ) → f word ≡ Some n → (w : List ℕ) → f w ≡ cond (bytes_eq word w) (Some n) (f w)
number-kept f word n is w = pick (bytes_eq word w) refl
  where
    pick : (b : Bool) → bytes_eq word w ≡ b → f w ≡ cond b (Some n) (f w)
    pick true e = ap f (sym ((bytes_eq-Decides word w).0 e)) ∙ is
    pick false e = refl

-- the word stands at its beginning
pub found-first : (firsts : Firsts) (others : Others) (word : List ℕ) (first : Entry) → IsIndexed firsts others → first_of firsts word ≡ Some first → first.0 ≡ word → number_in (view_of firsts others) word ≡ Some first.1
found-first firsts others word first indexed is same =
    number-split firsts others word indexed
    ∙ (ap (λ (o : Option Entry). option_or (number_if word o) (text_in others word)) is
    ∙ ap (λ (o : Option ℕ). option_or o (text_in others word)) (number_if-same word first same))

-- another word stands there
pub found-other : (firsts : Firsts) (others : Others) (word : List ℕ) (first : Entry) → IsIndexed firsts others → first_of firsts word ≡ Some first → first.0 ≢ word → number_in (view_of firsts others) word ≡ text_in others word
found-other firsts others word first indexed is other =
    number-split firsts others word indexed
    ∙ (ap (λ (o : Option Entry). option_or (number_if word o) (text_in others word)) is
    ∙ ap (λ (o : Option ℕ). option_or o (text_in others word)) (number_if-other word first other))

pub indexed-other : (firsts : Firsts) (others new : Others) (word : List ℕ) (first : Entry) (n : ℕ) → IsIndexed firsts others → first_of firsts word ≡ Some first → first.0 ≢ word →
    ((w : List ℕ) → text_in new w ≡ cond (bytes_eq word w) (Some n) (text_in others w)) → IsIndexed firsts new
indexed-other firsts others new word first n indexed is other after = record {
  firsts_ascend = indexed.firsts_ascend;
  begun = indexed.begun;
  apart = λ w has. pick w (bytes_eq word w) refl (subst IsSome (number-other new w ∙ after w) has);
}
  where
    pick : (w : List ℕ) (b : Bool) → bytes_eq word w ≡ b → IsSome (cond b (Some n) (text_in others w)) → (first : Entry) × ((first_of firsts w ≡ Some first) × (first.0 ≢ w))
    pick w true e has = subst (λ (v : List ℕ). (first : Entry) × ((first_of firsts v ≡ Some first) × (first.0 ≢ v))) ((bytes_eq-Decides word w).0 e) (first, (is, other))
    pick w false e has = indexed.apart w (subst IsSome (sym (number-other others w)) has)

pub after-other : (firsts : Firsts) (others new : Others) (word : List ℕ) (first : Entry) (n : ℕ) → IsIndexed firsts others → first_of firsts word ≡ Some first → first.0 ≢ word →
    ((w : List ℕ) → text_in new w ≡ cond (bytes_eq word w) (Some n) (text_in others w)) → (w : List ℕ) → number_in (view_of firsts new) w ≡ cond (bytes_eq word w) (Some n) (number_in (view_of firsts others) w)
after-other firsts others new word first n indexed is other after w =
    number-split firsts new w (indexed-other firsts others new word first n indexed is other after)
    ∙ (ap (option_or (number_if w (first_of firsts w))) (after w) ∙ pick (bytes_eq word w) refl)
  where
    pick : (b : Bool) → bytes_eq word w ≡ b → option_or (number_if w (first_of firsts w)) (cond b (Some n) (text_in others w)) ≡ cond b (Some n) (number_in (view_of firsts others) w)
    pick true e =
        let none : number_if w (first_of firsts w) ≡ None =
        subst (λ (v : List ℕ). number_if v (first_of firsts v) ≡ None) ((bytes_eq-Decides word w).0 e) (ap (number_if word) is ∙ number_if-other word first other) in
        ap (λ (o : Option ℕ). option_or o (Some n)) none
    pick false e = sym (number-split firsts others w indexed)

pub indexed-either : {X : Type 0} (firsts : Firsts) (others new : Others) (word : List ℕ) (first : Entry) (r : Result ℕ X) → IsIndexed firsts others → first_of firsts word ≡ Some first → first.0 ≢ word →
    IfOk r (λ n. (w : List ℕ) → text_in new w ≡ cond (bytes_eq word w) (Some n) (text_in others w)) → OnErr r (new ≡ others) → IsIndexed firsts new
indexed-either firsts others new word first (Ok n) indexed is other after same = indexed-other firsts others new word first n indexed is other after
indexed-either firsts others new word first (Err x) indexed is other after same = subst (IsIndexed firsts) (sym same) indexed

-- the word that is found begins so
pub begins-so : (firsts : Firsts) (w : List ℕ) (first : Entry) → Begun firsts → first_of firsts w ≡ Some first → beginning_of first.0 ≡ beginning_of w
begins-so [] w first begun is = absurd (cc is)
begins-so (e ∷ es) w first begun is = pick (is_eq (nat_cmp (beginning_of w) e.0)) refl is (λ later. begins-so es w first begun.1 later)
  where
    pick : (b : Bool) → is_eq (nat_cmp (beginning_of w) e.0) ≡ b → cond b (Some e.1) (first_of es w) ≡ Some first → (first_of es w ≡ Some first → beginning_of first.0 ≡ beginning_of w) → beginning_of first.0 ≡ beginning_of w
    pick true same found rest = ap (λ (n : Entry). beginning_of n.0) (sym (same_Some e.1 first found)) ∙ (sym begun.0 ∙ sym (is-number (beginning_of w) e.0 same))
    pick false other found rest = rest found

-- no word begins so
absent-other : (firsts : Firsts) (others : Others) (word : List ℕ) → IsIndexed firsts others → first_of firsts word ≡ None → (o : Option ℕ) → text_in others word ≡ o → o ≡ None
absent-other firsts others word indexed none None e = refl
absent-other firsts others word indexed none (Some m) e =
    let there = indexed.apart word (subst IsSome (sym (number-other others word ∙ e)) refl) in absurd (cc (sym none ∙ there.1.0))

pub found-none : (firsts : Firsts) (others : Others) (word : List ℕ) → IsIndexed firsts others → first_of firsts word ≡ None → number_in (view_of firsts others) word ≡ None
found-none firsts others word indexed none =
    number-split firsts others word indexed
    ∙ (ap (λ (o : Option Entry). option_or (number_if word o) (text_in others word)) none ∙ absent-other firsts others word indexed none (text_in others word) refl)

begun-insert : (firsts : Firsts) (k : ℕ) (e : Entry) → k ≡ beginning_of e.0 → Begun firsts → Begun (insert_entry nat_cmp firsts k e)
begun-insert [] k e is begun = (is, tt)
begun-insert (f ∷ fs) k e is begun = pick (nat_cmp k f.0) refl (begun-insert fs k e is begun.1)
  where
    pick : (o : Ordering) → nat_cmp k f.0 ≡ o → Begun (insert_entry nat_cmp fs k e) → Begun (match_ordering o ((k, e) ∷ f ∷ fs) ((f.0, e) ∷ fs) (f ∷ insert_entry nat_cmp fs k e))
    pick Less at rest = (is, begun)
    pick Equal at rest = (sym (exact_unsigned k f.0 at) ∙ is, begun.1)
    pick Greater at rest = (begun.0, rest)

-- the word comes to stand there
pub record Puts (firsts new : Firsts) (beginning : ℕ) (e : Entry) : Type 0 where
  pub looked : (k : ℕ) → lookup (is_at (nat_cmp k)) new ≡ cond (is_at (nat_cmp beginning) k) (Some e) (lookup (is_at (nat_cmp k)) firsts)
  pub entries : new ≡ insert_entry nat_cmp firsts beginning e
  pub ordered : IsStrictlySortedBy nat_cmp (keys_of new)

module _ (firsts new : Firsts) (others : Others) (word : List ℕ) (beginning : ℕ) (e : Entry) (begins : beginning ≡ beginning_of word) (text : e.0 ≡ word)
    (indexed : IsIndexed firsts others) (none : first_of firsts word ≡ None) (puts : Puts firsts new beginning e) where
  first-later : (w : List ℕ) → first_of new w ≡ cond (is_eq (nat_cmp (beginning_of word) (beginning_of w))) (Some e) (first_of firsts w)
  first-later w = puts.looked (beginning_of w) ∙ ap (λ (k : ℕ). cond (is_eq (nat_cmp k (beginning_of w))) (Some e) (first_of firsts w)) begins

  none-so : (w : List ℕ) → is_eq (nat_cmp (beginning_of word) (beginning_of w)) ≡ true → first_of firsts w ≡ None
  none-so w same = ap (λ (k : ℕ). lookup (is_at (nat_cmp k)) firsts) (sym (is-number (beginning_of word) (beginning_of w) same)) ∙ none

  pub indexed-first : IsIndexed new others
  indexed-first = record {
    firsts_ascend = puts.ordered;
    begun = subst Begun (sym puts.entries) (begun-insert firsts beginning e (begins ∙ ap beginning_of (sym text)) indexed.begun);
    apart = λ w has. pick w (indexed.apart w has) (is_eq (nat_cmp (beginning_of word) (beginning_of w))) refl;
  }
    where
      pick : (w : List ℕ) → (first : Entry) × ((first_of firsts w ≡ Some first) × (first.0 ≢ w)) → (b : Bool) → is_eq (nat_cmp (beginning_of word) (beginning_of w)) ≡ b →
          (first : Entry) × ((first_of new w ≡ Some first) × (first.0 ≢ w))
      pick w there true same = absurd (cc (sym (none-so w same) ∙ there.1.0))
      pick w there false same = (there.0, (first-later w ∙ (ap (λ (b : Bool). cond b (Some e) (first_of firsts w)) same ∙ there.1.0), there.1.1))

  pub after-first : (w : List ℕ) → number_in (view_of new others) w ≡ cond (bytes_eq word w) (Some e.1) (number_in (view_of firsts others) w)
  after-first w =
      number-split new others w indexed-first
      ∙ (ap (λ (o : Option Entry). option_or (number_if w o) (text_in others w)) (first-later w)
      ∙ pick (is_eq (nat_cmp (beginning_of word) (beginning_of w))) (bytes_eq word w) refl refl)
    where
      pick : (b d : Bool) → is_eq (nat_cmp (beginning_of word) (beginning_of w)) ≡ b → bytes_eq word w ≡ d →
          option_or (number_if w (cond b (Some e) (first_of firsts w))) (text_in others w) ≡ cond d (Some e.1) (number_in (view_of firsts others) w)
      pick true true p q = ap (λ (o : Option ℕ). option_or o (text_in others w)) (number_if-same w e (text ∙ (bytes_eq-Decides word w).0 q))
      pick true false p q =
          let apart : e.0 ≢ w = λ (h : e.0 ≡ w). absurd (cc (sym ((bytes_eq-Decides word w).1 (sym text ∙ h)) ∙ q)) in
          ap (λ (o : Option ℕ). option_or o (text_in others w)) (number_if-other w e apart)
          ∙ (ap (λ (o : Option Entry). option_or (number_if w o) (text_in others w)) (sym (none-so w p)) ∙ sym (number-split firsts others w indexed))
      pick false true p q = absurd (cc (sym (same-number (beginning_of word) (beginning_of w) (ap beginning_of ((bytes_eq-Decides word w).0 q))) ∙ p))
      pick false false p q = sym (number-split firsts others w indexed)
