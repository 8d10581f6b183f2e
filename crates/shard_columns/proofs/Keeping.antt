-- Words that stand at their beginnings by their places among texts.
use Rattle.std.proofs.Common.{Bool, true, false, cond, ◌≡◌, ◌≢◌, refl, ℕ, ◌+◌, ◌≤◌, ◌<◌, List, [], ◌∷◌, ◌++◌, length, length-append, get_or, map, sym, ◌∙◌, ap, subst, arith, Option, None, Some, option_map, unwrap_or}
use Rattle.std.specs.Prelude.{String}
use Rattle.std.specs.declared.alloc.Global.{Global}
use Rattle.std.specs.declared.cmp.Ordering.{Ordering}
use Rattle.std.specs.declared.cmp.Ordering.TheVariants.{Less, Equal, Greater}
use Rattle.std.specs.Ordering.{nat_cmp, is_eq, match_ordering}
use Rattle.std.specs.List.{AllByRecursion}
use Rattle.std.specs.List.Sorted.{IsStrictlySortedBy}
use Rattle.std.specs.Map.{lookup, keys_of}
use Rattle.std.specs.BTreeMap.{is_at, insert_entry}
use Rattle.std.proofs.lemmas.Cmp.{nat_cmp_total}
use Rattle.std.proofs.lemmas.List.{get_or_append_left}
use Rattle.std.proofs.lemmas.Option.{same_Some}
use Rattle.std.proofs.Math.Seq.{get_or-append_seam}
use Rattle.shard_columns.specs.declared.mapped_words.Found.{Found}
use Rattle.shard_columns.specs.Numbered.{Entry, found_in, firsts_in, beginning_of, IsKept}
use Rattle.shard_columns.specs.Values.{Words}
use Rattle.shard_columns.proofs.Beginnings.{Puts, indexed-first}

abbrev pub Places : Type 0
Places = List (ℕ × Found)

abbrev pub Within : ℕ → Places → Type 0
Within n fs = AllByRecursion (λ e. e.1.place < n) fs

keys-in : (texts : Words) (fs : Places) → keys_of (firsts_in texts fs) ≡ keys_of fs
keys-in texts [] = refl
keys-in texts (f ∷ fs) = ap (λ (ks : List ℕ). f.0 ∷ ks) (keys-in texts fs)

pub lookup-in : (texts : Words) (test : ℕ → Bool) (fs : Places) → lookup test (firsts_in texts fs) ≡ option_map (found_in texts) (lookup test fs)
lookup-in texts test [] = refl
lookup-in texts test (f ∷ fs) = pick (test f.0) (lookup-in texts test fs)
  where
    pick : (b : Bool) → lookup test (firsts_in texts fs) ≡ option_map (found_in texts) (lookup test fs) →
        cond b (Some (found_in texts f.1)) (lookup test (firsts_in texts fs)) ≡ option_map (found_in texts) (cond b (Some f.1) (lookup test fs))
    pick true rest = refl
    pick false rest = rest

-- what is found has a place
pub low-place : (n : ℕ) (test : ℕ → Bool) (fs : Places) (f : Found) → Within n fs → lookup test fs ≡ Some f → f.place < n
low-place n test [] f all is = absurd (cc is)
low-place n test (e ∷ es) f all is = pick (test e.0) is (λ later. low-place n test es f all.1 later)
  where
    pick : (b : Bool) → cond b (Some e.1) (lookup test es) ≡ Some f → (lookup test es ≡ Some f → f.place < n) → f.place < n
    pick true found rest = subst (λ (g : Found). g.place < n) (same_Some e.1 f found) all.0
    pick false found rest = rest found

within-more : (n m : ℕ) (fs : Places) → n ≤ m → Within n fs → Within m fs
within-more n m [] le all = tt
within-more n m (f ∷ fs) le all = ((let low = all.0 in omega (arith, low, le)), within-more n m fs le all.1)

within-insert : (n : ℕ) (fs : Places) (k : ℕ) (f : Found) → f.place < n → Within n fs → Within n (insert_entry nat_cmp fs k f)
within-insert n [] k f low all = (low, tt)
within-insert n (e ∷ es) k f low all = pick (nat_cmp k e.0) (within-insert n es k f low all.1)
  where
    pick : (o : Ordering) → Within n (insert_entry nat_cmp es k f) → Within n (match_ordering o ((k, f) ∷ e ∷ es) ((e.0, f) ∷ es) (e ∷ insert_entry nat_cmp es k f))
    pick Less rest = (low, all)
    pick Equal rest = (low, all.1)
    pick Greater rest = (all.0, rest)

insert-in : (texts : Words) (fs : Places) (k : ℕ) (f : Found) → firsts_in texts (insert_entry nat_cmp fs k f) ≡ insert_entry nat_cmp (firsts_in texts fs) k (found_in texts f)
insert-in texts [] k f = refl
insert-in texts (e ∷ es) k f = pick (nat_cmp k e.0) (insert-in texts es k f)
  where
    pick : (o : Ordering) → firsts_in texts (insert_entry nat_cmp es k f) ≡ insert_entry nat_cmp (firsts_in texts es) k (found_in texts f) →
        firsts_in texts (match_ordering o ((k, f) ∷ e ∷ es) ((e.0, f) ∷ es) (e ∷ insert_entry nat_cmp es k f))
        ≡ match_ordering o ((k, found_in texts f) ∷ (e.0, found_in texts e.1) ∷ firsts_in texts es) ((e.0, found_in texts f) ∷ firsts_in texts es) ((e.0, found_in texts e.1) ∷ insert_entry nat_cmp (firsts_in texts es) k (found_in texts f))
    pick Less rest = refl
    pick Equal rest = refl
    pick Greater rest = ap (λ (xs : List (ℕ × Entry)). (e.0, found_in texts e.1) ∷ xs) rest

-- texts keep their places when one more comes
firsts-more : (texts more : Words) (fs : Places) → Within (length texts) fs → firsts_in (texts ++ more) fs ≡ firsts_in texts fs
firsts-more texts more [] all = refl
firsts-more texts more (f ∷ fs) all = (λ i. (f.0, (get_or_append_left texts more [] f.1.place all.0 i, f.1.number)) ∷ firsts-more texts more fs all.1 i)

none-below : (k m : ℕ) (es : Places) → nat_cmp k m ≡ Less → AllByRecursion (λ (y : ℕ). nat_cmp m y ≡ Less) (keys_of es) → lookup (is_at (nat_cmp k)) es ≡ None
none-below k m [] less all = refl
none-below k m (e ∷ es) less all =
    ap (λ (b : Bool). cond b (Some e.1) (lookup (is_at (nat_cmp k)) es)) (ap is_eq (nat_cmp_total.trans k m e.0 less all.0)) ∙ none-below k m es less all.1

-- what stands there already changes nothing
insert-same : (fs : Places) (k : ℕ) (f : Found) → IsStrictlySortedBy nat_cmp (keys_of fs) → lookup (is_at (nat_cmp k)) fs ≡ Some f → insert_entry nat_cmp fs k f ≡ fs
unfolding IsStrictlySortedBy
insert-same [] k f up is = absurd (cc is)
insert-same (e ∷ es) k f up is = pick (nat_cmp k e.0) is refl (λ less. none-below k e.0 es less up.0) (λ later. insert-same es k f up.1 later)
  where
    pick : (o : Ordering) → cond (is_eq o) (Some e.1) (lookup (is_at (nat_cmp k)) es) ≡ Some f → nat_cmp k e.0 ≡ o → (nat_cmp k e.0 ≡ Less → lookup (is_at (nat_cmp k)) es ≡ None) →
        (lookup (is_at (nat_cmp k)) es ≡ Some f → insert_entry nat_cmp es k f ≡ es) → match_ordering o ((k, f) ∷ e ∷ es) ((e.0, f) ∷ es) (e ∷ insert_entry nat_cmp es k f) ≡ e ∷ es
    pick Less found at none rest = absurd (cc (sym (none at) ∙ found))
    pick Equal found at none rest = ap (λ (g : Found). (e.0, g) ∷ es) (sym (same_Some e.1 f found))
    pick Greater found at none rest = ap (λ (xs : Places). e ∷ xs) (rest found)

abbrev pub at_beginning : Places → List ℕ → Option Found
at_beginning firsts word = lookup (is_at (nat_cmp (beginning_of word))) firsts

-- what a look-up came to that puts what is new
pub record CameTo (texts : Words) (firsts now : Places) (word : List ℕ) (first new : Found) : Type 0 where
  pub found : first ≡ unwrap_or (lookup (is_at (nat_cmp (beginning_of word))) firsts) new
  pub entries : now ≡ insert_entry nat_cmp firsts (beginning_of word) first
  pub looked : (k : ℕ) → lookup (is_at (nat_cmp k)) now ≡ cond (is_at (nat_cmp (beginning_of word)) k) (Some first) (lookup (is_at (nat_cmp k)) firsts)
  pub ordered : IsStrictlySortedBy nat_cmp (keys_of now)
  pub behind : new.place ≡ length texts

pub came-to : (texts : Words) (firsts now : Places) (k : ℕ) (word : List ℕ) (first new : Found) → k ≡ beginning_of word → first ≡ unwrap_or (lookup (is_at (nat_cmp k)) firsts) new → now ≡ insert_entry nat_cmp firsts k first →
    ((q : ℕ) → lookup (is_at (nat_cmp q)) now ≡ cond (is_at (nat_cmp k) q) (Some first) (lookup (is_at (nat_cmp q)) firsts)) → IsStrictlySortedBy nat_cmp (keys_of now) → new.place ≡ length texts → CameTo texts firsts now word first new
came-to texts firsts now k word first new at found entries looked ordered behind = record {
  found = found ∙ ap (λ (q : ℕ). unwrap_or (lookup (is_at (nat_cmp q)) firsts) new) at;
  entries = entries ∙ ap (λ (q : ℕ). insert_entry nat_cmp firsts q first) at;
  looked = λ q. looked q ∙ ap (λ (j : ℕ). cond (is_at (nat_cmp j) q) (Some first) (lookup (is_at (nat_cmp q)) firsts)) at;
  ordered = ordered;
  behind = behind;
}

module _ (texts : Words) (firsts now : Places) (others : List (String Global × ℕ)) (word : List ℕ) (first new : Found) (kept : IsKept texts firsts others) (came : CameTo texts firsts now word first new) where
  pick-fresh : (o : Option Found) → at_beginning firsts word ≡ o → first ≡ unwrap_or o new → first.place ≡ new.place → (at_beginning firsts word ≡ None) × (first ≡ new)
  pick-fresh None e is same = (e, is)
  pick-fresh (Some f) e is same =
      let low : f.place < length texts = low-place (length texts) (is_at (nat_cmp (beginning_of word))) firsts f kept.within e in
      absurd (omega (arith, low, same, came.behind, ap (λ (g : Found). g.place) is))

  -- a place behind all texts is that of a new word
  pub fresh : first.place ≡ new.place → (at_beginning firsts word ≡ None) × (first ≡ new)
  fresh same = pick-fresh (at_beginning firsts word) refl came.found same

  pick-met : (o : Option Found) → at_beginning firsts word ≡ o → first ≡ unwrap_or o new → first.place ≢ new.place → at_beginning firsts word ≡ Some first
  pick-met None e is other = absurd (other (ap (λ (g : Found). g.place) is))
  pick-met (Some f) e is other = e ∙ ap Some (sym is)

  pub met : first.place ≢ new.place → at_beginning firsts word ≡ Some first
  met other = pick-met (at_beginning firsts word) refl came.found other

  pub met-low : first.place ≢ new.place → first.place < length texts
  met-low other = low-place (length texts) (is_at (nat_cmp (beginning_of word))) firsts first kept.within (met other)

  pub met-first : first.place ≢ new.place → lookup (is_at (nat_cmp (beginning_of word))) (firsts_in texts firsts) ≡ Some (found_in texts first)
  met-first other = lookup-in texts (is_at (nat_cmp (beginning_of word))) firsts ∙ ap (option_map (found_in texts)) (met other)

  pub same-entries : first.place ≢ new.place → now ≡ firsts
  same-entries other =
      came.entries ∙ insert-same firsts (beginning_of word) first (subst (IsStrictlySortedBy nat_cmp) (keys-in texts firsts) kept.indexed.firsts_ascend) (met other)

  pub none-first : first.place ≡ new.place → lookup (is_at (nat_cmp (beginning_of word))) (firsts_in texts firsts) ≡ None
  none-first same = lookup-in texts (is_at (nat_cmp (beginning_of word))) firsts ∙ ap (option_map (found_in texts)) (fresh same).0

  module _ (same : first.place ≡ new.place) where
    abbrev texts_now : Words
    texts_now = texts ++ word ∷ []

    size : length texts_now ≡ length texts + 1
    size = length-append texts (word ∷ [])

    is-word : found_in texts_now first ≡ (word, new.number)
    is-word =
        let place : first.place ≡ length texts = same ∙ came.behind in
        let number : first.number ≡ new.number = ap (λ (g : Found). g.number) (fresh same).1 in
        (λ i. ((ap (λ (k : ℕ). get_or texts_now k []) place ∙ get_or-append_seam texts word [] []) i, number i))

    looked-in : (k : ℕ) (b : Bool) → option_map (found_in texts_now) (cond b (Some first) (lookup (is_at (nat_cmp k)) firsts)) ≡ cond b (Some (word, new.number)) (lookup (is_at (nat_cmp k)) (firsts_in texts firsts))
    looked-in k true = ap Some is-word
    looked-in k false = sym (lookup-in texts_now (is_at (nat_cmp k)) firsts) ∙ ap (lookup (is_at (nat_cmp k))) (firsts-more texts (word ∷ []) firsts kept.within)

    pub puts : Puts (firsts_in texts firsts) (firsts_in texts_now now) (beginning_of word) (word, new.number)
    puts = record {
      looked = λ k. lookup-in texts_now (is_at (nat_cmp k)) now ∙ (ap (option_map (found_in texts_now)) (came.looked k) ∙ looked-in k (is_at (nat_cmp (beginning_of word)) k));
      entries = ap (firsts_in texts_now) came.entries
          ∙ (insert-in texts_now firsts (beginning_of word) first
          ∙ (λ i. insert_entry nat_cmp (firsts-more texts (word ∷ []) firsts kept.within i) (beginning_of word) (is-word i)));
      ordered = subst (IsStrictlySortedBy nat_cmp) (sym (keys-in texts_now now)) came.ordered;
    }

    -- the word comes to stand there, with its text behind the others
    pub kept-first : IsKept texts_now now others
    kept-first = record {
      within = subst (Within (length texts_now)) (sym came.entries)
          (within-insert (length texts_now) firsts (beginning_of word) first (omega (arith, same, came.behind, size)) (within-more (length texts) (length texts_now) firsts (omega (arith, size)) kept.within));
      indexed = indexed-first (firsts_in texts firsts) (firsts_in texts_now now) others word (beginning_of word) (word, new.number) refl refl kept.indexed (none-first same) puts;
    }

-- each of these words has a place
pub within-values : (n : ℕ) (fs : Places) (xs ys : List Found) (f : Found) → Within n fs → map (λ e. e.1) fs ≡ xs ++ f ∷ ys → f.place < n
within-values n [] [] ys f all is = absurd (cc is)
within-values n [] (x ∷ xs) ys f all is = absurd (cc is)
within-values n (e ∷ es) [] ys f all is = let same : e.1 ≡ f = cc is in subst (λ (g : Found). g.place < n) same all.0
within-values n (e ∷ es) (x ∷ xs) ys f all is = let rest : map (λ (e : ℕ × Found). e.1) es ≡ xs ++ f ∷ ys = cc is in within-values n es xs ys f all.1 rest

-- no word is kept
pub kept-none : (texts : Words) → IsKept texts [] []
unfolding IsStrictlySortedBy
kept-none texts = record {
  within = tt;
  indexed = record { firsts_ascend = tt; begun = tt; apart = λ w has. absurd (cc has) };
}
