-- Members in byte order of their names: those that stand so already, and those that are put in order one by one.
use Rattle.std.proofs.Common.{◌≡◌, ℕ, suc, ◌+◌, ◌<◌, take, drop, List, [], ◌∷◌, ◌++◌, length, Bool, true, false, refl, sym, ap, ◌∙◌, arith, append_assoc, Ordering, Less, Equal, Greater, Option, Some, Bor, bytes_eq, add-one}
use Rattle.std.specs.Prelude.{⊤, slice_index_or}
use Rattle.std.specs.BTreeMap.{insert_entry}
use Rattle.std.specs.Cmp.Lexicographic.{slice_cmp}
use Rattle.std.specs.List.{AllAdjacentBelow, insert}
use Rattle.std.specs.Ordering.{nat_cmp, is_eq, is_lt, match_ordering, ordering_reverse}
use Rattle.std.proofs.Math.ListN.{set}
use Rattle.std.proofs.Math.Seq.{take-length, drop-length}
use Rattle.std.proofs.lemmas.List.{set_split}
use Rattle.std.proofs.lemmas.List.Edits.{insert_end}
use Rattle.std.proofs.lemmas.Bool.{false≢true, true≢false}
use Rattle.std.proofs.lemmas.Slice.Eq.{bytes_eq-Decides}
use Rattle.std.proofs.lemmas.Map.Text.{is_eq-slice_cmp}
use Rattle.std.proofs.lemmas.Cmp.{nat_list_cmp_total, tied_itself}
use Rattle.serde_json.specs.Data.{Data, no_members, member, put}
use Rattle.serde_json.specs.Find.{get_member}
use Rattle.lent_json.specs.Members.{put_all}
use Rattle.lent_json.specs.View.{view, members_view}
use Rattle.lent_json.specs.declared.value.Lent.{Lent}
use Rattle.lent_json.proofs.Views.{Entry}

abbrev pub by_name : Bor (List ℕ) → Bor (List ℕ) → Ordering
by_name a b = slice_cmp nat_cmp a.now b.now

abbrev pub below : Entry → Entry → Bool
below x y = is_lt (slice_cmp nat_cmp x.0.now y.0.now)

is_less : (o : Ordering) → is_lt o ≡ true → o ≡ Less
is_less Less e = refl
is_less Equal e = absurd (false≢true e)
is_less Greater e = absurd (false≢true e)

-- ---- members that ascend stay as they are

-- the member stands behind all of these
abbrev IsBehind : Entry → List Entry → Type 0
IsBehind m [] = ⊤
IsBehind m (x ∷ xs) = (slice_cmp nat_cmp x.0.now m.0.now ≡ Less) × IsBehind m xs

put_behind : (done : List Entry) (m : Entry) → IsBehind m done → put m.0.now (view m.1) (members_view done) ≡ members_view (done ++ m ∷ [])
put_behind [] m h = refl
put_behind (x ∷ xs) m h =
    let above : slice_cmp nat_cmp m.0.now x.0.now ≡ Greater = nat_list_cmp_total.antisymm m.0.now x.0.now ∙ ap ordering_reverse h.0 in
    rw above (ap (member x.0.now (view x.1)) (put_behind xs m h.1))

behind_more : (done : List Entry) (m n : Entry) → slice_cmp nat_cmp m.0.now n.0.now ≡ Less → IsBehind m done → IsBehind n (done ++ m ∷ [])
behind_more [] m n below h = (below, tt)
behind_more (x ∷ xs) m n below h = (nat_list_cmp_total.trans x.0.now m.0.now n.0.now h.0 below, behind_more xs m n below h.1)

abbrev Rises : List Entry → Type 0
Rises xs = (k : ℕ) (d : Entry) → suc k < length xs → below (slice_index_or xs k d) (slice_index_or xs (suc k) d) ≡ true

put_rising : (done : List Entry) (m : Entry) (ms : List Entry) → IsBehind m done → Rises (m ∷ ms) → put_all (members_view (m ∷ ms)) (members_view done) ≡ members_view (done ++ m ∷ ms)
put_rising done m [] h up = put_behind done m h
put_rising done m (n ∷ ms) h up =
    ap (put_all (members_view (n ∷ ms))) (put_behind done m h)
    ∙ put_rising (done ++ m ∷ []) n ms (behind_more done m n (is_less _ (up 0 m (omega arith))) h) (λ k d within. up (suc k) d (omega (arith, within)))
    ∙ ap members_view (append_assoc done (m ∷ []) (n ∷ ms))

put_all_rising : (ms : List Entry) → Rises ms → put_all (members_view ms) no_members ≡ members_view ms
put_all_rising [] up = refl
put_all_rising (m ∷ ms) up = put_rising [] m ms tt up

pub rising_stay : (ms : List Entry) → AllAdjacentBelow (λ x y. true ≡ below x y) ms (length ms) → members_view ms ≡ put_all (members_view ms) no_members
rising_stay ms up = sym (put_all_rising ms (λ k d within. let here = up k d (omega (arith, within)) in sym (rw add-one at here)))

-- ---- members in order take one more

view_by_order : (o : Ordering) (a b c : List Entry) → members_view (match_ordering o a b c) ≡ match_ordering o (members_view a) (members_view b) (members_view c)
view_by_order Less a b c = refl
view_by_order Equal a b c = refl
view_by_order Greater a b c = refl

pub view_inserted : (es : List Entry) (k : Bor (List ℕ)) (v : Lent) → members_view (insert_entry by_name es k v) ≡ put k.now (view v) (members_view es)
view_inserted [] k v = refl
view_inserted (e ∷ es) k v = view_by_order (by_name k e.0) _ _ _ ∙ rw (view_inserted es k v)

-- ---- a member is put into its place

same_name : (es : List Entry) (a b : Bor (List ℕ)) (v : Lent) (later : List Entry) → a.now ≡ b.now → members_view (es ++ (a, v) ∷ later) ≡ members_view (es ++ (b, v) ∷ later)
same_name [] a b v later e = ap (λ n. member n (view v) (members_view later)) e
same_name (m ∷ es) a b v later e = ap (member m.0.now (view m.1)) (same_name es a b v later e)

-- the name is greater than those before the place
module _ (es : List Entry) (place : ℕ) (name : Bor (List ℕ)) (v : Lent) (greater : insert_entry by_name es name v ≡ take place es ++ insert_entry by_name (drop place es) name v) where
  module _ (x : Entry) (here : drop place es ≡ x ∷ drop (place + 1) es) where
    at_place : insert_entry by_name es name v ≡ take place es ++ insert_entry by_name (x ∷ drop (place + 1) es) name v
    at_place = greater ∙ ap (λ ds. take place es ++ insert_entry by_name ds name v) here

    pub put_before : by_name name x.0 ≡ Less → members_view (insert es place (name, v)) ≡ put name.now (view v) (members_view es)
    put_before less =
        let first : insert_entry by_name (x ∷ drop (place + 1) es) name v ≡ (name, v) ∷ x ∷ drop (place + 1) es = rw less in
        let whole : insert_entry by_name es name v ≡ take place es ++ (name, v) ∷ drop place es = at_place ∙ ap (λ ds. take place es ++ ds) first ∙ ap (λ ds. take place es ++ (name, v) ∷ ds) (sym here) in
        ap members_view (sym whole) ∙ view_inserted es name v

    pub put_over : place < length es → by_name name x.0 ≡ Equal → members_view (set es place (name, v)) ≡ put name.now (view v) (members_view es)
    put_over within equal =
        let later = drop (place + 1) es in
        let first : insert_entry by_name (x ∷ later) name v ≡ (x.0, v) ∷ later = rw equal in
        let same : name.now ≡ x.0.now = (bytes_eq-Decides name.now x.0.now).0 (sym (is_eq-slice_cmp name.now x.0.now) ∙ ap is_eq equal) in
        let stored : set es place (name, v) ≡ take place es ++ (name, v) ∷ later = set_split es place (name, v) within ∙ ap (λ (k : ℕ). take place es ++ (name, v) ∷ drop k es) {x = suc place} {y = place + 1} (omega arith) in
        let whole : insert_entry by_name es name v ≡ take place es ++ (x.0, v) ∷ later = at_place ∙ ap (λ ds. take place es ++ ds) first in
        ap members_view stored ∙ same_name (take place es) name x.0 v later same ∙ ap members_view (sym whole) ∙ view_inserted es name v

  pub put_last : place ≡ length es → members_view (insert es (length es) (name, v)) ≡ put name.now (view v) (members_view es)
  put_last end =
      let whole : insert_entry by_name es name v ≡ es ++ (name, v) ∷ [] = greater ∙ (λ i. take (end i) es ++ insert_entry by_name (drop (end i) es) name v) ∙ (λ i. take-length es i ++ insert_entry by_name (drop-length es i) name v) in
      ap members_view (insert_end es (name, v) ∙ sym whole) ∙ view_inserted es name v

-- ---- a member by its name

pub member_here : (name : List ℕ) (e : Entry) (es : List Entry) → bytes_eq name e.0.now ≡ true → get_member name (members_view (e ∷ es)) ≡ Some (view e.1)
member_here name e es same = let is : name ≡ e.0.now = (bytes_eq-Decides name e.0.now).0 same in rw (is, tied_itself nat_list_cmp_total e.0.now)

either : (o : Ordering) (a b : Option Data) → is_eq o ≡ false → match_ordering o a b a ≡ a
either Less a b e = refl
either Equal a b e = absurd (true≢false e)
either Greater a b e = refl

pub member_later : (name : List ℕ) (e : Entry) (es : List Entry) → bytes_eq name e.0.now ≡ false → get_member name (members_view (e ∷ es)) ≡ get_member name (members_view es)
member_later name e es other = either (slice_cmp nat_cmp name e.0.now) _ _ (is_eq-slice_cmp name e.0.now ∙ other)
