-- The wheels of an odometer: what they show at the start, and what a turn makes of them.
use Rattle.std.proofs.Common.{◌≡◌, refl, ℕ, zero, suc, ◌<◌, List, [], ◌∷◌, ◌++◌, length, get_or, slice_set, drop, map, sym, ◌∙◌, ap, arith, append_assoc}
use Rattle.std.specs.Prelude.{flat_map}
use Rattle.agg_model.specs.declared.aggregation.CompositeSource.{CompositeSource}
use Rattle.agg_model.specs.declared.key.Key.{Key}
use Rattle.agg_evaluation.specs.Keys.{combinations, source_keys}
use Rattle.agg_evaluation.specs.Rows.{PlacedRow}
use Rattle.list_laws.proofs.Lists.{append-nil}
use Rattle.composite_agg.specs.Odometer.{AreAtStart, IsAtStart, later_combinations, later_keys, shown_key, shown_parts, wheel_keys}
use Rattle.composite_agg.specs.Parts.{key_of_part}
use Rattle.composite_agg.specs.declared.odometer.Wheel.{Wheel}
use Rattle.composite_agg.specs.declared.parts.Part.{Part}

-- each key before each list
abbrev pub before_each : List (List Key) → List Key → List (List Key)
before_each kss ks = flat_map (λ (k : Key). map (λ (more : List Key). k ∷ more) kss) ks

-- ---- lists that are walked from the back

-- all but the last item, and the last
pub last_item : {A : Type 0} (xs : List A) (n : ℕ) → length xs ≡ suc n → (front : List A) × (x : A) × (xs ≡ front ++ x ∷ []) × (length front ≡ n)
last_item [] n e = absurd (omega (arith, e))
last_item (x ∷ []) n e = ([], x, refl, omega (arith, e))
last_item (x ∷ y ∷ xs) zero e = absurd (omega (arith, e))
last_item (x ∷ y ∷ xs) (suc n) e =
    let rest = last_item (y ∷ xs) n (omega (arith, e)) in
    (x ∷ rest.0, rest.1, ap (λ ys. x ∷ ys) rest.2, ap suc rest.3)

-- what stands behind the front
pub at-front : {A : Type 0} (front back : List A) (x d : A) → get_or (front ++ x ∷ back) (length front) d ≡ x
at-front [] back x d = refl
at-front (y ∷ front) back x d = at-front front back x d

pub set-front : {A : Type 0} (front back : List A) (x y : A) → slice_set (front ++ x ∷ back) (length front) y ≡ front ++ y ∷ back
set-front [] back x y = refl
set-front (z ∷ front) back x y = ap (λ xs. z ∷ xs) (set-front front back x y)

drop-none : {A : Type 0} (xs : List A) → drop 0 xs ≡ xs
drop-none [] = refl
drop-none (x ∷ xs) = refl

-- ---- the start

later-at-start : (w : Wheel) → IsAtStart w → later_keys w ≡ map key_of_part w.later.items
later-at-start w start = ap (λ (n : ℕ). map key_of_part (drop n w.later.items)) start.at ∙ ap (map key_of_part) (drop-none w.later.items)

keys-at-start : (w : Wheel) → IsAtStart w → shown_key w ∷ later_keys w ≡ wheel_keys w
keys-at-start w start = ap (λ (p : Part). key_of_part p ∷ later_keys w) start.part ∙ ap (λ (ks : List Key). key_of_part w.first ∷ ks) (later-at-start w start)

-- at the start no combination is passed over
pub all-at-start : (ws : List Wheel) → AreAtStart ws → shown_parts ws ∷ later_combinations ws ≡ combinations (map wheel_keys ws)
all-at-start [] start = refl
all-at-start (w ∷ ws) start =
    ap (λ (kss : List (List Key)). map (λ (more : List Key). shown_key w ∷ more) kss ++ before_each (combinations (map wheel_keys ws)) (later_keys w)) (all-at-start ws start.1)
    ∙ ap (before_each (combinations (map wheel_keys ws))) (keys-at-start w start.0)

pub more-at-start : (ws : List Wheel) (w : Wheel) → AreAtStart ws → IsAtStart w → AreAtStart (ws ++ w ∷ [])
more-at-start [] w start one = (one, tt)
more-at-start (v ∷ ws) w start one = (start.0, more-at-start ws w start.1 one)

-- ---- a turn

module _ (w v : Wheel) (ws vs : List Wheel) (ended : later_combinations ws ≡ []) where
  none-first : later_combinations (w ∷ ws) ≡ before_each (combinations (map wheel_keys ws)) (later_keys w)
  none-first = ap (λ (kss : List (List Key)). map (λ (more : List Key). shown_key w ∷ more) kss ++ before_each (combinations (map wheel_keys ws)) (later_keys w)) ended

  -- the wheels behind it have ended, and it shows its next part
  pub turned-first : AreAtStart vs → map wheel_keys vs ≡ map wheel_keys ws → later_keys w ≡ shown_key v ∷ later_keys v
      → later_combinations (w ∷ ws) ≡ shown_parts (v ∷ vs) ∷ later_combinations (v ∷ vs)
  turned-first start same next =
      none-first ∙ ap (before_each (combinations (map wheel_keys ws))) next
      ∙ ap (λ (kss : List (List Key)). before_each (combinations kss) (shown_key v ∷ later_keys v)) (sym same)
      ∙ sym (ap (λ (kss : List (List Key)). map (λ (more : List Key). shown_key v ∷ more) kss ++ before_each (combinations (map wheel_keys vs)) (later_keys v)) (all-at-start vs start))

  -- it has ended too
  pub ended-first : later_keys w ≡ [] → later_combinations (w ∷ ws) ≡ []
  ended-first none = none-first ∙ ap (before_each (combinations (map wheel_keys ws))) none

-- wheels before those that turned
module _ (ws vs : List Wheel) (same : map wheel_keys vs ≡ map wheel_keys ws) (turned : later_combinations ws ≡ shown_parts vs ∷ later_combinations vs) where
  keys-behind : (front : List Wheel) → map wheel_keys (front ++ ws) ≡ map wheel_keys (front ++ vs)
  keys-behind [] = sym same
  keys-behind (w ∷ front) = ap (λ (kss : List (List Key)). wheel_keys w ∷ kss) (keys-behind front)

  pub turned-behind : (front : List Wheel) → later_combinations (front ++ ws) ≡ shown_parts (front ++ vs) ∷ later_combinations (front ++ vs)
  turned-behind [] = turned
  turned-behind (w ∷ front) =
      ap (λ (kss : List (List Key)). map (λ (more : List Key). shown_key w ∷ more) kss ++ before_each (combinations (map wheel_keys (front ++ ws))) (later_keys w)) (turned-behind front)
      ∙ ap (λ (kss : List (List Key)). map (λ (more : List Key). shown_key w ∷ more) (shown_parts (front ++ vs) ∷ later_combinations (front ++ vs)) ++ before_each (combinations kss) (later_keys w)) (keys-behind front)

-- the wheels up to a place have not turned, and those behind it begin again
pub record IsTurnedTo (old now : List Wheel) (left : ℕ) : Type 0 where
  pub front : List Wheel
  pub ended : List Wheel
  pub begun : List Wheel
  pub old_is : old ≡ front ++ ended
  pub now_is : now ≡ front ++ begun
  pub count : length front ≡ left
  pub none : later_combinations ended ≡ []
  pub start : AreAtStart begun
  pub keys : map wheel_keys begun ≡ map wheel_keys ended

pub not-turned : (ws : List Wheel) → IsTurnedTo ws ws (length ws)
not-turned ws = record { front = ws; ended = []; begun = []; old_is = sym (append-nil ws); now_is = sym (append-nil ws); count = refl; none = refl; start = tt; keys = refl }

-- all have turned
pub all-turned : (old now : List Wheel) → IsTurnedTo old now 0 → later_combinations old ≡ []
all-turned old now t = by t.front t.old_is t.count
  where
    by : (front : List Wheel) → old ≡ front ++ t.ended → length front ≡ 0 → later_combinations old ≡ []
    by [] e n = ap later_combinations e ∙ t.none
    by (w ∷ front) e n = absurd (omega (arith, n))

module _ (old now : List Wheel) (left : ℕ) (t : IsTurnedTo old now (suc left)) (w v : Wheel) (is : w ≡ get_or now left w) (kept : wheel_keys v ≡ wheel_keys w) where
  split : (front : List Wheel) × (x : Wheel) × (t.front ≡ front ++ x ∷ []) × (length front ≡ left)
  split = last_item t.front left t.count

  abbrev before : List Wheel
  before = split.0

  abbrev own : Wheel
  own = split.1

  joined : (xs : List Wheel) → t.front ++ xs ≡ before ++ own ∷ xs
  joined xs = ap (λ (ws : List Wheel). ws ++ xs) split.2 ∙ append_assoc before (own ∷ []) xs

  is_own : w ≡ own
  is_own =
      is ∙ ap (λ (ws : List Wheel). get_or ws left w) (t.now_is ∙ joined t.begun)
      ∙ ap (λ (n : ℕ). get_or (before ++ own ∷ t.begun) n w) (sym split.3) ∙ at-front before t.begun own w

  old-split : old ≡ before ++ w ∷ t.ended
  old-split = t.old_is ∙ joined t.ended ∙ ap (λ (x : Wheel). before ++ x ∷ t.ended) (sym is_own)

  set-split : slice_set now left v ≡ before ++ v ∷ t.begun
  set-split =
      ap (λ (ws : List Wheel). slice_set ws left v) (t.now_is ∙ joined t.begun)
      ∙ ap (λ (n : ℕ). slice_set (before ++ own ∷ t.begun) n v) (sym split.3) ∙ set-front before t.begun own v

  same_keys : map wheel_keys (v ∷ t.begun) ≡ map wheel_keys (w ∷ t.ended)
  same_keys = (λ i. kept i ∷ t.keys i)

  -- the wheel at the place shows its next part
  pub turned-at : later_keys w ≡ shown_key v ∷ later_keys v → later_combinations old ≡ shown_parts (slice_set now left v) ∷ later_combinations (slice_set now left v)
  turned-at next =
      ap later_combinations old-split
      ∙ turned-behind (w ∷ t.ended) (v ∷ t.begun) same_keys (turned-first w v t.ended t.begun t.none t.start t.keys next) before
      ∙ ap (λ (ws : List Wheel). shown_parts ws ∷ later_combinations ws) (sym set-split)

  -- it begins again
  pub ended-at : later_keys w ≡ [] → IsAtStart v → IsTurnedTo old (slice_set now left v) left
  ended-at none again = record {
    front = before;
    ended = w ∷ t.ended;
    begun = v ∷ t.begun;
    old_is = old-split;
    now_is = set-split;
    count = split.3;
    none = ended-first w v t.ended t.begun t.none none;
    start = (again, t.start);
    keys = same_keys;
  }

-- ---- rows without a combination

none-each : (ks : List Key) → before_each [] ks ≡ []
none-each [] = refl
none-each (k ∷ ks) = none-each ks

-- a source without a part
pub none-there : (row : PlacedRow) (ss : List CompositeSource) (i : ℕ) (s : CompositeSource) → i < length ss → s ≡ get_or ss i s → source_keys row s ≡ [] → combinations (map (source_keys row) ss) ≡ []
none-there row [] i s below is none = absurd (omega (arith, below))
none-there row (r ∷ ss) zero s below is none = ap (before_each (combinations (map (source_keys row) ss))) (ap (source_keys row) (sym is) ∙ none)
none-there row (r ∷ ss) (suc i) s below is none =
    ap (λ (kss : List (List Key)). before_each kss (source_keys row r)) (none-there row ss i s (omega (arith, below)) is none) ∙ none-each (source_keys row r)
