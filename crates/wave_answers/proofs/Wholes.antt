-- The wholes of groups of the shards that are left are parts of a merge, and their whole is that of the shards.
use Rattle.std.specs.Prelude.{◌≡◌, ◌≢◌, ◌≤◌, refl, ℕ, List, [], ◌∷◌, IsPermutation, IsTrue, IfOk, Option, Some, Result, Ok, flat_map, length, map, option_to_list, sum_by}
use Rattle.std.specs.List.{AllByRecursion, range_with_len}
use Rattle.std.proofs.Common.{◌∙◌, sym, ap, subst, arith, length-append}
use Rattle.std.proofs.lemmas.List.Sorted.{IsPermutation-map, length_permutation, sum_by-IsPermutation}
use Rattle.agg_evaluation.proofs.SearchLaws.{whole-any_order}
use Rattle.agg_evaluation.specs.Cost.{cost}
use Rattle.agg_evaluation.specs.SearchFits.{search_fits}
use Rattle.agg_evaluation.specs.Shard.{shard_answer}
use Rattle.agg_model.specs.declared.aggregation.Search.{Search}
use Rattle.agg_model.specs.declared.breaker.Tripped.{Tripped}
use Rattle.agg_model.specs.declared.outcome.Failure.{Failure}
use Rattle.agg_model.specs.declared.outcome.Outcome.TheVariants as ended
use Rattle.agg_model.specs.declared.partial.Partial.{Partial}
use Rattle.agg_search.proofs.Batching.{rows-count}
use Rattle.agg_search.proofs.Parts.{among-left, result-parts, whole-joined}
use Rattle.agg_spec.specs.Failures.{AreFailures, unfailed}
use Rattle.agg_spec.specs.Index.{Index, rows_in}
use Rattle.agg_spec.specs.Outcome.{outcome_of_shards, response_length, shard_answers, whole_of, whole_unless_none}
use Rattle.batch_reduce.specs.Parts.{AreParts}
use Rattle.fitting_laws.specs.Indexes.{index_of}
use Rattle.list_laws.specs.Among.{AreAmong}
use Rattle.shard_columns.specs.declared.index.Index.{Index as ShardIndex}
use Rattle.wave_answers.specs.Merged.{AreWholes, whole_of_parts}
use Rattle.wave_answers.proofs.Charges.{one-cost}
use Rattle.wave_answers.proofs.Left.{empty-is, some-failed}

abbrev pub all_in : List (List ℕ) → List ℕ
all_in groups = flat_map (λ (g : List ℕ). g) groups

pub unfailed-among : (index : ShardIndex) (fs : List Failure) → AreAmong (length index.shards) (unfailed (index_of index) fs)
unfailed-among index fs = subst (λ (n : ℕ). AreAmong n (unfailed (index_of index) fs)) (rows-count index) (among-left fs (length (index_of index).shards))

module _ (index : Index) (search : Search) where
  some-whole-of : (ns : List ℕ) → 1 ≤ length ns → Some (whole_of index search ns) ≡ whole_unless_none index search ns
  some-whole-of [] some = absurd (omega arith)
  some-whole-of (n ∷ ns) some = refl

  -- what the result of the shards that are left costs
  pub cost-of-left : (left : List ℕ) (o : Option Partial) → o ≡ whole_unless_none index search left → left ≢ [] → sum_by cost (option_to_list o) ≡ cost (whole_of index search left)
  cost-of-left [] o e some = absurd (some refl)
  cost-of-left (n ∷ ns) o e some = ap (λ (p : Option Partial). sum_by cost (option_to_list p)) e ∙ one-cost (whole_of index search (n ∷ ns))

  -- where no shard is left there is no response
  no-response : (max : ℕ) (fs : List Failure) (left : List ℕ) → 1 ≤ length fs → left ≡ [] → response_length (outcome_of_shards index max search fs left) ≡ 0
  no-response max [] left some none = absurd (omega arith)
  no-response max (f ∷ fs) left some none = ap (λ (ns : List ℕ). response_length (outcome_of_shards index max search (f ∷ fs) ns)) none

  no-line : (max : ℕ) (fs : List Failure) (left line : List ℕ) → 1 ≤ length fs → left ≡ [] → outcome_of_shards index max search fs left ≡ ended.Response line → ⊥
  no-line max [] left line some none e = absurd (omega arith)
  no-line max (f ∷ fs) left line some none e =
      let tripped : ended.Tripped f.tripped ≡ ended.Response line = sym (ap (λ (ns : List ℕ). outcome_of_shards index max search (f ∷ fs) ns) none) ∙ e in
      (let no : ⊥ = cc in no)

  -- a result of groups of which none is empty is one of some shards
  many : (left : List ℕ) (groups : List (List ℕ)) → AllByRecursion (λ (g : List ℕ). 1 ≤ length g) groups → IsPermutation left (all_in groups) → 1 ≤ length groups → 1 ≤ length left
  many left [] some each most = absurd (omega arith)
  many left (g ∷ gs) (first, rest) each most = let l = length_permutation left (all_in (g ∷ gs)) each in let a = length-append g (all_in gs) in omega (arith, l, a)

  pub some-parts-left : (left : List ℕ) (parts : List Partial) → AreWholes index search left parts → 1 ≤ length parts → left ≢ []
  some-parts-left left parts w most none =
      let l = ap length w.parts_are in let n = ap length none in
      let g = groups-some w.groups (omega (arith, l)) in
      let m = many left w.groups w.some w.each g in
      omega (arith, m, n)
    where
      groups-some : (groups : List (List ℕ)) → 1 ≤ length (map (whole_of index search) groups) → 1 ≤ length groups
      groups-some [] h = h
      groups-some (x ∷ xs) h = omega arith

module _ (index : ShardIndex) (search : Search) (made : IsTrue (search_fits index.mapping search)) (left : List ℕ) where
  groups-among : (groups : List (List ℕ)) → AreAmong (length index.shards) left → IsPermutation left (all_in groups) → AreAmong (length index.shards) (all_in groups)
  groups-among groups among each f =
      subst (λ (k : ℕ). k ≤ sum_by f (range_with_len 0 (length index.shards))) (sym (sum_by-IsPermutation f left (all_in groups) each)) (among f)

  pub wholes-parts : (parts : List Partial) → AreAmong (length index.shards) left → AreWholes (index_of index) search left parts → AreParts search parts
  wholes-parts parts among w = subst (AreParts search) (sym w.parts_are) (result-parts index search made w.groups (groups-among w.groups among w.each))

  same-whole : (groups : List (List ℕ)) → IsPermutation left (all_in groups) → whole_of (index_of index) search (all_in groups) ≡ whole_of (index_of index) search left
  same-whole groups each =
      sym (whole-any_order search (shard_answers (index_of index) search left) (shard_answers (index_of index) search (all_in groups))
      (IsPermutation-map (λ (shard : ℕ). shard_answer search (rows_in (index_of index) shard)) left (all_in groups) each))

  by-groups : (groups : List (List ℕ)) → AllByRecursion (λ (g : List ℕ). 1 ≤ length g) groups → IsPermutation left (all_in groups)
      → whole_of_parts search (map (whole_of (index_of index) search) groups) ≡ whole_unless_none (index_of index) search left
  by-groups [] some each =
      sym (ap (whole_unless_none (index_of index) search) (empty-is left (sym (length_permutation left (all_in []) each))))
  by-groups (g ∷ gs) some each =
      ap (λ (p : Partial). Some p) (whole-joined index search made (g ∷ gs) ∙ same-whole (g ∷ gs) each)
      ∙ some-whole-of (index_of index) search left (many (index_of index) search left (g ∷ gs) some each (omega arith))

  -- the whole of the parts is that of the shards that are left
  pub wholes-whole : (parts : List Partial) → AreWholes (index_of index) search left parts → whole_of_parts search parts ≡ whole_unless_none (index_of index) search left
  wholes-whole parts w = ap (whole_of_parts search) w.parts_are ∙ by-groups w.groups w.some w.each

-- what was merged is the whole of the shards that are left
pub left-whole : (index : ShardIndex) (search : Search) (made : IsTrue (search_fits index.mapping search)) (fs : List Failure) (parts : List Partial)
    → AreWholes (index_of index) search (unfailed (index_of index) fs) parts → (merged : Result (Option Partial) Tripped) (o : Option Partial) → merged ≡ Ok o
    → IfOk merged (λ (q : Option Partial). (s : Search) → AreParts s parts → q ≡ whole_of_parts s parts) → o ≡ whole_unless_none (index_of index) search (unfailed (index_of index) fs)
left-whole index search made fs parts w merged o is told =
    let left = unfailed (index_of index) fs in
    let one : (s : Search) → AreParts s parts → o ≡ whole_of_parts s parts = subst (λ r. IfOk r (λ (q : Option Partial). (s : Search) → AreParts s parts → q ≡ whole_of_parts s parts)) is told in
    one search (wholes-parts index search made left parts (unfailed-among index fs) w) ∙ wholes-whole index search made left parts w

-- where there is a response some shard is left
module _ (index : ShardIndex) (search : Search) (max : ℕ) (fs : List Failure) (all : AreFailures (length index.shards) fs) where
  failures-of : unfailed (index_of index) fs ≡ [] → 1 ≤ length fs
  failures-of none =
      let count = rows-count index in let some = index.some_shards in
      some-failed (index_of index) fs (subst (λ (n : ℕ). AreFailures n fs) (sym count) all) (omega (arith, count, some)) none

  pub response-left : (line : List ℕ) → outcome_of_shards (index_of index) max search fs (unfailed (index_of index) fs) ≡ ended.Response line → unfailed (index_of index) fs ≢ []
  response-left line is none = no-line (index_of index) search max fs (unfailed (index_of index) fs) line (failures-of none) none is

  pub charged-left : 1 ≤ response_length (outcome_of_shards (index_of index) max search fs (unfailed (index_of index) fs)) → unfailed (index_of index) fs ≢ []
  charged-left some none = let no = no-response (index_of index) search max fs (unfailed (index_of index) fs) (failures-of none) none in omega (arith, no, some)
