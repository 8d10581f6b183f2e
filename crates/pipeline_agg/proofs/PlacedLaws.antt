-- The pipelines within each of the aggregations beside one another, while they are told apart one after another.
use Rattle.std.specs.Prelude.{◌≡◌, refl, ℕ, zero, suc, ◌+◌, ◌==◌, if◌then◌else◌, Bool, true, false, List, [], ◌∷◌, ◌++◌, take, filter_map, length, Option, Some, None, option_map, slice_get, slice_set}
use Rattle.std.proofs.Common.{rules, ◌∙◌, ap, sym, arith, ◌<◌, ◌≤◌, ◌-◌, drop, get_or, length-drop}
use Rattle.std.proofs.lemmas.List.{take_more}
use Rattle.std.proofs.lemmas.Bool.Decides.{Decides-eqb, same_from_decides}
use Rattle.agg_model.specs.declared.pipeline.Pipe.{Pipe}
use Rattle.agg_spec.specs.Notes.{pipes_within, places_behind}
use Rattle.list_laws.proofs.Lists.{append-nil, filter_map-append, map-append}
use Rattle.pipeline_agg.proofs.CutLaws.{taken-all}
use Rattle.pipeline_agg.specs.Placed.{part_of, pipe_of, pipes_of}
use Rattle.pipeline_agg.specs.declared.placed.Part.{Part}
use Rattle.pipeline_agg.specs.declared.placed.Placed.{Placed}

next-same : (i j : ℕ) → (suc i == suc j) ≡ (i == j)
next-same i j = same_from_decides (suc i == suc j) (i == j) (both (Decides-eqb (suc i) (suc j))) (Decides-eqb i j) where
  both : ((suc i == suc j) ≡ true → suc i ≡ suc j) × (suc i ≡ suc j → (suc i == suc j) ≡ true) → ((suc i == suc j) ≡ true → i ≡ j) × (i ≡ j → (suc i == suc j) ≡ true)
  both d = (λ e. let s = d.0 e in omega (arith, s), λ e. d.1 (ap suc e))

-- the pipelines of a place, where it is this one
module _ (p : Placed) where
  only : Bool → List Pipe
  only b = if b then pipe_of p ∷ [] else []

  -- one more pipeline at the place that is written
  pub part-more : (parts : List Part) (place : ℕ) (old new : Part) → slice_get parts place ≡ Some old → pipes_of new.placed.items ≡ pipes_of old.placed.items ++ pipe_of p ∷ []
      → (i : ℕ) → part_of (slice_set parts place new) i ≡ part_of parts i ++ (if i == place then pipe_of p ∷ [] else [])
  unfolding only
  part-more [] place old new is more i = absurd (cc (is))
  part-more (x ∷ parts) zero old new is more zero = more ∙ ap (λ (o : Part). pipes_of o.placed.items ++ pipe_of p ∷ []) (let same : old ≡ x = cc (is) in same)
  part-more (x ∷ parts) zero old new is more (suc i) = sym (ap (λ b. part_of parts i ++ only b) (let other : (suc i == 0) ≡ false = search rules in other) ∙ append-nil (part_of parts i))
  part-more (x ∷ parts) (suc place) old new is more zero = sym (ap (λ b. pipes_of x.placed.items ++ only b) (let other : (0 == suc place) ≡ false = search rules in other) ∙ append-nil (pipes_of x.placed.items))
  part-more (x ∷ parts) (suc place) old new is more (suc i) = part-more parts place old new is more i ∙ ap (λ b. part_of parts i ++ only b) (sym (next-same i place))

-- a place more, at which there is nothing
pub none-more : (parts : List Part) (p : Part) → p.placed.items ≡ [] → ((i : ℕ) → part_of parts i ≡ []) → (i : ℕ) → part_of (parts ++ p ∷ []) i ≡ []
none-more [] p none held zero = ap pipes_of none
none-more [] p none held (suc i) = refl
none-more (x ∷ parts) p none held zero = held zero
none-more (x ∷ parts) p none held (suc i) = none-more parts p none (λ j. held (suc j)) i

-- the pipeline within the aggregation at a place, by where it stands
abbrev pub inner : ℕ → List ℕ → Pipe → List Pipe
inner i [] p = []
inner i (j ∷ rest) p = if i == j then (record p { at = rest }) ∷ [] else []

inner-is : (i : ℕ) (at : List ℕ) (p : Pipe) → filter_map (λ (q : Pipe). option_map (λ rest. record q { at = rest }) (places_behind i q.at)) ((record p { at = at }) ∷ []) ≡ inner i at p
inner-is i [] p = refl
inner-is i (j ∷ rest) p = by (i == j) where
  by : (b : Bool) → filter_map (λ (q : Option Pipe). q) ((option_map (λ (left : List ℕ). record p { at = left }) (if b then Some rest else None)) ∷ []) ≡ (if b then (record p { at = rest }) ∷ [] else [])
  by true = refl
  by false = refl

-- one more pipeline behind those that were told apart
pub within-more : (i : ℕ) (pipes : List Placed) (p : Placed) → pipes_within i (pipes_of (pipes ++ p ∷ [])) ≡ pipes_within i (pipes_of pipes) ++ inner i p.at.now p.pipe.now
within-more i pipes p = ap (pipes_within i) (map-append pipe_of pipes (p ∷ [])) ∙ filter_map-append _ (pipes_of pipes) (pipe_of p ∷ []) ∙ ap (λ ps. pipes_within i (pipes_of pipes) ++ ps) (inner-is i p.at.now p.pipe.now)

-- the next of the pipelines
pub next-within : (ps : List Placed) (k : ℕ) (p : Placed) → k < length ps → p ≡ get_or ps k p
    → (i : ℕ) → pipes_within i (pipes_of (take (k + 1) ps)) ≡ pipes_within i (pipes_of (take k ps)) ++ inner i p.at.now p.pipe.now
next-within ps k p within is i = ap (λ qs. pipes_within i (pipes_of qs)) (take_more ps k p within ∙ ap (λ q. take k ps ++ q ∷ []) (sym is)) ∙ within-more i (take k ps) p

-- without places it stands here; else its first place tells the aggregation
pub inner-none : (i : ℕ) (at : List ℕ) (p : Pipe) → length at < 1 → inner i at p ≡ []
inner-none i [] p few = refl
inner-none i (j ∷ rest) p few = absurd (omega (arith, few))

pub inner-first : (i : ℕ) (at rest : List ℕ) (p : Pipe) → 1 ≤ length at → rest ≡ drop 1 at → inner i at p ≡ (if i == get_or at 0 0 then (record p { at = rest }) ∷ [] else [])
inner-first i [] rest p many e = absurd (omega (arith, many))
inner-first i (j ∷ tail) rest p many e = ap (λ (at : List ℕ). if i == j then (record p { at = at }) ∷ [] else []) (sym e)

-- one more pipeline at its place
pub told-more : (old new : List Part) (ps : List Placed) (k : ℕ) (p : Placed) (rest : List ℕ) (i : ℕ) → part_of new i ≡ part_of old i ++ (if i == get_or p.at.now 0 0 then (record p.pipe.now { at = rest }) ∷ [] else [])
    → rest ≡ drop 1 p.at.now → 1 ≤ length p.at.now → k < length ps → p ≡ get_or ps k p → part_of old i ≡ pipes_within i (pipes_of (take k ps)) → part_of new i ≡ pipes_within i (pipes_of (take (k + 1) ps))
told-more old new ps k p rest i more e many within is held =
    more ∙ ap (λ qs. qs ++ (if i == get_or p.at.now 0 0 then (record p.pipe.now { at = rest }) ∷ [] else [])) held
    ∙ sym (next-within ps k p within is i ∙ ap (λ qs. pipes_within i (pipes_of (take k ps)) ++ qs) (inner-first i p.at.now rest p.pipe.now many e))

-- the places behind the first
pub all-behind : (at : List ℕ) → take (length at - 1) (drop 1 at) ≡ drop 1 at
all-behind at = taken-all (drop 1 at) (length at - 1) (let many : length (drop 1 at) ≤ length at - 1 = omega (arith, length-drop 1 at) in many)
