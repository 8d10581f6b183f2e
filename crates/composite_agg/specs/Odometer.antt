-- The combinations of a row as an odometer: a wheel for each source, of which the last turns first.
use Rattle.std.specs.Prelude.{◌≡◌, List, [], ◌∷◌, ◌++◌, map, flat_map, drop, Option}
use Rattle.std.specs.List.{AllByRecursion}
use Rattle.std.specs.Option.{option_map_or}
use Rattle.agg_model.specs.declared.key.Key.{Key}
use Rattle.agg_model.specs.declared.key.Key.TheVariants.{Many}
use Rattle.agg_evaluation.specs.Keys.{combinations}
use Rattle.composite_agg.specs.Parts.{key_of_part}
use Rattle.composite_agg.specs.declared.odometer.Combinations.{Combinations}
use Rattle.composite_agg.specs.declared.odometer.Wheel.{Wheel}

-- the part that a wheel shows, those behind it, and all of them
abbrev pub shown_key : Wheel → Key
shown_key w = key_of_part w.part

abbrev pub later_keys : Wheel → List Key
later_keys w = map key_of_part (drop w.at w.later.items)

abbrev pub wheel_keys : Wheel → List Key
wheel_keys w = key_of_part w.first ∷ map key_of_part w.later.items

-- the wheel shows its first part
pub record IsAtStart (w : Wheel) : Type 0 where
  pub part : w.part ≡ w.first
  pub at : w.at ≡ 0

abbrev pub AreAtStart : List Wheel → Type 0
AreAtStart = AllByRecursion IsAtStart

-- the combination that the wheels show
abbrev pub shown_parts : List Wheel → List Key
shown_parts ws = map shown_key ws

-- the combinations behind it
abbrev pub later_combinations : List Wheel → List (List Key)
later_combinations [] = []
later_combinations (w ∷ ws) =
    map (λ ks. shown_key w ∷ ks) (later_combinations ws) ++ flat_map (λ k. map (λ ks. k ∷ ks) (combinations (map wheel_keys ws))) (later_keys w)

-- the same as keys
abbrev pub chosen_key : Combinations → Key
chosen_key c = Many (shown_parts c.wheels.items)

abbrev pub keys_to_come : Combinations → List Key
keys_to_come c = map Many (later_combinations c.wheels.items)

-- the key that is chosen, and those behind it
abbrev pub keys_left : Combinations → List Key
keys_left c = chosen_key c ∷ keys_to_come c

-- the same, where there may be no combination
abbrev pub keys_of_all : Option Combinations → List Key
keys_of_all made = option_map_or keys_left made []
