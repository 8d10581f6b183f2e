-- Listeners: who stays when an answer is told, and what each has heard. The program's own.
use Rattle.std.specs.Prelude.{ℕ, ◌-◌, nat_lt, nat_le, Bool, ◌||◌, List, [], ◌∷◌, ◌++◌, map, length, Option, if◌then◌else◌}
use Rattle.std.specs.Option.{option_map}
use Rattle.std.specs.List.{filter}
use Rattle.agg_listen.specs.declared.listener.Told.{Told}

-- What a listener heard, where it tells; whether it stays for good; and else how often it stays.
pub record Standing : Type 0 where
  pub heard : Option (List Told)
  pub steady : Bool
  pub room : ℕ

abbrev pub stays : Standing → Bool
stays s = s.steady || nat_lt 0 s.room

-- a listener that stays, after it was told
abbrev pub having_heard : Told → Standing → Standing
having_heard told s = record {
  heard = option_map (λ heard. heard ++ told ∷ []) s.heard;
  steady = s.steady;
  room = if s.steady then s.room else s.room - 1;
}

-- all who stay, in their order, after they were told
abbrev pub all_having_heard : Told → List Standing → List Standing
all_having_heard told all = map (having_heard told) (filter stays all)

-- the same for several answers, one after another
abbrev pub all_having_heard_each : List Told → List Standing → List Standing
all_having_heard_each [] all = all
all_having_heard_each (told ∷ later) all = all_having_heard_each later (all_having_heard told all)

-- a listener that stays for so many answers
abbrev pub stays_for : ℕ → Standing → Bool
stays_for n s = s.steady || nat_le n s.room

-- a listener that stays, after it was told of all these
abbrev pub having_heard_all : List Told → Standing → Standing
having_heard_all told s = record {
  heard = option_map (λ heard. heard ++ told) s.heard;
  steady = s.steady;
  room = if s.steady then s.room else s.room - length told;
}
