-- What an error of a change says of its definition (Elasticsearch Reference 8, 'API conventions': errors).
use Rattle.std.specs.Prelude.{◌≡◌, ℕ, List, Err, IsErr, ⊤}
use Rattle.agg_settings.specs.Changes.{Change}
use Rattle.agg_settings.specs.declared.change_fault.ChangeFault.{ChangeFault}
use Rattle.agg_settings.specs.declared.change_fault.ChangeFault.TheVariants.{Refused, Memory}

-- the name that is refused; where memory ran out some name is, since nothing else takes memory
abbrev pub Refuses : ChangeFault → Change → Type 0
Refuses (Refused name) change = change ≡ Err name
Refuses Memory change = IsErr change

-- the fault is of this name, unless memory ran out
abbrev pub IsRefused : List ℕ → ChangeFault → Type 0
IsRefused name (Refused key) = key ≡ name
IsRefused name Memory = ⊤
