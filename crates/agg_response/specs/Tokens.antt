-- JSON as it is written, one token after another (RFC 8259).
use Rattle.std.specs.Prelude.{◌≡◌, List, [], ◌∷◌, ◌++◌}
use Rattle.json.specs.Token.{Token}
use Rattle.json.specs.Tree.{json_tokens, items_tokens}
use Rattle.json.specs.Written.{Written}
use Rattle.serde_json.specs.Data.{Data}
use Rattle.serde_json.specs.View.{items_of}
use Rattle.serde_json.specs.Written.{outline, items_outline}
use Rattle.agg_spec.specs.Json.{Member}

abbrev pub value_tokens : Data → List Token
value_tokens d = json_tokens (outline d)

-- the values of an array, and the bracket behind them
abbrev pub values_tokens : List Data → List Token
values_tokens ds = items_tokens (items_outline (items_of ds))

-- members, without the brackets around them
abbrev pub member_tokens : List Member → List Token
member_tokens [] = []
member_tokens (m ∷ ms) = Token.key m.0 ∷ (value_tokens m.1 ++ member_tokens ms)

-- the tokens are written behind those that stand there, and what stood before all of them stays
pub record Adds (old new : Written) (more : List Token) : Type 0 where
  pub before : new.before ≡ old.before
  pub tokens : new.tokens ≡ old.tokens ++ more
