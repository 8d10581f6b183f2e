-- The value of `--generate`: `NUMBER:DOCUMENTS:SHARDS`.
use Rattle.std.specs.Prelude.{ℕ, ◌==◌, ◌^◌, ◌-◌, List, Option, Some, None}
use Rattle.std.specs.List.{before_first, after_first}
use Rattle.agg_model.specs.declared.limits.TheConstants.{MAX_GENERATED_DOCUMENTS, MAX_GENERATED_SHARDS}
use Rattle.agg_model.specs.declared.settings.Generate.{Generate}
use Rattle.agg_settings.specs.Numbers.{number_in}

-- what stands before the first colon (58), and after it
abbrev pub before_colon : List ℕ → List ℕ
before_colon s = before_first (λ b. b == 58) s

abbrev pub after_colon : List ℕ → List ℕ
after_colon s = after_first (λ b. b == 58) s

abbrev pub generated : Option ℕ → Option ℕ → Option ℕ → Option Generate
generated (Some number) (Some documents) (Some shards) = Some (record { number = number; documents = documents; shards = shards })
generated (Some number) (Some documents) None = None
generated (Some number) None shards = None
generated None documents shards = None

-- a number of 64 bits, the documents, and 1 shard or more
unfoldable pub generate_of : List ℕ → Option Generate
generate_of s =
    let rest = after_colon s in
    generated (number_in 0 (2 ^ 64 - 1) (before_colon s)) (number_in 0 MAX_GENERATED_DOCUMENTS (before_colon rest)) (number_in 1 MAX_GENERATED_SHARDS (after_colon rest))
