-- What every index line keeps that is read: a mapping in order, and 1 to 1,024 shards.
use Rattle.std.specs.Prelude.{ℕ, ℤ, pos, negsuc, ◌≤◌, List, [], ◌∷◌, Option, Some, None, Ok, Err, IfOk, IfSome, nat_le, ◌&&◌, ◌==◌, unwrap_or, codes}
use Rattle.std.proofs.Common.{arith}
use Rattle.std.proofs.lemmas.Bool.Decides.{nat_tests}
use Rattle.serde_json.specs.Data.{Data, null, boolean, number, string, array, object, Members}
use Rattle.agg_model.specs.declared.mapping.Mapping.{Mapping}
use Rattle.agg_reading.specs.declared.parts.IndexLine.{IndexLine}
use Rattle.agg_reading.specs.Reading.{Reading, ◌>>=◌, refuse, or_refuse}
use Rattle.agg_reading.specs.Json.{reading, object_at, known, optional, optional_of}
use Rattle.agg_reading.specs.Scalars.{whole}
use Rattle.agg_reading.specs.Mapping.{mapping_at, empty_mapping}
use Rattle.agg_reading.specs.IndexLine.{shards_in, shards_at, shards_named, agreed, agreed_all, settings_at, inner_shards, inner_shards_of, index_name_at, index_value_at, index_line_at}
use Rattle.agg_reading.proofs.PathOrder.{arranged-none, arranged-ascends}
use Rattle.agg_reading.proofs.Steps.{then_ok, next_ok, if_ok}
use Rattle.agg_model.specs.MappingOrder.{IsOrdered}
use Rattle.agg_reading.proofs.MappingLaws.{mapping_at-ordered}

-- 1 to 1,024
abbrev pub ShardsFit : ℕ → Type 0
ShardsFit n = (1 ≤ n) × (n ≤ 1024)

pub optional_of-ok : {A : Type 0} (P : A → Type 0) (f : List ℕ → Data → Reading A) (at : List ℕ) (o : Option Data) → ((at : List ℕ) (d : Data) → IfOk (f at d) P) → IfOk (optional_of f at o) (λ o. IfSome o P)
optional_of-ok P f at None h = tt
optional_of-ok P f at (Some d) h = next_ok P (λ o. IfSome o P) (f at d) (λ x. Ok (Some x)) (h at d) (λ x p. p)

shards_in-fits : (at : List ℕ) (z : Option ℤ) → IfOk (shards_in at z) ShardsFit
shards_in-fits at (Some (pos n)) =
    if_ok ShardsFit (nat_le 1 n && nat_le n 1024) (Ok n) (refuse 31 at) (λ e. (grind (arith, nat_tests), grind (arith, nat_tests))) (λ e. tt)
shards_in-fits at (Some (negsuc n)) = tt
shards_in-fits at None = tt

shards_at-fits : (at : List ℕ) (d : Data) → IfOk (shards_at at d) ShardsFit
unfolding shards_at
shards_at-fits at d = shards_in-fits at (whole d)

abbrev MaybeFit : Option ℕ → Type 0
MaybeFit o = IfSome o ShardsFit

shards_named-fits : (name at : List ℕ) (ms : Members) → IfOk (shards_named name at ms) MaybeFit
unfolding shards_named
shards_named-fits name at ms = optional_of-ok ShardsFit shards_at _ _ shards_at-fits

agreed-fits : (a : Option ℕ) (at : List ℕ) (b : Option ℕ) → MaybeFit a → MaybeFit b → IfOk (agreed a at b) MaybeFit
unfolding agreed
agreed-fits None at b p q = q
agreed-fits (Some n) at None p q = p
agreed-fits (Some n) at (Some k) p q = if_ok MaybeFit (n == k) (Ok (Some n)) (refuse 31 at) (λ e. p) (λ e. tt)

abbrev BothFit : Option ℕ × Option ℕ → Type 0
BothFit p = MaybeFit p.0 × MaybeFit p.1

two_named-fits : (at : List ℕ) (ms : Members) → IfOk (shards_named (codes "index.number_of_shards") at ms >>= λ dotted. shards_named (codes "number_of_shards") at ms >>= λ plain. Ok (dotted, plain)) BothFit
two_named-fits at ms =
    next_ok MaybeFit BothFit (shards_named (codes "index.number_of_shards") at ms) (λ dotted. shards_named (codes "number_of_shards") at ms >>= λ plain. Ok (dotted, plain)) (shards_named-fits _ at ms) (λ dotted p.
    next_ok MaybeFit BothFit (shards_named (codes "number_of_shards") at ms) (λ plain. Ok (dotted, plain)) (shards_named-fits _ at ms) (λ plain q. (p, q)))

inner_shards_of-fits : (at : List ℕ) (o : Option Data) → IfOk (inner_shards_of at o) BothFit
inner_shards_of-fits at None = (tt, tt)
inner_shards_of-fits at (Some null) = (tt, tt)
inner_shards_of-fits at (Some (boolean b)) = (tt, tt)
inner_shards_of-fits at (Some (number n)) = (tt, tt)
inner_shards_of-fits at (Some (string s)) = (tt, tt)
inner_shards_of-fits at (Some (array ds)) = (tt, tt)
inner_shards_of-fits at (Some (object ms)) = two_named-fits at ms

inner_shards-fits : (at : List ℕ) (ms : Members) → IfOk (inner_shards at ms) BothFit
unfolding inner_shards
inner_shards-fits at ms = inner_shards_of-fits _ _

agreed_all-fits : (at : List ℕ) (dotted : Option ℕ) (inner : Option ℕ × Option ℕ) (plain : Option ℕ) → MaybeFit dotted → BothFit inner → MaybeFit plain → IfOk (agreed_all at dotted inner plain) MaybeFit
unfolding agreed_all
agreed_all-fits at dotted inner plain p q r =
    next_ok MaybeFit MaybeFit (agreed dotted _ inner.0) _ (agreed-fits dotted _ inner.0 p q.0) (λ one a.
    next_ok MaybeFit MaybeFit (agreed one _ inner.1) _ (agreed-fits one _ inner.1 a q.1) (λ two b.
    agreed-fits two _ plain b r))

or_one : (o : Option ℕ) → MaybeFit o → ShardsFit (unwrap_or o 1)
or_one None p = (omega arith, omega arith)
or_one (Some n) p = p

pub settings_at-fits : (at : List ℕ) (d : Data) → IfOk (settings_at at d) ShardsFit
unfolding settings_at
settings_at-fits at d =
    then_ok ShardsFit (object_at 31 at d) _ (λ ms.
    next_ok BothFit ShardsFit (inner_shards at ms) _ (inner_shards-fits at ms) (λ inner q.
    next_ok MaybeFit ShardsFit (shards_named (codes "index.number_of_shards") at ms) _ (shards_named-fits _ at ms) (λ dotted p.
    next_ok MaybeFit ShardsFit (shards_named (codes "number_of_shards") at ms) _ (shards_named-fits _ at ms) (λ plain r.
    next_ok MaybeFit ShardsFit (agreed_all at dotted inner plain) (λ shards. Ok (unwrap_or shards 1)) (agreed_all-fits at dotted inner plain p q r) (λ shards s. or_one shards s)))))

-- what an index line keeps
pub record LineFits (l : IndexLine) : Type 0 where
  pub mapping : IsOrdered l.mapping
  pub shards : ShardsFit l.shards

no_paths : IsOrdered empty_mapping
no_paths = record { fields = arranged-ascends (λ f. f.path) [] (arranged-none (λ f. f.path)); nested = arranged-ascends (λ p. p.path) [] (arranged-none (λ p. p.path)); objects = arranged-ascends (λ p. p) [] (arranged-none (λ p. p)); few = omega arith }

or_empty : (o : Option Mapping) → IfSome o IsOrdered → IsOrdered (unwrap_or o empty_mapping)
or_empty None p = no_paths
or_empty (Some m) p = p

index_value_at-fits : (d : Data) → IfOk (index_value_at d) LineFits
unfolding index_value_at
index_value_at-fits d =
    then_ok LineFits (object_at 31 [] d) _ (λ ms.
    then_ok LineFits (known 31 (codes "index" ∷ codes "mappings" ∷ codes "settings" ∷ []) [] ms) _ (λ _.
    then_ok LineFits (optional index_name_at (codes "index") [] ms) _ (λ name.
    next_ok (λ o. IfSome o IsOrdered) LineFits (optional mapping_at (codes "mappings") [] ms) _ (optional_of-ok IsOrdered mapping_at _ _ mapping_at-ordered) (λ mapping m.
    next_ok MaybeFit LineFits (optional settings_at (codes "settings") [] ms) _ (optional_of-ok ShardsFit settings_at _ _ settings_at-fits) (λ shards s.
    then_ok LineFits (or_refuse 31 [] name) (λ given. Ok (record { name = given; mapping = unwrap_or mapping empty_mapping; shards = unwrap_or shards 1 })) (λ given.
    record { mapping = or_empty mapping m; shards = or_one shards s }))))))

-- an index line that is read has few fields and some shards
pub index_line_at-fits : (bytes : List ℕ) → IfOk (index_line_at bytes) LineFits
unfolding index_line_at
index_line_at-fits bytes = then_ok LineFits (or_refuse 31 [] (reading bytes)) index_value_at index_value_at-fits

-- both, one by one

mapping_of : (r : Reading IndexLine) → IfOk r LineFits → IfOk r (λ l. IsOrdered l.mapping)
mapping_of (Ok l) h = h.mapping
mapping_of (Err e) h = tt

shards_of : (r : Reading IndexLine) → IfOk r LineFits → IfOk r (λ l. ShardsFit l.shards)
shards_of (Ok l) h = h.shards
shards_of (Err e) h = tt

pub index_line_at-ordered : (bytes : List ℕ) → IfOk (index_line_at bytes) (λ l. IsOrdered l.mapping)
index_line_at-ordered bytes = mapping_of (index_line_at bytes) (index_line_at-fits bytes)

pub index_line_at-shards : (bytes : List ℕ) → IfOk (index_line_at bytes) (λ l. ShardsFit l.shards)
index_line_at-shards bytes = shards_of (index_line_at bytes) (index_line_at-fits bytes)
