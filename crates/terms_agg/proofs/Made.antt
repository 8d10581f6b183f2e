-- A terms aggregation that is made for a mapping is one of the shards of that mapping.
use Rattle.std.proofs.Common.{◌≡◌, refl, ℕ, ◌<◌, Bool, true, false, List, length, map, Option, Some, None, sym, ◌∙◌, ap, subst}
use Rattle.std.specs.Prelude.{◌&&◌, option_map}
use Rattle.std.specs.List.{slice_get}
use Rattle.std.specs.Option.{option_map_or}
use Rattle.std.proofs.Math.Bool.{Bool-set}
use Rattle.std.proofs.Math.Logic.{∥∥₁_elim}
use Rattle.std.proofs.lemmas.Bool.{and_parts, ltb-true, lt-ltb}
use Rattle.std.specs.Prelude.{nat_le}
use Rattle.std.proofs.lemmas.List.{length-map}
use Rattle.std.proofs.lemmas.Option.{slice_get-map, slice_get_within}
use Rattle.agg_model.specs.declared.mapping.Mapping.{Mapping}
use Rattle.agg_model.specs.declared.mapping.Field.{Field}
use Rattle.agg_model.specs.declared.mapping.FieldKind.{FieldKind}
use Rattle.agg_model.specs.declared.mapping.FieldKind.TheVariants.{Long, Integer, Short, Byte, Keyword, Boolean, Date}
use Rattle.agg_model.specs.declared.aggregation.Kind.{Kind}
use Rattle.agg_model.specs.declared.row.Document.{Document}
use Rattle.agg_model.specs.declared.row.Scalar.{Scalar}
use Rattle.agg_model.specs.declared.row.Scalar.TheVariants.{Whole, Word, Flag}
use Rattle.agg_model.specs.Options.{TermsOptions}
use Rattle.agg_evaluation.specs.QueryFits.{field_is, are_probes}
use Rattle.agg_evaluation.specs.SearchFits.{terms_made, is_stored, is_missing, orders_fit}
use Rattle.shard_columns.specs.Built.{IsShardOf, IsBuiltFrom}
use Rattle.shard_columns.specs.Columns.{Columns}
use Rattle.terms_agg.specs.declared.content.Content.{Content}
use Rattle.terms_agg.specs.declared.content.Content.TheVariants.{Wholes}
use Rattle.terms_agg.specs.Codes.{content_of, content_in, is_content}
use Rattle.terms_agg.specs.Prepared.{IsTermsOf}

stored_content : (k : FieldKind) (v : Scalar) → is_stored k v ≡ true → is_content (content_of k) v ≡ true
stored_content Keyword (Word w) h = refl
stored_content Keyword (Whole n) h = absurd (cc h)
stored_content Keyword (Flag b) h = absurd (cc h)
stored_content Boolean (Flag b) h = refl
stored_content Boolean (Whole n) h = absurd (cc h)
stored_content Boolean (Word w) h = absurd (cc h)
stored_content Long (Whole n) h = refl
stored_content Long (Word w) h = absurd (cc h)
stored_content Long (Flag b) h = absurd (cc h)
stored_content Integer (Whole n) h = refl
stored_content Integer (Word w) h = absurd (cc h)
stored_content Integer (Flag b) h = absurd (cc h)
stored_content Short (Whole n) h = refl
stored_content Short (Word w) h = absurd (cc h)
stored_content Short (Flag b) h = absurd (cc h)
stored_content Byte (Whole n) h = refl
stored_content Byte (Word w) h = absurd (cc h)
stored_content Byte (Flag b) h = absurd (cc h)
stored_content Date (Whole n) h = refl
stored_content Date (Word w) h = absurd (cc h)
stored_content Date (Flag b) h = absurd (cc h)

there : (p : FieldKind → Bool) (o : Option Field) → option_map_or (λ f. p f.kind) o false ≡ true → (f : Field) × ((o ≡ Some f) × (p f.kind ≡ true))
there p None h = absurd (cc h)
there p (Some f) h = (f, (refl, h))

missing_there : (k : FieldKind) (missing : Option Scalar) (v : Scalar) → is_missing k missing ≡ true → missing ≡ Some v → is_stored k v ≡ true
missing_there k missing v h is = sym (ap (is_missing k) is) ∙ h

abbrev kind : Field → FieldKind
kind f = f.kind

module _ (m : Mapping) (children : List Kind) (t : TermsOptions) where
  abbrev taken : FieldKind → Bool
  taken k = option_map_or (are_probes k) t.include true && (are_probes k t.exclude && is_missing k t.missing)

  abbrev sizes : Bool
  sizes = nat_le 1 t.size && (nat_le t.size t.shard_size && (nat_le 1 t.min_doc_count && orders_fit children t.order))

  module _ (made : terms_made m children t ≡ true) (shard : Columns) where
    field_there : (f : Field) × ((slice_get m.fields t.field ≡ Some f) × (taken f.kind ≡ true))
    field_there = there taken (slice_get m.fields t.field) (and_parts (field_is m taken t.field) sizes made).0

    missing_is : is_missing field_there.0.kind t.missing ≡ true
    missing_is =
        let k = field_there.0.kind in
        (and_parts (are_probes k t.exclude) (is_missing k t.missing) (and_parts (option_map_or (are_probes k) t.include true) (are_probes k t.exclude && is_missing k t.missing) field_there.1.1).1).1

    module _ (documents : List Document) (built : IsBuiltFrom m documents shard) where
      kinds_are : shard.kinds ≡ map kind m.fields
      kinds_are = ap (λ (s : Columns). s.kinds) built.columns_are

      is_known : t.field < length shard.kinds
      is_known = subst (λ (n : ℕ). t.field < n) (sym (ap length kinds_are ∙ length-map m.fields kind)) (slice_get_within m.fields t.field field_there.0 field_there.1.0)

      content_is : content_in shard t.field ≡ content_of field_there.0.kind
      content_is = ap (λ (o : Option FieldKind). option_map_or content_of o Wholes)
          (ap (λ (ks : List FieldKind). slice_get ks t.field) kinds_are ∙ (slice_get-map kind m.fields t.field ∙ ap (option_map kind) field_there.1.0))

      fits : (v : Scalar) → t.missing ≡ Some v → is_content (content_in shard t.field) v ≡ true
      fits v is = ap (λ (c : Content). is_content c v) content_is ∙ stored_content field_there.0.kind v (missing_there field_there.0.kind t.missing v missing_is is)

    pub made-terms : IsShardOf m shard → IsTermsOf shard t.field t.missing
    made-terms of = record {
      known = ltb-true t.field (length shard.kinds) (∥∥₁_elim of (Bool-set _ _) (λ d. lt-ltb t.field (length shard.kinds) (is_known d.0 d.1)));
      missing_fits = λ v is. ∥∥₁_elim of (Bool-set _ _) (λ d. fits d.0 d.1 v is);
    }
