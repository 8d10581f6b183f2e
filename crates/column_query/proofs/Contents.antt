-- What a field holds, by its kind.
use Rattle.std.proofs.Common.{◌≡◌, refl, ℕ, Bool, true, List, [], ◌∷◌, inl, inr, sym, ◌∙◌, ap}
use Rattle.std.specs.List.{list_all}
use Rattle.agg_model.specs.declared.mapping.FieldKind.{FieldKind}
use Rattle.agg_model.specs.declared.mapping.FieldKind.TheVariants.{Long, Integer, Short, Byte, Keyword, Boolean, Date}
use Rattle.agg_model.specs.declared.row.Scalar.{Scalar}
use Rattle.agg_model.specs.declared.row.Scalar.TheVariants as scalar
use Rattle.agg_evaluation.specs.Rows.{PlacedRow, values_of, row_of}
use Rattle.std.proofs.lemmas.Bool.{and_parts}
use Rattle.shard_columns.specs.Kinds.{AreOfKind}
use Rattle.agg_model.specs.FieldKinds.{is_of_kind}
use Rattle.column_query.specs.declared.content.Content.TheVariants as content
use Rattle.column_query.specs.Numbers.{content_of, is_content, Holds}
use Rattle.column_query.proofs.Members.{In, In-contains}

same_content : (k : FieldKind) (v : Scalar) → is_of_kind k v ≡ is_content (content_of k) v
same_content Long (scalar.Whole n) = refl
same_content Long (scalar.Word w) = refl
same_content Long (scalar.Flag b) = refl
same_content Integer (scalar.Whole n) = refl
same_content Integer (scalar.Word w) = refl
same_content Integer (scalar.Flag b) = refl
same_content Short (scalar.Whole n) = refl
same_content Short (scalar.Word w) = refl
same_content Short (scalar.Flag b) = refl
same_content Byte (scalar.Whole n) = refl
same_content Byte (scalar.Word w) = refl
same_content Byte (scalar.Flag b) = refl
same_content Keyword (scalar.Whole n) = refl
same_content Keyword (scalar.Word w) = refl
same_content Keyword (scalar.Flag b) = refl
same_content Boolean (scalar.Whole n) = refl
same_content Boolean (scalar.Word w) = refl
same_content Boolean (scalar.Flag b) = refl
same_content Date (scalar.Whole n) = refl
same_content Date (scalar.Word w) = refl
same_content Date (scalar.Flag b) = refl

pub all_members : (p : Scalar → Bool) (vs : List Scalar) (v : Scalar) → list_all p vs ≡ true → In v vs → p v ≡ true
all_members p [] v all is = absurd is
all_members p (x ∷ xs) v all is =
    let both = and_parts (p x) (list_all p xs) all in
    elim is [
      | inl here ↦ ap p here ∙ both.0
      | inr there ↦ all_members p xs v both.1 there
    ]

pub holds_of_kind : (kind : FieldKind) (field : ℕ) (rows : List PlacedRow) → AreOfKind kind field rows → Holds rows field (content_of kind)
holds_of_kind kind field rows are = record {
  only = λ v held. sym (same_content kind v) ∙ all_members (is_of_kind kind) (values_of field (row_of rows held.0)) v (are held.0) (In-contains (values_of field (row_of rows held.0)) v held.1);
}

pub words_are_keywords : (kind : FieldKind) → content_of kind ≡ content.Words → kind ≡ Keyword
words_are_keywords Long e = absurd (cc e)
words_are_keywords Integer e = absurd (cc e)
words_are_keywords Short e = absurd (cc e)
words_are_keywords Byte e = absurd (cc e)
words_are_keywords Keyword e = refl
words_are_keywords Boolean e = absurd (cc e)
words_are_keywords Date e = absurd (cc e)
