use Rattle.std.proofs.Common.{ℕ, lit<, refl, [], List, length, map, sym, ◌∙◌, ap, subst}
use Rattle.agg_model.specs.declared.mapping.Field.{Field}
use Rattle.agg_model.specs.declared.mapping.FieldKind.{FieldKind}
use Rattle.shard_columns.specs.Drafted.{RootsLaid}
use Rattle.shard_columns.specs.Storing.{HasKinds}
use Rattle.shard_columns.proofs.Filling.{AreDrafts-none}
use Rattle.shard_columns.proofs.Laying.{RootsLaid-none}
use Rattle.shard_columns.proofs.Noting.{Notes-none}
use Rattle.shard_columns.proofs.draft.ShardDraft.new.Goals as goal

pub returns : goal.returns
returns c =
    let kinds = c.in_ok-kinds.kinds in
    let numbers = c.in_ok-numbers.numbers in
    let drafts = c.in_ok-drafts.drafts in
    record {
      few = c.requires.few;
      paths = c.requires.paths;
      fit = refl;
      light = lit< tt;
      kinds_are = c.in_ok-kinds.ensures ∙ ap (map (λ (f : Field). f.kind)) c.as_slice.ensures;
      laid = [];
      roots = subst (λ (ends : List ℕ). RootsLaid [] ends []) (sym c.new-5.ensures.items) RootsLaid-none;
      entries = c.new-4.ensures;
      ids = c.new-3.ensures;
      holds = record {
        none = numbers;
        empty = c.in_ok-numbers.ensures.empty;
        sizes = c.in_ok-numbers.ensures.sizes ∙ (c.len.ensures ∙ kinds.ok.0);
        notes = Notes-none numbers c.in_ok-numbers.ensures.sound;
        values = AreDrafts-none kinds.items numbers drafts (c.in_ok-drafts.ensures.sizes ∙ ap length c.as_slice-2.ensures.value) (subst (λ (ks : List FieldKind). HasKinds ks drafts) c.as_slice-2.ensures.value c.in_ok-drafts.ensures.kinds) c.in_ok-drafts.ensures.empty c.in_ok-numbers.ensures.no_ranks;
      };
    }
