use Rattle.std.proofs.Common.{sym, ◌∙◌, ap}
use Rattle.agg_model.specs.Options.{options_of}
use Rattle.growing_tree.proofs.frequent.kept_by_count.Goals as goal

pub returns-in-Terms : goal.returns-in-Terms
returns-in-Terms c =
    let k = c.in-Terms in
    λ count enough. (record {
      terms = record {
        field = k.field;
        size = k.size;
        shard_size = k.shard_size;
        min_doc_count = k.min_doc_count;
        order = k.order;
        include = k.include;
        exclude = k.exclude;
        missing = k.missing;
        show_error = k.show_error;
      };
      is = ap options_of k.is;
      by_count = sym c.is_by_count.ensures ∙ c.if-is_by_count.true;
      enough = enough;
    })
