use Rattle.std.proofs.Common.{sym, ◌∙◌, ap, nat_lt}
use Rattle.agg_reading.specs.Rows.{count_in}
use Rattle.document_rows.specs.Drafts.{all_lists}
use Rattle.document_rows.proofs.Added.{counted, value_added}
use Rattle.document_rows.proofs.draft.RowDraft.add_value.Goals as goal

pub returns-clause-room : goal.returns-clause-room
returns-clause-room c =
    c.in_ok-added.ensures.room
    ∙ ap (λ n. nat_lt n c.args.most)
    (sym (counted c.args.field (all_lists c.self.inside.values.items c.self.inside.other_values.entries)) ∙ ap (λ d. count_in c.args.field d.values) c.self.view_is)

pub returns-clause-added : goal.returns-clause-added
returns-clause-added c =
    λ yes. value_added c.args.field c.args.value (all_lists c.self.inside.values.items c.self.inside.other_values.entries) (all_lists c.append.new.ascending.items c.append.new.others.entries)
    (all_lists c.self.inside.children.items c.self.inside.other_children.entries) c.args.self.now (c.in_ok-added.ensures.added yes) c.self.view_is
