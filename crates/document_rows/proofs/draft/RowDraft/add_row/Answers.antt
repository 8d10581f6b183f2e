use Rattle.document_rows.specs.Drafts.{all_lists}
use Rattle.document_rows.proofs.Added.{row_added}
use Rattle.document_rows.proofs.draft.RowDraft.add_row.Goals as goal

pub returns : goal.returns
returns c =
    row_added c.args.path c.args.row (all_lists c.self.inside.values.items c.self.inside.other_values.entries) (all_lists c.self.inside.children.items c.self.inside.other_children.entries)
    (all_lists c.append.new.ascending.items c.append.new.others.entries) c.args.self.now (c.in_ok-append.ensures.added c.in_ok-append.ensures.room) c.self.view_is
