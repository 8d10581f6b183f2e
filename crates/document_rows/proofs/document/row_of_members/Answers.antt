use Rattle.document_rows.proofs.Typed.{ends_typed}
use Rattle.document_rows.proofs.document.row_of_members.Goals as goal

pub finish-requires : goal.finish-requires
finish-requires c = (c.args.mapping.now.fields, ends_typed c.args.mapping.now 0 _ _ _ _ c.new.ensures c.in_ok-members.ensures.value)
