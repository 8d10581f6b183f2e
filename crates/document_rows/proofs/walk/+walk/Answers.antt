use Rattle.std.proofs.Common.{sym, ◌∙◌, ap, subst, length, string_bytes}
use Rattle.std.specs.Str.{IsCharBoundary}
use Rattle.std.proofs.lemmas.Str.{IsCharBoundary-at_seam}
use Rattle.document_rows.specs.Drafts.{is_typed}
use Rattle.document_rows.proofs.Typed.{ends_typed}
use Rattle.document_rows.proofs.walk.+walk.Goals as goal

pub members-truncate-requires : goal.members-truncate-requires
members-truncate-requires t c = λ within.
    let path = string_bytes c.member.new.walked.path in
    let boundary = subst (IsCharBoundary path) (sym (c.loop-name.invariant.end ∙ ap length (sym c.loop-name.invariant.path)))
    (IsCharBoundary-at_seam path (string_bytes c.loop-name.walked.path) c.text_of.result.now (c.in_ok-member.ensures.path ∙ c.in_ok-push_str.ensures.bytes) c.text_of.utf8) in
    (boundary.0, λ above_0. boundary.1)

pub nested-finish-requires : goal.nested-finish-requires
nested-finish-requires t c =
    let fields = c.args.mapping.now.fields in
    let typed = ends_typed c.args.mapping.now c.context_of-context.result _ _ _ _ (c.replace-around.ensures.after ∙ c.new.ensures) c.in_ok-inner.ensures.value in
    (fields, ap (λ d. is_typed fields d.values) c.replace-ended.ensures.value ∙ typed)
