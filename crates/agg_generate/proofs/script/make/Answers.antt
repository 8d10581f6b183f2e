use Rattle.std.proofs.Common.{arith, ap, ◌∙◌}
use Rattle.agg_spec.specs.Generator.{body_text, documents_from, index_text}
use Rattle.agg_generate.proofs.Lines.{script_pieces}
use Rattle.agg_generate.proofs.Documents.{next, none_left}
use Rattle.agg_generate.proofs.script.make.Goals as goal

pub loop-id-preserved : goal.loop-id-preserved
loop-id-preserved c = next _ _ _ _ _ _ _ _ (omega arith) c.in_ok-append_document.ensures.text c.in_ok-append_document.ensures.draws c.loop-id.invariant

pub returns : goal.returns
returns c =
    let given = c.args.generate.now in
    c.from_vec.ensures
    ∙ (ap (λ (v : _). v.items) c.into_bytes.ensures.value
    ∙ script_pieces (index_text given.shards) (documents_from given.documents 0 given.number) body_text _ _ _ _ _ _ _ c.new-script.ensures.bytes c.in_ok-append_index_line.ensures c.in_ok-push_str.ensures.bytes (none_left _ _ _ _ _ (omega arith) c.loop-id.invariant) c.in_ok-push_str-2.ensures.bytes c.in_ok-push_str-3.ensures.bytes c.in_ok-push_str-4.ensures.bytes)
