use Rattle.std.proofs.Common.{refl, subst}
use Rattle.agg_model.specs.Options.{TermsOptions}
use Rattle.terms_agg.specs.declared.prepared.PreparedTerms.{PreparedTerms}
use Rattle.terms_agg.specs.Prepared.{IsTerms, IsTermsOf}
use Rattle.terms_agg.proofs.Readiness.{ready}
use Rattle.terms_agg.proofs.preparing.prepare.Goals as goal

pub returns : goal.returns
returns c =
    let terms : IsTermsOf c.args.shard.now c.in-Terms.field c.in-Terms.missing = subst (IsTerms c.args.shard.now) c.in-Terms.is c.requires in
    let options : TermsOptions = record {
      field = c.in-Terms.field;
      size = c.in-Terms.size;
      shard_size = c.in-Terms.shard_size;
      min_doc_count = c.in-Terms.min_doc_count;
      order = c.in-Terms.order;
      include = c.in-Terms.include;
      exclude = c.in-Terms.exclude;
      missing = c.in-Terms.missing;
      show_error = c.in-Terms.show_error;
    } in
    let prepared : PreparedTerms = record {
      field = c.in-Terms.field;
      include = c.in_ok-included-in-Terms.included;
      exclude = c.in_ok-excluded-in-Terms.excluded;
      missing = c.in_ok-coded-in-Terms.coded.code;
      other = c.in_ok-coded-in-Terms.coded.other;
    } in
    record {
      options = options;
      kind_is = c.in-Terms.is;
      ready = ready c.args.shard.now options prepared terms.known refl c.in_ok-included-in-Terms.ensures c.in_ok-excluded-in-Terms.ensures c.in_ok-coded-in-Terms.ensures;
    }
