use Rattle.std.proofs.Common.{subst}
use Rattle.std.specs.List.{IsDistinct}
use Rattle.std.specs.Str.{bytes_eq}
use Rattle.agg_reading.specs.Store.{Store}
use Rattle.agg_documents.specs.Slots.{ids}
use Rattle.agg_documents.proofs.store.Store.len.Goals as goal

pub returns-clause-distinct : goal.returns-clause-distinct
returns-clause-distinct c = subst (λ (es : Store). IsDistinct bytes_eq (ids es)) c.self.view_is c.self.invariant.distinct
