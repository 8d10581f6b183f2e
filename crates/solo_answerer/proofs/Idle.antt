-- Breakers that hold the columns alone are idle.
use Rattle.std.specs.Prelude.{◌≡◌, ◌≤◌, ℕ}
use Rattle.std.proofs.Common.{◌∙◌, sym, subst}
use Rattle.fitting_laws.specs.Indexes.{index_of}
use Rattle.agg_model.specs.declared.breaker.Limits.{Limits}
use Rattle.agg_model.specs.declared.breaker.Which.TheVariants.{Request, Fielddata, Inflight}
use Rattle.agg_model.specs.declared.limits.TheConstants.{MAX_BYTE_SIZE}
use Rattle.agg_model.specs.declared.settings.Settings.{Settings}
use Rattle.agg_settings.specs.Ranges.{AreInRange}
use Rattle.agg_spec.specs.Columns.{columns_charge}
use Rattle.breaker_tree.specs.Reopening.{HoldsColumns}
use Rattle.breaker_words.specs.Passes.{WordsModel, PassModel}
use Rattle.shard_columns.specs.declared.index.Index.{Index as Built}
use Rattle.solo_answerer.specs.Worked.{IsForOne, IsIdle}

-- the breakers were opened for the columns of the index
pub opened-idle : (settings : Settings) (index : Built) (words : WordsModel) (pass : PassModel) (held : ℕ) → HoldsColumns settings.limits held words pass
    → AreInRange settings → held ≡ columns_charge (index_of index) → IsIdle settings index words pass
opened-idle settings index words pass held holds range same = record {
  alone = record {
    of = holds.of;
    rest = holds.rest;
    whole = holds.whole;
    limit = subst (λ (l : Limits). l.parent ≤ MAX_BYTE_SIZE) (sym holds.limits_are) range.limits.parent;
  };
  limits_are = holds.limits_are;
  columns = holds.holds Fielddata ∙ same;
  request = holds.holds Request;
  inflight = holds.holds Inflight;
}

-- settings that keep the number of workers and of searches are for one worker
pub still-for-one : (old new : Settings) → IsForOne old → new.workers ≡ old.workers → new.width ≡ old.width → IsForOne new
still-for-one old new one workers width = record { worker = workers ∙ one.worker; search = width ∙ one.search }
