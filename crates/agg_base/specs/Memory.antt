-- Sources and sinks in memory: what they hold, and in which calls they fail.
use Rattle.std.specs.Prelude.{ℕ, ◌==◌, ◌-◌, ◌||◌, Bool, List, ◌++◌, length, take, drop, min, if◌then◌else◌}
use Rattle.std.specs.List.{list_any}
use Rattle.agg_base.specs.Outside.{one_more}

-- whether the call of this number is one that fails
abbrev pub is_failing : List ℕ → ℕ → Bool
is_failing failing call = list_any (λ n. n == call) failing

-- a source: `rest` is left, a call gives at most `piece` bytes, `calls` calls were made, and `faults` of them failed
pub record Feed : Type 0 where
  pub rest : List ℕ
  pub piece : ℕ
  pub failing : List ℕ
  pub calls : ℕ
  pub faults : ℕ

abbrev pub feed_fails : Feed → Bool
feed_fails feed = is_failing feed.failing feed.calls

-- how many bytes a call gives that has room for `room` and does not fail
abbrev pub fed : Feed → ℕ → ℕ
fed feed room = min (min room feed.piece) (length feed.rest)

abbrev pub after_read : Feed → ℕ → Feed
after_read feed room =
    if feed_fails feed then record feed { calls = one_more feed.calls; faults = one_more feed.faults }
    else record feed { rest = drop (fed feed room) feed.rest; calls = one_more feed.calls }

-- a sink: `written` was taken, `room` bytes of room are left, a call takes at most `piece` bytes
pub record Store : Type 0 where
  pub written : List ℕ
  pub room : ℕ
  pub piece : ℕ
  pub failing : List ℕ
  pub calls : ℕ
  pub faults : ℕ

abbrev pub store_fails : Store → Bool
store_fails store = (store.room == 0) || is_failing store.failing store.calls

-- how many bytes of `offered` a call takes that does not fail
abbrev pub stored : Store → ℕ → ℕ
stored store offered = min (min offered store.piece) store.room

abbrev pub after_write : Store → List ℕ → Store
after_write store bytes =
    if store_fails store then record store { calls = one_more store.calls; faults = one_more store.faults }
    else record store {
      written = store.written ++ take (stored store (length bytes)) bytes;
      room = store.room - stored store (length bytes);
      calls = one_more store.calls;
    }
