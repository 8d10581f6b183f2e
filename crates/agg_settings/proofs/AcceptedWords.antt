-- Words that are in the grammar, and the settings that they give.
use Rattle.std.specs.Prelude.{◌≡◌, refl, List, [], ◌∷◌, Some, None, Ok, true, false, codes}
use Rattle.clap.specs.Walk.{Text}
use Rattle.agg_model.specs.declared.breaker.Limits.{Limits}
use Rattle.agg_model.specs.declared.settings.Settings.{Settings}
use Rattle.agg_settings.specs.Usages.{Reading}
use Rattle.agg_settings.specs.Settings.{settings_of}
use Rattle.agg_settings.proofs.Computing.{computing}

abbrev plain_limits : Limits
plain_limits = record { request = 644245094; fielddata = 429496729; inflight = 1073741824; parent = 751619276 }

abbrev plain : Settings
plain = record {
  workers = 1;
  batch = 512;
  width = 1;
  limits = plain_limits;
  heap = 1073741824;
  max_buckets = 65536;
  scan = false;
  generate = None;
}

abbrev read : List Text → Reading Settings
read words = settings_of true words

no_words : read [] ≡ Ok plain
unfolding computing
no_words = refl

two_dashes_alone : read (codes "--" ∷ []) ≡ Ok plain
unfolding computing
two_dashes_alone = refl

leading_zeros : read (codes "--workers" ∷ codes "007" ∷ []) ≡ Ok (record plain { workers = 7 })
unfolding computing
leading_zeros = refl

sixty_four : read (codes "--workers=64" ∷ codes "--concurrent-searches" ∷ codes "64" ∷ []) ≡ Ok (record plain { workers = 64; width = 64 })
unfolding computing
sixty_four = refl

batches : read (codes "--batched-reduce-size" ∷ codes "2" ∷ []) ≡ Ok (record plain { batch = 2 })
unfolding computing
batches = refl

scan_and_generate : read (codes "--scan" ∷ codes "--generate" ∷ codes "18446744073709551615:100000:64" ∷ [])
    ≡ Ok (record plain { scan = true; generate = Some (record { number = 18446744073709551615; documents = 100000; shards = 64 }) })
unfolding computing
scan_and_generate = refl

-- a percentage is of the last `heap_size`, also where it stands before it
the_last_heap : read (codes "-E" ∷ codes "indices.breaker.request.limit=50%" ∷ codes "-E" ∷ codes "heap_size=1kb" ∷ codes "-E" ∷ codes "heap_size=100b" ∷ [])
    ≡ Ok (record plain { limits = record { request = 50; fielddata = 40; inflight = 100; parent = 70 }; heap = 100 })
unfolding computing
the_last_heap = refl

the_last_of_a_key : read (codes "-E" ∷ codes "search.max_buckets=1" ∷ codes "-E" ∷ codes "search.max_buckets=1000000" ∷ []) ≡ Ok (record plain { max_buckets = 1000000 })
unfolding computing
the_last_of_a_key = refl

every_limit : read (codes "-E" ∷ codes "indices.breaker.total.limit=4b" ∷ codes "-E" ∷ codes "indices.breaker.request.limit=1b"
    ∷ codes "-E" ∷ codes "indices.breaker.fielddata.limit=2b" ∷ codes "-E" ∷ codes "network.breaker.inflight_requests.limit=0" ∷ [])
    ≡ Ok (record plain { limits = record { request = 1; fielddata = 2; inflight = 0; parent = 4 } })
unfolding computing
every_limit = refl

real_memory_off : read (codes "-E" ∷ codes "indices.breaker.total.use_real_memory=false" ∷ []) ≡ Ok plain
unfolding computing
real_memory_off = refl

-- the value of `-E` may stand in the same word, with one `=` before it
attached : read (codes "-Eheap_size=100b" ∷ codes "-E=indices.breaker.total.limit=1%" ∷ [])
    ≡ Ok (record plain { limits = record { request = 60; fielddata = 40; inflight = 100; parent = 1 }; heap = 100 })
unfolding computing
attached = refl
