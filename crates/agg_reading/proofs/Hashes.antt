-- The published vectors of FNV-1a with 64 bits, and two shards.
use Rattle.std.specs.Prelude.{◌≡◌, refl, [], codes}
use Rattle.agg_reading.specs.Routing.{hash_of, shard_of}
use Rattle.agg_reading.proofs.Computing.{computing}

-- cbf29ce484222325
the_hash_of_the_empty_text : hash_of [] ≡ 14695981039346656037
unfolding computing
the_hash_of_the_empty_text = refl

-- af63dc4c8601ec8c
the_hash_of_a : hash_of (codes "a") ≡ 12638187200555641996
unfolding computing
the_hash_of_a = refl

-- 85944171f73967e8
the_hash_of_foobar : hash_of (codes "foobar") ≡ 9625390261332436968
unfolding computing
the_hash_of_foobar = refl

routing_1_goes_to_the_first_of_two_shards : shard_of (codes "1") 2 ≡ 0
unfolding computing
routing_1_goes_to_the_first_of_two_shards = refl

routing_0_goes_to_the_second : shard_of (codes "0") 2 ≡ 1
unfolding computing
routing_0_goes_to_the_second = refl
