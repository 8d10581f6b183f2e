-- The shard of a document (Elasticsearch Reference 8, '_routing field'), by the hash FNV-1a of 64 bits.
use Rattle.std.specs.Prelude.{ℕ, ◌*◌, ◌%◌, ◌^◌, bit_xor, List, fold}

abbrev pub offset_basis : ℕ
offset_basis = 14695981039346656037

abbrev pub prime : ℕ
prime = 1099511628211

-- a byte is xored in, then the word is multiplied
abbrev pub with_byte : ℕ → ℕ → ℕ
with_byte word byte = bit_xor word byte * prime % 2 ^ 64

unfoldable pub hash_of : List ℕ → ℕ
hash_of bytes = fold with_byte offset_basis bytes

unfoldable pub shard_of : List ℕ → ℕ → ℕ
shard_of routing shards = hash_of routing % shards
