-- What stands in an array of bytes put together.
use Rattle.std.specs.Prelude.{ℕ, List, take}
use Rattle.program_io.specs.declared.bytes.Bytes.{Bytes}

-- the bytes that were put together, in their order
abbrev pub contents : {N : ℕ} → Bytes N → List ℕ
contents b = take b.len b.array
