-- What no read does to the log of a source.
use Rattle.std.proofs.Common.{ℕ, List, [], Option, Some, None, refl, arith, add-zero}
use Rattle.std.specs.Io.KnownBytes.{Consumes}
use Rattle.llrp_stream.specs.Device.{SourceLog, Gave}

consumes_nothing : (a : Option (List ℕ)) → Consumes a a []
consumes_nothing None = tt
consumes_nothing (Some xs) = refl

pub gave_nothing : (log : SourceLog) → Gave log log 0 []
gave_nothing log = record { some = omega arith; counts = rw (add-zero log.reads) refl; bytes_are = consumes_nothing log.left }
