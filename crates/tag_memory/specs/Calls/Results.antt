-- The numbers of results (LLRP 1.1, section 17: C1G2ReadOpSpecResult, C1G2WriteOpSpecResult); 0 is success.
use Rattle.std.specs.Prelude.{ℕ}
use Rattle.tag_memory.specs.declared.bank.Fault.{Fault}
use Rattle.tag_memory.specs.declared.bank.Fault.TheVariants.{Password, Locked, Overrun}

abbrev pub read_result : Fault → ℕ
read_result Overrun = 4
read_result Locked = 5
read_result Password = 6

abbrev pub write_result : Fault → ℕ
write_result Overrun = 1
write_result Locked = 2
write_result Password = 7
