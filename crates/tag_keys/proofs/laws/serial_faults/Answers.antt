use Rattle.tag_keys.proofs.NumberFaults.{number_fault}
use Rattle.tag_keys.proofs.laws.serial_faults.Goals as goal

pub returns : goal.returns
returns c = λ s filter digits text fault low least most h. let w = h.1 in number_fault s filter digits text w.kind w.company w.reference w.serials fault low least most w.reads w.refused
