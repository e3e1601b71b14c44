use Rattle.std.proofs.Common.{arith}
use Rattle.tag_epc.proofs.EpcFields.{manager_unfit, class_unfit, serial_unfit}
use Rattle.tag_epc.proofs.lawful_parts.checked_general.Goals as goal

pub returns-then-manager-ne0-clause-err : goal.returns-then-manager-ne0-clause-err
returns-then-manager-ne0-clause-err c = manager_unfit c.args.manager c.args.object_class c.args.serial (omega arith)

pub returns-then-object_class-ne0-clause-err : goal.returns-then-object_class-ne0-clause-err
returns-then-object_class-ne0-clause-err c = class_unfit c.args.manager c.args.object_class c.args.serial (omega arith) (omega arith)

pub returns-then-serial-ne0-clause-err : goal.returns-then-serial-ne0-clause-err
returns-then-serial-ne0-clause-err c = serial_unfit c.args.manager c.args.object_class c.args.serial (omega arith) (omega arith) (omega arith)
