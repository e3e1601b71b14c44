-- What rows of the program say.
use Rattle.llrp_enumerations.specs.declared.enumeration.Value.{Value}
use Rattle.llrp_enumerations.specs.declared.enumeration.EnumeratedField.{EnumeratedField}
use Rattle.llrp_enumerations.specs.Calls.Enumerations as rule

-- a number and its name
abbrev pub named_value : Value → rule.NamedValue
named_value v = record { number = v.number; name = v.name.now }

-- a field and its enumeration
abbrev pub enumerated_field : EnumeratedField → rule.EnumeratedField
enumerated_field f = record { name = f.name.now; enumeration = f.enumeration }
