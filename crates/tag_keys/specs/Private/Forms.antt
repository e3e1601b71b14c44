-- The forms of keys as the code holds them.
use Rattle.tag_keys.specs.declared.form.Form.{Form}
use Rattle.tag_keys.specs.declared.form.Serial.{Serial}
use Rattle.tag_keys.specs.declared.form.Serial.TheVariants as serial
use Rattle.tag_keys.specs.KeyText.{KeyForm, SerialForm, Absent, Joined, Marked, MarkedUnlessZero}

abbrev pub serial_in : Serial → SerialForm
serial_in serial.Absent = Absent
serial_in serial.Joined = Joined
serial_in (serial.Marked m) = Marked m.now
serial_in (serial.MarkedUnlessZero m) = MarkedUnlessZero m.now

abbrev pub form_in : Form → KeyForm
form_in x = record { start = x.start.now; lead = x.lead; digits = x.digits; serial = serial_in x.serial }
