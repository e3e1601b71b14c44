-- What the sentences of faults are made of.
use Rattle.std.specs.Prelude.{ℕ, List, ◌++◌, codes, decimal}
use Rattle.llrp_schema.specs.declared.kinds.Kind.{Kind}
use Rattle.llrp_schema.specs.Schema.{name_of}

-- what ends at a bit past the end of a node, which is at the second
abbrev pub past_end : List ℕ → (end : ℕ) → Kind → (stop : ℕ) → List ℕ
past_end what end kind stop = what ++ (codes " at bit " ++ (decimal end ++ (codes ", " ++ (name_of kind ++ (codes " at bit " ++ decimal stop)))))

abbrev pub not_zero : (width value : ℕ) → List ℕ
not_zero width value = codes "Reserved: " ++ (decimal width ++ (codes " bits are " ++ (decimal value ++ codes ", not 0")))

abbrev pub above : List ℕ → (value greatest : ℕ) → List ℕ
above name value greatest = codes "Value: " ++ (name ++ (codes " is " ++ (decimal value ++ (codes ", at most " ++ decimal greatest))))
