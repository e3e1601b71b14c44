-- What is shown of what comes: as `show --all` does it, or `show --all --json`.
use Rattle.std.specs.Prelude.{ℕ, List}
use Rattle.llrp_stream.specs.declared.item.Item.{Item}
use Rattle.llrp_stream.specs.declared.item.End.{End}
use Rattle.llrp_listing.specs.StreamListing.{IsItemText, end_text}
use Rattle.llrp_json.specs.JsonLines.{IsItemJson, end_json}
use Rattle.llrp_ask.specs.declared.form.Form.{Form}
use Rattle.llrp_ask.specs.declared.form.Form.TheVariants.{Lines, Json}

-- the text of an item
abbrev pub IsShown : Form → Item → List ℕ → Type 0
IsShown Lines = IsItemText
IsShown Json = IsItemJson

-- the text of a stream's end
abbrev pub end_shown : Form → End → List ℕ
end_shown Lines = end_text
end_shown Json = end_json
