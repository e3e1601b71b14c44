-- What requests ask for, in the words of contracts.
use Rattle.std.specs.Prelude.{Option, option_map}
use Rattle.std.specs.Borrow.{Bor}
use Rattle.clap.specs.Words.{Text}
use Rattle.llrp_words.specs.declared.arguments.Request.{Request}
use Rattle.llrp_words.specs.declared.arguments.Request.TheVariants as request
use Rattle.llrp_words.specs.declared.arguments.epc_words.EpcWords.{EpcWords}
use Rattle.llrp_words.specs.declared.arguments.stream_words.EncodeWords.{EncodeWords}
use Rattle.llrp_words.specs.declared.arguments.stream_words.ShowWords.{ShowWords}
use Rattle.llrp_words.specs.Calls.Asked.{Asked, show, encode, epc, fields, explain, elsewhere, nothing, Show, Encode, Epc}

abbrev pub text_of : Option (Bor Text) → Option Text
text_of text = option_map (λ t. t.now) text

abbrev pub said_show : ShowWords → Show
said_show words = record {
  hex = words.hex;
  all = words.all;
  json = words.json;
  limit = words.limit;
  names = text_of words.names;
  keys = words.labels.keys;
  schemes = text_of words.labels.schemes;
  segments = words.capture.segments;
  port = text_of words.capture.port;
}

abbrev pub said_encode : EncodeWords → Encode
said_encode words = record {
  hex = words.hex;
  all = words.all;
  json = words.json;
  limit = words.limit;
  keys = words.labels.keys;
  schemes = text_of words.labels.schemes;
}

abbrev pub said_epc : EpcWords → Epc
said_epc words = record {
  text = text_of words.text;
  forms = words.forms;
  list = words.list;
  json = words.json;
  to = text_of words.to;
  schemes = text_of words.schemes;
  count = words.company_digits;
  filter = words.filter;
  file = text_of words.prefixes;
}

-- what is requested
abbrev pub said : Request → Asked
said (request.Show words) = show (said_show words)
said (request.Encode words) = encode (said_encode words)
said (request.Epc words) = epc (said_epc words)
said (request.Fields all name) = fields (record { all = all; name = text_of name })
said (request.Explain hex all json only limit) = explain (record { hex = hex; all = all; json = json; limit = limit; only = only })
said (request.Network command) = elsewhere
said (request.Help text) = nothing
said (request.Usage text) = nothing
