-- Beside Words: what contracts say that no promise rests on.
use Rattle.std.specs.Prelude.{false, [], None, Some}
use Rattle.llrp_session.specs.Table.{listing}
use Rattle.llrp_session.specs.declared.types.Operation.TheVariants.{Listing}
use Rattle.llrp_session.specs.Contents.{ReaderContent, Response, Listed, Error, Report, KeepaliveSent, Accepted, Started, Ended, Overflowed, Heard, HeardResponse, HeardError, HeardReport, HeardKeepalive, HeardNotification}

-- ---- what a client reads in a message

abbrev pub heard : ReaderContent → Heard
heard (Response operation status) = HeardResponse operation status []
heard (Listed table) = HeardResponse Listing 0 (listing table)
heard (Error status) = HeardError status
heard (Report tags) = HeardReport tags
heard KeepaliveSent = HeardKeepalive
heard (Accepted now) = HeardNotification (record { attempt = Some 0; closes = false; rospec = None })
heard (Started now id) = HeardNotification (record { attempt = None; closes = false; rospec = Some (record { event = 0; id = id }) })
heard (Ended now id) = HeardNotification (record { attempt = None; closes = false; rospec = Some (record { event = 1; id = id }) })
heard (Overflowed now) = HeardNotification (record { attempt = None; closes = false; rospec = None })
