use Rattle.std.proofs.Common.{◌≡◌, true}
use Rattle.llrp_stream.proofs.WholeFrames.{bare_complete, frame_of, header_length, ready_of}
use Rattle.llrp_stream.proofs.engine.frame.receive_bare.Goals as goal

pub end-requires : goal.end-requires
end-requires g c =
    let v = c.requires.told in
    let s = c.requires.says in
    let h = c.args.header.now in
    let bare : c.may_be_bare-bare.result ≡ true = cc (c.if-not-bare.false) in
    let ten : h.octets ≡ 10 = cc in
    let told = c.in_ok-ready.ensures v.0 _ (c.in_ok-message.ensures v.0 v.1) in
    let w = bare_complete (g.L.Listener.stands c.ready.new.self v.0) c.args._reader.now s.0 s.1 h ten s.2 s.3 (c.may_be_bare-bare.ensures.fields bare) (c.may_be_bare-bare.ensures.tail bare) (c.may_be_bare-bare.ensures.enough bare) told in
    let l = header_length s.1 s.0 h.version h.kind h.octets h.id s.2 s.3 in
    let f = frame_of _ _ s.0 s.1 w s.4 l.1 s.5 in
    (v.0, record { node = w.node; message = f.0; is = f.1; lawful = f.2.frame.lawful; told = w.told })

pub returns-clause-gives : goal.returns-clause-gives
returns-clause-gives g c = λ _ was bytes limit st ten says o most.
    let h = c.args.header.now in
    let bare : c.may_be_bare-bare.result ≡ true = cc (c.if-not-bare.false) in
    let small : h.octets ≡ 10 = cc in
    let told = c.in_ok-ready.ensures was _ (c.in_ok-message.ensures was st) in
    let w = bare_complete (g.L.Listener.stands c.ready.new.self was) c.args._reader.now bytes limit h small ten says (c.may_be_bare-bare.ensures.fields bare) (c.may_be_bare-bare.ensures.tail bare) (c.may_be_bare-bare.ensures.enough bare) told in
    let l = header_length limit bytes h.version h.kind h.octets h.id ten says in
    let f = frame_of _ _ bytes limit w o l.1 most in
    let t = c.in_ok-end.ensures was w.node f.0 w.told (ready_of _ _ bytes w) f.1 in
    (f.0, f.2, t.0, t.2, t.1)
