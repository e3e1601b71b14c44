use Rattle.llrp_stream.proofs.WholeFrames.{frame_of, ready_of}
use Rattle.llrp_stream.proofs.engine.frame.finish.Goals as goal

pub end-requires : goal.end-requires
end-requires g c =
    let w = c.requires in
    let f = frame_of _ c.args.reader.now w.1 w.2 w.3 w.4 w.5 w.6 in
    (w.0, record { node = w.3.node; message = f.0; is = f.1; lawful = f.2.frame.lawful; told = w.3.told })

pub returns : goal.returns
returns g c = λ was front limit w o le most.
    let f = frame_of _ c.args.reader.now front limit w o le most in
    let t = c.in_ok-end.ensures was w.node f.0 w.told (ready_of _ c.args.reader.now front w) f.1 in
    (f.0, f.2, t.0, t.2, t.1)
