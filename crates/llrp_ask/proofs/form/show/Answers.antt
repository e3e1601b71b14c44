use Rattle.llrp_ask.proofs.form.show.Goals as goal

pub returns-in-Lines-clause-ok : goal.returns-in-Lines-clause-ok
returns-in-Lines-clause-ok g c = rw c.in-Lines.is c.list_stream_in.ensures.ok

pub returns-in-Lines-clause-err : goal.returns-in-Lines-clause-err
returns-in-Lines-clause-err g c = rw c.in-Lines.is c.list_stream_in.ensures.err

pub returns-in-Json-clause-ok : goal.returns-in-Json-clause-ok
returns-in-Json-clause-ok g c = rw c.in-Json.is c.list_stream_json.ensures.ok

pub returns-in-Json-clause-err : goal.returns-in-Json-clause-err
returns-in-Json-clause-err g c = rw c.in-Json.is c.list_stream_json.ensures.err
