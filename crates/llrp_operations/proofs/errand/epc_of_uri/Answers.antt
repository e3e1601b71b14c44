use Rattle.llrp_operations.proofs.errand.epc_of_uri.Goals as goal

-- a text of a word would have been read as it
pub returns-in-Err : goal.returns-in-Err
returns-in-Err c word within is = let read = c.in-Err.ensures.accepts word within is in cc
