use Rattle.llrp_endpoints.proofs.inventory.run_inventory.Goals as goal

pub returns : goal.returns
returns g c = c.gather.ensures c.args.limit c.args.plan c.new-gathering.ensures
