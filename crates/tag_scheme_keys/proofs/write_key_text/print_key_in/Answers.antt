use Rattle.tag_schemes.specs.declared.scheme.Scheme.TheVariants.{Giai, Gsrnp, Sgcn, Cpi}
use Rattle.tag_scheme_keys.proofs.KeyLaws.{key_made}
use Rattle.tag_scheme_keys.proofs.write_key_text.print_key_in.Goals as goal

pub returns-in-Giai : goal.returns-in-Giai
returns-in-Giai c = key_made c.args.spelling c.args.epc Giai _ _ _ c.key_start.result.now c.in-Giai.is c.key_start.ensures c.new-text.ensures c.push_str.ensures.bytes c.push_asset.ensures

pub returns-in-Gsrnp : goal.returns-in-Gsrnp
returns-in-Gsrnp c = key_made c.args.spelling c.args.epc Gsrnp _ _ _ c.key_start.result.now c.in-Gsrnp.is c.key_start.ensures c.new-text.ensures c.push_str.ensures.bytes c.push_service.ensures

pub returns-in-Sgcn : goal.returns-in-Sgcn
returns-in-Sgcn c = key_made c.args.spelling c.args.epc Sgcn _ _ _ c.key_start.result.now c.in-Sgcn.is c.key_start.ensures c.new-text.ensures c.push_str.ensures.bytes c.push_coupon.ensures

pub returns-in-Cpi : goal.returns-in-Cpi
returns-in-Cpi c = key_made c.args.spelling c.args.epc Cpi _ _ _ c.key_start.result.now c.in-Cpi.is c.key_start.ensures c.new-text.ensures c.push_str.ensures.bytes c.push_part.ensures
