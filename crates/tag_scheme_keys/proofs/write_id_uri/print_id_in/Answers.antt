use Rattle.tag_scheme_keys.proofs.IdLaws.{id_made}
use Rattle.tag_scheme_keys.proofs.write_id_uri.print_id_in.Goals as goal

pub returns : goal.returns
returns c =
    id_made c.args.epc _ _ _ _ _ c.id_name.result.now c.without_filter-rest.result.now c.new-text.ensures c.push_str.ensures.bytes c.push_str-2.ensures.bytes c.push_str-3.ensures.bytes c.push_str-4.ensures.bytes
    c.id_name.ensures c.without_filter-rest.ensures.joined
