use Rattle.std.proofs.Common.{◌++◌, List, ℕ, sym, ap, ◌∙◌}
use Rattle.tag_uri.specs.TagText.{tag_start, scheme_text}
use Rattle.tag_keys.proofs.BuildLemmas.{tag_id, filter_put, no_filter}
use Rattle.tag_keys.proofs.tag_text.tag_of_id.Goals as goal

pub returns-in-Gid : goal.returns-in-Gid
returns-in-Gid c = no_filter c.args.kind c.args.filter _ _ _ c.in-Gid.is c.begin_tag-text.ensures c.push_str.ensures.bytes

pub returns : goal.returns
returns c = tag_id c.args.kind c.args.filter _ _ c.requires.fits c.begin_tag-text.ensures c.push_filter.ensures _ _ c.push_str-2.ensures.bytes ∙ ap (λ (x : List ℕ). tag_start ++ scheme_text c.args.kind x) (sym (filter_put c.args.kind c.args.filter c.args.rest.now c.in_default.not-Gid))
