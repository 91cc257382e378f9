use Rattle.liquid_expr.proofs.NameLaws.{ascii_cut}
use Rattle.liquid_expr.proofs.naming.tag_text.Goals as goal

pub range-requires-clause-end_boundary : goal.range-requires-clause-end_boundary
range-requires-clause-end_boundary c =
    ascii_cut c.stripped_front-behind.result.now c.as_bytes.result.now c.tag_name_len-len.result c.stripped_front-behind.utf8 c.as_bytes.ensures.value c.tag_name_len-len.ensures.within c.tag_name_len-len.ensures.ascii

pub range_from-requires : goal.range_from-requires
range_from-requires c =
    λ _. ascii_cut c.stripped_front-behind.result.now c.as_bytes.result.now c.tag_name_len-len.result c.stripped_front-behind.utf8 c.as_bytes.ensures.value c.tag_name_len-len.ensures.within c.tag_name_len-len.ensures.ascii
