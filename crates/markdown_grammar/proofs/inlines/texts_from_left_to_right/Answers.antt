use Rattle.markdown_grammar.proofs.TextRecursions.{pieces_is, definitions_is, resolved_is}
use Rattle.markdown_grammar.proofs.inlines.texts_from_left_to_right.Goals as goal

pub returns-clause-escapes : goal.returns-clause-escapes
returns-clause-escapes c = resolved_is

pub returns-clause-definitions : goal.returns-clause-definitions
returns-clause-definitions c = definitions_is

pub returns-clause-pieces : goal.returns-clause-pieces
returns-clause-pieces c = pieces_is
