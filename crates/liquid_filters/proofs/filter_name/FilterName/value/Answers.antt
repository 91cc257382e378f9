use Rattle.std.proofs.Common.{map}
use Rattle.site_base.specs.View.{plain}
use Rattle.filter_base.proofs.AnswerLaws.{makes_gives}
use Rattle.text_filters.specs.Replacements.{replacement_filter}
use Rattle.text_filters.specs.Spans.{span_filter}
use Rattle.text_filters.specs.Words.{words_filter}
use Rattle.liquid_filters.proofs.filter_name.FilterName.value.Goals as goal

pub returns-in-Replacement-clause-gives : goal.returns-in-Replacement-clause-gives
returns-in-Replacement-clause-gives g c =
    rw c.in-Replacement.is (makes_gives (g.L.Look.view c.args.look.now) (g.L.Look.trace c.args.look.now) (replacement_filter c.in-Replacement.filter (plain c.args.input.now) (map plain c.args.args.now)) c.replacement_filter.result c.replacement_filter.ensures)

pub returns-in-Span-clause-gives : goal.returns-in-Span-clause-gives
returns-in-Span-clause-gives g c =
    rw c.in-Span.is (makes_gives (g.L.Look.view c.args.look.now) (g.L.Look.trace c.args.look.now) (span_filter c.in-Span.filter (plain c.args.input.now) (map plain c.args.args.now)) c.span_filter.result c.span_filter.ensures)

pub returns-in-TruncateWords-clause-gives : goal.returns-in-TruncateWords-clause-gives
returns-in-TruncateWords-clause-gives g c =
    rw c.in-TruncateWords.is (makes_gives (g.L.Look.view c.args.look.now) (g.L.Look.trace c.args.look.now) (words_filter (plain c.args.input.now) (map plain c.args.args.now)) c.words_filter.result c.words_filter.ensures)
