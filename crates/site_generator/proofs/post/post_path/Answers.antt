use Rattle.std.proofs.Common.{arith, subst, sym, ◌∙◌}
use Rattle.site_base.specs.Path.{IsSitePath}
use Rattle.site_generator.proofs.Digits.{path-post}
use Rattle.site_generator.proofs.post.post_path.Goals as goal

pub read_path-requires : goal.read_path-requires
read_path-requires c = subst IsSitePath (sym (c.as_str.ensures.value ∙ c.in_ok-text.ensures.ok)) (path-post c.args.post (omega (arith, c.ranges.post)))
