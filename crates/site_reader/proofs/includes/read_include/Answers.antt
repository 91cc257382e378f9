use Rattle.std.proofs.Common.{◌++◌, ◌∷◌, [], Ok, subst}
use Rattle.site_base.specs.Chains.{◌>>=◌}
use Rattle.site_items.specs.Files.{include}
use Rattle.site_reader.specs.Found.{IsFirst, in_file}
use Rattle.site_reader.proofs.EachLaws.{first_told}
use Rattle.site_reader.proofs.includes.read_include.Goals as goal

pub returns-in-Err : goal.returns-in-Err
returns-in-Err c =
    subst (λ p. IsFirst (in_file c.args.path.now (include p c.args.bytes.now) >>= λ made. Ok (c.args.includes.now.items ++ made ∷ [])) c.error_at.result) c.text.ensures.text
    (first_told (include c.text.result.now c.args.bytes.now) (λ made. Ok (c.args.includes.now.items ++ made ∷ [])) c.args.path.now c.in-Err.error c.error_at.result c.in-Err.ensures c.error_at.ensures)
