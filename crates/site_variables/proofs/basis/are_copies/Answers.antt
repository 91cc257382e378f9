use Rattle.std.proofs.Common.{◌≡◌, length, arith, ap, ◌∙◌}
use Rattle.std.proofs.lemmas.List.{length-map}
use Rattle.site_variables.specs.Resting.{copy_basis}
use Rattle.site_variables.proofs.basis.are_copies.Goals as goal

pub returns-then-noted-files : goal.returns-then-noted-files
returns-then-noted-files c = (λ h. cc, λ e. let long : length c.args.noted.now ≡ length c.args.files.now = ap length e ∙ length-map c.args.files.now copy_basis in absurd (omega (arith, long, c.if-noted-files.true)))
