use Rattle.std.proofs.Common.{List, ℕ, Vec, ◌∙◌, ◌++◌, ap}
use Rattle.std.specs.declared.alloc.Global.{Global}
use Rattle.site_base.specs.Code.{code}
use Rattle.site_base.specs.View.{plain}
use Rattle.site_base.proofs.CodeLaws.{code-injective}
use Rattle.site_base.proofs.value.coding.code.Goals as goal

pub returns-clause-one : goal.returns-clause-one
returns-clause-one c other e =
    code-injective other _ (e ∙ ap (λ (v : Vec ℕ Global). v.items) c.into_bytes.ensures.value ∙ c.in_ok-push_code.ensures ∙ ap (λ (s : List ℕ). s ++ code (plain c.args.value.now)) c.new-out.ensures.bytes)
