-- Values of several lines that are no blocks: a scalar or flow value, and a block scalar. YAML 1.2.2, sections 7 and 8.1.
use Rattle.std.specs.Prelude.{ℕ, List, ◌∷◌, ◌++◌, Ok}
use Rattle.site_base.specs.Chains.{◌>>=◌}
use Rattle.site_base.specs.Plain.{Plain, text}
use Rattle.front_yaml.specs.Reading.{Reading}
use Rattle.front_yaml.specs.TextLines.{Line, stream, span, by_lines}
use Rattle.front_yaml.specs.BlockScalars.{block_scalar}
use Rattle.front_yaml.specs.Leaves.{leaf}
use Rattle.front_yaml.specs.LineRuns.{reaches, taken_by}
use Rattle.front_yaml.specs.LineFaults.{none_left}

-- the scalar or flow value s at the end of the line l, whose other lines have indent f
abbrev pub leaf_lines : ℕ → ℕ → Line → List ℕ → List Line → Reading Plain
leaf_lines d f l s ls =
    let part = span (taken_by f s) ls in
    let all = s ++ (10 ∷ stream part.0) in
    by_lines l all (leaf d all) >>= λ v. none_left f part.1 (Ok v)

-- the block scalar whose header s stands at the end of the line l
abbrev pub scalar_lines : ℕ → Line → List ℕ → List Line → Reading Plain
scalar_lines f l s ls =
    let part = span (reaches f) ls in
    block_scalar l.number s part.0 >>= λ t. none_left f part.1 (Ok (text t))
