-- How often names stand in lists.
use Rattle.std.proofs.Common.{◌≡◌, ◌∙◌, ℕ, ◌+◌, if◌then◌else◌, List, [], ◌∷◌, ◌++◌, ap, append_assoc, append-nil, sym, arith}
use Rattle.site_base.specs.declared.item_name.ItemName.{ItemName}
use Rattle.memo_table.specs.Names.{same_name}
use Rattle.read_record.specs.Answers.{rendered_names}
use Rattle.read_record.specs.Traces.{traced_names}
use Rattle.read_record.specs.declared.renderer.Rendered.{Rendered}
use Rattle.read_record.specs.declared.renderer.Rendered.TheVariants as rendered
use Rattle.read_record.specs.declared.traced.Traced.{Traced}
use Rattle.read_record.specs.declared.traced.Traced.TheVariants as traced
use Rattle.render_workers.specs.Tallies.{times, Grows}

pub times-append : (x : ItemName) (xs ys : List ItemName) → times x (xs ++ ys) ≡ times x xs + times x ys
times-append x [] ys = omega arith
times-append x (y ∷ xs) ys = let ih = times-append x xs ys in let n : ℕ = if same_name x y then 1 else 0 in omega arith

-- ---- names added at the end

pub grows_none : (names : List ItemName) → Grows names names
grows_none names = ([], sym (append-nil names))

pub grows_more : (first mid last : List ItemName) → Grows first mid → Grows mid last → Grows first last
grows_more first mid last a b = (a.0 ++ b.0, b.1 ∙ ap (λ (names : List ItemName). names ++ b.0) a.1 ∙ append_assoc first a.0 b.0)

-- what a traced render adds
pub grows_traced : {M : Type 0} (t : Traced M) (name : ItemName) (names after : List ItemName) → after ≡ traced_names t name names → Grows names after
grows_traced (traced.Entry kept) name names after is = (name ∷ [], is)
grows_traced (traced.Needs j) name names after is = ([], is ∙ sym (append-nil names))
grows_traced traced.Memory name names after is = ([], is ∙ sym (append-nil names))

-- what a render adds
pub grows_rendered : (r : Rendered) (name : ItemName) (names after : List ItemName) → after ≡ rendered_names r name names → Grows names after
grows_rendered (rendered.Out outcome) name names after is = (name ∷ [], is)
grows_rendered (rendered.Needs j) name names after is = ([], is ∙ sym (append-nil names))
grows_rendered rendered.Memory name names after is = ([], is ∙ sym (append-nil names))
