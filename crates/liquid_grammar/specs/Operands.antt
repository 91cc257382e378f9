-- Operands, and the steps by which a stack of values finds what an operand stands for.
use Rattle.std.specs.Prelude.{◌≡◌, ℕ, zero, suc, ℤ, pos, Bool, true, false, List, [], ◌∷◌, ◌++◌, map, refl}
use Rattle.std.proofs.Common.{ap, sym, ◌∙◌, append_assoc}
use Rattle.std.specs.Coded.{Coded, code_by, coded×, coded_list, coded_ℕ, coded_ℤ}
use Rattle.liquid_grammar.specs.declared.literal.Literal.{Literal}
use Rattle.liquid_grammar.specs.declared.literal.Literal.TheVariants as literals
use Rattle.liquid_grammar.specs.declared.step.Step.{Step}
use Rattle.liquid_grammar.specs.declared.step.Step.TheVariants as step

pub data Operand : Type 0 where
  literal : (l : Literal) → Operand
  range : (a b : Operand) → Operand
  variable : (name : List ℕ) → Operand
  -- `e.name`
  member : (e : Operand) → (name : List ℕ) → Operand
  -- `e[x]`
  index : (e x : Operand) → Operand

-- the steps for a stack of values: first those of the parts, from left to right; a range's first end is settled before its last is begun
abbrev pub steps_of : Operand → List Step
steps_of (literal l) = step.Literal l ∷ []
steps_of (range a b) = steps_of a ++ (step.FirstEnd ∷ (steps_of b ++ step.Range ∷ []))
steps_of (variable name) = step.Variable name ∷ []
steps_of (member e name) = steps_of e ++ step.Member name ∷ []
steps_of (index e x) = steps_of e ++ (steps_of x ++ step.Index ∷ [])

-- ---- An operand from its steps

abbrev pub do_index : List Operand → List Operand
do_index (x ∷ e ∷ stack) = index e x ∷ stack
do_index stack = stack

abbrev pub do_range : List Operand → List Operand
do_range (b ∷ a ∷ stack) = range a b ∷ stack
do_range stack = stack

abbrev pub do_member : List ℕ → List Operand → List Operand
do_member name (e ∷ stack) = member e name ∷ stack
do_member name [] = []

-- one step, on a stack of operands
abbrev pub do_step : Step → List Operand → List Operand
do_step (step.Literal l) stack = literal l ∷ stack
do_step (step.Variable name) stack = variable name ∷ stack
do_step (step.Member name) stack = do_member name stack
do_step step.Index stack = do_index stack
do_step step.FirstEnd stack = stack
do_step step.Range stack = do_range stack

abbrev pub do_steps : List Step → List Operand → List Operand
do_steps [] stack = stack
do_steps (s ∷ ss) stack = do_steps ss (do_step s stack)

abbrev pub on_top : List Operand → Operand
on_top [] = literal literals.Nil
on_top (e ∷ stack) = e

-- the operand that these steps are of
abbrev pub operand_of : List Step → Operand
operand_of steps = on_top (do_steps steps [])

pub do-steps_of : (e : Operand) (more : List Step) (stack : List Operand) → do_steps (steps_of e ++ more) stack ≡ do_steps more (e ∷ stack)
do-steps_of (literal l) more stack = refl
do-steps_of (range a b) more stack =
    ap (λ ss. do_steps ss stack) (append_assoc (steps_of a) (step.FirstEnd ∷ (steps_of b ++ step.Range ∷ [])) more ∙ ap (λ (ss : List Step). steps_of a ++ (step.FirstEnd ∷ ss)) (append_assoc (steps_of b) (step.Range ∷ []) more))
    ∙ do-steps_of a (step.FirstEnd ∷ (steps_of b ++ (step.Range ∷ more))) stack ∙ do-steps_of b (step.Range ∷ more) (a ∷ stack)
do-steps_of (variable name) more stack = refl
do-steps_of (member e name) more stack = ap (λ ss. do_steps ss stack) (append_assoc (steps_of e) (step.Member name ∷ []) more) ∙ do-steps_of e (step.Member name ∷ more) stack
do-steps_of (index e x) more stack =
    ap (λ ss. do_steps ss stack) (append_assoc (steps_of e) (steps_of x ++ step.Index ∷ []) more ∙ ap (λ ss. steps_of e ++ ss) (append_assoc (steps_of x) (step.Index ∷ []) more))
    ∙ do-steps_of e (steps_of x ++ (step.Index ∷ more)) stack ∙ do-steps_of x (step.Index ∷ more) (e ∷ stack)

nil_end : (ss : List Step) → ss ++ [] ≡ ss
nil_end [] = refl
nil_end (s ∷ ss) = ap (λ (r : List Step). s ∷ r) (nil_end ss)

-- the steps of an operand are of no other operand
pub operand_of-steps_of : (e : Operand) → operand_of (steps_of e) ≡ e
operand_of-steps_of e = ap (λ ss. on_top (do_steps ss [])) (sym (nil_end (steps_of e))) ∙ ap on_top (do-steps_of e [] [])

-- these are the steps of an operand
abbrev pub AreOfOperand : List Step → Type 0
AreOfOperand steps = steps_of (operand_of steps) ≡ steps

-- ---- An operand as numbers, by which a proof tells operands apart

abbrev pub Numbers : Type 0
Numbers = ℕ × (ℤ × List ℕ)

abbrev bool_numbers : Bool → Numbers
bool_numbers false = (1, (pos 0, []))
bool_numbers true = (2, (pos 0, []))

abbrev literal_numbers : Literal → Numbers
literal_numbers literals.Nil = (0, (pos 0, []))
literal_numbers (literals.Bool b) = bool_numbers b
literal_numbers literals.Blank = (3, (pos 0, []))
literal_numbers literals.Empty = (4, (pos 0, []))
literal_numbers (literals.Int n) = (5, (n, []))
literal_numbers (literals.Text t) = (6, (pos 0, t))

abbrev pub step_numbers : Step → Numbers
step_numbers (step.Literal l) = literal_numbers l
step_numbers (step.Variable name) = (7, (pos 0, name))
step_numbers (step.Member name) = (8, (pos 0, name))
step_numbers step.Index = (9, (pos 0, []))
step_numbers step.Range = (10, (pos 0, []))
step_numbers step.FirstEnd = (11, (pos 0, []))

abbrev late_step : ℕ → List ℕ → Step
late_step zero t = step.Variable t
late_step (suc zero) t = step.Member t
late_step (suc (suc zero)) t = step.Index
late_step (suc (suc (suc zero))) t = step.Range
late_step k t = step.FirstEnd

abbrev step_at : ℕ → ℤ → List ℕ → Step
step_at zero n t = step.Literal literals.Nil
step_at (suc zero) n t = step.Literal (literals.Bool false)
step_at (suc (suc zero)) n t = step.Literal (literals.Bool true)
step_at (suc (suc (suc zero))) n t = step.Literal literals.Blank
step_at (suc (suc (suc (suc zero)))) n t = step.Literal literals.Empty
step_at (suc (suc (suc (suc (suc zero))))) n t = step.Literal (literals.Int n)
step_at (suc (suc (suc (suc (suc (suc zero)))))) n t = step.Literal (literals.Text t)
step_at (suc (suc (suc (suc (suc (suc (suc k))))))) n t = late_step k t

abbrev pub step_from : Numbers → Step
step_from p = step_at p.0 p.1.0 p.1.1

step_again : (s : Step) → step_from (step_numbers s) ≡ s
step_again (step.Literal literals.Nil) = refl
step_again (step.Literal (literals.Bool false)) = refl
step_again (step.Literal (literals.Bool true)) = refl
step_again (step.Literal literals.Blank) = refl
step_again (step.Literal literals.Empty) = refl
step_again (step.Literal (literals.Int n)) = refl
step_again (step.Literal (literals.Text t)) = refl
step_again (step.Variable name) = refl
step_again (step.Member name) = refl
step_again step.Index = refl
step_again step.Range = refl
step_again step.FirstEnd = refl

steps_again : (ss : List Step) → map step_from (map step_numbers ss) ≡ ss
steps_again [] = refl
steps_again (s ∷ ss) = ap (λ (r : Step). r ∷ map step_from (map step_numbers ss)) (step_again s) ∙ ap (λ (rs : List Step). s ∷ rs) (steps_again ss)

pub operand_again : (e : Operand) → operand_of (map step_from (map step_numbers (steps_of e))) ≡ e
operand_again e = ap operand_of (steps_again (steps_of e)) ∙ operand_of-steps_of e

abbrev pub operand_code : Coded Operand
operand_code = code_by (List Numbers) (coded_list (coded× coded_ℕ (coded× coded_ℤ (coded_list coded_ℕ)))) (λ e. map step_numbers (steps_of e)) (λ ns. operand_of (map step_from ns)) operand_again
