-- Inlines as a tree: CommonMark 0.31.2, section 6.
use Rattle.std.specs.Prelude.{List, Option, ℕ}

-- an inline and those that follow it
pub data Inlines : Type 0 where
  no_inlines : Inlines
  textual : (bytes : List ℕ) → (rest : Inlines) → Inlines
  soft_break : (rest : Inlines) → Inlines
  hard_break : (rest : Inlines) → Inlines
  code_span : (bytes : List ℕ) → (rest : Inlines) → Inlines
  raw_html : (bytes : List ℕ) → (rest : Inlines) → Inlines
  emphasis : (body rest : Inlines) → Inlines
  strong : (body rest : Inlines) → Inlines
  link : (url : List ℕ) → (title : Option (List ℕ)) → (body rest : Inlines) → Inlines
  image : (url : List ℕ) → (title : Option (List ℕ)) → (body rest : Inlines) → Inlines

-- inlines and others after them
abbrev pub before_all : Inlines → Inlines → Inlines
before_all no_inlines ys = ys
before_all (textual b xs) ys = textual b (before_all xs ys)
before_all (soft_break xs) ys = soft_break (before_all xs ys)
before_all (hard_break xs) ys = hard_break (before_all xs ys)
before_all (code_span b xs) ys = code_span b (before_all xs ys)
before_all (raw_html b xs) ys = raw_html b (before_all xs ys)
before_all (emphasis body xs) ys = emphasis body (before_all xs ys)
before_all (strong body xs) ys = strong body (before_all xs ys)
before_all (link u t body xs) ys = link u t body (before_all xs ys)
before_all (image u t body xs) ys = image u t body (before_all xs ys)
